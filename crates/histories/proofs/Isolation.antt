-- An office that never tries to have more open than its own points is told the same whatever the others do: its slots depend on its own calls alone, and an opening
-- that keeps it within its own points takes no common ones, so the allowance refuses it nothing. A number that is no office's has no slots, and is told the same.
-- Assumes nothing.
use Rattle.std.specs.Prelude.{Ok, Err}
use mathlib.Core.Path.{◌≡◌, refl, ap, ap₂, sym, ◌∙◌}
use mathlib.Core.Bool.{true, false, not, ◌&&◌}
use mathlib.Core.List.{List, [], ◌∷◌}
use Prim.Native.Nat.{ℕ, ◌+◌, ◌-◌, ◌≤◌, ◌<◌}
use native.Mathlib.Omega.{arith}
use borrow.Author.Tests.{le-leb, ltb-false, eqb-true, eqb-false, not-true}
use Rattle.naturals.proofs.Sums.{sum_to_cong}
use Rattle.naturals.proofs.Tests.{and_left, and_right}
use Rattle.naturals.proofs.Cases.{eq_or_not, true_or_false}
use Rattle.refusals.specs.declared.Refusal.{Refusal}
use Rattle.refusals.specs.declared.Refusal.TheVariants.{Axes, Level, TooManyPoints, Allowance, Tag, NoSlot}
use Rattle.refusals.specs.Checks.{◌and_then◌, Verdict}
use Rattle.refusals.proofs.Results.{refused_done, same_refusal}
use Rattle.shapes.specs.Shapes.{sparse, points_of, check_limits, check_size, check_shape}
use Rattle.refusals.proofs.Passing.{passed_or_refused}
use Rattle.accounts.specs.declared.Account.{Account}
use Rattle.accounts.specs.Accounts.{offices, tags, own_points, common_points, byte_of, points_in, slot, under, points_under, held, above, common, empty, put}
use Rattle.accounts.specs.Calls.{check_common, check_account, check_slot, check_free, check_open, opened, check_opening, open_table, close_table}
use Rattle.histories.specs.Histories.{Call, opening, closing, carried_out, run, history}
use Rattle.histories.specs.Offices.{office_of, is_by, own, answers_to, tries, never_tries, NoneWants}
use Rattle.naturals.proofs.Changes.{sum_le}
use Rattle.accounts.proofs.Bytes.{shape_points}
use Rattle.accounts.proofs.Slots.{put_same, put_other, held_put, held_other}
use Rattle.histories.proofs.Verdicts.{row_not, test_not, InOffice, office_in, slot_passed, Ready, opening_ready, open_says, close_says, open_passed, close_passed, call_refused}
use Rattle.histories.proofs.Possible.{possible_passes}
use Rattle.histories.proofs.Kept.{Kept, empty_kept, kept_call}

-- ---- one call on one account

-- An opening that keeps an office within its own points takes no common ones.
module _ (a : Account) (office tag axes level : ℕ) (k : Kept a) (r : Ready a office tag axes level) where
  no_more_above : held a (office - 1) + points_of (sparse axes level) ≤ own_points →
      (p : ℕ) → p < offices → above (opened a office tag axes level) p ≤ above a p
  unfolding above
  no_more_above few p p_in =
      let o = office - 1 in
      let byte = byte_of axes level in
      let tag_in = r.place.tag_in in
      eq_or_not p o
      (λ same. rw same (omega (arith, held_put a o tag byte tag_in k.long (office_in office tag r.place), shape_points axes level r.shape)))
      (λ other. omega (arith, held_other a o tag byte tag_in p other))

  own_points_suffice : held a (office - 1) + points_of (sparse axes level) ≤ own_points → common (opened a office tag axes level) ≤ common_points
  unfolding common
  own_points_suffice few =
      let less = sum_le (above (opened a office tag axes level)) (above a) offices (no_more_above few) in
      omega (arith, less, k.possible.suffices)

-- An opening that does not try passes where nothing but the allowance can refuse it.
opening_passes : (a : Account) (office tag axes level : ℕ) → Kept a → check_opening a office tag axes level ≡ Ok tt →
    tries (opening office tag axes level) a ≡ false → (open_table a office tag axes level).verdict ≡ Ok tt
unfolding tries check_common
opening_passes a office tag axes level k passed quiet =
    let few = ltb-false own_points (held a (office - 1) + points_of (sparse axes level)) (rw passed at quiet) in
    let suffices = own_points_suffice a office tag axes level k (opening_ready a office tag axes level passed) few in
    open_says a office tag axes level ∙ rw (passed, le-leb (common (opened a office tag axes level)) common_points suffices)

opening_refused : (a : Account) (office tag axes level : ℕ) (r : Refusal) → check_opening a office tag axes level ≡ Err r →
    (open_table a office tag axes level).verdict ≡ Err r
opening_refused a office tag axes level r e = open_says a office tag axes level ∙ rw e

-- In a history nothing but the allowance refuses with 20.
module _ (a : Account) (office tag : ℕ) (k : Kept a) where
  account_not : check_account a ≡ Err Allowance → ⊥
  account_not e = refused_done Allowance tt (sym e ∙ possible_passes a k.possible)

  slot_not : check_slot office tag ≡ Err Allowance → ⊥
  unfolding check_slot
  slot_not = test_not _ NoSlot (λ e. omega arith)

  shape_not : (axes level : ℕ) → check_shape (sparse axes level) ≡ Err Allowance → ⊥
  unfolding check_shape check_limits check_size
  shape_not axes level =
      let limits_not = row_not _ _ (test_not _ Axes (λ e. omega arith)) (test_not _ Level (λ e. omega arith)) in
      row_not _ _ limits_not (test_not _ TooManyPoints (λ e. omega arith))

  opening_not : (axes level : ℕ) → check_opening a office tag axes level ≡ Err Allowance → ⊥
  unfolding check_opening check_free
  opening_not axes level =
      row_not _ _ account_not (row_not _ _ (shape_not axes level) (row_not _ _ slot_not (test_not _ Tag (λ e. omega arith))))

  closing_not : (close_table a office tag).verdict ≡ Err Allowance → ⊥
  unfolding check_open
  closing_not e =
      row_not _ _ account_not (row_not _ _ slot_not (test_not _ Tag (λ e. omega arith))) (sym (close_says a office tag) ∙ e)

-- ---- the same call on two accounts

-- Two accounts in which an office, if it is one, has the same open.
abbrev Alike : ℕ → Account → Account → Type 0
Alike office a b = (tag : ℕ) → InOffice office tag → under a (office - 1) tag ≡ under b (office - 1) tag

-- What a call on two accounts says and leaves.
record Together (office : ℕ) (a b : Account) (call : Call) : Type 0 where
  pub same : (carried_out call a).verdict ≡ (carried_out call b).verdict
  pub wants_none : (carried_out call a).verdict ≡ Err Allowance → ⊥
  pub left : Alike office (carried_out call a).account (carried_out call b).account

module _ (office : ℕ) (a b : Account) (ka : Kept a) (kb : Kept b) (alike : Alike office a b) where
  -- What follows the check of the numbers is looked at only where they are an office's.
  after_slot : (tag : ℕ) (v w : Verdict) → (InOffice office tag → v ≡ w) → check_slot office tag and_then v ≡ check_slot office tag and_then w
  after_slot tag v w same =
      passed_or_refused (check_slot office tag) (λ passed. rw passed (same (slot_passed office tag passed))) (λ r e. rw e)

  opening_alike : (tag axes level : ℕ) → check_opening a office tag axes level ≡ check_opening b office tag axes level
  unfolding check_opening check_free
  opening_alike tag axes level =
      let same = after_slot tag (check_free a (office - 1) tag) (check_free b (office - 1) tag) (λ place. rw (alike tag place)) in
      rw (possible_passes a ka.possible, possible_passes b kb.possible, same)

  closing_alike : (tag : ℕ) → (close_table a office tag).verdict ≡ (close_table b office tag).verdict
  unfolding check_open
  closing_alike tag =
      let same = after_slot tag (check_open a (office - 1) tag) (check_open b (office - 1) tag) (λ place. rw (alike tag place)) in
      rw (close_says a office tag, close_says b office tag, possible_passes a ka.possible, possible_passes b kb.possible, same)

  held_alike : (tag : ℕ) → InOffice office tag → held a (office - 1) ≡ held b (office - 1)
  unfolding held points_under
  held_alike tag place =
      sum_to_cong (points_under a (office - 1)) (points_under b (office - 1)) tags
      (λ u u_in. ap points_in (alike u (record { first = place.first; last = place.last; tag_in = u_in })))

  tries_alike : (call : Call) → office_of call ≡ office → tries call a ≡ tries call b
  unfolding tries
  tries_alike (opening o tag axes level) mine =
      rw (mine, opening_alike tag axes level)
      (passed_or_refused (check_opening b office tag axes level)
      (λ passed.
      let r = opening_ready b office tag axes level passed in
      rw (held_alike tag r.place))
      (λ r e. rw e))
  tries_alike (closing o tag) mine = refl

  put_alike : (tag byte : ℕ) → InOffice office tag → Alike office (put a (office - 1) tag byte) (put b (office - 1) tag byte)
  put_alike tag byte place u also =
      let o = office - 1 in
      let o_in = office_in office tag place in
      eq_or_not (slot o u) (slot o tag)
      (λ e. rw e (put_same a o tag byte place.tag_in ka.long o_in ∙ sym (put_same b o tag byte place.tag_in kb.long o_in)))
      (λ ne. put_other a o tag byte o u ne ∙ alike u also ∙ sym (put_other b o tag byte o u ne))

  refused_together : (call : Call) (r : Refusal) → (r ≡ Allowance → ⊥) →
      (carried_out call a).verdict ≡ Err r → (carried_out call b).verdict ≡ Err r → Together office a b call
  refused_together call r ne e f =
      record {
        same = e ∙ sym f;
        wants_none = λ w. ne (same_refusal r Allowance (sym e ∙ w));
        left = rw (call_refused call a r e, call_refused call b r f) alike;
      }

  opening_together : (tag axes level : ℕ) → tries (opening office tag axes level) a ≡ false → Together office a b (opening office tag axes level)
  opening_together tag axes level quiet =
      let call = opening office tag axes level in
      let same = opening_alike tag axes level in
      passed_or_refused (check_opening a office tag axes level)
      (λ passed.
      let va = opening_passes a office tag axes level ka passed quiet in
      let vb = opening_passes b office tag axes level kb (sym same ∙ passed) (sym (tries_alike call refl) ∙ quiet) in
      let oa = open_passed a office tag axes level va in
      let ob = open_passed b office tag axes level vb in
      record {
        same = va ∙ sym vb;
        wants_none = λ w. refused_done Allowance tt (sym w ∙ va);
        left = rw (oa.leaves, ob.leaves) (put_alike tag (byte_of axes level) oa.ready.place);
      })
      (λ r e.
      refused_together call r (λ w. opening_not a office tag ka axes level (e ∙ ap Err w))
      (opening_refused a office tag axes level r e)
      (opening_refused b office tag axes level r (sym same ∙ e)))

  closing_together : (tag : ℕ) → Together office a b (closing office tag)
  closing_together tag =
      let call = closing office tag in
      let same = closing_alike tag in
      passed_or_refused (close_table a office tag).verdict
      (λ va.
      let ca = close_passed a office tag va in
      let cb = close_passed b office tag (sym same ∙ va) in
      record {
        same = same;
        wants_none = closing_not a office tag ka;
        left = rw (ca.leaves, cb.leaves) (put_alike tag 0 ca.place);
      })
      (λ r e. refused_together call r (λ w. closing_not a office tag ka (e ∙ ap Err w)) e (sym same ∙ e))

  -- A call of the office that does not try.
  own_together : (call : Call) → office_of call ≡ office → tries call a ≡ false → Together office a b call
  own_together (opening o tag axes level) mine quiet = rw mine (opening_together tag axes level (rw mine at quiet))
  own_together (closing o tag) mine quiet = rw mine (closing_together tag)

-- A call of another office leaves the office's slots.
other_put : (a : Account) (office other tag byte : ℕ) → InOffice other tag → (other ≡ office → ⊥) → Alike office (put a (other - 1) tag byte) a
other_put a office other tag byte place ne u mine =
    put_other a (other - 1) tag byte (office - 1) u
    (λ e. ne (omega (arith, place.first, place.tag_in, mine.first, mine.tag_in)))

other_alike : (call : Call) (office : ℕ) (a : Account) → (office_of call ≡ office → ⊥) → Alike office (carried_out call a).account a
other_alike (opening other tag axes level) office a ne =
    passed_or_refused (open_table a other tag axes level).verdict
    (λ passed.
    let o = open_passed a other tag axes level passed in
    rw o.leaves (other_put a office other tag (byte_of axes level) o.ready.place ne))
    (λ r e. rw (call_refused (opening other tag axes level) a r e) (λ u mine. refl))
other_alike (closing other tag) office a ne =
    passed_or_refused (close_table a other tag).verdict
    (λ passed.
    let c = close_passed a other tag passed in
    rw c.leaves (other_put a office other tag 0 c.place ne))
    (λ r e. rw (call_refused (closing other tag) a r e) (λ u mine. refl))

-- ---- whole histories

-- What a list of calls tells an office, and what its own calls alone, with no other office's between them, tell it.
record AsAlone (office : ℕ) (calls : List Call) (a b : Account) : Type 0 where
  pub same : answers_to office calls (run calls a).answers ≡ answers_to office (own office calls) (run (own office calls) b).answers
  pub none_wants : NoneWants (answers_to office calls (run calls a).answers)

module _ (office : ℕ) where
  first_quiet : (call : Call) (calls : List Call) (a : Account) → is_by office call ≡ true → never_tries office (call ∷ calls) a ≡ true → tries call a ≡ false
  unfolding never_tries
  first_quiet call calls a mine e =
      let first = and_left (not (is_by office call && tries call a)) (never_tries office calls (carried_out call a).account) e in
      not-true (tries call a) (rw mine at first)

  rest_quiet : (call : Call) (calls : List Call) (a : Account) → never_tries office (call ∷ calls) a ≡ true →
      never_tries office calls (carried_out call a).account ≡ true
  unfolding never_tries
  rest_quiet call calls a e = and_right (not (is_by office call && tries call a)) (never_tries office calls (carried_out call a).account) e

  next_alike : (call : Call) (a b : Account) → is_by office call ≡ false → Alike office a b → Alike office (carried_out call a).account b
  next_alike call a b other alike u place =
      other_alike call office a (eqb-false (office_of call) office other) u place ∙ alike u place

  as_alone : (calls : List Call) (a b : Account) → Kept a → Kept b → Alike office a b → never_tries office calls a ≡ true → AsAlone office calls a b
  unfolding run own answers_to
  as_alone [] a b ka kb alike quiet = record { same = refl; none_wants = tt }
  as_alone (call ∷ calls) a b ka kb alike quiet =
      let rest = rest_quiet call calls a quiet in
      true_or_false (is_by office call)
      (λ mine.
      let one = own_together office a b ka kb alike call (eqb-true (office_of call) office mine) (first_quiet call calls a mine quiet) in
      let more = as_alone calls (carried_out call a).account (carried_out call b).account (kept_call call a ka) (kept_call call b kb) one.left rest in
      record {
        same = rw (mine, mine) (ap₂ ◌∷◌ one.same more.same);
        none_wants = rw mine (one.wants_none, more.none_wants);
      })
      (λ other.
      let more = as_alone calls (carried_out call a).account b (kept_call call a ka) kb (next_alike call a b other alike) rest in
      record { same = rw other more.same; none_wants = rw other more.none_wants })

  -- The office tries among the others' calls exactly if it tries alone.
  quiet_alike : (calls : List Call) (a b : Account) → Kept a → Kept b → Alike office a b →
      never_tries office calls a ≡ never_tries office (own office calls) b
  unfolding own never_tries
  quiet_alike [] a b ka kb alike = refl
  quiet_alike (call ∷ calls) a b ka kb alike =
      true_or_false (is_by office call)
      (λ mine.
      let who = eqb-true (office_of call) office mine in
      rw (mine, mine, sym (tries_alike office a b ka kb alike call who))
      (true_or_false (tries call a)
      (λ tried. rw tried)
      (λ quiet.
      let one = own_together office a b ka kb alike call who quiet in
      rw quiet (quiet_alike calls (carried_out call a).account (carried_out call b).account (kept_call call a ka) (kept_call call b kb) one.left))))
      (λ other. rw other (quiet_alike calls (carried_out call a).account b (kept_call call a ka) kb (next_alike call a b other alike)))

-- An office that never tries to have more open than its own points is told the same in two histories in which its calls are the same, in the same order, whatever
-- calls the others make before and between them; and none of its openings fails for want of points.
pub isolation : (office : ℕ) (calls others : List Call) → own office calls ≡ own office others → never_tries office calls empty ≡ true →
    (answers_to office calls (history calls).answers ≡ answers_to office others (history others).answers)
    × NoneWants (answers_to office calls (history calls).answers)
isolation office calls others e quiet =
    let alike : Alike office empty empty = λ u place. refl in
    let alone = λ (list : List Call). never_tries office list empty in
    let tries_alone = λ (list : List Call). quiet_alike office list empty empty empty_kept empty_kept alike in
    let quiet_too = sym (tries_alone calls ∙ ap alone e ∙ sym (tries_alone others)) ∙ quiet in
    let told = λ (list : List Call). answers_to office list (history list).answers in
    let one = as_alone office calls empty empty empty_kept empty_kept alike quiet in
    let two = as_alone office others empty empty empty_kept empty_kept alike quiet_too in
    (one.same ∙ ap told e ∙ sym two.same, one.none_wants)
