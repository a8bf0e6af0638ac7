-- An account of 32 slots is possible exactly if some history gives it: every history leaves a possible one, and a possible one is given by opening its shapes one slot
-- after the other, since on the way no office has more open than at the end. So the check refuses with 20 the accounts that no history gives, and only these.
-- Assumes nothing.
use Rattle.std.specs.Prelude.{Ok, Err}
use mathlib.Core.Path.{◌≡◌, refl, ap, sym, ◌∙◌, subst}
use mathlib.Core.Bool.{Bool, true, false}
use mathlib.Core.Logic.{inl, inr, ⊎_elim}
use mathlib.Core.List.{List, [], ◌∷◌, ◌++◌}
use Prim.Native.Nat.{ℕ, zero, suc, ◌-◌, ◌/◌, ◌%◌, ◌≤◌, ◌<◌}
use native.Mathlib.Nat.{div-add-mod'}
use native.Mathlib.Omega.{arith}
use lib.Dec.{leb}
use lib.ListN.{length, get_or-replicate}
use lib.Seq.{ext_get_or, get_or-set_other}
use borrow.Author.Tests.{le-leb}
use Rattle.naturals.specs.Test.{all}
use Rattle.naturals.proofs.Cases.{eq_or_not, le_or_lt}
use Rattle.refusals.specs.declared.Refusal.{Refusal}
use Rattle.refusals.specs.declared.Refusal.TheVariants.{Allowance}
use Rattle.refusals.specs.Checks.{unless, ◌and_then◌}
use Rattle.refusals.proofs.Results.{refused_done}
use Rattle.numbering.specs.Point.{at}
use Rattle.shapes.specs.Shapes.{check_shape}
use Rattle.accounts.specs.declared.Account.{Account}
use Rattle.accounts.specs.Accounts.{account_of, offices, tags, common_points, shape_in, slot, under, common, office_passes, empty, put}
use Rattle.accounts.specs.Calls.{check_common, check_account, check_free, refused, check_opening, open_table, close_table}
use Rattle.histories.specs.Histories.{Call, opening, closing, carried_out, run, history, Given}
use Rattle.accounts.proofs.Bytes.{byte_back}
use Rattle.accounts.proofs.Slots.{put_same}
use Rattle.histories.proofs.Verdicts.{slot_passes, open_says, open_passed}
use Rattle.histories.proofs.Possible.{Possible, possible_passes, passes_possible, PartOf, part_common}
use Rattle.histories.proofs.Kept.{Kept, history_kept}

-- Every history leaves a possible account.
pub history_long : (calls : List Call) → length (history calls).account.slots ≡ 32
history_long calls = let kept = history_kept calls in kept.long

pub history_passes : (calls : List Call) → check_account (history calls).account ≡ Ok tt
history_passes calls = let kept = history_kept calls in possible_passes (history calls).account kept.possible

given_kept : (a : Account) → Given a → Kept a
given_kept a g = subst Kept g.leaves (history_kept g.calls)

-- ---- a history of each possible account

-- One call more.
run_append : (first rest : List Call) (a : Account) → (run (first ++ rest) a).account ≡ (run rest (run first a).account).account
unfolding run
run_append [] rest a = refl
run_append (call ∷ first) rest a = run_append first rest (carried_out call a).account

given_empty : Given empty
unfolding run
given_empty = record { calls = []; leaves = refl }

given_next : (call : Call) (a : Account) → Given a → Given (carried_out call a).account
unfolding run
given_next call a g =
    record {
      calls = g.calls ++ (call ∷ []);
      leaves = run_append g.calls (call ∷ []) empty ∙ ap (λ (b : Account). (carried_out call b).account) g.leaves;
    }

-- The first k slots of an account, and nothing in the others.
record Partly (a b : Account) (k : ℕ) : Type 0 where
  pub same : (j : ℕ) → j < k → at b.slots j ≡ at a.slots j
  pub none : (j : ℕ) → k ≤ j → j < 32 → at b.slots j ≡ 0

partly_part : (a b : Account) (k : ℕ) → Partly a b k → PartOf b a
partly_part a b k p o tag o_in tag_in =
    le_or_lt k (slot o tag) (λ past. inl (p.none (slot o tag) past (omega arith))) (λ early. inr (p.same (slot o tag) early))

-- A history that gives it.
record Begun (a : Account) (k : ℕ) : Type 0 where
  pub so_far : Account
  pub given : Given so_far
  pub partly : Partly a so_far k

begun_zero : (a : Account) → Begun a 0
begun_zero a =
    record {
      so_far = empty;
      given = given_empty;
      partly = record { same = λ j early. absurd (omega arith); none = λ j past j_in. get_or-replicate {A = ℕ} 32 j 0 0 j_in };
    }

-- One slot more.
module _ (a b : Account) (p : Possible a) (o tag : ℕ) (o_in : o < offices) (tag_in : tag < tags) (given : Given b) (partly : Partly a b (slot o tag)) where
  abbrev byte : ℕ
  byte = under a o tag

  abbrev call : Call
  call = opening (suc o) tag (byte / 16) (byte % 16)

  back : suc o - 1 ≡ o
  back = omega arith

  kept : Kept b
  kept = given_kept b given

  free_partly : byte ≡ 0 → Partly a b (suc (slot o tag))
  free_partly free =
      record {
        same =
            λ j early.
            eq_or_not j (slot o tag)
            (λ e. rw e (partly.none (slot o tag) (omega arith) (omega arith) ∙ sym free))
            (λ ne. partly.same j (omega arith));
        none = λ j past j_in. partly.none j (omega arith) j_in;
      }

  put_partly : Partly a (put b o tag byte) (suc (slot o tag))
  put_partly =
      record {
        same =
            λ j early.
            eq_or_not j (slot o tag)
            (λ e. rw e (put_same b o tag byte tag_in kept.long o_in))
            (λ ne. get_or-set_other b.slots (slot o tag) j byte 0 ne ∙ partly.same j (omega arith));
        none = λ j past j_in. get_or-set_other b.slots (slot o tag) j byte 0 (λ e. omega arith) ∙ partly.none j (omega arith) j_in;
      }

  -- The opening passes: with it no more is open than in the end.
  opening_passes : check_shape (shape_in byte) ≡ Ok tt → (carried_out call b).verdict ≡ Ok tt
  unfolding check_opening check_free check_common
  opening_passes shape =
      let less = part_common (put b o tag byte) a (partly_part a (put b o tag byte) (suc (slot o tag)) put_partly) in
      open_says b (suc o) tag (byte / 16) (byte % 16)
      ∙ rw (
        possible_passes b kept.possible,
        shape,
        slot_passes (suc o) tag (record { first = omega arith; last = o_in; tag_in = tag_in }),
        back,
        partly.none (slot o tag) (omega arith) (omega arith),
        byte_back byte,
        le-leb (common (put b o tag byte)) common_points (omega (arith, less, p.suffices)),
      )

  shape_begun : check_shape (shape_in byte) ≡ Ok tt → Begun a (suc (slot o tag))
  shape_begun shape =
      let done = open_passed b (suc o) tag (byte / 16) (byte % 16) (opening_passes shape) in
      record {
        so_far = (carried_out call b).account;
        given = given_next call b given;
        partly = rw (done.leaves, back, byte_back byte) put_partly;
      }

  begun_suc : Begun a (suc (slot o tag))
  begun_suc =
      ⊎_elim
      (λ free. record { so_far = b; given = given; partly = free_partly free })
      shape_begun
      (p.slots o tag o_in tag_in)

begun_to : (a : Account) → Possible a → (k : ℕ) → k ≤ 32 → Begun a k
begun_to a p zero h = begun_zero a
begun_to a p (suc k) h =
    let place : slot (k / tags) (k % tags) ≡ k = omega (arith, div-add-mod' k tags) in
    subst (λ (j : ℕ). Begun a j → Begun a (suc j)) place
    (λ begun. begun_suc a begun.so_far p (k / tags) (k % tags) (omega arith) (omega arith) begun.given begun.partly)
    (begun_to a p k (omega arith))

pub passing_given : (a : Account) → length a.slots ≡ 32 → check_account a ≡ Ok tt → Given a
passing_given a long passes =
    let begun = begun_to a (passes_possible a passes) 32 (omega arith) in
    let kept = given_kept begun.so_far begun.given in
    let each = λ (j : ℕ) (j_in : j < length begun.so_far.slots). begun.partly.same j (omega (arith, kept.long)) in
    let same = ext_get_or 0 begun.so_far.slots a.slots (kept.long ∙ sym long) each in
    subst Given (ap account_of same) begun.given

-- ---- what is refused

given_passes : (a : Account) → Given a → check_account a ≡ Ok tt
given_passes a g = let kept = given_kept a g in possible_passes a kept.possible

-- Two tests that refuse for the same: both pass, or they refuse for it.
two_tests : (t u : Bool) (r : Refusal) {A : Type 0} →
    (unless t r and_then unless u r ≡ Ok tt → A) → (unless t r and_then unless u r ≡ Err r → A) → A
two_tests true true r passed refusal = passed refl
two_tests true false r passed refusal = refusal refl
two_tests false u r passed refusal = refusal refl

pub refused_exactly : (a : Account) → length a.slots ≡ 32 →
    (check_account a ≡ Err Allowance → Given a → ⊥) × ((Given a → ⊥) → check_account a ≡ Err Allowance)
unfolding check_account check_common
refused_exactly a long = (
  λ refusal g. refused_done Allowance tt (sym refusal ∙ given_passes a g),
  λ none.
      two_tests (all (office_passes a) offices) (leb (common a) common_points) Allowance
      (λ passes. absurd (none (passing_given a long passes)))
      (λ refusal. refusal),
)

-- So every opening and closing on an account of 32 slots that no history gives is refused with 20, and leaves it.
pub not_given_refused : (call : Call) (a : Account) → length a.slots ≡ 32 → (Given a → ⊥) → carried_out call a ≡ refused a Allowance
unfolding open_table close_table check_opening
not_given_refused (opening office tag axes level) a long none = let e = refused_exactly a long in rw (e.1 none)
not_given_refused (closing office tag) a long none = let e = refused_exactly a long in rw (e.1 none)
