-- A list of calls handed in two parts. The second part goes on from the state and the table that the first part leaves, so the two runs together leave what one
-- run of the whole list leaves, with the answers of both in a row: by induction over the first part. The same holds of the call that reports the answers, since
-- what the first part leaves passes the checks.
-- Assumes nothing.
use Rattle.std.specs.Prelude.{Ok, Err}
use Rattle.refusals.specs.Checks.{Verdict}
use mathlib.Core.Path.{◌≡◌, refl, ap, ap₂, sym, ◌∙◌}
use mathlib.Core.Bool.{◌&&◌}
use mathlib.Core.List.{List, [], ◌∷◌, ◌++◌, map-append}
use Prim.Native.Nat.{ℕ, ◌+◌}
use native.Mathlib.Omega.{arith}
use lib.Dec.{eqb}
use lib.IntN.{ℤ}
use lib.ListN.{length, length-append}
use borrow.Author.Tests.{eq-eqb, eqb-true}
use Rattle.naturals.proofs.Cases.{true_or_false}
use Rattle.naturals.proofs.Tests.{and_left, and_right}
use Rattle.refusals.specs.declared.Refusal.{Refusal}
use Rattle.refusals.proofs.Results.{refused_done}
use Rattle.refusals.specs.declared.Refusal.TheVariants.{ListLength}
use Rattle.hierarchy.specs.declared.Turn.{Turn}
use Rattle.states.specs.declared.State.{State}
use Rattle.states.specs.States.{check_state}
use Rattle.runs.specs.Runs.{carried_out, handed_on, verdict_of, Ran, answering, run}
use Rattle.runs.specs.Calls.{turn_of, calls_of, Report, report, report_of, unrun, check_lengths, run_calls}
use Rattle.runs.proofs.Checked.{keeps_passing}

-- What is left where these answers came first.
abbrev pub following : List Verdict → Ran → Ran
following answers r = record { answers = answers ++ r.answers; state = r.state; table = r.table }

-- The run of a second list, handed what the first run leaves.
abbrev pub going_on : Ran → List Turn → Ran
going_on r calls = following r.answers (run calls r.state r.table)

pub run_append : (first rest : List Turn) (s : State) (xs : List ℤ) → run (first ++ rest) s xs ≡ going_on (run first s xs) rest
unfolding run
run_append [] rest s xs = refl
run_append (call ∷ first) rest s xs =
    ap (answering (verdict_of (carried_out call s xs).answer))
    (run_append first rest (handed_on s (carried_out call s xs).answer) (carried_out call s xs).table)

-- One call more.
pub run_snoc : (calls : List Turn) (call : Turn) (s : State) (xs : List ℤ) →
    let r = run calls s xs in
    let next = carried_out call r.state r.table in
    run (calls ++ (call ∷ [])) s xs
    ≡ record { answers = r.answers ++ (verdict_of next.answer ∷ []); state = handed_on r.state next.answer; table = next.table }
unfolding run
run_snoc calls call s xs = run_append calls (call ∷ []) s xs

-- The calls of two parts.
pub calls_append : (directions axes later more : List ℕ) → length axes ≡ length directions →
    calls_of (directions ++ later) (axes ++ more) ≡ calls_of directions axes ++ calls_of later more
calls_append [] [] later more e = refl
calls_append [] (axis ∷ axes) later more e = absurd (omega (arith, e))
calls_append (x ∷ directions) [] later more e = absurd (omega (arith, e))
calls_append (x ∷ directions) (axis ∷ axes) later more e =
    ap (◌∷◌ (turn_of x axis)) (calls_append directions axes later more (omega (arith, e)))

-- The lists of one call of `run`: all of one length.
pub record Matched (directions axes ns ps : List ℕ) : Type 0 where
  pub axes_long : length axes ≡ length directions
  pub numbers_long : length ns ≡ length directions
  pub places_long : length ps ≡ length directions

-- A state and a table that pass, and lists that match: the turns are carried out.
pub matched_runs : (s : State) (xs : List ℤ) (directions axes ns ps : List ℕ) → check_state s (length xs) ≡ Ok tt → Matched directions axes ns ps →
    run_calls s xs directions axes ns ps ≡ report_of (run (calls_of directions axes) s xs)
unfolding run_calls check_lengths
matched_runs s xs directions axes ns ps passed m =
    rw (
      passed,
      eq-eqb (length axes) (length directions) m.axes_long,
      eq-eqb (length ns) (length directions) m.numbers_long,
      eq-eqb (length ps) (length directions) m.places_long,
    )

matched_append : (directions axes ns ps later more ms qs : List ℕ) → Matched directions axes ns ps → Matched later more ms qs →
    Matched (directions ++ later) (axes ++ more) (ns ++ ms) (ps ++ qs)
matched_append directions axes ns ps later more ms qs a b =
    record {
      axes_long = simp length-append (ap₂ ◌+◌ a.axes_long b.axes_long);
      numbers_long = simp length-append (ap₂ ◌+◌ a.numbers_long b.numbers_long);
      places_long = simp length-append (ap₂ ◌+◌ a.places_long b.places_long);
    }

-- Refused for the state or the table, whatever the lists are.
pub run_unchecked : (s : State) (xs : List ℤ) (directions axes ns ps : List ℕ) (r : Refusal) → check_state s (length xs) ≡ Err r →
    run_calls s xs directions axes ns ps ≡ unrun xs ns ps r
unfolding run_calls
run_unchecked s xs directions axes ns ps r e = rw e

-- Lists of one length, or refused with 7.
pub matched_or_refused : (s : State) (xs : List ℤ) (directions axes ns ps : List ℕ) {A : Type 0} → check_state s (length xs) ≡ Ok tt →
    (Matched directions axes ns ps → A) → (run_calls s xs directions axes ns ps ≡ unrun xs ns ps ListLength → A) → A
unfolding run_calls check_lengths
matched_or_refused s xs directions axes ns ps passed matched refused =
    let one = eqb (length axes) (length directions) in
    let two = eqb (length ns) (length directions) in
    let three = eqb (length ps) (length directions) in
    true_or_false (one && two && three)
    (λ h.
    matched
    (record {
      axes_long = eqb-true _ _ (and_left one two (and_left (one && two) three h));
      numbers_long = eqb-true _ _ (and_right one two (and_left (one && two) three h));
      places_long = eqb-true _ _ (and_right (one && two) three h);
    }))
    (λ h. refused (rw (passed, h)))

-- A call that was not refused passed its checks: the state and the table, and lists of one length.
done_passed : (s t : State) (xs : List ℤ) (directions axes ns ps : List ℕ) → (run_calls s xs directions axes ns ps).answer ≡ Ok t →
    (v : Verdict) → check_state s (length xs) ≡ v → v ≡ Ok tt
done_passed s t xs directions axes ns ps e (Ok _) h = refl
done_passed s t xs directions axes ns ps e (Err r) h =
    refused_done r t (sym (ap (λ (x : Report). x.answer) (run_unchecked s xs directions axes ns ps r h)) ∙ e)

done_matched : (s t : State) (xs : List ℤ) (directions axes ns ps : List ℕ) → check_state s (length xs) ≡ Ok tt →
    (run_calls s xs directions axes ns ps).answer ≡ Ok t → Matched directions axes ns ps
done_matched s t xs directions axes ns ps passed e =
    matched_or_refused s xs directions axes ns ps passed (λ m. m)
    (λ h. refused_done ListLength t (sym (ap (λ (x : Report). x.answer) h) ∙ e))

-- The rest of a list can be handed in later, with the state and the table that the call before left: the answers of the two calls, one list after the other, the
-- state and the table are those of one call with the whole list.
pub handed_in_later : (s t : State) (xs : List ℤ) (directions axes ns ps later more ms qs : List ℕ) → Matched later more ms qs →
    let first = run_calls s xs directions axes ns ps in
    let rest = run_calls t first.table later more ms qs in
    first.answer ≡ Ok t →
    run_calls s xs (directions ++ later) (axes ++ more) (ns ++ ms) (ps ++ qs)
    ≡ report rest.answer rest.table (first.numbers ++ rest.numbers) (first.places ++ rest.places)
handed_in_later s t xs directions axes ns ps later more ms qs b e =
    let passed : check_state s (length xs) ≡ (Ok tt) = done_passed s t xs directions axes ns ps e _ refl in
    let a = done_matched s t xs directions axes ns ps passed e in
    let r = run (calls_of directions axes) s xs in
    let first_is : run_calls s xs directions axes ns ps ≡ report_of r = matched_runs s xs directions axes ns ps passed a in
    let done : Ok r.state ≡ Ok t = sym (ap (λ (x : Report). x.answer) first_is) ∙ e in
    let same : t ≡ r.state = cc in
    matched_runs s xs (directions ++ later) (axes ++ more) (ns ++ ms) (ps ++ qs) passed (matched_append directions axes ns ps later more ms qs a b)
    ∙ rw (
      first_is,
      same,
      matched_runs r.state r.table later more ms qs (keeps_passing (calls_of directions axes) s xs passed) b,
      calls_append directions axes later more a.axes_long,
      run_append (calls_of directions axes) (calls_of later more) s xs,
    )
    (simp map-append)
