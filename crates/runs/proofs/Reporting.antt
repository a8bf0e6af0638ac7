-- The loop of `run`: after i calls the state and the table are those of the run of the first i calls, the first i places of the two lists hold its answers, and
-- the rest of the lists is as it was. One call more is one answer more at the end of the run's.
-- Assumes nothing.
use Rattle.std.specs.Prelude.{Result, Ok}
use Rattle.refusals.specs.Checks.{Verdict}
use Rattle.refusals.specs.declared.Refusal.{Refusal}
use mathlib.Core.Path.{◌≡◌, refl, ap, ap₂, sym, ◌∙◌}
use mathlib.Core.List.{List, [], ◌∷◌, ◌++◌, map, append-nil, map-append}
use Prim.Native.Nat.{ℕ, zero, suc, ◌+◌, ◌≤◌, ◌<◌}
use native.Mathlib.Numerals.{add-one}
use native.Mathlib.Omega.{arith}
use lib.IntN.{ℤ}
use lib.ListN.{length, get_or, take, drop, set, length-append, length-map, length-drop}
use lib.Seq.{take-suc, take-length, drop-length, drop-cons, length-take-le, append_snoc, set_at}
use Rattle.hierarchy.specs.declared.Turn.{Turn}
use Rattle.hierarchy.specs.declared.Turn.TheVariants.{Back}
use Rattle.states.specs.declared.State.{State}
use Rattle.states.specs.After.{after}
use Rattle.states.specs.States.{check_state}
use Rattle.runs.specs.Runs.{carried_out, handed_on, verdict_of, Ran, run}
use Rattle.runs.specs.Calls.{turn_of, calls_of, number_in, place_in, report, report_of, run_calls}
use Rattle.runs.proofs.Appending.{run_snoc, calls_append, Matched, matched_runs}

-- Each direction but 0 is back.
pub back_turn_lem : (direction axis : ℕ) → (direction ≡ 0 → ⊥) → turn_of direction axis ≡ Back axis
back_turn_lem zero axis ne = absurd (ne refl)
back_turn_lem (suc k) axis ne = refl

-- The first i calls.
abbrev pub calls_to : List ℕ → List ℕ → ℕ → List Turn
calls_to directions axes i = calls_of (take i directions) (take i axes)

abbrev pub call_at : List ℕ → List ℕ → ℕ → Turn
call_at directions axes i = turn_of (get_or directions i 0) (get_or axes i 0)

calls_next : (directions axes : List ℕ) (i : ℕ) → i < length directions → i < length axes →
    calls_to directions axes (suc i) ≡ calls_to directions axes i ++ (call_at directions axes i ∷ [])
calls_next directions axes i h k =
    rw (take-suc directions i 0 h, take-suc axes i 0 k)
    (calls_append (take i directions) (take i axes) (get_or directions i 0 ∷ []) (get_or axes i 0 ∷ [])
    (length-take-le i axes (omega arith) ∙ sym (length-take-le i directions (omega arith))))

calls_all : (directions axes : List ℕ) → length axes ≡ length directions → calls_to directions axes (length directions) ≡ calls_of directions axes
calls_all directions axes e = ap₂ calls_of (take-length directions) (ap (λ (m : ℕ). take m axes) (sym e) ∙ take-length axes)

-- A run has as many answers as calls.
calls_long : (directions axes : List ℕ) → length axes ≡ length directions → length (calls_of directions axes) ≡ length directions
calls_long [] axes e = refl
calls_long (x ∷ directions) [] e = absurd (omega (arith, e))
calls_long (x ∷ directions) (axis ∷ axes) e = ap suc (calls_long directions axes (omega (arith, e)))

answers_long : (calls : List Turn) (s : State) (xs : List ℤ) → length (run calls s xs).answers ≡ length calls
unfolding run
answers_long [] s xs = refl
answers_long (call ∷ calls) s xs =
    ap suc (answers_long calls (handed_on s (carried_out call s xs).answer) (carried_out call s xs).table)

-- The answers so far in front of what a list held, and one answer more.
module _ (f : Verdict → ℕ) where
  abbrev pub answered : List Verdict → List ℕ → List ℕ
  answered answers ns = map f answers ++ drop (length answers) ns

  answered_long : (answers : List Verdict) (ns : List ℕ) → length answers ≤ length ns → length (answered answers ns) ≡ length ns
  answered_long answers ns h = simp (length-append, length-map, length-drop) (omega arith)

  answered_all : (answers : List Verdict) (ns : List ℕ) → length answers ≡ length ns → answered answers ns ≡ map f answers
  answered_all answers ns e = rw (e, drop-length, append-nil)

  answered_next : (answers : List Verdict) (v : Verdict) (ns : List ℕ) (i : ℕ) → length answers ≡ i → i < length ns →
      set (answered answers ns) i (f v) ≡ answered (answers ++ (v ∷ [])) ns
  answered_next answers v ns i e h =
      rw (e, drop-cons ns i 0 h, set_at (map f answers) (get_or ns i 0) (drop (suc i) ns) (f v) i (length-map answers f ∙ e))
      (rw (map-append, length-append, e, add-one, append_snoc))

module _ (s : State) (xs : List ℤ) (directions axes ns ps : List ℕ) where
  -- The run of the first i calls.
  abbrev pub ran_to : ℕ → Ran
  ran_to i = run (calls_to directions axes i) s xs

  pub record Reporting (table : List ℤ) (numbers places : List ℕ) (reached : State) (i : ℕ) : Type 0 where
    pub passed : check_state s (length xs) ≡ Ok tt
    pub matched : Matched directions axes ns ps
    pub within : i ≤ length directions
    pub state : reached ≡ (ran_to i).state
    pub long : length table ≡ length xs
    pub contents : table ≡ (ran_to i).table
    pub numbered : numbers ≡ answered number_in (ran_to i).answers ns
    pub placed : places ≡ answered place_in (ran_to i).answers ps

  pub reporting_starts : check_state s (length xs) ≡ Ok tt → Matched directions axes ns ps → Reporting xs ns ps s 0
  unfolding run
  reporting_starts passed m = record { passed = passed; matched = m; within = omega arith; state = refl; long = refl; contents = refl; numbered = refl; placed = refl }

  module _ (table : List ℤ) (numbers places : List ℕ) (reached : State) (i : ℕ) (r : Reporting table numbers places reached i) where
    count_is : length (ran_to i).answers ≡ i
    count_is =
        answers_long (calls_to directions axes i) s xs
        ∙ calls_long (take i directions) (take i axes)
        (length-take-le i axes (omega (arith, r.matched.axes_long, r.within)) ∙ sym (length-take-le i directions r.within))
        ∙ length-take-le i directions r.within

    -- The lists of the answers stay as long.
    pub numbers_kept : length numbers ≡ length ns
    numbers_kept = ap length r.numbered ∙ answered_long number_in (ran_to i).answers ns (omega (arith, count_is, r.within, r.matched.numbers_long))

    pub places_kept : length places ≡ length ps
    places_kept = ap length r.placed ∙ answered_long place_in (ran_to i).answers ps (omega (arith, count_is, r.within, r.matched.places_long))

    pub reporting_ends : length directions ≤ i → report (Ok reached) table numbers places ≡ run_calls s xs directions axes ns ps
    reporting_ends h =
        let end : i ≡ length directions = omega (arith, r.within) in
        let whole : ran_to i ≡ run (calls_of directions axes) s xs =
        ap (λ (calls : List Turn). run calls s xs) (ap (calls_to directions axes) end ∙ calls_all directions axes r.matched.axes_long) in
        let all_numbers : numbers ≡ map number_in (ran_to i).answers =
        r.numbered ∙ answered_all number_in (ran_to i).answers ns (count_is ∙ end ∙ sym r.matched.numbers_long) in
        let all_places : places ≡ map place_in (ran_to i).answers =
        r.placed ∙ answered_all place_in (ran_to i).answers ps (count_is ∙ end ∙ sym r.matched.places_long) in
        rw (r.state, r.contents, all_numbers, all_places) (ap report_of whole ∙ sym (matched_runs s xs directions axes ns ps r.passed r.matched))

    -- One call more.
    module _ (more : i < length directions) (next : Result State Refusal) (left : List ℤ) (long : length left ≡ length table)
        (e : after next left ≡ carried_out (call_at directions axes i) reached table) where
      ran_next : ran_to (suc i)
          ≡ record { answers = (ran_to i).answers ++ (verdict_of next ∷ []); state = handed_on reached next; table = left }
      ran_next =
          ap (λ (calls : List Turn). run calls s xs) (calls_next directions axes i more (omega (arith, more, r.matched.axes_long)))
          ∙ run_snoc (calls_to directions axes i) (call_at directions axes i) s xs
          ∙ rw (← r.state, ← r.contents, ← e)

      pub reporting_steps : (number place : ℕ) (to : State) → number ≡ number_in (verdict_of next) → place ≡ place_in (verdict_of next) → to ≡ handed_on reached next →
          Reporting left (set numbers i number) (set places i place) to (i + 1)
      reporting_steps number place to n p t =
          rw add-one
          (record {
            passed = r.passed;
            matched = r.matched;
            within = more;
            state = t ∙ sym (ap (λ (x : Ran). x.state) ran_next);
            long = long ∙ r.long;
            contents = sym (ap (λ (x : Ran). x.table) ran_next);
            numbered =
                rw (ran_next, n, r.numbered)
                (answered_next number_in (ran_to i).answers (verdict_of next) ns i count_is (omega (arith, r.matched.numbers_long)));
            placed =
                rw (ran_next, p, r.placed)
                (answered_next place_in (ran_to i).answers (verdict_of next) ps i count_is (omega (arith, r.matched.places_long)));
          })
