-- What rates to coefficients answers and leaves, step by step as the code goes: what load refuses is refused, and from a loaded table the turns up lead to the
-- coefficients.
-- Assumes nothing.
use Rattle.std.specs.Prelude.{Ok, Err}
use mathlib.Core.Path.{◌≡◌, refl, ap, sym, ◌∙◌}
use mathlib.Core.List.{List, map}
use Prim.Native.Nat.{◌-◌}
use native.Mathlib.Omega.{arith}
use lib.IntN.{ℤ}
use Rattle.naturals.proofs.Tests.{all_from}
use Rattle.refusals.specs.declared.Refusal.{Refusal}
use Rattle.refusals.specs.Checks.{answer, Verdict}
use Rattle.shapes.specs.declared.Shape.{Shape}
use Rattle.shapes.specs.Shapes.{points_of}
use Rattle.shapes.proofs.Checked.{InRange}
use Rattle.states.specs.declared.State.{State}
use Rattle.states.specs.After.{After, after, kept, left, left_by}
use Rattle.tables.specs.Tables.{rate_at, check_rated, times, load}
use Rattle.tables.proofs.Checking.{rated_opens, rated_passes}
use Rattle.runs.proofs.Calls.{state_of}
use Rattle.whole.specs.Whole.{coefficients_of, rates_to_coefficients}
use Rattle.whole.specs.Steps.{InTable, ascent}
use Rattle.whole.proofs.Inverse.{AreRates}
use Rattle.whole.proofs.Loading.{loaded_in}
use Rattle.whole.proofs.Climbing.{climbed}
use Rattle.refusals.proofs.Results.{refused_done, same_refusal, same_result}

module _ (s : Shape) (xs : List ℤ) where
  pub passes_so : check_rated s xs ≡ Ok tt → rates_to_coefficients s xs ≡ left (Ok tt) (coefficients_of s xs)
  unfolding rates_to_coefficients
  passes_so e = rw e

  module _ (ys : List ℤ) where
    refused_so : (v : Verdict) (r : Refusal) (st : State) (zs ws : List ℤ) → after (Err r) ys ≡ answer (kept xs) v (after (Ok st) zs) →
        left (Err r) ys ≡ left_by xs v ws
    refused_so (Ok _) r st zs ws e = refused_done r st (ap (λ (a : After). a.answer) e)
    refused_so (Err w) r st zs ws e =
        let same : r ≡ w = same_refusal r w (ap (λ (a : After). a.answer) e) in
        let table : ys ≡ xs = ap (λ (a : After). a.table) e in
        rw (same, table)

    pub load_refuses : (r : Refusal) → after (Err r) ys ≡ load s xs → left (Err r) ys ≡ rates_to_coefficients s xs
    unfolding load rates_to_coefficients
    load_refuses r e =
        refused_so (check_rated s xs) r (state_of s 0) (map (times s.axes) xs) (coefficients_of s xs) e

    done_so : (v : Verdict) (st given : State) (zs : List ℤ) → after (Ok st) ys ≡ answer (kept xs) v (after (Ok given) zs) →
        (v ≡ Ok tt) × (st ≡ given) × (ys ≡ zs)
    done_so (Ok _) st given zs e =
        (refl, same_result st given (ap (λ (a : After). a.answer) e), ap (λ (a : After). a.table) e)
    done_so (Err w) st given zs e = refused_done w st (ap (λ (a : After). a.answer) (sym e))

    -- A load that was done: its checks passed, and what it left.
    pub record Loaded (st : State) : Type 0 where
      pub passed : check_rated s xs ≡ Ok tt
      pub range : InRange s
      pub rates : AreRates s xs
      pub state : st ≡ state_of s 0
      pub table : ys ≡ map (times s.axes) xs

    module _ (st : State) (e : after (Ok st) ys ≡ load s xs) where
      pub load_done : Loaded st
      unfolding load
      load_done =
          let d = done_so (check_rated s xs) st (state_of s 0) (map (times s.axes) xs) e in
          let opens = rated_opens s xs d.0 in
          record {
            passed = d.0;
            range = opens.range;
            rates =
                record {
                  long = opens.long;
                  each =
                      all_from (rate_at xs) (points_of s)
                      (λ p h. rated_passes s xs d.0 p (omega (arith, opens.long)));
                };
            state = d.1;
            table = d.2;
          }

      -- From there the turns up may start, and they lead to the coefficients.
      pub load_opens : InTable s ys
      load_opens = rw load_done.table (loaded_in s xs load_done.range load_done.rates)

      pub load_leads : (zs : List ℤ) → zs ≡ ascent (s.axes - 0) 0 s ys → left (Ok tt) zs ≡ rates_to_coefficients s xs
      load_leads zs up =
          let led : zs ≡ coefficients_of s xs = up ∙ ap (ascent (s.axes - 0) 0 s) load_done.table ∙ climbed s xs load_done.rates.long in
          ap (left (Ok tt)) led ∙ sym (passes_so load_done.passed)
