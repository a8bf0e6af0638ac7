-- What coefficients to rates answers and leaves, step by step as the code goes. What adopt refuses is refused: with 10 only where the table has no rates, as
-- coefficients are within the limit. Where a turn down or unload refuses, the table has no rates, and the turns up lead back to it; else its rates are left.
-- Assumes nothing.
use Rattle.std.specs.Prelude.{Ok, Err}
use mathlib.Core.Path.{◌≡◌, refl, ap, ap₂, sym, subst, ◌∙◌}
use mathlib.Core.Bool.{Bool, true, false, true≢false}
use mathlib.Core.List.{List, map}
use Prim.Native.Nat.{ℕ, suc, ◌-◌, ◌≤◌, ◌<◌}
use native.Mathlib.Omega.{arith}
use lib.IntN.{ℤ}
use lib.ListN.{length}
use Rattle.naturals.specs.Test.{all}
use Rattle.naturals.proofs.Cases.{true_or_false}
use Rattle.naturals.proofs.Tests.{all_from}
use Rattle.refusals.specs.declared.Refusal.{Refusal}
use Rattle.refusals.specs.declared.Refusal.TheVariants.{Contents}
use Rattle.refusals.specs.Checks.{unless, Verdict}
use Rattle.integers.specs.Half.{in_limit, content_at}
use Rattle.hierarchy.specs.Turns.{value_at}
use Rattle.hierarchy.specs.Sets.{table_of, every_axis}
use Rattle.hierarchy.proofs.Bounds.{table_in_limit}
use Rattle.hierarchy.proofs.Values.{value_suc, values_at}
use Rattle.shapes.specs.declared.Shape.{Shape}
use Rattle.shapes.specs.Shapes.{points_of}
use Rattle.grids.specs.Grids.{neighbour}
use Rattle.shapes.proofs.Checked.{in_range_passed}
use Rattle.states.specs.declared.State.{State}
use Rattle.states.specs.After.{Left, left, left_by}
use Rattle.tables.specs.Tables.{check_table, adopted, adopt, quotient, scaled_at, unload}
use Rattle.tables.proofs.Answering.{adopt_unchecked, adopt_refused, adopt_done}
use Rattle.tables.proofs.Checking.{Opens, table_passed}
use Rattle.runs.proofs.Calls.{state_of}
use Rattle.whole.specs.Whole.{coefficients_of, rates_of, has_rates, coefficients_to_rates}
use Rattle.whole.specs.Steps.{InTable, ascent, gone, descent}
use Rattle.whole.proofs.Inverse.{AreRates, has_rates_lem}
use Rattle.whole.proofs.Loading.{rates_of_list}
use Rattle.whole.proofs.Descending.{Going, starts, undone, Ended, descends}
use Rattle.whole.proofs.Ends.{unload_is, divided, unloaded, not_unloaded}
use Rattle.refusals.proofs.Results.{refused_done, same_refusal}

-- A call that passed, and one that refused.
left_passed : (ys zs qs : List ℤ) (t : Bool) → left (Ok tt) zs ≡ left_by ys (unless t Contents) qs → (t ≡ true) × (zs ≡ qs)
left_passed ys zs qs true e = (refl, ap (λ (l : Left). l.table) e)
left_passed ys zs qs false e =
    let f : (Ok tt) ≡ Err Contents = ap (λ (l : Left). l.verdict) e in
    let z : ◌≡◌ {A = ℕ} 0 1 = cc in absurd (omega arith)

left_refused : (ys zs qs : List ℤ) (t : Bool) (r : Refusal) → left (Err r) zs ≡ left_by ys (unless t Contents) qs → (t ≡ false) × (zs ≡ ys)
left_refused ys zs qs true r e =
    let f : Err r ≡ (Ok tt) = ap (λ (l : Left). l.verdict) e in
    let z : ◌≡◌ {A = ℕ} 0 1 = cc in absurd (omega arith)
left_refused ys zs qs false r e = (refl, ap (λ (l : Left). l.table) e)

-- What the list of coefficients holds at a point.
pub coefficient_at : (s : Shape) (rs : List ℤ) (p : ℕ) → p < points_of s →
    value_at (coefficients_of s rs) (suc p) ≡ table_of (neighbour s) s.axes every_axis (value_at rs) (suc p)
unfolding coefficients_of
coefficient_at s rs p h =
    value_suc (coefficients_of s rs) p ∙ values_at (points_of s) (table_of (neighbour s) s.axes every_axis (value_at rs)) p h

module _ (s : Shape) (xs : List ℤ) where
  pub refused_rates : check_table s xs ≡ Ok tt → has_rates s xs ≡ false → coefficients_to_rates s xs ≡ left (Err Contents) xs
  unfolding coefficients_to_rates
  refused_rates e h = rw (e, h)

  pub passed_rates : check_table s xs ≡ Ok tt → has_rates s xs ≡ true → coefficients_to_rates s xs ≡ left (Ok tt) (rates_of s xs)
  unfolding coefficients_to_rates
  passed_rates e h = rw (e, h)

  -- A table with rates is within the limit.
  content_means : (ys : List ℤ) (p : ℕ) → content_at ys p ≡ in_limit (value_at ys (suc p))
  unfolding content_at value_at
  content_means ys p = refl

  limited : Opens s xs → has_rates s xs ≡ true → all (content_at xs) (length xs) ≡ true
  limited o e = all_from (content_at xs) (length xs) (λ p h. at_place p (omega (arith, o.long)))
    where
      rs : List ℤ
      rs = rates_of s xs

      there : AreRates s rs × (coefficients_of s rs ≡ xs)
      there = has_rates_lem s xs o.long e

      at_place : (p : ℕ) → p < points_of s → content_at xs p ≡ true
      at_place p h =
          content_means xs p
          ∙ ap (λ (l : List ℤ). in_limit (value_at l (suc p))) (sym there.1)
          ∙ ap in_limit (coefficient_at s rs p h)
          ∙ table_in_limit (neighbour s) every_axis s.axes (value_at rs) o.range.high (rates_of_list s rs there.0).small (suc p)

  not_limited : Opens s xs → all (content_at xs) (length xs) ≡ false → has_rates s xs ≡ false
  not_limited o e = true_or_false (has_rates s xs) (λ yes. absurd (true≢false (sym (limited o yes) ∙ e))) (λ no_rates. no_rates)

  unchecked_rates : (r : Refusal) → check_table s xs ≡ Err r → coefficients_to_rates s xs ≡ left (Err r) xs
  unfolding coefficients_to_rates
  unchecked_rates r e = rw e

  -- What adopt refuses.
  pub adopt_refuses : (r : Refusal) → Err r ≡ adopt s xs → left (Err r) xs ≡ coefficients_to_rates s xs
  adopt_refuses r e = go (check_table s xs) refl
    where
      go : (v : Verdict) → check_table s xs ≡ v → left (Err r) xs ≡ coefficients_to_rates s xs
      go (Ok _) passed =
          true_or_false (all (content_at xs) (length xs))
          (λ yes. refused_done r (adopted s) (e ∙ adopt_done s xs passed yes))
          (λ past.
          rw (same_refusal r Contents (e ∙ adopt_refused s xs passed past))
          (sym (refused_rates passed (not_limited (table_passed s xs passed) past))))
      go (Err w) refused =
          rw (same_refusal r w (e ∙ adopt_unchecked s xs w refused)) (sym (unchecked_rates w refused))

  -- What it accepts.
  adopt_accepts : (st : State) → Ok st ≡ adopt s xs → (check_table s xs ≡ Ok tt) × (all (content_at xs) (length xs) ≡ true)
  adopt_accepts st e = go (check_table s xs) refl
    where
      go : (v : Verdict) → check_table s xs ≡ v → (check_table s xs ≡ Ok tt) × (all (content_at xs) (length xs) ≡ true)
      go (Ok _) passed =
          true_or_false (all (content_at xs) (length xs))
          (λ inside. (passed, inside))
          (λ past. refused_done Contents st (sym (e ∙ adopt_refused s xs passed past)))
      go (Err w) refused = refused_done w st (sym (e ∙ adopt_unchecked s xs w refused))

  module _ (st : State) (done : Ok st ≡ adopt s xs) where
    passed : check_table s xs ≡ Ok tt
    passed = (adopt_accepts st done).0

    opened : Opens s xs
    opened = table_passed s xs passed

    pub adopt_opens : InTable s xs
    adopt_opens =
        record { shape = in_range_passed s opened.range; long = opened.long; contents = (adopt_accepts st done).1 }

    -- After the turns down from it: k axes are still forward.
    module _ (k : ℕ) (ys : List ℤ) (down : gone k ys ≡ descent s.axes s xs) where
      ended : Ended s xs opened.long opened.range (gone k ys)
      ended = rw down (descends s xs opened.long opened.range s.axes xs (omega arith) (starts s xs opened.long) adopt_opens)

      pub descended : InTable s ys
      descended = ended.inside

      restored : (zs : List ℤ) → zs ≡ ascent (s.axes - k) k s ys → zs ≡ xs
      restored zs up = up ∙ undone s xs opened.long k ys ended.few ended.going

      -- A turn was refused.
      pub turn_refuses : (zs : List ℤ) → 0 < k → zs ≡ ascent (s.axes - k) k s ys → left (Err Contents) zs ≡ coefficients_to_rates s xs
      turn_refuses zs more up = ap (left (Err Contents)) (restored zs up) ∙ sym (refused_rates passed (ended.stops more))

      -- None was.
      module _ (none : k ≤ 0) where
        zero : k ≡ 0
        zero = omega arith

        all_back : Going s xs opened.long 0 ys
        all_back = subst (λ (a : ℕ). Going s xs opened.long a ys) zero ended.going

        unload_says : unload (state_of s 0) ys ≡ left_by ys (unless (all (scaled_at s.axes ys) (length ys)) Contents) (map (quotient s.axes) ys)
        unload_says = unload_is s opened.range xs opened.long ys all_back

        pub unload_passes : (zs : List ℤ) → left (Ok tt) zs ≡ unload (state_of s 0) ys → left (Ok tt) zs ≡ coefficients_to_rates s xs
        unload_passes zs e =
            let d = left_passed ys zs (map (quotient s.axes) ys) (all (scaled_at s.axes ys) (length ys)) (e ∙ unload_says) in
            ap (left (Ok tt)) (d.1 ∙ divided s opened.range xs opened.long ys all_back)
            ∙ sym (passed_rates passed (unloaded s opened.range xs opened.long ys all_back d.0))

        -- Where unload refuses, it leaves the table, and the turns up lead back from there.
        module _ (r : Refusal) (zs : List ℤ) (e : left (Err r) zs ≡ unload (state_of s 0) ys) where
          kept_there : (all (scaled_at s.axes ys) (length ys) ≡ false) × (zs ≡ ys)
          kept_there = left_refused ys zs (map (quotient s.axes) ys) (all (scaled_at s.axes ys) (length ys)) r (e ∙ unload_says)

          pub unload_keeps : InTable s zs
          unload_keeps = rw kept_there.1 ended.inside

          pub unload_refuses : (ws : List ℤ) → ws ≡ ascent (s.axes - 0) 0 s zs → left (Err Contents) ws ≡ coefficients_to_rates s xs
          unload_refuses ws up =
              let same : ws ≡ ascent (s.axes - k) k s ys = up ∙ ap₂ (λ (a : ℕ) (l : List ℤ). ascent (s.axes - a) a s l) (sym zero) kept_there.1 in
              ap (left (Err Contents)) (restored ws same)
              ∙ sym (refused_rates passed (not_unloaded s opened.range xs opened.long ys all_back kept_there.0))
