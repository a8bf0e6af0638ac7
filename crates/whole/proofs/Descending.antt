-- Back turns, one after another from the last axis down, until one is refused. What the axes turned back have left, with the axes still to go turned back too,
-- is the table at the start turned back on all. So the forward turns of the axes turned back lead to the table at the start again. And where that one has
-- rates, what they have left is the sweep of the axes still forward, whose forward turns are accepted: no back turn is refused then.
-- Assumes nothing.
use mathlib.Core.Path.{◌≡◌, refl, ap, sym, ◌∙◌}
use mathlib.Core.Bool.{true, false, true≢false}
use mathlib.Core.List.{List}
use Prim.Native.Nat.{ℕ, zero, suc, ◌+◌, ◌-◌, ◌≤◌, ◌<◌}
use native.Mathlib.Omega.{arith}
use lib.IntN.{ℤ}
use lib.ListN.{length}
use Rattle.naturals.specs.Test.{all}
use Rattle.naturals.proofs.Cases.{true_or_false}
use Rattle.integers.specs.Half.{content_at}
use Rattle.hierarchy.specs.Turns.{value_at, values_of, accepted, backward}
use Rattle.hierarchy.specs.Sets.{scaled, swept, every_axis}
use Rattle.hierarchy.proofs.Values.{value_zero, values_of_value}
use Rattle.shapes.specs.declared.Shape.{Shape}
use Rattle.shapes.specs.Shapes.{points_of}
use Rattle.shapes.proofs.Checked.{InRange}
use Rattle.grids.specs.Grids.{neighbour, height}
use Rattle.grids.specs.Turned.{former_table}
use Rattle.grids.proofs.Turned.{former_length, former_holds}
use Rattle.turns.specs.Turns.{is_accepted}
use Rattle.turns.proofs.Accepting.{before_refuses}
use Rattle.whole.specs.Whole.{back_all, rates_of, has_rates}
use Rattle.whole.specs.Steps.{InTable, ascent, Gone, gone, descent}
use Rattle.whole.proofs.AllAxes.{swept_of_back}
use Rattle.whole.proofs.FirstAxes.{first_accepted}
use Rattle.whole.proofs.Inverse.{AreRates, back_of_list, has_rates_lem}
use Rattle.whole.proofs.Loading.{rates_of_list}
use Rattle.whole.proofs.Climbing.{ascends}

module _ (s : Shape) where
  back_next : (a : ℕ) (f : ℕ → ℤ) → back_all s (suc a) f ≡ back_all s a (backward (neighbour s) (height s) a f)
  unfolding back_all
  back_next a f = refl

  descent_none : (xs : List ℤ) → descent 0 s xs ≡ gone 0 xs
  unfolding descent
  descent_none xs = refl

  module _ (a : ℕ) (xs : List ℤ) where
    descent_done : is_accepted s a (former_table s a xs) ≡ true → descent (suc a) s xs ≡ descent a s (former_table s a xs)
    unfolding descent
    descent_done e = rw e

    descent_refused : is_accepted s a (former_table s a xs) ≡ false → descent (suc a) s xs ≡ gone (suc a) xs
    unfolding descent
    descent_refused e = rw e

  -- What an accepted back turn leaves is within the limit, as the forward turn from there asks just this.
  pub former_inside : (a : ℕ) (xs : List ℤ) → InTable s xs → is_accepted s a (former_table s a xs) ≡ true → InTable s (former_table s a xs)
  former_inside a xs i e =
      let ys = former_table s a xs in
      let long = former_length s a xs in
      record {
        shape = i.shape;
        long = long;
        contents =
            true_or_false (all (content_at ys) (length ys))
            (λ inside. inside)
            (λ past. absurd (true≢false (sym e ∙ before_refuses s a ys long past)));
      }

  -- As the code counts: from an axis down.
  pub down_done : (k : ℕ) (xs : List ℤ) → 0 < k → is_accepted s (k - 1) (former_table s (k - 1) xs) ≡ true →
      descent (k - 1) s (former_table s (k - 1) xs) ≡ descent k s xs
  down_done zero xs h e = absurd (omega arith)
  down_done (suc k) xs h e =
      let same : suc k - 1 ≡ k = omega arith in
      rw same (sym (descent_done k xs (rw same at e)))

  pub down_refused : (k : ℕ) (xs : List ℤ) → 0 < k → is_accepted s (k - 1) (former_table s (k - 1) xs) ≡ false → gone k xs ≡ descent k s xs
  down_refused zero xs h e = absurd (omega arith)
  down_refused (suc k) xs h e =
      let same : suc k - 1 ≡ k = omega arith in
      sym (descent_refused k xs (rw same at e))

  pub down_ends : (k : ℕ) (xs : List ℤ) → k ≤ 0 → gone 0 xs ≡ descent k s xs
  down_ends k xs h =
      let none : k ≡ 0 = omega arith in
      rw none (sym (descent_none xs))

module _ (s : Shape) (xs₀ : List ℤ) (len : length xs₀ ≡ points_of s) where
  -- The first a axes are still forward: with these turned back too, the table is the one at the start turned back on all.
  pub record Going (a : ℕ) (xs : List ℤ) : Type 0 where
    pub long : length xs ≡ points_of s
    pub rest : back_all s a (value_at xs) ≡ back_all s s.axes (value_at xs₀)

  pub starts : Going s.axes xs₀
  starts = record { long = len; rest = refl }

  -- One axis fewer.
  one_down : (a : ℕ) (xs : List ℤ) → Going (suc a) xs → Going a (former_table s a xs)
  one_down a xs g =
      record {
        long = former_length s a xs;
        rest = ap (back_all s a) (former_holds s a xs g.long) ∙ sym (back_next s a (value_at xs)) ∙ g.rest;
      }

  -- So it is that table swept on the first a axes.
  still_swept : (a : ℕ) (xs : List ℤ) → Going a xs → value_at xs ≡ swept (neighbour s) every_axis a (back_all s s.axes (value_at xs₀))
  still_swept a xs g =
      sym (swept_of_back s a (value_at xs) (value_zero xs)) ∙ ap (swept (neighbour s) every_axis a) g.rest

  -- The forward turns of the other axes lead back to the table at the start.
  pub undone : (a : ℕ) (xs : List ℤ) → a ≤ s.axes → Going a xs → ascent (s.axes - a) a s xs ≡ xs₀
  undone a xs h g =
      let all : a + (s.axes - a) ≡ s.axes = omega arith in
      let back = back_all s s.axes (value_at xs₀) in
      ascends s (s.axes - a) a back xs g.long (still_swept a xs g)
      ∙ ap (λ (n : ℕ). values_of (points_of s) (swept (neighbour s) every_axis n back)) all
      ∙ ap (values_of (points_of s)) (swept_of_back s s.axes (value_at xs₀) (value_zero xs₀))
      ∙ values_of_value (points_of s) xs₀ len

  module _ (range : InRange s) where
    -- Where the table has rates, they are accepted, and what is left is theirs.
    pub rates_there : has_rates s xs₀ ≡ true → AreRates s (rates_of s xs₀)
    rates_there e = (has_rates_lem s xs₀ len e).0

    pub still_theirs : has_rates s xs₀ ≡ true → (a : ℕ) (xs : List ℤ) → Going a xs →
        value_at xs ≡ swept (neighbour s) every_axis a (scaled s.axes (value_at (rates_of s xs₀)))
    still_theirs e a xs g =
        let rates = has_rates_lem s xs₀ len e in
        still_swept a xs g
        ∙ ap (λ (l : List ℤ). swept (neighbour s) every_axis a (back_all s s.axes (value_at l))) (sym rates.1)
        ∙ ap (swept (neighbour s) every_axis a) (back_of_list s (rates_of s xs₀) rates.0.long)

    -- So the back turn is accepted.
    goes_down : has_rates s xs₀ ≡ true → (a : ℕ) (xs : List ℤ) → a < s.axes → Going (suc a) xs → is_accepted s a (former_table s a xs) ≡ true
    unfolding is_accepted
    goes_down e a xs h g =
        let rates = rates_of_list s (rates_of s xs₀) (rates_there e) in
        ap (accepted (neighbour s) (points_of s) a) (still_theirs e a (former_table s a xs) (one_down a xs g))
        ∙ first_accepted s a (value_at (rates_of s xs₀)) h range.high rates.small

    stopped : (a : ℕ) (xs : List ℤ) → a < s.axes → Going (suc a) xs → is_accepted s a (former_table s a xs) ≡ false → has_rates s xs₀ ≡ false
    stopped a xs h g e =
        true_or_false (has_rates s xs₀) (λ yes. absurd (true≢false (sym (goes_down yes a xs h g) ∙ e))) (λ none. none)

    -- Where the back turns end.
    pub record Ended (g : Gone) : Type 0 where
      pub few : g.forward ≤ s.axes
      pub going : Going g.forward g.table
      pub inside : InTable s g.table
      pub stops : 0 < g.forward → has_rates s xs₀ ≡ false

    pub descends : (a : ℕ) (xs : List ℤ) → a ≤ s.axes → Going a xs → InTable s xs → Ended (descent a s xs)
    descends zero xs h g i =
        rw (descent_none s xs)
        record { few = h; going = g; inside = i; stops = λ more. absurd (omega arith) }
    descends (suc a) xs h g i =
        true_or_false (is_accepted s a (former_table s a xs))
        (λ yes.
        rw (descent_done s a xs yes)
        (descends a (former_table s a xs) (omega arith) (one_down a xs g) (former_inside s a xs i yes)))
        (λ e.
        rw (descent_refused s a xs e)
        record { few = h; going = g; inside = i; stops = λ more. stopped a xs h g e })
