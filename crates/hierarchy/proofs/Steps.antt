-- One turn on the table of a set: forward on an axis that is not in it is accepted and gives the table of the set with it, back on one that is
-- gives the table of the set without it. From the closed form, in which a turn of an axis exchanges that axis's doubling.
-- Assumes nothing.
use mathlib.Core.Path.{◌≡◌, ap, sym, ◌∙◌, fun_ext}
use mathlib.Core.Bool.{Bool, true}
use Prim.Native.Nat.{ℕ, zero, suc, ◌^◌, ◌≤◌, ◌<◌}
use native.Mathlib.Omega.{arith}
use lib.IntN.{ℤ, pos, nat_abs}
use Rattle.naturals.proofs.Cases.{true_or_false}
use Rattle.naturals.proofs.Tests.{all_from}
use Rattle.numbering.specs.declared.Side.{Side}
use Rattle.numbering.specs.declared.Side.TheVariants.{Left, Right}
use Rattle.integers.specs.Half.{is_even, in_limit}
use Rattle.hierarchy.specs.Grid.{Neighbours, Grid}
use Rattle.hierarchy.specs.Turns.{sum_on, forward, accepted_at, accepted, backward}
use Rattle.hierarchy.specs.Sets.{table_of}
use Rattle.hierarchy.proofs.Turned.{twice, turned, twice_even, forward_twice}
use Rattle.hierarchy.proofs.Closed.{closed, table_closed, With, Step, step}
use Rattle.hierarchy.proofs.Inverse.{back_of_forward}
use Rattle.hierarchy.proofs.Bounds.{in_limit_lem}

module _ (m : ℕ) (nb : Neighbours) (depth : ℕ → ℕ → ℕ) (grid : Grid m nb depth) where
  -- Nothing at the border and past the points.
  closed_still : (set : ℕ → Bool) (k : ℕ) (r : ℕ → ℤ) → r 0 ≡ pos 0 → (p : ℕ) → r p ≡ pos 0 →
      ((t : ℕ) (b : Side) → nb t b p ≡ 0) → ((j : ℕ) → j < k → closed nb set j r 0 ≡ pos 0) → closed nb set k r p ≡ pos 0
  unfolding closed twice turned
  closed_still set zero r z p e still below = e
  closed_still set (suc k) r z p e still below =
      let here = closed_still set k r z p e still (λ j h. below j (omega arith)) in
      true_or_false (set k)
      (λ b. rw (b, still k Left, still k Right, here, below k (omega arith)))
      (λ b. rw (b, here))

  closed_zero : (set : ℕ → Bool) (k : ℕ) (r : ℕ → ℤ) → r 0 ≡ pos 0 → closed nb set k r 0 ≡ pos 0
  unfolding closed twice turned
  closed_zero set zero r z = z
  closed_zero set (suc k) r z =
      true_or_false (set k)
      (λ b. rw (b, grid.border k Left, grid.border k Right, closed_zero set k r z))
      (λ b. rw (b, closed_zero set k r z))

  pub table_zero : (d : ℕ) (set : ℕ → Bool) (r : ℕ → ℤ) → r 0 ≡ pos 0 → table_of nb d set r 0 ≡ pos 0
  table_zero d set r z = ap (λ (f : ℕ → ℤ). f 0) (table_closed nb d set r) ∙ closed_zero set d r z

  pub table_past : (d : ℕ) (set : ℕ → Bool) (r : ℕ → ℤ) → r 0 ≡ pos 0 → (p : ℕ) → m < p → r p ≡ pos 0 → table_of nb d set r p ≡ pos 0
  table_past d set r z p h e =
      ap (λ (f : ℕ → ℤ). f p) (table_closed nb d set r)
      ∙ closed_still set d r z p e (λ t b. grid.past t b p h) (λ j lt. closed_zero set j r z)

  module _ (d t : ℕ) (r : ℕ → ℤ) (axis : t < d) (set other : ℕ → Bool) (w : With nb t set other) where
    one_step : Step nb d t set other r
    one_step = step nb m depth grid d t set other r axis w

    table_before : table_of nb d set r ≡ twice one_step.rest
    table_before = table_closed nb d set r ∙ one_step.before

    table_after : table_of nb d other r ≡ turned nb t one_step.rest
    table_after = table_closed nb d other r ∙ one_step.after

    pub forward_table : forward nb t (table_of nb d set r) ≡ table_of nb d other r
    forward_table = ap (forward nb t) table_before ∙ forward_twice nb t one_step.rest ∙ sym table_after

    pub sums_even : (p : ℕ) → is_even (sum_on nb t (table_of nb d set r) p) ≡ true
    sums_even p = ap (λ (f : ℕ → ℤ). is_even (sum_on nb t f p)) table_before ∙ twice_even nb t one_step.rest p

    pub forward_accepted : d ≤ 8 → ((p : ℕ) → nat_abs (r p) ≤ 2 ^ 31) → accepted nb m t (table_of nb d set r) ≡ true
    unfolding accepted accepted_at
    forward_accepted few small =
        all_from (accepted_at nb t (table_of nb d set r)) m
        (λ p h.
        rw (
          ap (λ (f : ℕ → ℤ). in_limit (f (suc p))) (table_closed nb d set r) ∙ in_limit_lem nb set d r few small (suc p),
          sums_even (suc p),
          ap (λ (f : ℕ → ℤ). in_limit (f (suc p))) (forward_table ∙ table_closed nb d other r) ∙ in_limit_lem nb other d r few small (suc p),
        ))

    pub back_table : (k : ℕ) → r 0 ≡ pos 0 → ((p : ℕ) → depth t p < k) → backward nb k t (table_of nb d other r) ≡ table_of nb d set r
    back_table k z shallow =
        ap (backward nb k t) (sym forward_table)
        ∙ fun_ext (λ p. back_of_forward m nb depth grid t k (table_of nb d set r) (table_zero d set r z) p (shallow p))
