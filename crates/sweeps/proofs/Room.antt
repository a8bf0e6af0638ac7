-- How large a turn makes the values of a table. Forward, a value loses half the sum of two others, so it at most doubles. Back, the value at a point is its own
-- and half the sum of two results that have one parent less above them, so each step up adds at most the bound once more, and there are at most ten.
-- Assumes nothing.
use mathlib.Core.Path.{◌≡◌, ap}
use mathlib.Core.List.{List}
use Prim.Native.Nat.{ℕ, zero, suc, ◌*◌, ◌≤◌}
use native.Mathlib.Nat.{suc-mul, mul-le-mul_right}
use native.Mathlib.Omega.{arith}
use lib.IntN.{ℤ, nat_abs, ◌+ℤ◌}
use lib.ListN.{length}
use Rattle.integers.specs.Half.{half}
use Rattle.integers.proofs.Sizes.{sum_size, difference_size}
use Rattle.integers.proofs.Steps.{sum_within, half_within}
use Rattle.numbering.specs.declared.Side.TheVariants.{Left, Right}
use Rattle.hierarchy.specs.Grid.{Neighbours}
use Rattle.hierarchy.specs.Turns.{value_at, sum_on, forward, backward}
use Rattle.shapes.specs.Shapes.{points_of}
use Rattle.shapes.specs.declared.Shape.{Shape}
use Rattle.grids.specs.Grids.{neighbour, height}
use Rattle.grids.specs.Turned.{turned_table, former_table}
use Rattle.grids.proofs.Turned.{turned_holds, former_holds}
use Rattle.lists.specs.Steps.{NoLarger}

-- ---- tables as functions

module _ (nb : Neighbours) (t b : ℕ) (f : ℕ → ℤ) (small : (p : ℕ) → nat_abs (f p) ≤ b) where
  forward_size : (p : ℕ) → nat_abs (forward nb t f p) ≤ 2 * b
  unfolding forward sum_on
  forward_size p =
      let left : ℤ = f (nb t Left p) in
      let right : ℤ = f (nb t Right p) in
      omega (
        arith,
        difference_size (f p) (half (left +ℤ right)),
        half_within b (left +ℤ right) (sum_within b left right (small (nb t Left p)) (small (nb t Right p))),
        small p,
      )

  backward_size : (k p : ℕ) → nat_abs (backward nb k t f p) ≤ suc k * b
  unfolding backward
  backward_size zero p = omega (arith, small p)
  backward_size (suc k) p =
      let left : ℤ = backward nb k t f (nb t Left p) in
      let right : ℤ = backward nb k t f (nb t Right p) in
      let most : ℕ = suc k * b in
      omega (
        arith,
        sum_size (f p) (half (left +ℤ right)),
        half_within most (left +ℤ right) (sum_within most left right (backward_size k (nb t Left p)) (backward_size k (nb t Right p))),
        small p,
        suc-mul (suc k) b,
      )

-- ---- tables of a shape

module _ (s : Shape) (t : ℕ) (xs : List ℤ) (b : ℕ) (long : length xs ≡ points_of s) where
  pub turned_within : NoLarger b xs → NoLarger (2 * b) (turned_table s t xs)
  turned_within small code =
      omega (
        arith,
        ap (λ (f : ℕ → ℤ). nat_abs (f code)) (turned_holds s t xs long),
        forward_size (neighbour s) t b (value_at xs) small code,
      )

  pub former_within : height s ≤ 10 → NoLarger b xs → NoLarger (11 * b) (former_table s t xs)
  former_within low small code =
      omega (
        arith,
        ap (λ (f : ℕ → ℤ). nat_abs (f code)) (former_holds s t xs long),
        backward_size (neighbour s) t b (value_at xs) small (height s) code,
        mul-le-mul_right {m = suc (height s)} {n = 11} b (omega arith),
      )
