-- The shifts of weights and cells lose nothing: coordinates are at most the unit, levels at most 8 and indices below 2^9, so all stays far below 2^64.
-- Assumes nothing.
use mathlib.Core.Path.{◌≡◌, refl, ap, sym, ◌∙◌}
use Prim.Native.Nat.{ℕ, zero, suc, ◌+◌, ◌*◌, ◌/◌, ◌%◌, ◌^◌, ◌≤◌, ◌<◌}
use native.Mathlib.Nat.{suc-mul, mul_comm, mul-le-mul_right, pow-suc, div-lt_iff_lt-mul}
use native.Mathlib.Numerals.{add-one}
use native.Mathlib.Omega.{arith}
use lib.Pow.{pow_pos, pow_mono, shl_exact}
use borrow.Author.Tests.{lt-ltb, le-ltb}
use Rattle.std.specs.Int.{abs_diff}
use Rattle.naturals.proofs.Cases.{le_or_lt}
use Rattle.surfaces.specs.Weights.{unit, distance}
use Rattle.surfaces.proofs.Unit.{unit_bits, unit_is}
use Rattle.surfaces.specs.Weights.{axis_weight}
use Rattle.surfaces.proofs.AxisHat.{weight_upper}
use Rattle.axis_weights.specs.Steps.{cell_of, marked_cell, index_of_cell}

module _ (x l : ℕ) (small : x ≤ unit) (low : l ≤ 8) where
  pub here_shifted : x * 2 ^ (l + 1) % 2 ^ 64 ≡ x * 2 ^ suc l
  here_shifted =
      shl_exact {a = x} (suc unit_bits) (l + 1) 64 (omega (arith, unit_is)) (omega arith) ∙ ap (λ (k : ℕ). x * 2 ^ k) (add-one l)

  pub cell_shifted : x * 2 ^ l % 2 ^ 64 ≡ x * 2 ^ l
  cell_shifted = shl_exact {a = x} (suc unit_bits) l 64 (omega (arith, unit_is)) (omega arith)

pub centre_shifted : (l i : ℕ) → l ≤ 8 → i < 2 ^ suc l → i * 2 ^ unit_bits % 2 ^ 64 ≡ i * unit
centre_shifted l i low below = shl_exact {a = i} (suc l) unit_bits 64 below (omega arith) ∙ ap (λ (u : ℕ). i * u) (sym unit_is)

-- The larger less the smaller is the distance: of the two differences one is 0.
pub apart_is : (a b : ℕ) → abs_diff a b ≡ distance a b
unfolding distance
apart_is a b = omega arith

-- The cell is one of its level, and its index one of the level's.
module _ (x l : ℕ) where
  pub cell_inside : x < unit → cell_of x l ≡ x * 2 ^ l / unit
  unfolding cell_of
  cell_inside h = rw (lt-ltb x unit h)

  pub cell_border : unit ≤ x → cell_of x l ≡ 0
  unfolding cell_of
  cell_border h = rw (le-ltb x unit h)

  pub cell_below : cell_of x l < 2 ^ l
  cell_below =
      le_or_lt unit x
      (λ border. rw (cell_border border) (pow_pos l))
      (λ inside.
      rw (cell_inside inside)
      ((div-lt_iff_lt-mul {k = unit} {x = x * 2 ^ l} {y = 2 ^ l} (omega (arith, unit_is))).1
      (omega (arith, mul-le-mul_right (2 ^ l) inside, suc-mul x (2 ^ l), pow_pos l, mul_comm unit (2 ^ l)))))

  pub index_below : index_of_cell (cell_of x l) < 2 ^ suc l
  index_below = omega (arith, cell_below, pow-suc 2 l)

  pub cell_small : l ≤ 8 → cell_of x l < 256
  cell_small low = omega (arith, cell_below, pow_mono {i = l} {j = 8} low)

-- The same with marks: on a border there is one cell, and the coordinate is in it.
module _ (x : ℕ) where
  pub marked_cell_inside : (a l : ℕ) → a ≡ 0 → marked_cell x a l ≡ cell_of x l
  unfolding marked_cell
  marked_cell_inside a l e = rw e refl

  pub marked_cell_border : (a l : ℕ) → 0 < a → marked_cell x a l ≡ 0
  unfolding marked_cell
  marked_cell_border zero l some = absurd (omega arith)
  marked_cell_border (suc a) l some = refl

  pub marked_cell_below : (a l : ℕ) → marked_cell x a l < 2 ^ l
  marked_cell_below zero l = rw (marked_cell_inside 0 l refl) (cell_below x l)
  marked_cell_below (suc a) l = rw (marked_cell_border (suc a) l (omega arith)) (pow_pos l)

  pub marked_index_below : (a l : ℕ) → index_of_cell (marked_cell x a l) < 2 ^ suc l
  marked_index_below a l = omega (arith, marked_cell_below a l, pow-suc 2 l)

  -- The weight on an upper border.
  pub border_upper : (a : ℕ) → 1 ≤ a → (a ≡ 1 → ⊥) → x ≡ axis_weight unit x a 0 1
  border_upper zero some ne = absurd (omega arith)
  border_upper (suc zero) some ne = absurd (ne refl)
  border_upper (suc (suc a)) some ne = sym (weight_upper unit x 0 1 a)
