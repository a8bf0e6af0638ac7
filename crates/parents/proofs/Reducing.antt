-- The numerator of a neighbour as the code reads it. The two tests are those of the border; within the borders the 32 bits hold the numerator, so their
-- trailing zeros are its factors of two, of which there are no more than the level.
-- Assumes nothing.
use mathlib.Core.Bool.{true}
use mathlib.Core.Path.{◌≡◌, ap, sym, ◌∙◌}
use Prim.Native.Nat.{ℕ, suc, ◌-◌, ◌*◌, ◌/◌, ◌%◌, ◌^◌, ◌≤◌}
use native.Mathlib.Omega.{arith}
use lib.Count.{count_trailing_zeros}
use lib.Dec.{eqb}
use lib.Pow.{pow_mono}
use borrow.Author.Tests.{ne_eqb}
use Rattle.numbering.specs.Parent.{is_border, twos, parent_level, parent_index}
use Rattle.numbering.proofs.Twos.{twos_are}
use Rattle.numbering.proofs.Parents.{border_low, Inside, twos_le}
use Rattle.points.proofs.PointTest.{shifted}

pub at_zero : (l m : ℕ) → m ≡ 0 → true ≡ is_border l m
at_zero l m e = sym (ap (is_border l) e ∙ border_low l)

pub past_zero : (l m : ℕ) → l ≤ 8 → (m ≡ 0 → ⊥) → eqb m (2 * 2 ^ l % 2 ^ 32) ≡ is_border l m
unfolding is_border
past_zero l m small ne = rw (shifted l small, ne_eqb m 0 ne)

module _ (l m : ℕ) (small : l ≤ 8) (between : Inside l m) where
  zeros_are : count_trailing_zeros 32 m ≡ twos m
  zeros_are = twos_are 32 m between.pos (omega (arith, between.below, pow_mono {i = suc l} {j = 32} (omega arith)))

  pub zeros_le : count_trailing_zeros 32 m ≤ l
  zeros_le = omega (arith, zeros_are, twos_le l m between)

  pub level_is : l - count_trailing_zeros 32 m ≡ parent_level l m
  unfolding parent_level
  level_is = ap (λ (z : ℕ). l - z) zeros_are

  pub index_is : m / 2 ^ count_trailing_zeros 32 m ≡ parent_index m
  unfolding parent_index
  index_is = ap (λ (z : ℕ). m / 2 ^ z) zeros_are
