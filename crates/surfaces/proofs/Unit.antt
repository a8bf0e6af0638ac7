-- The unit is a power of two, so a coordinate i / 2^(l+1) is a whole multiple of unit / 2^(l+1). How many factors of two it has is the constant of the
-- code, and that the two agree is computed here and in no other proof.
-- Assumes nothing.
use mathlib.Core.Path.{◌≡◌, refl, ap, sym, ◌∙◌}
use Prim.Native.Nat.{ℕ, suc, ◌+◌, ◌-◌, ◌*◌, ◌/◌, ◌^◌, ◌≤◌, ◌<◌}
use native.Mathlib.Nat.{mul-div_cancel}
use native.Mathlib.Omega.{arith}
use lib.Pow.{pow-add, pow_pos}
use Rattle.numbered.specs.Numbered.{Numbered}
use Rattle.surfaces.specs.declared.TheConstants.{BITS}
use Rattle.surfaces.specs.Weights.{unit, coordinate}

-- How many factors of two the unit has.
abbrev pub unit_bits : ℕ
unit_bits = BITS

pub unit_is : unit ≡ 2 ^ unit_bits
unfolding unit
unit_is = refl

pub unit_pos : 0 < unit
unit_pos = omega (arith, unit_is, pow_pos unit_bits)

-- ---- a unit u with b factors of two

-- The unit over 2^k.
pub record Share (u k : ℕ) : Type 0 where
  pub share : ℕ
  pub whole : share * 2 ^ k ≡ u

pub unit_splits : (u b k : ℕ) → u ≡ 2 ^ b → k ≤ b → Share u k
unit_splits u b k binary few =
    let again : b - k + k ≡ b = omega arith in
    record {
      share = 2 ^ (b - k);
      whole = sym (pow-add 2 (b - k) k) ∙ ap (λ (e : ℕ). 2 ^ e) again ∙ sym binary;
    }

-- Every level is below the factors of two of the unit, so that coordinates are whole.
abbrev pub WholeCoordinates : ℕ → Numbered → Type 0
WholeCoordinates b g = (p t : ℕ) → p < g.count → t < g.axes → g.level p t < b

-- A point's coordinate is m shares of level l where its index over 2^(k+1) is m over 2^(l+1).
pub coordinate_is : (u l m k i v : ℕ) → v * 2 ^ suc l ≡ u → i * 2 ^ suc l ≡ m * 2 ^ suc k → coordinate u k i ≡ m * v
unfolding coordinate
coordinate_is u l m k i v whole same =
    ap (λ (x : ℕ). x / 2 ^ suc k) shares ∙ mul-div_cancel (m * v) (pow_pos (suc k))
  where
    shares : i * u ≡ m * v * 2 ^ suc k
    shares = regroup (2 ^ suc l) (2 ^ suc k) u whole same
      where
        regroup : (a b u : ℕ) → v * a ≡ u → i * a ≡ m * b → i * u ≡ m * v * b
        regroup a b u e f = omega (arith, ap (λ (x : ℕ). i * x) e, ap (λ (x : ℕ). v * x) f)
