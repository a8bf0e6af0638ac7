-- One shifted by fewer bits than the width has is that power of two: no bit is lost.
-- Assumes nothing.
use mathlib.Core.Path.{◌≡◌, ap, ◌∙◌}
use Prim.Native.Nat.{ℕ, ◌*◌, ◌%◌, ◌^◌, ◌<◌}
use native.Mathlib.Nat.{mod-eq_of_lt, one-mul}
use lib.Pow.{pow-lt}

pub one_shifted : (w t : ℕ) → t < w → 1 * 2 ^ t % 2 ^ w ≡ 2 ^ t
one_shifted w t h = ap (λ (x : ℕ). x % 2 ^ w) (one-mul (2 ^ t)) ∙ mod-eq_of_lt (pow-lt h)
