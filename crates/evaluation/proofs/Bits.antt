-- A test as a bit, 1 or 0, as the table of hats keeps it: the bit says what the test does, and the bits of two tests together are the bit of both.
-- Assumes nothing.
use mathlib.Core.Bool.{Bool, true, false, ◌&&◌, not}
use mathlib.Core.Path.{◌≡◌, refl}
use Prim.Native.Nat.{ℕ, zero, suc, ◌≤◌}
use native.Mathlib.Omega.{arith}
use lib.Bits.{bit_and}
use lib.Dec.{eqb, ltb}
use mir.Val.{bool_byte}
use Rattle.interpolation.specs.Hats.{indicator}

pub bit_byte : (b : Bool) → bool_byte b ≡ indicator b
bit_byte true = refl
bit_byte false = refl

pub bit_small : (b : Bool) → indicator b ≤ 1
bit_small true = omega arith
bit_small false = omega arith

pub bit_above : (b : Bool) → ltb 0 (indicator b) ≡ b
bit_above true = refl
bit_above false = refl

pub bit_is : (b : Bool) → not (eqb (indicator b) 0) ≡ b
bit_is true = refl
bit_is false = refl

pub bit_of_both : (b : Bool) (a : ℕ) → a ≤ 1 → bit_and (indicator b) a ≡ indicator (b && ltb 0 a)
bit_of_both true zero h = refl
bit_of_both false zero h = refl
bit_of_both true (suc zero) h = refl
bit_of_both false (suc zero) h = refl
bit_of_both b (suc (suc a)) h = absurd (omega arith)
