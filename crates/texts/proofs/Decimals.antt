-- The decimal digits of the report are the text that the library makes of a number, and there are at most 20.
-- Assumes nothing.
use mathlib.Core.Path.{◌≡◌, refl, sym, ap}
use mathlib.Core.Bool.{Bool, true, false, false≢true}
use mathlib.Core.List.{List, [], ◌∷◌}
use Prim.Native.Nat.{ℕ, zero, suc, ◌+◌, ◌/◌, ◌%◌, ◌^◌, ◌≤◌, ◌<◌}
use native.Mathlib.Omega.{arith}
use lib.Dec.{ltb}
use lib.IntN.{ℤ, pos, negsuc, nat_abs}
use lib.ListN.{length, length-append}
use lib.Signed.{mag, lt_z}
use borrow.Author.Tests.{lt-ltb, le-ltb, ltb-true}
use Rattle.std.specs.Fmt as printed
use Rattle.std.proofs.lemmas.Fmt.{AppendsLastDigit, decimal_from_appends, length-decimal-le}
use Rattle.texts.specs.Text.{digit, digits_of, decimal, signed}

appends : AppendsLastDigit digits_of
unfolding digits_of
appends = record { one = λ k n h. rw (lt-ltb n 10 h); more = λ k n h. rw (le-ltb n 10 h) }

-- A number of 64 bits, as the library prints it.
pub printed_decimal : (n : ℕ) → n < 2 ^ 64 → printed.decimal n ≡ decimal n
unfolding decimal
printed_decimal n h = sym (decimal_from_appends digits_of appends 20 n h (length-decimal-le 20 n (omega arith) (omega arith) h))

-- A whole number that is less than 2 ^ 64 from zero, as the library prints it.
pub printed_signed : (v : ℤ) → mag v + 1 < 2 ^ 64 → printed.signed_decimal v ≡ signed v
unfolding signed
printed_signed (pos n) h = printed_decimal n (omega arith)
printed_signed (negsuc n) h = ap (λ (l : List ℕ). 45 ∷ l) (printed_decimal (suc n) (omega arith))

digits_length : (k n : ℕ) → length (digits_of k n) ≤ k
unfolding digits_of
digits_length zero n = omega arith
digits_length (suc k) n = by_test (ltb n 10) refl (digits_length k (n / 10))
  where
    by_test : (b : Bool) → ltb n 10 ≡ b → length (digits_of k (n / 10)) ≤ k → length (digits_of (suc k) n) ≤ suc k
    by_test true e h = rw e (omega arith)
    by_test false e h = rw e (omega (arith, length-append (digits_of k (n / 10)) (digit (n % 10) ∷ [])))

pub decimal_length : (n : ℕ) → length (decimal n) ≤ 20
unfolding decimal
decimal_length n = digits_length 20 n

pub signed_length : (v : ℤ) → length (signed v) ≤ 21
unfolding signed
signed_length (pos n) = omega (arith, decimal_length n)
signed_length (negsuc n) = omega (arith, decimal_length (suc n))

-- The digits of a whole number are those of its distance from zero.
pub signed_below : (v : ℤ) → lt_z v (pos 0) ≡ true → 45 ∷ decimal (nat_abs v) ≡ signed v
unfolding signed
signed_below (pos n) e = absurd (omega (arith, ltb-true n 0 e))
signed_below (negsuc n) e = refl

pub signed_not_below : (v : ℤ) → lt_z v (pos 0) ≡ false → decimal (nat_abs v) ≡ signed v
unfolding signed
signed_not_below (pos n) e = refl
signed_not_below (negsuc n) e = absurd (false≢true (sym e))
