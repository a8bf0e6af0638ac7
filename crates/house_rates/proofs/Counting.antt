-- Counting the ends of numbers: a byte below 128 is one, any other none, and there are no more ends than bytes.
-- Assumes nothing.
use Rattle.std.specs.Prelude.{if◌then◌else◌}
use mathlib.Core.Path.{◌≡◌, refl, ap}
use mathlib.Core.Bool.{Bool, true, false}
use mathlib.Core.List.{List, [], ◌∷◌, ◌++◌}
use Prim.Native.Nat.{ℕ, ◌+◌, ◌≤◌, ◌<◌}
use native.Mathlib.Omega.{arith}
use lib.Dec.{ltb}
use lib.ListN.{length, get_or, drop, drop_of_length-le}
use borrow.Author.Tests.{lt-ltb, le-ltb}
use mir.Val.{bool_byte}
use Rattle.std.proofs.lemmas.List.Sums.{sum_by-cons, sum_by-append, sum_by-drop_more}
use Rattle.naturals.proofs.Cases.{le_or_lt}
use Rattle.house_rates.specs.Steps.{is_end, ends}

-- A test, as the code counts it.
pub end_counted : (b : ℕ) → bool_byte (ltb b 128) ≡ is_end b
end_counted b = go (ltb b 128)
  where
    go : (t : Bool) → bool_byte t ≡ (if t then 1 else 0)
    go true = refl
    go false = refl

pub end_one : (b : ℕ) → b < 128 → is_end b ≡ 1
end_one b h = rw (lt-ltb b 128 h)

pub end_none : (b : ℕ) → 128 ≤ b → is_end b ≡ 0
end_none b h = rw (le-ltb b 128 h)

pub end_most : (b : ℕ) → is_end b ≤ 1
end_most b = le_or_lt 128 b (λ h. omega (arith, end_none b h)) (λ h. omega (arith, end_one b h))

pub ends_few : (bytes : List ℕ) → ends bytes ≤ length bytes
ends_few [] = omega arith
ends_few (b ∷ bytes) = omega (arith, sum_by-cons is_end b bytes, end_most b, ends_few bytes)

module _ (bytes : List ℕ) where
  -- The count from an index on, with the byte there and without it.
  pub ends_here : (at : ℕ) → at < length bytes → ends (drop at bytes) ≡ is_end (get_or bytes at 0) + ends (drop (at + 1) bytes)
  ends_here at more = sum_by-drop_more is_end bytes at 0 more

  pub ends_past : (at : ℕ) → length bytes ≤ at → ends (drop at bytes) ≡ 0
  ends_past at h = ap ends (drop_of_length-le bytes h)

-- What is counted so far and the ends of the next bytes are no more than all the bytes.
pub counted_few : (bytes rest few after : List ℕ) (count : ℕ) → count + ends rest ≡ ends bytes → rest ≡ few ++ after → count + ends few ≤ length bytes
counted_few bytes rest few after count sum is = omega (arith, sum, ap ends is, sum_by-append is_end few after, ends_few bytes)
