-- Halves of whole numbers, the content limit and rates (document 01, "Terms and limits" and "Parents and turns").
-- Assumes nothing.
use Rattle.std.specs.Prelude.{Bool, List, ℕ, suc, ◌/◌, ◌%◌, ◌^◌, ◌<◌, leb, eqb, ℤ, pos, negsuc, nat_abs, ◌+ℤ◌, ◌-ℤ◌, get_or, if◌then◌else◌}

-- Half of a whole number, rounded down where it is odd.
unfoldable pub half : ℤ → ℤ
half (pos n) = pos (n / 2)
half (negsuc n) = negsuc (n / 2)

unfoldable pub is_even : ℤ → Bool
is_even z = eqb (nat_abs z % 2) 0

-- 1 where a whole number is odd, else 0.
unfoldable pub odd_of : ℤ → ℕ
odd_of z = nat_abs z % 2

-- A value after a step of a turn: forward less half of its parents' sum s, back plus it.
unfoldable pub stepped : Bool → ℤ → ℤ → ℤ
stepped forward v s = if forward then v -ℤ half s else v +ℤ half s

-- The content limit: 2^47 on either side of zero, the ends allowed.
abbrev pub limit : ℕ
limit = 2 ^ 47

unfoldable pub in_limit : ℤ → Bool
in_limit z = leb (nat_abs z) limit

-- The value of a table at place p, which is point p, is within the content limit.
unfoldable pub content_at : List ℤ → ℕ → Bool
content_at xs p = in_limit (get_or xs p (pos 0))

-- A rate: a whole number from −2,147,483,648 to 2,147,483,647.
unfoldable pub is_rate : ℤ → Bool
is_rate (pos n) = leb n 2147483647
is_rate (negsuc n) = leb (suc n) 2147483648

-- From −2^b to 2^b − 1: a signed number of b + 1 bits.
abbrev pub Within : ℕ → ℤ → Type 0
Within b (pos n) = n < 2 ^ b
Within b (negsuc n) = n < 2 ^ b
