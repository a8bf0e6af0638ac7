-- Division of whole numbers, rounded to the nearest (document 02, b).
-- Assumes nothing.
use Rattle.std.specs.Prelude.{◌≡◌, ℕ, suc, ◌*◌, ◌/◌, ◌%◌, ◌≤◌, leb, ltb, ℤ, pos, negsuc, neg_ℤ, nat_abs, ◌-ℤ◌, ◌*ℤ◌, if◌then◌else◌}

-- A natural number divided by m, rounded to the nearest; a half goes up.
unfoldable pub nearest_up : ℕ → ℕ → ℕ
nearest_up m n = if leb m (2 * (n % m)) then suc (n / m) else n / m

-- A whole number divided by m, rounded to the nearest, halves away from zero: below zero it is what it is above, with a minus.
unfoldable pub nearest : ℕ → ℤ → ℤ
nearest m (pos n) = pos (nearest_up m n)
nearest m (negsuc n) = neg_ℤ (pos (nearest_up m (suc n)))

-- How far z is from q × m.
abbrev pub apart : ℕ → ℤ → ℤ → ℕ
apart m z q = nat_abs (q *ℤ pos m -ℤ z)

-- The rule in the paper's words. Of all whole numbers, q is one of those nearest to z divided by m; and of two that are as near, it is the one further
-- from zero.
pub record Nearest (m : ℕ) (z q : ℤ) : Type 0 where
  pub near : (p : ℤ) → apart m z q ≤ apart m z p
  pub away : (p : ℤ) → apart m z p ≡ apart m z q → nat_abs p ≤ nat_abs q

-- The same by the quotient q rounded down and what the division by m leaves, r: what is added to q. One where 2r is more than m; where 2r is m, one if
-- q is not below zero; else nothing.
unfoldable pub step_up : ℕ → ℤ → ℕ → ℕ
step_up m (pos q) r = if leb m (2 * r) then 1 else 0
step_up m (negsuc q) r = if ltb m (2 * r) then 1 else 0
