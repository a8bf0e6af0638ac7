-- What the check of the rates and the pass that fills a buffer keep.
-- Assumes nothing.
use Rattle.std.specs.Prelude.{List, [], ◌++◌, ℕ, ◌+◌, ◌≤◌, ◌<◌, ltb, ℤ, length, get_or, drop, if◌then◌else◌, sum_by, Err}
use Rattle.refusals.specs.Checks.{Verdict}
use Rattle.house_numbers.specs.Reading.{Read, got, refused, ◌then_read◌}
use Rattle.house_rates.specs.Rates.{all_read}

-- What the check of the rates says: refused where they are, and with 13 where bytes are left after them.
unfoldable pub checked_rates : Read (List ℤ) → Verdict
checked_rates (got rates rest) = all_read rest
checked_rates (refused r) = Err r

-- The rates that are read.
unfoldable pub rates_read : Read (List ℤ) → List ℤ
rates_read (got rates rest) = rates
rates_read (refused r) = []

-- Rates with nothing after them; where bytes are left they are refused with 13.
unfoldable pub closed : List ℤ → List ℕ → Read (List ℤ)
closed rates rest = all_read rest then_read got rates rest

-- A buffer with rates in its first places.
unfoldable pub rates_over : List ℤ → List ℤ → List ℤ
rates_over table rates = rates ++ drop (length rates) table

-- ---- many numbers checked at once, by their ends: a byte below 128 ends a number

-- 1 for a byte that ends a number, else 0.
abbrev pub is_end : ℕ → ℕ
is_end b = if ltb b 128 then 1 else 0

-- How many numbers end among some bytes.
abbrev pub ends : List ℕ → ℕ
ends bytes = sum_by is_end bytes

-- Five bytes in a row are not of a number that is too long or too large: where the first four do not end one, the fifth is below 16.
abbrev pub NotLarge : ℕ → ℕ → ℕ → ℕ → ℕ → Type 0
NotLarge a b c d e = 128 ≤ a → 128 ≤ b → 128 ≤ c → 128 ≤ d → e < 16

-- The row of five bytes that starts at an index.
abbrev pub NotLargeAt : List ℕ → ℕ → Type 0
NotLargeAt bytes k = NotLarge (get_or bytes k 0) (get_or bytes (k + 1) 0) (get_or bytes (k + 2) 0) (get_or bytes (k + 3) 0) (get_or bytes (k + 4) 0)

-- No row of five bytes is.
pub record NoneLarge (bytes : List ℕ) : Type 0 where
  pub at : (k : ℕ) → NotLargeAt bytes k
