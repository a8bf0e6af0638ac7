-- Numbers and files as they are written: each number in the fewest groups of seven bits (document 01, "House file"; document 02, a).
-- Assumes nothing.
use Rattle.std.specs.Prelude.{◌≡◌, List, [], ◌∷◌, ◌++◌, ℕ, zero, suc, ◌+◌, ◌/◌, ◌%◌, ◌<◌, ltb, true, ℤ, pos, length, get_or, if◌then◌else◌}
use Rattle.integers.specs.Half.{is_rate}
use Rattle.shapes.specs.declared.Shape.{Shape}
use Rattle.house_numbers.specs.Numbers.{filed}

-- A number below 128^k in the fewest groups, lowest first: a group that others follow has its top bit set.
unfoldable pub fewest : ℕ → ℕ → List ℕ
fewest zero n = []
fewest (suc k) n = if ltb n 128 then n ∷ [] else ((128 + n % 128) ∷ fewest k (n / 128))

-- A number of at most 5 bytes.
unfoldable pub written : ℕ → List ℕ
written n = fewest 5 n

unfoldable pub written_rates : List ℤ → List ℕ
written_rates [] = []
written_rates (rate ∷ rates) = written (filed rate) ++ written_rates rates

-- Every place of a list holds a rate, which can be written.
abbrev pub AllRates : List ℤ → Type 0
AllRates rates = (p : ℕ) → p < length rates → is_rate (get_or rates p (pos 0)) ≡ true

-- d, n and the rates.
unfoldable pub written_file : Shape → List ℤ → List ℕ
written_file s rates = written s.axes ++ (written s.level ++ written_rates rates)
