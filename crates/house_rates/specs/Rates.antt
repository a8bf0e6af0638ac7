-- The rates of a house file (document 01, "House file"): one filed number after the other.
-- Assumes nothing.
use Rattle.std.specs.Prelude.{List, [], ◌∷◌, ℕ, zero, suc, eqb, ℤ, length}
use Rattle.refusals.specs.declared.Refusal.TheVariants.{BytesLeft}
use Rattle.refusals.specs.Checks.{unless, Verdict}
use Rattle.house_numbers.specs.Reading.{Read, got, ◌next◌}
use Rattle.house_numbers.specs.Numbers.{read_number, rate_of}

-- A rate before others.
unfoldable pub prepended : ℤ → List ℤ → List ℕ → Read (List ℤ)
prepended rate rates rest = got (rate ∷ rates) rest

-- m rates in a row.
unfoldable pub read_rates : ℕ → List ℕ → Read (List ℤ)
read_rates zero bytes = got [] bytes
read_rates (suc m) bytes = read_number bytes next (λ u rest. read_rates m rest next prepended (rate_of u))

-- After the last rate: bytes that are left are refused with 13.
abbrev pub all_read : List ℕ → Verdict
all_read rest = unless (eqb (length rest) 0) BytesLeft
