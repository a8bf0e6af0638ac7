-- Rates that were checked, as the code holds them.
-- Assumes nothing.
use Rattle.std.specs.Prelude.{List, [], ◌∷◌, ℕ, ℤ, Option, Some, None, Result, Ok, Err}
use Rattle.refusals.specs.declared.Refusal.{Refusal}
use Rattle.house_numbers.specs.Reading.{Read, got, refused}
use Rattle.house_numbers.specs.Numbers.{rate_of}
use Rattle.house_rates.specs.declared.CheckedRates.{CheckedRates}
use Rattle.house_rates.specs.Rates.{read_rates}
use Rattle.house_rates.specs.Steps.{rates_read}

-- The rates.
unfoldable pub rates_of : CheckedRates → List ℤ
rates_of c = rates_read (read_rates c.count c.bytes.now)

-- The rates whose first one was split off, as its filed number.
abbrev pub split_off : {A : Type 0} → (A → List ℤ) → Option (ℕ × A) → List ℤ
split_off rates None = []
split_off rates (Some (filed, more)) = rate_of filed ∷ rates more

-- What the check answers, as what is read: all the rates and no byte after them, or why they are refused.
abbrev pub held : Result CheckedRates Refusal → Read (List ℤ)
held (Ok c) = got (rates_of c) []
held (Err r) = refused r
