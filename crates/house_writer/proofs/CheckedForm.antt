-- Rates of a file that was checked, written again, take no more bytes than they were read from. True since each number is written in the fewest bytes.
-- Assumes nothing.
use Rattle.std.specs.Prelude.{Ok}
use mathlib.Core.Path.{◌≡◌, refl}
use mathlib.Core.List.{List}
use Prim.Native.Nat.{ℕ, ◌≤◌}
use native.Mathlib.Omega.{arith}
use lib.IntN.{ℤ}
use lib.ListN.{length}
use Rattle.house_numbers.specs.Reading.{Read, got, refused}
use Rattle.house_rates.specs.Rates.{read_rates}
use Rattle.house_rates.specs.Steps.{checked_rates, rates_read}
use Rattle.house_file.specs.Written.{written_rates}
use Rattle.house_file.proofs.Lengths.{Bytes, rates_take}

pub read_few : (m : ℕ) (bytes : List ℕ) → Bytes bytes → checked_rates (read_rates m bytes) ≡ Ok tt →
    length (written_rates (rates_read (read_rates m bytes))) ≤ length bytes
unfolding checked_rates rates_read
read_few m bytes byte passed = go (read_rates m bytes) refl passed
  where
    go : (x : Read (List ℤ)) → read_rates m bytes ≡ x → checked_rates x ≡ Ok tt → length (written_rates (rates_read x)) ≤ length bytes
    go (got rates rest) e h = omega (arith, (rates_take m bytes byte rates rest e).few)
    go (refused r) e h = let z : ◌≡◌ {A = ℕ} 0 1 = cc in absurd (omega arith)
