-- Rates read one by one: one more rate stands before those that follow it, and a number that is refused refuses the rates.
-- Assumes nothing.
use Rattle.std.specs.Prelude.{Ok}
use mathlib.Core.Path.{◌≡◌, refl}
use mathlib.Core.List.{List}
use Prim.Native.Nat.{ℕ, suc}
use lib.Dec.{eqb}
use lib.IntN.{ℤ}
use lib.ListN.{length}
use borrow.Author.Tests.{eqb-true}
use Rattle.refusals.specs.declared.Refusal.{Refusal}
use Rattle.refusals.specs.declared.Refusal.TheVariants.{BytesLeft}
use Rattle.refusals.proofs.Passing.{test_passed}
use Rattle.house_numbers.specs.Reading.{Read, got, refused, ◌next◌}
use Rattle.house_numbers.specs.Numbers.{read_number, rate_of}
use Rattle.house_rates.specs.Rates.{prepended, read_rates, all_read}
use Rattle.house_rates.specs.Steps.{checked_rates}

module _ (m : ℕ) (bytes : List ℕ) where
  pub one_more : {u : ℕ} {rest : List ℕ} → read_number bytes ≡ got u rest →
      read_rates (suc m) bytes ≡ read_rates m rest next prepended (rate_of u)
  unfolding read_rates
  one_more e = rw e

  pub one_refused : {r : Refusal} → read_number bytes ≡ refused r → read_rates (suc m) bytes ≡ refused r
  unfolding read_rates
  one_refused e = rw e

-- What is checked does not depend on the rates read before.
pub checked_after : (x : Read (List ℤ)) (rate : ℤ) → checked_rates (x next prepended rate) ≡ checked_rates x
unfolding checked_rates prepended
checked_after (got rates rest) rate = refl
checked_after (refused r) rate = refl

-- Where the end is accepted, no byte is left.
pub nothing_left : (rest : List ℕ) → all_read rest ≡ Ok tt → length rest ≡ 0
nothing_left rest e = eqb-true (length rest) 0 (test_passed (eqb (length rest) 0) BytesLeft e)
