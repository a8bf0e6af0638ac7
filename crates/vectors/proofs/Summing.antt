-- A sum over the places of a list is the sum of the list's first numbers; of eight numbers of 32 bits it is below 2^64.
-- Assumes nothing.
use mathlib.Core.List.{List}
use mathlib.Core.Path.{◌≡◌, sym, ap, ◌∙◌}
use Prim.Native.Nat.{ℕ, zero, suc, ◌^◌, ◌≤◌, ◌<◌}
use native.Mathlib.Numerals.{add-one}
use native.Mathlib.Omega.{arith}
use lib.ListN.{length, take}
use lib.Seq.{take-length}
use Rattle.std.specs.List.{sum}
use Rattle.std.proofs.lemmas.List.Sums.{sum_by_more}
use Rattle.naturals.specs.Sum.{sum_to}
use Rattle.naturals.proofs.Sums.{sum_to_zero, sum_to_suc}
use Rattle.naturals.proofs.Summed.{sum_bound}
use Rattle.numbering.specs.Point.{at}

pub sum_first : (xs : List ℕ) (d : ℕ) → d ≤ length xs → sum (take d xs) ≡ sum_to (at xs) d
sum_first xs zero h = sym (sum_to_zero (at xs))
sum_first xs (suc d) h =
    rw add-one at (sum_by_more (λ x. x) xs d 0 h) ∙ omega (arith, sum_first xs d (omega arith), sum_to_suc (at xs) d)

pub sum_is : (xs : List ℕ) → sum xs ≡ sum_to (at xs) (length xs)
sum_is xs = sym (ap sum (take-length xs)) ∙ sum_first xs (length xs) (omega arith)

-- The sum of the first levels, as a cut slice has them.
pub sum_of_first : (xs : List ℕ) (d : ℕ) → d ≤ length xs → sum_to (at (take d xs)) (length (take d xs)) ≡ sum_to (at xs) d
sum_of_first xs d h = sym (sum_is (take d xs)) ∙ sum_first xs d h

pub sum_of_eight : (xs : List ℕ) → length xs ≡ 8 → sum xs ≡ sum_to (at xs) 8
sum_of_eight xs long = rw (← long) (sum_is xs)

pub eight_small : (xs : List ℕ) → length xs ≡ 8 → ((t : ℕ) → at xs t < 4294967296) → sum xs < 2 ^ 64
eight_small xs long small = omega (arith, sum_of_eight xs long, sum_bound (at xs) 4294967296 8 small)
