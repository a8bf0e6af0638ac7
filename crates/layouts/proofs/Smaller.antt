-- The table of the faces with a smaller mark: one test, which antt computes, compares all 60 entries with the definition, and the law carries it to each.
-- Assumes nothing.
use mathlib.Core.Path.{◌≡◌, refl}
use mathlib.Core.Bool.{Bool, true}
use mathlib.Core.List.{[]}
use Prim.Native.Nat.{ℕ, ◌≤◌}
use native.Mathlib.Omega.{arith}
use lib.Dec.{eqb}
use lib.ListN.{get_or}
use borrow.Author.Tests.{eqb-true}
use Rattle.naturals.specs.Sum.{sum_to}
use Rattle.naturals.specs.Test.{all}
use Rattle.naturals.proofs.Tests.{all_at}
use Rattle.numbering.specs.Binomial.{choose}
use Rattle.faces.specs.Faces.{faces, having}
use Rattle.layouts.specs.declared.TheConstants.{BELOW}

entry : ℕ → ℕ → ℕ → ℕ
entry k b a = get_or (get_or (get_or BELOW k []) b []) a 0

entry_right : ℕ → ℕ → ℕ → Bool
entry_right k b a = eqb (entry k b a) (sum_to (having k b) a)

row_right : ℕ → ℕ → Bool
row_right k b = all (entry_right k b) 3

rows_right : ℕ → Bool
rows_right k = all (row_right k) 5

all_right : all rows_right 4 ≡ true
unfolding all rows_right row_right entry_right entry sum_to having faces choose
all_right = refl

pub smaller_read : (k b a : ℕ) → k ≤ 3 → b ≤ 4 → a ≤ 2 → get_or (get_or (get_or BELOW k []) b []) a 0 ≡ sum_to (having k b) a
unfolding rows_right row_right entry_right entry
smaller_read k b a few borders mark =
    let rows : rows_right k ≡ true = all_at rows_right 4 all_right k (omega arith) in
    let row : row_right k b ≡ true = all_at (row_right k) 5 rows b (omega arith) in
    eqb-true (entry k b a) (sum_to (having k b) a) (all_at (entry_right k b) 3 row a (omega arith))
