-- The rule of the table of binomials: row d − 1, column j holds C(d − 1 + j, j), for every d from 1 to 8 and j from 0 to 8.
-- One test, which antt computes, compares all 72 entries with the binomials, and the law carries it to each of them.
-- Assumes nothing.
use mathlib.Core.Path.{◌≡◌, refl, sym, ◌∙◌}
use mathlib.Core.Bool.{Bool, true}
use Prim.Native.Nat.{ℕ, zero, suc, ◌+◌, ◌-◌, ◌≤◌}
use native.Mathlib.Omega.{arith}
use lib.Dec.{eqb}
use borrow.Author.Tests.{eqb-true}
use Rattle.naturals.specs.Test.{all}
use Rattle.naturals.proofs.Tests.{all_at}
use Rattle.numbering.specs.Binomial.{choose}
use Rattle.numbering.specs.Count.{vectors}
use Rattle.shapes.specs.declared.TheConstants.{ROWS}
use Rattle.shapes.specs.Rows.{entry, Binomials}

entry_right : ℕ → ℕ → Bool
entry_right row column = eqb (entry ROWS row column) (choose (row + column) column)

row_right : ℕ → Bool
row_right row = all (entry_right row) 9

all_right : all row_right 8 ≡ true
unfolding all row_right entry_right choose
all_right = refl

binomials : (d j : ℕ) → 1 ≤ d → d ≤ 8 → j ≤ 8 → entry ROWS (d - 1) j ≡ choose (d - 1 + j) j
unfolding row_right entry_right
binomials d j low high short =
    let row : row_right (d - 1) ≡ true = all_at row_right 8 all_right (d - 1) (omega arith) in
    eqb-true (entry ROWS (d - 1) j) (choose (d - 1 + j) j) (all_at (entry_right (d - 1)) 9 row j (omega arith))

-- The count of level vectors is that binomial.
vectors_choose : (d j : ℕ) → 1 ≤ d → vectors d j ≡ choose (d - 1 + j) j
unfolding vectors
vectors_choose zero j low = omega arith
vectors_choose (suc k) j low = let less : suc k - 1 ≡ k = omega arith in rw less

pub rows_hold : Binomials ROWS
rows_hold = record { holds = λ d j low high short. binomials d j low high short ∙ sym (vectors_choose d j low) }
