-- The rule of the table of counts: its row d − 1 holds the points of d axes with a zero border, for every d from 1 to 8, and its row d + 8 those with values on the
-- border, for every d from 0 to 4; column n is the top level n, from 0 to 8. Two tests, which antt computes, compare all 117 entries with the counts, and the laws
-- carry them to each.
-- Assumes nothing.
use mathlib.Core.Path.{◌≡◌, refl}
use mathlib.Core.Bool.{Bool, true}
use Prim.Native.Nat.{ℕ, suc, ◌+◌, ◌-◌, ◌≤◌}
use native.Mathlib.Omega.{arith}
use lib.Dec.{eqb}
use borrow.Author.Tests.{eqb-true}
use Rattle.naturals.specs.Sum.{sum_to}
use Rattle.naturals.specs.Test.{all}
use Rattle.naturals.proofs.Tests.{all_at}
use Rattle.numbering.specs.Binomial.{choose}
use Rattle.numbering.specs.Count.{vectors, shell, start, points}
use Rattle.faces.specs.Faces.{faces}
use Rattle.faces.specs.Marked.{layer, border_points}
use Rattle.shapes.specs.declared.TheConstants.{COUNTS}
use Rattle.shapes.specs.Rows.{entry, Counts}

plain_right : ℕ → ℕ → Bool
plain_right k n = eqb (entry COUNTS k n) (points (suc k) n)

plain_row : ℕ → Bool
plain_row k = all (plain_right k) 9

all_plain : all plain_row 8 ≡ true
unfolding all plain_row plain_right points start shell vectors sum_to choose
all_plain = refl

plain_counts : (d n : ℕ) → 1 ≤ d → d ≤ 8 → n ≤ 8 → entry COUNTS (d - 1) n ≡ points d n
unfolding plain_row plain_right
plain_counts d n low high top =
    let axes : suc (d - 1) ≡ d = omega arith in
    let row : plain_row (d - 1) ≡ true = all_at plain_row 8 all_plain (d - 1) (omega arith) in
    rw axes at (eqb-true (entry COUNTS (d - 1) n) (points (suc (d - 1)) n) (all_at (plain_right (d - 1)) 9 row n (omega arith)))

bordered_right : ℕ → ℕ → Bool
bordered_right d n = eqb (entry COUNTS (d + 8) n) (border_points d n)

bordered_row : ℕ → Bool
bordered_row d = all (bordered_right d) 9

all_bordered : all bordered_row 5 ≡ true
unfolding all bordered_row bordered_right border_points layer faces points start shell vectors sum_to choose
all_bordered = refl

bordered_counts : (d n : ℕ) → d ≤ 4 → n ≤ 8 → entry COUNTS (d + 8) n ≡ border_points d n
unfolding bordered_row bordered_right
bordered_counts d n few top =
    let row : bordered_row d ≡ true = all_at bordered_row 5 all_bordered d (omega arith) in
    eqb-true (entry COUNTS (d + 8) n) (border_points d n) (all_at (bordered_right d) 9 row n (omega arith))

pub counts_hold : Counts COUNTS
counts_hold = record { plain = plain_counts; bordered = bordered_counts }
