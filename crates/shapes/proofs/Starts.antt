-- The rule of the table of starts: each row begins with 0, and each entry after it is larger by the points of one level sum. Two tests, which antt computes, go
-- over all 90 entries, and the law carries them to each.
-- Assumes nothing.
use mathlib.Core.Path.{◌≡◌, refl, sym, ◌∙◌}
use mathlib.Core.Bool.{Bool, true}
use Prim.Native.Nat.{ℕ, zero, suc, ◌+◌, ◌≤◌}
use native.Mathlib.Omega.{arith}
use lib.Dec.{eqb}
use borrow.Author.Tests.{eqb-true}
use Rattle.naturals.specs.Test.{all}
use Rattle.naturals.proofs.Tests.{all_at}
use Rattle.numbering.specs.Binomial.{choose}
use Rattle.numbering.specs.Count.{vectors, shell, start}
use Rattle.shapes.specs.declared.TheConstants.{STARTS}
use Rattle.shapes.specs.Rows.{entry, Starts}
use Rattle.shapes.proofs.Totals.{start_zero, start_suc}

begins : ℕ → Bool
begins d = eqb (entry STARTS d 0) 0

step_right : ℕ → ℕ → Bool
step_right d j = eqb (entry STARTS d (suc j)) (entry STARTS d j + shell d j)

row_right : ℕ → Bool
row_right d = all (step_right d) 9

all_begin : all begins 9 ≡ true
unfolding all begins
all_begin = refl

all_right : all row_right 9 ≡ true
unfolding all row_right step_right shell vectors choose
all_right = refl

module _ (d : ℕ) (few : d ≤ 8) where
  begins_at_zero : entry STARTS d 0 ≡ 0
  unfolding begins
  begins_at_zero = eqb-true (entry STARTS d 0) 0 (all_at begins 9 all_begin d (omega arith))

  steps : (j : ℕ) → j ≤ 8 → entry STARTS d (suc j) ≡ entry STARTS d j + shell d j
  unfolding row_right step_right
  steps j short =
      let row : row_right d ≡ true = all_at row_right 9 all_right d (omega arith) in
      eqb-true (entry STARTS d (suc j)) (entry STARTS d j + shell d j) (all_at (step_right d) 9 row j (omega arith))

  adds_up : (s : ℕ) → s ≤ 9 → entry STARTS d s ≡ start d s
  adds_up zero short = begins_at_zero ∙ sym (start_zero d)
  adds_up (suc j) short = omega (arith, steps j (omega arith), adds_up j (omega arith), start_suc d j)

pub starts_hold : Starts STARTS
starts_hold = record { holds = λ d s few short. adds_up d few s short }
