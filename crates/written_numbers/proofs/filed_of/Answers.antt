-- `written_numbers::filed_of` meets its contract: twice a rate fits 64 bits by far, and what is answered 32.
-- Assumes nothing.
use mathlib.Core.Path.{◌≡◌, sym, subst, ap, ◌∙◌}
use mathlib.Core.Bool.{Bool, true, false}
use Prim.Native.Nat.{suc}
use lib.IntN.{ℤ, pos, negsuc, nat_abs, ◌*ℤ◌, ◌-ℤ◌}
use lib.Signed.{lt_z}
use mir.Syntax.{w64}
use mir.Val.{SFits, to_z, of_z}
use mir.ValLaws.{to_z-of_z}
use Rattle.house_numbers.specs.Numbers.{filed}
use Rattle.written_numbers.proofs.FiledForm.{filed_fits, twice_fits, more_fits, twice_below, twice_above, one_less}
use Rattle.written_numbers.proofs.filed_of.Goals.{Else-rate-lt0, Then-rate-lt0}
use Rattle.written_numbers.proofs.filed_of.Goals as goal

-- the test on the number itself
test : (z : ℤ) (b : Bool) → SFits w64 z → lt_z (to_z w64 (of_z w64 z)) (pos 0) ≡ b → lt_z z (pos 0) ≡ b
test z b f e = rw (to_z-of_z w64 z f) at e

-- below zero: minus twice the rate, and that less one
doubled : (c : Then-rate-lt0) → negsuc 1 *ℤ to_z w64 (of_z w64 c.args.rate) ≡ pos (suc (filed c.args.rate))
doubled c =
    let z = c.args.rate in
    let fits = c.ranges.rate in
    ap (λ (v : ℤ). negsuc 1 *ℤ v) (to_z-of_z w64 z fits) ∙ twice_below z (test z true fits c.if-rate-lt0.true)

lessened : (c : Then-rate-lt0) →
    to_z w64 (of_z w64 (negsuc 1 *ℤ to_z w64 (of_z w64 c.args.rate))) -ℤ pos 1 ≡ pos (filed c.args.rate)
lessened c =
    let z = c.args.rate in
    rw (doubled c, to_z-of_z w64 (pos (suc (filed z))) (more_fits z c.requires)) (one_less (filed z))

below : (c : Then-rate-lt0) →
    to_z w64 (of_z w64 (to_z w64 (of_z w64 (negsuc 1 *ℤ to_z w64 (of_z w64 c.args.rate))) -ℤ pos 1)) ≡ pos (filed c.args.rate)
below c = let z = c.args.rate in rw (lessened c) (to_z-of_z w64 (pos (filed z)) (twice_fits z c.requires))

-- from zero on: twice the rate
raised : (c : Else-rate-lt0) → pos 2 *ℤ to_z w64 (of_z w64 c.args.rate) ≡ pos (filed c.args.rate)
raised c =
    let z = c.args.rate in
    let fits = c.ranges.rate in
    ap (λ (v : ℤ). pos 2 *ℤ v) (to_z-of_z w64 z fits) ∙ twice_above z (test z false fits c.if-rate-lt0.false)

above : (c : Else-rate-lt0) → to_z w64 (of_z w64 (pos 2 *ℤ to_z w64 (of_z w64 c.args.rate))) ≡ pos (filed c.args.rate)
above c = let z = c.args.rate in rw (raised c) (to_z-of_z w64 (pos (filed z)) (twice_fits z c.requires))

pub overflow_mul-result : goal.overflow_mul-result
overflow_mul-result c = rw (doubled (goal.at.overflow_mul-result c).Then-rate-lt0) (more_fits c.args.rate c.requires)

pub overflow_sub-result : goal.overflow_sub-result
overflow_sub-result c = subst (SFits w64) (sym (lessened (goal.at.overflow_sub-result c).Then-rate-lt0)) (twice_fits c.args.rate c.requires)

pub overflow_cast-result : goal.overflow_cast-result
overflow_cast-result c = rw (below (goal.at.overflow_cast-result c).Then-rate-lt0) (tt, filed_fits c.args.rate c.requires)

pub returns-then-rate-lt0 : goal.returns-then-rate-lt0
returns-then-rate-lt0 c = ap nat_abs (below (goal.at.returns-then-rate-lt0 c).Then-rate-lt0)

pub overflow_mul-result-2 : goal.overflow_mul-result-2
overflow_mul-result-2 c = rw (raised (goal.at.overflow_mul-result-2 c).Else-rate-lt0) (twice_fits c.args.rate c.requires)

pub overflow_cast-result-2 : goal.overflow_cast-result-2
overflow_cast-result-2 c = rw (above (goal.at.overflow_cast-result-2 c).Else-rate-lt0) (tt, filed_fits c.args.rate c.requires)

pub returns : goal.returns
returns c = ap nat_abs (above (goal.at.returns c).Else-rate-lt0)
