-- `layouts::last_mark` meets its contract: the mark is that of the block which the rank lies in, tried from the last.
-- Assumes nothing.
use native.Mathlib.Omega.{arith}
use Rattle.layouts.proofs.Marks.{mark_two, mark_one, mark_zero, mark_rest, mark_rest_zero}
use Rattle.layouts.proofs.last_mark.Goals as goal

pub returns-then-inner_or_lower-rank : goal.returns-then-inner_or_lower-rank
returns-then-inner_or_lower-rank c =
    let a = c.args in
    let two = mark_two a.axes a.borders a.rank (omega (arith, c.if-inner_or_lower-rank.true, c.below-inner_or_lower.ensures)) in
    mark_rest a.axes a.borders a.rank two c.below-inner_or_lower.ensures

pub returns-then-inner-rank : goal.returns-then-inner-rank
returns-then-inner-rank c =
    let a = c.args in
    let one =
    mark_one a.axes a.borders a.rank
    (omega (arith, c.if-inner_or_lower-rank.false, c.below-inner_or_lower.ensures))
    (omega (arith, c.if-inner-rank.true, c.below-inner.ensures)) in
    mark_rest a.axes a.borders a.rank one c.below-inner.ensures

pub returns : goal.returns
returns c =
    let a = c.args in
    let none =
    mark_zero a.axes a.borders a.rank
    (omega (arith, c.if-inner_or_lower-rank.false, c.below-inner_or_lower.ensures))
    (omega (arith, c.if-inner-rank.false, c.below-inner.ensures)) in
    mark_rest_zero a.axes a.borders a.rank none
