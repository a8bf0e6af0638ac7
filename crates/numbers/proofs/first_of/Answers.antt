-- `numbers::first_of` meets its contract: cut to the axes, the levels are those of a level vector with the same sum and the same first number.
-- Assumes nothing.
use mathlib.Core.Path.{◌≡◌, ◌∙◌}
use native.Mathlib.Omega.{arith}
use Rattle.naturals.specs.Sum.{sum_to}
use Rattle.numbering.specs.Point.{at}
use Rattle.numbers.proofs.Cut.{cut_past, cut_sum, cut_first}
use Rattle.numbers.proofs.first_of.Goals as goal

pub of-requires : goal.of-requires
of-requires c =
    let a = c.args in
    let high = c.requires.1 in (
      c.requires.0,
      high,
      rw c.padded-inside.ensures (omega (arith, cut_sum a.axes a.levels high, c.requires.2)),
      rw c.padded-inside.ensures (cut_past a.axes a.levels high),
    )

pub first_in-requires : goal.first_in-requires
first_in-requires c =
    let a = c.args in
    let v = c.of.result in
    let sum : sum_to (at v.levels) v.axes ≡ sum_to (at a.levels) a.axes =
    rw (c.of.ensures.0, c.of.ensures.1, c.padded-inside.ensures) (cut_sum a.axes a.levels c.requires.1) in
    omega (arith, v.vector.total, sum, c.requires.2)

pub returns : goal.returns
returns c =
    let a = c.args in
    rw (c.of.ensures.0, c.of.ensures.1, c.padded-inside.ensures) at c.first_in.ensures ∙ cut_first a.axes a.levels c.requires.1
