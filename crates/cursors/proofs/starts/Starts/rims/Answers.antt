-- `Starts::rims` meets its contract: both first numbers are moved on, and they are small.
-- Assumes nothing.
use mathlib.Core.Path.{refl, ap, ◌∙◌}
use Rattle.std.specs.Prelude.{Some}
use native.Mathlib.Omega.{arith}
use Rattle.neighbours.specs.Facets.{further, moved_on}
use Rattle.cursors.proofs.Across.{left_small}
use Rattle.cursors.proofs.starts.Starts.rims.Goals as goal

pub further-requires : goal.further-requires
further-requires c =
    let v = c.args.v in
    let low = v.facet.sits.low c.in-Some.rims c.in-Some.is in
    let small = v.facet.line.small in
    let first = left_small v in
    (omega (arith, low.0, small, first, c.first_without.ensures), omega (arith, low.1, small, first, c.first_without.ensures))

pub returns-in-Some : goal.returns-in-Some
unfolding moved_on
returns-in-Some c = rw c.in-Some.is (ap Some (c.further.ensures ∙ ap (further c.in-Some.rims) c.first_without.ensures))

pub returns-in-None : goal.returns-in-None
unfolding moved_on
returns-in-None c = rw c.in-None.is refl
