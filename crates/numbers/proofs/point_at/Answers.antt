-- `numbers::point_at` meets its contract: the levels are those of the level vector found, and the indices those of the position in it.
-- Assumes nothing.
use native.Mathlib.Omega.{arith}
use borrow.Author.Rules.{rules}
use Rattle.numbers.proofs.Read.{sum_few, point_found}
use Rattle.numbers.proofs.point_at.Goals as goal

pub indices_of-requires : goal.indices_of-requires
indices_of-requires c = omega (arith, c.vector_at-placed.ensures.1, sum_few c.args.axes c.args.level c.args.number)

pub returns : goal.returns
returns c =
    let placed = c.vector_at-placed.ensures in
    point_found _ _ _ (search rules) (search rules) placed.2 _ placed.3 (rw placed.0 at c.indices_of.ensures)
