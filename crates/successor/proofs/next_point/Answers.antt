-- `successor::next_point` meets its contract: each return is one of the ways on of `Onward`, with eight zeros for the marks.
-- Assumes nothing.
use mathlib.Core.Path.{ap}
use Rattle.points.specs.Points.{eight}
use Rattle.successor.specs.Steps.{unmarked_next}
use Rattle.successor.proofs.Onward.{next_index, first_of_next, none_left}
use Rattle.successor.proofs.next_point.Goals as goal

pub returns-then-not-next_indices : goal.returns-then-not-next_indices
unfolding eight unmarked_next
returns-then-not-next_indices c =
    ap unmarked_next (next_index c.requires.3 c.next_indices.ensures c.if-not-next_indices.true)

pub returns-then-level-vector : goal.returns-then-level-vector
unfolding unmarked_next
returns-then-level-vector c =
    ap unmarked_next
    (none_left c.requires.3 c.next_indices.ensures c.if-not-next_indices.false c.of-vector.result c.of-vector.ensures c.next.ensures.1
    c.if-level-vector.true)

pub returns : goal.returns
unfolding eight unmarked_next
returns c =
    ap unmarked_next
    (first_of_next c.requires.3 c.next_indices.ensures c.if-not-next_indices.false c.of-vector.result c.of-vector.ensures c.next.ensures.1
    c.if-level-vector.false)
