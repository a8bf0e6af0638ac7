-- `numbers::levels_of` meets its contract: the last level of what is left of the axes is the block that the rank lies in.
-- Assumes nothing.
use mathlib.Core.Path.{◌≡◌, refl, sym, ◌∙◌}
use Prim.Native.Nat.{◌-◌}
use borrow.Author.Rules.{rules}
use Rattle.numbering.specs.Count.{vectors}
use Rattle.numbering.specs.Number.{ending}
use Rattle.numbering.proofs.Rank.{ending_is}
use Rattle.numbers.specs.Steps.{Lies}
use Rattle.numbers.proofs.Searched.{lies_le}
use Rattle.numbers.proofs.Places.{rank_inside}
use Rattle.numbers.proofs.Unranked.{unranked_starts, unranked_below, unranked_steps, unranked_ends}
use Rattle.numbers.proofs.Read.{vector_read}
use Rattle.numbers.proofs.levels_of.Goals.{After-block_at-level}
use Rattle.numbers.proofs.levels_of.Goals as goal

pub loop-k-init : goal.loop-k-init
loop-k-init c = unranked_starts _ _ _ (search rules) (search rules)

lies : (c : After-block_at-level) → Lies (ending (c.loop-k.k-counter - 1) c.loop-k.left) c.loop-k.left c.loop-k.rest c.block_at-level.result.0 c.block_at-level.result.1
lies c =
    c.block_at-level.ensures (ending (c.loop-k.k-counter - 1) c.loop-k.left)
    (λ j size h post. let is : size ≡ vectors (c.loop-k.k-counter - 1) (c.loop-k.left - j) = search rules in is ∙ sym (ending_is _ _ _))
    (rank_inside _ _ _ (unranked_below c.loop-k.invariant c.loop-k-test.true))

pub overflow_sub-left : goal.overflow_sub-left
overflow_sub-left c = lies_le (lies (goal.at.overflow_sub-left c).After-block_at-level)

pub loop-k-preserved : goal.loop-k-preserved
loop-k-preserved c =
    unranked_steps c.loop-k.invariant c.loop-k-test.true (search rules) (lies (goal.at.loop-k-preserved c).After-block_at-level)

pub invariant_of-result : goal.invariant_of-result
invariant_of-result c =
    record {
      some = c.requires.0;
      few = c.requires.1;
      vector = vector_read _ _ _ c.requires.1 c.requires.3 (unranked_ends c.loop-k.invariant c.loop-k-test.false);
    }

pub returns : goal.returns
returns c = (refl, refl, unranked_ends c.loop-k.invariant c.loop-k-test.false)
