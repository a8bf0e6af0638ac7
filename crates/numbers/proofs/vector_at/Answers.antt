-- `numbers::vector_at` meets its contract: the level sum, the levels and the position of what the search finds are those of the point.
-- Assumes nothing.
use mathlib.Core.Path.{◌≡◌, sym, ◌∙◌}
use Prim.Native.Nat.{◌*◌, ◌%◌, ◌^◌, ◌≤◌}
use native.Mathlib.Omega.{arith}
use borrow.Author.Rules.{rules}
use Rattle.numbering.specs.Count.{vectors, shell}
use Rattle.numbers.specs.Steps.{Lies}
use Rattle.numbers.proofs.Widths.{shell_shifted}
use Rattle.numbers.proofs.Searched.{lies_le}
use Rattle.numbers.proofs.Places.{number_inside, sum_found}
use Rattle.numbers.proofs.Read.{rank_below, levels_found, position_found}
use Rattle.numbers.proofs.vector_at.Goals.{After-block_at-sum}
use Rattle.numbers.proofs.vector_at.Goals as goal

lies : (c : After-block_at-sum) → Lies (shell c.args.axes) c.args.level c.args.number c.block_at-sum.result.0 c.block_at-sum.result.1
lies c =
    c.block_at-sum.ensures (shell c.args.axes)
    (λ j size h post.
    let is : size ≡ vectors c.args.axes j * 2 ^ j % 2 ^ 64 = search rules in
    is ∙ shell_shifted c.args.axes j (search rules) (search rules) (omega arith))
    (number_inside _ _ _ (search rules))

-- the level sum is at most the top level
few : (c : After-block_at-sum) → c.block_at-sum.result.0 ≤ 8
few c = omega (arith, lies_le (lies c))

pub overflow_shr-rest : goal.overflow_shr-rest
overflow_shr-rest c = omega (arith, few (goal.at.overflow_shr-rest c).After-block_at-sum)

pub levels_of-requires : goal.levels_of-requires
levels_of-requires c =
    let sum = (goal.at.levels_of-requires c).After-block_at-sum in
    (search rules, search rules, few sum, rank_below _ _ _ (search rules) (lies sum))

pub low_bits-requires : goal.low_bits-requires
low_bits-requires c = few (goal.at.low_bits-requires c).After-block_at-sum

pub returns : goal.returns
returns c =
    let found = lies (goal.at.returns c).After-block_at-sum in
    let vector = c.levels_of.ensures in (
      vector.0,
      vector.1 ∙ sym (sum_found _ _ _ found),
      vector.2 ∙ levels_found _ _ _ (search rules) found,
      c.low_bits.ensures ∙ sym (position_found _ _ _ (search rules) found),
    )
