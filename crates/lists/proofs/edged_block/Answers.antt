-- `lists::edged_block` meets its contract: it hands on the block with its own points across the border where there are any.
-- Assumes nothing.
use mathlib.Core.Path.{◌≡◌, sym, ◌∙◌}
use native.Mathlib.Omega.{arith}
use Rattle.neighbours.proofs.Beside.{bits}
use Rattle.neighbours.proofs.Seeing.{seen}
use Rattle.lists.proofs.Sums.{block_rims}
use Rattle.lists.proofs.Blocks.{Here, rims_small, rims_shifted, rims_handed, no_rims}
use Rattle.lists.proofs.edged_block.Given.{Over}
use Rattle.lists.proofs.edged_block.Goals.{Start, Joined-rims, in-Some, in-None}
use Rattle.lists.proofs.edged_block.Goals as goal

here : (g : Over) (c : Start g) → let a = c.args in Here a.v a.starts.now a.first a.beyond a.width a.table.now
here g c =
    let (work, block, moves, wide, rims) = c.requires in
    record { work = work; block = block; wide = wide }

pub overflow_shl-beyond : goal.overflow_shl-beyond
overflow_shl-beyond g c = omega (arith, bits (seen c.args.v))

pub further-requires : goal.further-requires
further-requires g c =
    let (work, block, moves, wide, rims) = c.requires in
    let h = here g (goal.at.further-requires g c).Start in
    rw (rims_shifted h c.in-Some.rims (sym rims ∙ c.in-Some.is)) (rims_small h c.in-Some.rims (sym rims ∙ c.in-Some.is))

-- What lies across the border of the block.
own : (g : Over) (c : Joined-rims g) → c.match-rims.own_rims ≡ block_rims c.args.v c.args.beyond
own g c =
    let (work, block, moves, wide, rims) = c.requires in
    elim c.match-rims.branch [
      | in-Some w ↦
          w.own_rims-is
          ∙ rims_handed (here g (goal.at.Joined-rims g c).Start) w.in-Some.rims (sym rims ∙ w.in-Some.is) w.further.result w.further.ensures
      | in-None w ↦ w.own_rims-is ∙ no_rims c.args.v c.args.beyond (sym rims ∙ w.in-None.is)
    ]

pub block-requires : goal.block-requires
block-requires g c =
    let (work, block, moves, wide, rims) = c.requires in
    (work, block, moves, wide, own g (goal.at.block-requires g c).Joined-rims)
