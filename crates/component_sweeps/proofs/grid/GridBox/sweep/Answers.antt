-- `GridBox::sweep` meets its contract: the rows from the box's first position on are all its points, in whichever bands they are worked.
-- Assumes nothing.
use mathlib.Core.Path.{refl}
use Rattle.component_sweeps.proofs.Sweeping.{stride_some, end_shifted, place_of, half_shifted, reach_shifted, rows_of}
use Rattle.component_sweeps.proofs.grid.GridBox.sweep.Goals as goal

pub nonzero_div-place : goal.nonzero_div-place
nonzero_div-place c = stride_some c.args.self.now _ c.requires.0

pub invariant_of-sweep : goal.invariant_of-sweep
invariant_of-sweep c =
    let b = c.args.self.now in
    let on = c.requires.0 in
    let end_is = end_shifted b _ on in
    record {
      covers = ∣ c.spread.ensures ∣₁;
      stride_is = b.grid.now.laid _ on;
      end_is = end_is;
      place_is = place_of b _ on _ end_is;
      level_is = refl;
      half_is = half_shifted b _ on;
      reach_is = reach_shifted b _ on _ end_is;
    }

pub rows-requires : goal.rows-requires
rows-requires c = rows_of _ _ _ c.corner.ensures c.requires.1
