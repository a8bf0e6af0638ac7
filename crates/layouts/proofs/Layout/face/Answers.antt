-- `layouts::Layout::face` meets its contract: the place is one of the array, since no table has more than 81 faces.
-- Assumes nothing.
use native.Mathlib.Omega.{arith}
use Rattle.layouts.proofs.Laid.{all_faces_few}
use Rattle.layouts.proofs.Layout.face.Goals as goal

pub offset_bounds-self-f : goal.offset_bounds-self-f
offset_bounds-self-f c =
    let s = c.args.self.now in
    omega (arith, c.requires, s.all, all_faces_few s.axes s.few)

pub bounds-self-f : goal.bounds-self-f
bounds-self-f c =
    let s = c.args.self.now in
    omega (arith, c.requires, s.all, all_faces_few s.axes s.few)
