-- `layouts::in_layer` meets its contract: a layer has a face for each quotient below the number of its faces, and a face has a point.
-- Assumes nothing.
use Rattle.layouts.proofs.Found.{layer_split, some_points}
use Rattle.layouts.proofs.in_layer.Goals as goal

pub nonzero_div-number : goal.nonzero_div-number
nonzero_div-number c = some_points _ _ _ c.points-points.ensures

pub marks_of-requires : goal.marks_of-requires
marks_of-requires c =
    let a = c.args in
    (c.requires.0, c.requires.2, layer_split a.axes a.level a.borders a.number _ c.points-points.ensures c.requires.3)

pub nonzero_rem-result : goal.nonzero_rem-result
nonzero_rem-result c = some_points _ _ _ c.points-points.ensures
