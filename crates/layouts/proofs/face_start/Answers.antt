-- `layouts::face_start` meets its contract: its parts are those of the first number of a face, and fit.
-- Assumes nothing.
use native.Mathlib.Omega.{arith}
use Rattle.numbering.specs.Point.{at}
use Rattle.layouts.proofs.Found.{borders_few, product_small, start_small, start_made}
use Rattle.layouts.proofs.face_start.Goals as goal

pub layers-requires : goal.layers-requires
layers-requires c =
    let few = borders_few c.args.axes (at c.args.marks.now) _ c.borders_and_rank-borders.ensures.0 in
    (c.requires.0, c.requires.1, omega (arith, few))

pub overflow_sub-axes : goal.overflow_sub-axes
overflow_sub-axes c = borders_few c.args.axes (at c.args.marks.now) _ c.borders_and_rank-borders.ensures.0

pub overflow_mul-result : goal.overflow_mul-result
overflow_mul-result c =
    let a = c.args in
    let face = c.borders_and_rank-borders.ensures in
    let r = c.requires in
    omega (arith, product_small a.axes a.level (at a.marks.now) face.0 face.1 c.points.ensures r.0 r.1 r.2)

pub overflow_add-result : goal.overflow_add-result
overflow_add-result c =
    let a = c.args in
    let face = c.borders_and_rank-borders.ensures in
    let r = c.requires in
    omega (arith, start_small a.axes a.level (at a.marks.now) face.0 face.1 c.points.ensures r.0 r.1 r.2 c.layers.ensures)

pub returns : goal.returns
returns c =
    let a = c.args in
    let face = c.borders_and_rank-borders.ensures in
    start_made a.axes a.level (at a.marks.now) face.0 face.1 c.points.ensures c.layers.ensures
