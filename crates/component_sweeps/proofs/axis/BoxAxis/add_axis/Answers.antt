-- `BoxAxis::add_axis` meets its contract: each return is one of the steps from the band of some axes to that of one more.
-- Assumes nothing.
use mathlib.Core.Path.{refl}
use native.Mathlib.Omega.{arith}
use Rattle.component_sweeps.proofs.Covering.{left_over, lines_product, width_product, covers_turned, covers_single, covers_run, covers_wider, covers_lines, covers_more}
use Rattle.component_sweeps.proofs.axis.BoxAxis.add_axis.Goals.{then-u-self-2-via-then-u-self-2, then-u-self-2-via-else-u-self-2+then-size-eq1}
use Rattle.component_sweeps.proofs.axis.BoxAxis.add_axis.Goals as goal

pub returns-then-u-self-2 : goal.returns-then-u-self-2
returns-then-u-self-2 c =
    let less = left_over c.args.self.now _ c.requires c.if-u-self.false in (
      elim c.then-u-self-2.branch [
        | then-u-self-2-via-then-u-self-2 turned ↦ covers_turned c.args.self.now _ c.requires less _ c.points_on-size.ensures turned.if-u-self-2.true
        | then-u-self-2-via-else-u-self-2+then-size-eq1 single ↦ covers_single c.args.self.now _ c.requires less _ c.points_on-size.ensures single.if-size-eq1.true
      ],
      refl,
    )

pub returns-then-b-eq1-2 : goal.returns-then-b-eq1-2
returns-then-b-eq1-2 c =
    let less = left_over c.args.self.now _ c.requires c.if-u-self.false in
    (covers_run c.args.self.now _ c.requires less _ c.points_on-size.ensures c.if-u-self-2.false c.if-b-eq1.true c.if-b-eq1-2.true, refl)

pub overflow_mul-result : goal.overflow_mul-result
overflow_mul-result c =
    let less = left_over c.args.self.now _ c.requires c.if-u-self.false in omega (arith, width_product c.args.self.now _ c.requires less _ c.points_on-size.ensures)

pub returns-then-b-stride : goal.returns-then-b-stride
returns-then-b-stride c =
    let less = left_over c.args.self.now _ c.requires c.if-u-self.false in
    (covers_wider c.args.self.now _ c.requires less _ c.points_on-size.ensures c.if-u-self-2.false c.if-b-eq1.true c.if-b-stride.true, refl)

pub returns-then-b-eq1 : goal.returns-then-b-eq1
returns-then-b-eq1 c =
    let less = left_over c.args.self.now _ c.requires c.if-u-self.false in (covers_lines c.args.self.now _ c.requires less _ c.points_on-size.ensures c.if-u-self-2.false c.if-b-eq1.true, refl)

pub overflow_mul-result-then-b-stride-2 : goal.overflow_mul-result-then-b-stride-2
overflow_mul-result-then-b-stride-2 c =
    let less = left_over c.args.self.now _ c.requires c.if-u-self.false in omega (arith, lines_product c.args.self.now _ c.requires less _ c.points_on-size.ensures)

pub returns-then-b-stride-2 : goal.returns-then-b-stride-2
returns-then-b-stride-2 c =
    let less = left_over c.args.self.now _ c.requires c.if-u-self.false in
    (covers_more c.args.self.now _ c.requires less _ c.points_on-size.ensures c.if-u-self-2.false c.if-b-eq1.false c.if-b-stride-2.true, refl)
