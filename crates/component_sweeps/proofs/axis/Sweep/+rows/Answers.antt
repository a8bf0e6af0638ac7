use native.Mathlib.Omega.{arith}
use Rattle.component_sweeps.proofs.Rowing.{row_line, line_row, before, falling, turned_rows, rows_turned, rowing_starts, rowing_ends, next_rows, next_fits, rowing_steps}
use Rattle.component_sweeps.proofs.axis.Sweep.+rows.Goals as goal

pub line-requires : goal.line-requires
line-requires t c = row_line _ _ _ _ c.requires c.if-j-self.true

pub returns-then-j-self : goal.returns-then-j-self
returns-then-j-self t c = line_row _ _ _ _ c.requires c.if-j-self.true _ c.line.ensures

pub rows-requires : goal.rows-requires
rows-requires t c =
    let more = c.if-j-self.false in (
      falling _ _ _ _ c.requires more t c.decreases,
      turned_rows _ _ _ _ c.requires more _ (before _ _ _ _ c.requires more) c.if-u-self.true,
    )

pub returns-then-u-self : goal.returns-then-u-self
returns-then-u-self t c =
    let more = c.if-j-self.false in
    rows_turned _ _ _ _ c.requires more _ (before _ _ _ _ c.requires more) c.if-u-self.true _ c.rows.ensures

pub loop-i-init : goal.loop-i-init
loop-i-init t c =
    let more = c.if-j-self.false in
    rowing_starts _ _ _ _ c.requires more _ (before _ _ _ _ c.requires more) c.if-u-self.false

pub overflow_mul-i : goal.overflow_mul-i
overflow_mul-i t c =
    let more = c.if-j-self.false in
    omega (arith, next_fits _ _ _ _ c.requires more _ (before _ _ _ _ c.requires more) c.if-u-self.false _ c.points_on-i-end.ensures _ _ c.loop-i.invariant c.loop-i-test.true)

pub overflow_add-q : goal.overflow_add-q
overflow_add-q t c =
    let more = c.if-j-self.false in
    omega (arith, next_fits _ _ _ _ c.requires more _ (before _ _ _ _ c.requires more) c.if-u-self.false _ c.points_on-i-end.ensures _ _ c.loop-i.invariant c.loop-i-test.true)

pub rows-requires-in-loop-i : goal.rows-requires-in-loop-i
rows-requires-in-loop-i t c =
    let more = c.if-j-self.false in (
      falling _ _ _ _ c.requires more t c.decreases,
      next_rows _ _ _ _ c.requires more _ (before _ _ _ _ c.requires more) c.if-u-self.false _ c.points_on-i-end.ensures _ _ c.loop-i.invariant c.loop-i-test.true,
    )

pub loop-i-preserved : goal.loop-i-preserved
loop-i-preserved t c =
    let more = c.if-j-self.false in
    rowing_steps _ _ _ _ c.requires more _ (before _ _ _ _ c.requires more) c.if-u-self.false _ c.points_on-i-end.ensures _ _ c.loop-i.invariant c.loop-i-test.true _
    c.rows-in-loop-i.ensures

pub returns : goal.returns
returns t c =
    let more = c.if-j-self.false in
    rowing_ends _ _ _ _ c.requires more _ (before _ _ _ _ c.requires more) c.if-u-self.false _ c.points_on-i-end.ensures _ _ c.loop-i.invariant c.loop-i-test.false
