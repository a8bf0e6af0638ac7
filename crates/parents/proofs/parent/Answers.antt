-- `parents::parent` meets its contract: the checks decide the refusal, and of what they pass the point is moved along the axis.
-- Assumes nothing.
use Rattle.std.specs.Prelude.{ℕ, Ok}
use mathlib.Core.Path.{◌≡◌, sym, ap, ◌∙◌}
use borrow.Author.Rules.{rules}
use Rattle.numbering.specs.Point.{at}
use Rattle.parents.specs.Parents.{parent_of}
use Rattle.shapes.proofs.Checked.{checked_in_range}
use Rattle.points.specs.Points.{point_in}
use Rattle.points.proofs.Handed.{read_in, lists_checked}
use Rattle.parents.proofs.Accepted.{Accepted, accepted}
use Rattle.parents.proofs.Stepped.{no_marks}
use Rattle.parents.proofs.parent.Goals.{In_ok-verdict}
use Rattle.parents.proofs.parent.Goals as goal

pub returns-in_err-verdict : goal.returns-in_err-verdict
unfolding parent_of
returns-in_err-verdict c =
    let lists = rw c.in_ok-checked.ensures.shape at (sym c.read-verdict.ensures.0 ∙ c.in_err-verdict.was) in
    rw (sym c.in_ok-checked.ensures.verdict, sym c.in_ok-check_axis.ensures, lists) (search rules)

-- what the passed checks hand on
given : (c : In_ok-verdict) → let a = c.args in point_in a.shape a.marks.now a.levels.now a.indices.now ≡ Ok c.read-verdict.result.1
given c =
    let lists = rw c.in_ok-checked.ensures.shape at (sym c.read-verdict.ensures.0 ∙ c.in_ok-verdict.was) in
    read_in _ _ _ _ lists (rw c.in_ok-verdict.was at c.read-verdict.ensures.1)

-- what they tell
known : (c : In_ok-verdict) → let a = c.args in Accepted a.shape a.marks.now a.levels.now a.indices.now a.axis c.read-verdict.result.1
known c =
    let same : c.in_ok-checked.checked.shape ≡ c.args.shape = c.in_ok-checked.ensures.shape in
    accepted _ _ _ _ _ (rw same at (checked_in_range c.in_ok-checked.checked)) (sym c.in_ok-check_axis.ensures) (given c)

pub overflow_sub-axis : goal.overflow_sub-axis
overflow_sub-axis c = (known (goal.at.overflow_sub-axis c).In_ok-verdict).low

pub beside-requires : goal.beside-requires
beside-requires c =
    let s = (known (goal.at.beside-requires c).In_ok-verdict).steps in
    (s.place, s.small, s.odd, s.below)

pub returns : goal.returns
unfolding parent_of
returns c =
    let a = c.args in
    let seen = (goal.at.returns c).In_ok-verdict in
    let p = (known seen).handed in
    let marks = no_marks (λ t. ap (λ (f : ℕ → ℕ). f t) (p.passes.named.only c.if-shape.false)) in
    rw (
      sym c.in_ok-checked.ensures.verdict,
      sym c.in_ok-check_axis.ensures,
      lists_checked _ _ _ _ (given seen),
      ← p.levels,
      ← p.indices,
      ← marks,
      c.if-shape.false,
    )
    (ap Ok c.beside.ensures)
