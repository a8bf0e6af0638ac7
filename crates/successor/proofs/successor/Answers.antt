-- `successor::successor` meets its contract: the checks of shape and point decide the refusal, and what they pass is a point of the shape, which is stepped as its sort
-- is numbered.
-- Assumes nothing.
use Rattle.std.specs.Prelude.{Ok}
use mathlib.Core.List.{List}
use mathlib.Core.Path.{◌≡◌, sym, ap, ap₂, ◌∙◌}
use Prim.Native.Nat.{ℕ}
use borrow.Author.Rules.{rules}
use Rattle.points.specs.Points.{check_point, point_from}
use Rattle.points.proofs.Handed.{read_from, point_checked, handed}
use Rattle.successor.specs.Successor.{successor_of}
use Rattle.successor.proofs.Sorts.{after_plain}
use Rattle.successor.proofs.successor.Goals.{In_ok-read_into}
use Rattle.successor.proofs.successor.Goals as goal

pub returns-in_err-read_into : goal.returns-in_err-read_into
unfolding successor_of check_point
returns-in_err-read_into c =
    let lists = rw c.in_ok-checked.ensures.shape at (sym c.read_into.ensures.verdict ∙ c.in_err-read_into.was) in
    rw (sym c.in_ok-checked.ensures.verdict, lists) (search rules)

-- what the passed checks hand on
given : (c : In_ok-read_into) →
    let a = c.args in
    point_from a.shape a.marks.now a.levels.now a.indices.now ≡ Ok (record { levels = c.read_into.new.point_levels; indices = c.read_into.new.point_indices })
given c =
    let lists = rw c.in_ok-checked.ensures.shape at (sym c.read_into.ensures.verdict ∙ c.in_ok-read_into.was) in
    let levels = rw c.in_ok-read_into.was at c.read_into.ensures.levels in
    let indices = rw c.in_ok-read_into.was at c.read_into.ensures.indices in
    read_from _ _ _ _ lists (ap₂ (λ (l i : List ℕ). record { levels = l; indices = i }) levels indices) (sym c.in_ok-checked.ensures.verdict)

pub next_point-requires : goal.next_point-requires
next_point-requires c =
    let p = handed _ _ _ _ (given (goal.at.next_point-requires c).In_ok-read_into) in
    (p.passes.shape.low, p.passes.shape.high, p.passes.shape.top, p.inside)

pub returns : goal.returns
unfolding successor_of
returns c =
    let given = given (goal.at.returns c).In_ok-read_into in
    let p = handed _ _ _ _ given in
    rw (point_checked _ _ _ _ given, ← p.levels, ← p.indices)
    (ap Ok (c.next_point.ensures ∙ after_plain c.args.shape c.if-shape.false _ _ _))
