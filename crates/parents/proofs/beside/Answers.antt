-- `parents::beside` meets its contract: the mark and the border are tested, and each way on is one of `Stepped`.
-- Assumes nothing.
use Rattle.std.specs.Prelude.{Some}
use mathlib.Core.Path.{sym, ap₂, ◌∙◌}
use mathlib.Core.List.{List}
use Prim.Native.Nat.{ℕ}
use borrow.Author.Rules.{rules}
use Rattle.numbering.specs.Point.{at}
use Rattle.numbering.proofs.Parents.{Inside, inside}
use Rattle.points.specs.declared.Point.{Point}
use Rattle.parents.proofs.Stepped.{written, unwritten, stays, to_parent, to_border, to_across}
use Rattle.parents.proofs.beside.Goals.{Then-not-is_border}
use Rattle.parents.proofs.beside.Goals as goal

-- past the test the numerator lies within the borders
between : (c : Then-not-is_border) → let a = c.args in
    Inside (at a.p.point.levels a.t) c.neighbour-numerator.result
between c =
    let a = c.args in
    let numerator = c.neighbour-numerator.ensures in
    rw numerator
    (inside a.side (at a.p.point.levels a.t) (at a.p.point.indices a.t) c.requires.2 c.requires.3
    (rw numerator at (sym c.is_border.ensures ∙ c.if-not-is_border.true)))

pub returns-then-p-t-ne0 : goal.returns-then-p-t-ne0
returns-then-p-t-ne0 c =
    let a = c.args in
    stays a.border a.t a.side a.p.marks a.p.point.levels a.p.point.indices c.if-p-t-ne0.true

pub reduce-up-requires : goal.reduce-up-requires
reduce-up-requires c =
    let within = between (goal.at.reduce-up-requires c).Then-not-is_border in
    (c.requires.1, within.even, within.pos, within.below)

pub returns-then-not-is_border : goal.returns-then-not-is_border
returns-then-not-is_border c =
    let a = c.args in
    let up = c.reduce-up.ensures in
    ap₂ (λ (m : List ℕ) (p : Point). Some record { marks = m; point = p }) (unwritten a.p.marks a.t (search rules) c.if-p-t-ne0.false) c.moved.ensures
    ∙ to_parent a.border a.t a.side a.p.marks a.p.point.levels a.p.point.indices c.if-p-t-ne0.false _ c.neighbour-numerator.ensures
    (sym c.is_border.ensures ∙ c.if-not-is_border.true) _ _ up.0 up.1

pub returns-then-not-border : goal.returns-then-not-border
returns-then-not-border c =
    let a = c.args in
    to_border a.border a.t a.side a.p.marks a.p.point.levels a.p.point.indices c.if-p-t-ne0.false _ c.neighbour-numerator.ensures
    (sym c.is_border.ensures ∙ c.if-not-is_border.false)
    c.if-not-border.true

pub returns : goal.returns
returns c =
    let a = c.args in
    ap₂ (λ (m : List ℕ) (p : Point). Some record { marks = m; point = p }) (written a.p.marks a.t _ (search rules) c.requires.0) c.moved-2.ensures
    ∙ to_across a.border a.t a.side a.p.marks a.p.point.levels a.p.point.indices c.if-p-t-ne0.false _ c.neighbour-numerator.ensures
    (sym c.is_border.ensures ∙ c.if-not-is_border.false)
    c.if-not-border.false _ c.mark_of.ensures
