-- `points::is_index` meets its contract: the oddness decides the first return, and 2 shifted by a level of at most 8 is 2^(l+1).
-- Assumes nothing.
use mathlib.Core.Path.{sym}
use Prim.Native.Nat.{◌%◌}
use borrow.Author.Tests.{eq-eqb, ne_eqb}
use Rattle.numbering.specs.Point.{is_index}
use Rattle.points.proofs.PointTest.{shifted}
use Rattle.points.proofs.is_index.Goals as goal

pub returns-then-i-ne1 : goal.returns-then-i-ne1
unfolding is_index
returns-then-i-ne1 c = sym (simp (ne_eqb (c.args.i % 2) 1 c.if-i-ne1.true))

pub returns : goal.returns
unfolding is_index
returns c = rw (eq-eqb (c.args.i % 2) 1 c.if-i-ne1.false, shifted c.args.l c.requires)
