-- `evaluation::Passed::none` meets its contract: the joint weight starts at the unit.
-- Assumes nothing.
use mathlib.Core.Path.{ap, sym}
use Prim.Native.Nat.{ℕ}
use Rattle.surfaces.proofs.Unit.{unit_is}
use Rattle.evaluation.proofs.Passed.none.Goals as goal

pub returns : goal.returns
returns c = ap (λ (j : ℕ). record { position = 0; joint = j; reached = 1; sum = 0 }) (sym unit_is)
