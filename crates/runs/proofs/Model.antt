-- One call of the model: refused, it leaves the set alone; else it changes the set. By definition.
-- Assumes nothing.
use Rattle.std.specs.Prelude.{Ok, Err}
use mathlib.Core.Path.{◌≡◌}
use Prim.Native.Nat.{ℕ}
use Rattle.refusals.specs.declared.Refusal.{Refusal}
use Rattle.hierarchy.specs.declared.Turn.{Turn}
use Rattle.runs.specs.Model.{Axes, model_answer, changed, model_set}

pub model_refused : (d : ℕ) (set : Axes) (call : Turn) (why : Refusal) → model_answer d set call ≡ Err why → model_set d set call ≡ set
unfolding model_set
model_refused d set call why e = rw e

pub model_passed : (d : ℕ) (set : Axes) (call : Turn) → model_answer d set call ≡ Ok tt → model_set d set call ≡ changed set call
unfolding model_set
model_passed d set call e = rw e
