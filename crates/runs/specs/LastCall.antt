-- The last call on an axis that was not refused, in a list of calls beside their answers.
-- Assumes nothing.
use Rattle.refusals.specs.Checks.{Verdict}
use Rattle.std.specs.Prelude.{◌≡◌, List, [], ◌∷◌, ◌++◌, ℕ, Ok}
use Rattle.hierarchy.specs.declared.Turn.{Turn}
use Rattle.hierarchy.specs.declared.Turn.TheVariants.{Forward, Back}

-- The axis that a call names.
abbrev pub axis_of : Turn → ℕ
axis_of (Forward axis) = axis
axis_of (Back axis) = axis

-- A call beside its answer.
abbrev pub Answered : Type 0
Answered = Turn × Verdict

abbrev pub answered : List Turn → List Verdict → List Answered
answered [] answers = []
answered (call ∷ calls) [] = []
answered (call ∷ calls) (answer ∷ answers) = (call, answer) ∷ answered calls answers

-- The call stands in the list, and was not refused there.
pub record Unrefused (call : Turn) (list : List Answered) : Type 0 where
  pub before : List Answered
  pub after : List Answered
  pub stands : list ≡ before ++ ((call, (Ok tt)) ∷ after)

-- The last call on the axis that was not refused went forward: one that did stands in the list, and every call on the axis after it was refused.
pub record LastForward (axis : ℕ) (list : List Answered) : Type 0 where
  pub one : Unrefused (Forward axis) list
  pub last : (call : Turn) → axis_of call ≡ axis → Unrefused call one.after → ⊥
