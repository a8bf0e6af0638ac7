-- The model of document 01, "A run of turns": it knows d and keeps a set of axes, empty at the start. It is fed the calls, and none of their answers.
-- Assumes nothing.
use Rattle.std.specs.Prelude.{Bool, true, false, not, ◌&&◌, List, [], ◌∷◌, ℕ, ◌-◌, leb}
use Rattle.refusals.specs.declared.Refusal.{Refusal}
use Rattle.refusals.specs.declared.Refusal.TheVariants.{Axis, AlreadyForward, NotForward}
use Rattle.refusals.specs.Checks.{unless, ◌and_then◌, answer, Verdict}
use Rattle.hierarchy.specs.declared.Turn.{Turn}
use Rattle.hierarchy.specs.declared.Turn.TheVariants.{Forward, Back}
use Rattle.hierarchy.specs.Work.{put}

-- A set of axes: axis t is in it where place t − 1 says so.
abbrev pub Axes : Type 0
Axes = ℕ → Bool

-- Axis outside 1 to d: refused with 5. Forward on axis t: refused with 15 if t is in the set. Back on axis t: refused with 16 if t is not in the set.
unfoldable pub model_answer : ℕ → Axes → Turn → Verdict
model_answer d set (Forward axis) =
    unless (leb 1 axis && leb axis d) (Axis axis) and_then unless (not (set (axis - 1))) (AlreadyForward axis)
model_answer d set (Back axis) =
    unless (leb 1 axis && leb axis d) (Axis axis) and_then unless (set (axis - 1)) (NotForward axis)

-- Else forward joins t to the set, and back takes it out.
abbrev pub changed : Axes → Turn → Axes
changed set (Forward axis) = put set (axis - 1) true
changed set (Back axis) = put set (axis - 1) false

-- A refused call leaves the set alone.
abbrev pub unchanged : Axes → Refusal → Axes
unchanged set r = set

unfoldable pub model_set : ℕ → Axes → Turn → Axes
model_set d set call = answer (unchanged set) (model_answer d set call) (changed set call)

-- All answers to a list of calls, and the set after it.
unfoldable pub model_answers : ℕ → Axes → List Turn → List Verdict
model_answers d set [] = []
model_answers d set (call ∷ calls) = model_answer d set call ∷ model_answers d (model_set d set call) calls

unfoldable pub model_after : ℕ → Axes → List Turn → Axes
model_after d set [] = set
model_after d set (call ∷ calls) = model_after d (model_set d set call) calls
