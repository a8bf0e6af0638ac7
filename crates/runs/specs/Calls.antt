-- The call that carries out a list of turns and reports each answer: a direction and an axis number for each, and two lent lists for the answers.
-- Assumes nothing.
use Rattle.std.specs.Prelude.{◌&&◌, List, [], ◌∷◌, map, ℕ, zero, suc, eqb, ℤ, length, Result, Ok, Err}
use Rattle.refusals.specs.declared.Refusal.{Refusal}
use Rattle.refusals.specs.declared.Refusal.TheVariants.{ListLength}
use Rattle.refusals.specs.Refusals.{number_of, place_of}
use Rattle.refusals.specs.Checks.{unless, ◌and_then◌, answer, Verdict}
use Rattle.hierarchy.specs.declared.Turn.{Turn}
use Rattle.hierarchy.specs.declared.Turn.TheVariants.{Forward, Back}
use Rattle.states.specs.declared.State.{State}
use Rattle.states.specs.States.{check_state}
use Rattle.runs.specs.Runs.{Ran, run}

-- Direction 0 is forward, every other number is back.
abbrev pub turn_of : ℕ → ℕ → Turn
turn_of zero axis = Forward axis
turn_of (suc k) axis = Back axis

abbrev pub calls_of : List ℕ → List ℕ → List Turn
calls_of [] axes = []
calls_of (x ∷ directions) [] = []
calls_of (x ∷ directions) (axis ∷ axes) = turn_of x axis ∷ calls_of directions axes

-- An answer as two numbers: the refusal's number and place, and 0 and 0 for a turn that was carried out.
abbrev pub number_in : Verdict → ℕ
number_in (Ok _) = 0
number_in (Err r) = number_of r

abbrev pub place_in : Verdict → ℕ
place_in (Ok _) = 0
place_in (Err r) = place_of r

-- What the call leaves: its own answer, the table, and the two lists of answers.
pub record Report : Type 0 where
  pub answer : Result State Refusal
  pub table : List ℤ
  pub numbers : List ℕ
  pub places : List ℕ

abbrev pub report : Result State Refusal → List ℤ → List ℕ → List ℕ → Report
report a xs ns ps = record { answer = a; table = xs; numbers = ns; places = ps }

abbrev pub report_of : Ran → Report
report_of r = report (Ok r.state) r.table (map number_in r.answers) (map place_in r.answers)

-- Refused: the table and the lists hold what they held.
abbrev pub unrun : List ℤ → List ℕ → List ℕ → Refusal → Report
unrun xs ns ps r = report (Err r) xs ns ps

-- The four lists are of one length, else refused with 7.
unfoldable pub check_lengths : List ℕ → List ℕ → List ℕ → List ℕ → Verdict
check_lengths directions axes ns ps =
    unless (eqb (length axes) (length directions) && eqb (length ns) (length directions) && eqb (length ps) (length directions)) ListLength

-- The state and the table, refused with 1, 2, 14, 19 or 3; then the lists; then the turns in order, each answer in its place.
unfoldable pub run_calls : State → List ℤ → List ℕ → List ℕ → List ℕ → List ℕ → Report
run_calls s xs directions axes ns ps =
    answer (unrun xs ns ps)
    (check_state s (length xs) and_then check_lengths directions axes ns ps)
    (report_of (run (calls_of directions axes) s xs))
