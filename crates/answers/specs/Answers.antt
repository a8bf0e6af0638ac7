-- Each kind of answer of the library, as a number, a place and outputs. What the outputs held comes first: they hold it still where the call was refused.
-- Assumes nothing.
use Rattle.refusals.specs.declared.Refusal.{Refusal}
use Rattle.std.specs.Prelude.{not, eqb, List, ℕ, zero, suc, ℤ, Option, Some, None, Result, Ok, Err}
use Rattle.numbering.specs.declared.Side.{Side}
use Rattle.numbering.specs.declared.Side.TheVariants as side
use Rattle.shapes.specs.declared.Shape.{Shape}
use Rattle.shapes.specs.Shapes.{points_of}
use Rattle.points.specs.declared.MarkedPoint.{MarkedPoint}
use Rattle.states.specs.declared.State.{State}
use Rattle.states.specs.After.{After, Left}
use Rattle.runs.specs.Calls.{Report}
use Rattle.estimates.specs.declared.Estimated.{Estimated}
use Rattle.house_file.specs.Files.{AfterReading}
use Rattle.house_writer.specs.Writing.{AfterWriting}
use Rattle.accounts.specs.declared.Answered.{Answered}
use Rattle.accounts.specs.declared.Usage.{Usage}
use Rattle.answers.specs.Returned.{Returned, told_of, leaving, done, refused}

-- A shape and a state, from the numbers that stand for them. Of the border, 0 says that it is zero, and every other number that it has values.
abbrev pub shape_of : ℕ → ℕ → ℕ → Shape
shape_of axes level border = record { axes = axes; level = level; border = not (eqb border 0) }

abbrev pub state_of : ℕ → ℕ → ℕ → ℕ → State
state_of axes level border forward = record { shape = shape_of axes level border; forward = forward }

-- Side 0 is the left one, every other number the right one.
abbrev pub side_of : ℕ → Side
side_of zero = side.Left
side_of (suc k) = side.Right

-- A value: a count or a number of points, an estimate, the length of a written file.
abbrev pub of_value : {A : Type 0} → A → Result A Refusal → Returned A
of_value held (Ok x) = done x
of_value held (Err r) = refused held r

-- The marks, levels and indices of a point.
abbrev pub of_point : List ℕ × List ℕ × List ℕ → Result MarkedPoint Refusal → Returned (List ℕ × List ℕ × List ℕ)
of_point held (Ok p) = done (p.marks, p.point.levels, p.point.indices)
of_point held (Err r) = refused held r

-- The same, and 0; or 1 where there is no point, at the end or the border, the three arrays holding what they held.
abbrev pub of_located : List ℕ × List ℕ × List ℕ × ℕ → Result (Option MarkedPoint) Refusal → Returned (List ℕ × List ℕ × List ℕ × ℕ)
of_located held (Ok (Some p)) = done (p.marks, p.point.levels, p.point.indices, 0)
of_located held (Ok None) = done (held.0, held.1, held.2, 1)
of_located held (Err r) = refused held r

-- An estimate, S and the margin.
abbrev pub of_estimated : ℤ × ℕ × ℕ → Result Estimated Refusal → Returned (ℤ × ℕ × ℕ)
of_estimated held (Ok e) = done (e.estimate, e.absolute_sum, e.margin)
of_estimated held (Err r) = refused held r

-- The forward axes of a state. Its shape is the one that was handed in.
abbrev pub of_answer : ℕ → Result State Refusal → Returned ℕ
of_answer held (Ok state) = done state.forward
of_answer held (Err r) = refused held r

-- The forward axes and the table.
abbrev pub of_after : ℕ → After → Returned (ℕ × List ℤ)
of_after held a = leaving (of_answer held a.answer).told ((of_answer held a.answer).outputs, a.table)

-- The table alone.
abbrev pub of_left : Left → Returned (List ℤ)
of_left l = leaving (told_of l.verdict) l.table

-- The forward axes, the table, and the two lists of answers.
abbrev pub of_report : ℕ → Report → Returned (ℕ × List ℤ × List ℕ × List ℕ)
of_report held r = leaving (of_answer held r.answer).told ((of_answer held r.answer).outputs, r.table, r.numbers, r.places)

-- The shape that a house file names, and the table.
abbrev pub of_opened : ℕ × ℕ → Result Shape Refusal → Returned (ℕ × ℕ)
of_opened held (Ok s) = done (s.axes, s.level)
of_opened held (Err r) = refused held r

abbrev pub of_reading : ℕ × ℕ → AfterReading → Returned (ℕ × ℕ × List ℤ)
of_reading held a =
    leaving (of_opened held a.answer).told ((of_opened held a.answer).outputs.0, (of_opened held a.answer).outputs.1, a.table)

-- The shape that a house file names, with its number of points.
abbrev pub of_named : ℕ × ℕ × ℕ → Result Shape Refusal → Returned (ℕ × ℕ × ℕ)
of_named held (Ok s) = done (s.axes, s.level, points_of s)
of_named held (Err r) = refused held r

-- The length of a written file, and the output buffer.
abbrev pub of_writing : ℕ → AfterWriting → Returned (ℕ × List ℕ)
of_writing held a = leaving (of_value held a.answer).told ((of_value held a.answer).outputs, a.out)

-- The account that a call leaves.
abbrev pub of_answered : Answered → Returned (List ℕ)
of_answered a = leaving (told_of a.verdict) a.account.slots

-- The points open, by office and in all, and the common points in use and free.
abbrev pub of_usage : List ℕ × ℕ × ℕ × ℕ → Result Usage Refusal → Returned (List ℕ × ℕ × ℕ × ℕ)
of_usage held (Ok u) = done (u.by_office, u.in_all, u.common, u.free)
of_usage held (Err r) = refused held r

-- The axes and top level of the table under a tag, and 0; or 1 where nothing is open, the two numbers being what they were.
abbrev pub of_table : ℕ × ℕ × ℕ → Result (Option Shape) Refusal → Returned (ℕ × ℕ × ℕ)
of_table held (Ok (Some s)) = done (s.axes, s.level, 0)
of_table held (Ok None) = done (held.0, held.1, 1)
of_table held (Err r) = refused held r
