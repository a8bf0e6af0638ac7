-- The text of a table on the way.
-- Assumes nothing.
use Rattle.refusals.specs.Checks.{Verdict}
use Rattle.std.specs.Prelude.{List, ℕ, ◌+◌, ◌*◌, ◌≤◌, ℤ, length, take, Ok, Err}
use Rattle.shapes.specs.declared.Shape.{Shape}
use Rattle.shapes.specs.Shapes.{points_of}
use Rattle.states.specs.After.{Left}
use Rattle.whole.specs.Whole.{rates_to_coefficients}
use Rattle.texts.specs.Text.{refused_line}
use Rattle.reports.specs.Report.{table_text}

-- A buffer takes any text of a table: a first line of 81 characters, and a line of 43 for each place.
abbrev pub RoomFor : List ℤ → List ℕ → Type 0
RoomFor xs out = 81 + 43 * length xs ≤ length out

-- The text of what rates to coefficients leaves.
unfoldable pub turned_text : Shape → Verdict → List ℤ → List ℕ
turned_text s (Ok _) ys = table_text s ys
turned_text s (Err r) ys = refused_line r

abbrev pub left_text : Shape → Left → List ℕ
left_text s l = turned_text s l.verdict l.table

-- The text of the rates that stand in the first N places of a buffer.
unfoldable pub rates_text : Shape → List ℤ → List ℕ
rates_text s xs = left_text s (rates_to_coefficients s (take (points_of s) xs))
