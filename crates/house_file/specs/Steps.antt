-- What the reader's steps answer, in terms of the definitions of a file.
-- Assumes nothing.
use Rattle.std.specs.Prelude.{[], ℕ, leb, Result, Ok, Err}
use Rattle.refusals.specs.declared.Refusal.{Refusal}
use Rattle.refusals.specs.declared.Refusal.TheVariants.{TableLength}
use Rattle.refusals.specs.Checks.{unless, ◌and_then◌, Verdict}
use Rattle.shapes.specs.declared.Shape.{Shape}
use Rattle.shapes.specs.declared.CheckedShape.{CheckedShape}
use Rattle.shapes.specs.Shapes.{check_shape, points_of}
use Rattle.house_numbers.specs.Reading.{Read, got, refused}
use Rattle.house_rates.specs.declared.CheckedRates.{CheckedRates}
use Rattle.house_rates.specs.Held.{rates_of}
use Rattle.house_file.specs.Files.{Contents}

-- The checks of a shape and of the buffer's places.
unfoldable pub check_places : Shape → ℕ → Verdict
check_places s places = check_shape s and_then unless (leb (points_of s) places) TableLength

-- The shape that passed, or the refusal.
abbrev pub of_checked : Result CheckedShape Refusal → Result Shape Refusal
of_checked (Ok checked) = Ok checked.shape
of_checked (Err r) = Err r

-- What the check of all that follows d and n answers, as what is read: the shape and the rates with no byte after them, or why they are refused.
abbrev pub table_in : Shape → Result CheckedRates Refusal → Read Contents
table_in s (Ok rates) = got (record { shape = s; rates = rates_of rates }) []
table_in s (Err r) = refused r
