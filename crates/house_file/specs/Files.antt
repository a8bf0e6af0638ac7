-- A house file (document 01, "House file" and refusals 11 to 13): d, n and then N rates in point order.
-- Assumes nothing.
use Rattle.refusals.specs.declared.Refusal.{Refusal}
use Rattle.std.specs.Prelude.{List, ◌++◌, ℕ, leb, ℤ, length, drop, Result, Ok, Err}
use Rattle.refusals.specs.declared.Refusal.TheVariants.{TableLength}
use Rattle.refusals.specs.Checks.{unless}
use Rattle.shapes.specs.declared.Shape.{Shape}
use Rattle.shapes.specs.Shapes.{sparse, check_shape, points_of}
use Rattle.house_numbers.specs.Reading.{Read, got, refused, ◌next◌, ◌then_read◌}
use Rattle.house_numbers.specs.Numbers.{read_number}
use Rattle.house_rates.specs.Rates.{read_rates, all_read}

-- d and n, before they are checked.
abbrev pub named : ℕ → ℕ → List ℕ → Read Shape
named d n rest = got (sparse d n) rest

unfoldable pub read_head : List ℕ → Read Shape
read_head bytes = read_number bytes next (λ d more. read_number more next named d)

-- Where both were read, refused with 1, 2 or 19.
unfoldable pub head_checked : Shape → List ℕ → Read Shape
head_checked s rest = check_shape s then_read got s rest

abbrev pub shape_read : Read Shape → Result Shape Refusal
shape_read (got s rest) = Ok s
shape_read (refused r) = Err r

-- The shape that a file names, from d and n alone: 11 or 12 for d, 11 or 12 for n, then 1, 2 or 19.
unfoldable pub shape_of_file : List ℕ → Result Shape Refusal
shape_of_file bytes = shape_read (read_head bytes next head_checked)

-- What a file holds.
pub record Contents : Type 0 where
  pub shape : Shape
  pub rates : List ℤ

-- After the last rate: bytes that are left are refused with 13.
unfoldable pub ended : Shape → List ℤ → List ℕ → Read Contents
ended s rates rest = all_read rest then_read got (record { shape = s; rates = rates }) rest

-- Once d and n are read: refused with 1, 2 or 19, with 3 where the buffer has fewer than N places; then the rates.
unfoldable pub read_table : ℕ → Shape → List ℕ → Read Contents
read_table places s rest =
    check_shape s
    then_read (unless (leb (points_of s) places) TableLength
    then_read (read_rates (points_of s) rest next ended s))

-- A whole file, for a buffer of that many places.
unfoldable pub read_contents : ℕ → List ℕ → Read Contents
read_contents places bytes = read_head bytes next read_table places

-- What the reader leaves: its answer, and the contents of the buffer.
pub record AfterReading : Type 0 where
  pub answer : Result Shape Refusal
  pub table : List ℤ

abbrev pub after_reading : Result Shape Refusal → List ℤ → AfterReading
after_reading a xs = record { answer = a; table = xs }

-- It fills the first N places and leaves the others; a refused file leaves the whole buffer as it was.
abbrev pub filled_with : List ℤ → Read Contents → AfterReading
filled_with table (got c rest) = after_reading (Ok c.shape) (c.rates ++ drop (length c.rates) table)
filled_with table (refused r) = after_reading (Err r) table

unfoldable pub read_file : List ℕ → List ℤ → AfterReading
read_file bytes table = filled_with table (read_contents (length table) bytes)
