-- The report of a house file (document 01, "House file"): all that the program prints.
-- Assumes nothing.
use Rattle.std.specs.Prelude.{List, ◌++◌, ℕ, ℤ}
use Rattle.shapes.specs.declared.Shape.{Shape}
use Rattle.whole.specs.Whole.{coefficients_of}
use Rattle.house_numbers.specs.Reading.{Read, got, refused}
use Rattle.house_file.specs.Files.{Contents, read_contents}
use Rattle.texts.specs.Text.{heading, point_lines, refused_line}

-- The first line, and a line for each point with its coefficient.
unfoldable pub table_text : Shape → List ℤ → List ℕ
table_text s coefficients = heading s ++ point_lines 0 coefficients

-- The report of what was read.
abbrev pub reported : Read Contents → List ℕ
reported (got c rest) = table_text c.shape (coefficients_of c.shape c.rates)
reported (refused r) = refused_line r

-- The report of a file, read into 8,192 places.
unfoldable pub report : List ℕ → List ℕ
report bytes = reported (read_contents 8192 bytes)
