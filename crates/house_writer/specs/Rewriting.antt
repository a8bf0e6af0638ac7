-- A house file read and written again, for a table of at most so many places (document 02, a; manual, section 16).
-- Assumes nothing.
use Rattle.std.specs.Prelude.{List, ℕ}
use Rattle.house_numbers.specs.Reading.{Read, got, refused}
use Rattle.house_file.specs.Files.{Contents, read_contents}
use Rattle.house_file.specs.Written.{written_file}
use Rattle.house_writer.specs.Writing.{AfterWriting, kept_out, put_file}

-- The one form of what a file holds.
abbrev pub form_of : Contents → List ℕ
form_of c = written_file c.shape c.rates

-- What was read, written again.
abbrev pub written_again : List ℕ → Read Contents → AfterWriting
written_again out (got c rest) = put_file (form_of c) out
written_again out (refused r) = kept_out out r

-- The reader's refusals come first, as for a table of that many places; then 3 (the output buffer).
unfoldable pub rewrite_file : ℕ → List ℕ → List ℕ → AfterWriting
rewrite_file places bytes out = written_again out (read_contents places bytes)
