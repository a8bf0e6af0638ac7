-- What the writer of house files answers, and what it leaves in the output buffer (document 02, a; manual, section 16).
-- Assumes nothing.
use Rattle.std.specs.Prelude.{List, ◌++◌, ℕ, leb, ℤ, length, drop, Result, Ok, Err}
use Rattle.refusals.specs.declared.Refusal.{Refusal}
use Rattle.refusals.specs.declared.Refusal.TheVariants.{TableLength}
use Rattle.refusals.specs.Checks.{unless, ◌and_then◌, answer, Verdict}
use Rattle.shapes.specs.Shapes.{sparse}
use Rattle.tables.specs.Tables.{check_rated}
use Rattle.house_file.specs.Written.{written_file}

-- What the writer leaves: its answer, and the contents of the output buffer.
pub record AfterWriting : Type 0 where
  pub answer : Result ℕ Refusal
  pub out : List ℕ

abbrev pub after_writing : Result ℕ Refusal → List ℕ → AfterWriting
after_writing a out = record { answer = a; out = out }

-- A refusal leaves every byte as it was.
abbrev pub kept_out : List ℕ → Refusal → AfterWriting
kept_out out r = after_writing (Err r) out

-- The output buffer has at least as many bytes as the file, else refused with 3.
unfoldable pub check_room : List ℕ → List ℕ → Verdict
check_room file out = unless (leb (length file) (length out)) TableLength

-- The answer is the file's length. Its bytes come first, and every byte after them is what it was.
abbrev pub filled_out : List ℕ → List ℕ → AfterWriting
filled_out file out = after_writing (Ok (length file)) (file ++ drop (length file) out)

-- A file put into the output buffer.
unfoldable pub put_file : List ℕ → List ℕ → AfterWriting
put_file file out = answer (kept_out out) (check_room file out) (filled_out file out)

-- The writer, of the table of d axes and top level n with a zero border: refused with 1, 2, 19, 3 (not N rates), 4 (smallest point number), then with 3 (the output
-- buffer).
unfoldable pub write_file : ℕ → ℕ → List ℤ → List ℕ → AfterWriting
write_file d n rates out =
    let s = sparse d n in
    let file = written_file s rates in
    answer (kept_out out) (check_rated s rates and_then check_room file out) (filled_out file out)
