-- How long a buffer is long enough: the form of a file is never longer than the file, so a file can be rewritten into as many bytes as it has; and 2 bytes and
-- 5 for each rate are enough for every file. True since each number is written in the fewest bytes, at most 5.
-- Assumes nothing.
use Rattle.std.specs.Prelude.{Ok}
use mathlib.Core.Path.{◌≡◌, ap}
use mathlib.Core.List.{List}
use Prim.Native.Nat.{ℕ, ◌+◌, ◌*◌, ◌≤◌}
use native.Mathlib.Omega.{arith}
use lib.IntN.{ℤ}
use lib.ListN.{length}
use Rattle.shapes.specs.declared.Shape.{Shape}
use Rattle.shapes.specs.Shapes.{sparse}
use Rattle.shapes.proofs.Checked.{in_range_passed}
use Rattle.tables.specs.Tables.{check_rated}
use Rattle.tables.proofs.Checking.{rated_opens}
use Rattle.house_numbers.specs.Reading.{got}
use Rattle.house_file.specs.Files.{Contents, read_contents}
use Rattle.house_file.specs.Written.{written_file}
use Rattle.house_file.proofs.Accepting.{contents_accepted}
use Rattle.house_file.proofs.Lengths.{Bytes, fewest_file, file_most}
use Rattle.house_writer.specs.Writing.{AfterWriting, write_file}
use Rattle.house_writer.specs.Rewriting.{form_of, rewrite_file}
use Rattle.house_writer.proofs.WrittenBack.{written_answer}
use Rattle.house_writer.proofs.OneForm.{rewritten}

-- ---- rewriting

module _ (places : ℕ) (bytes : List ℕ) (c : Contents) (rest : List ℕ) (e : read_contents places bytes ≡ got c rest) where
  rewritten_answer : (out : List ℕ) → length (form_of c) ≤ length out → (rewrite_file places bytes out).answer ≡ Ok (length (form_of c))
  rewritten_answer out room = ap (λ (a : AfterWriting). a.answer) (rewritten places bytes c rest e out room)

  pub never_longer : Bytes bytes → length (form_of c) ≤ length bytes
  never_longer byte = fewest_file places bytes byte c rest e

  -- As many bytes as the file has are room enough for its form.
  pub always_room : Bytes bytes → (out : List ℕ) → length bytes ≤ length out → (rewrite_file places bytes out).answer ≡ Ok (length (form_of c))
  always_room byte out room = rewritten_answer out (omega (arith, never_longer byte))

  pub form_most : length (form_of c) ≤ 2 + 5 * places
  form_most =
      let a = contents_accepted places bytes c rest e in omega (arith, file_most c.shape c.rates a.shaped, a.room, a.rated.many)

  -- So are 2 bytes and 5 for each place.
  pub most_room : (out : List ℕ) → 2 + 5 * places ≤ length out → (rewrite_file places bytes out).answer ≡ Ok (length (form_of c))
  most_room out room = rewritten_answer out (omega (arith, form_most))

-- ---- writing

module _ (d n : ℕ) (rates : List ℤ) (passed : check_rated (sparse d n) rates ≡ Ok tt) where
  abbrev s : Shape
  s = sparse d n

  pub written_most : length (written_file s rates) ≤ 2 + 5 * length rates
  written_most =
      let opens = rated_opens s rates passed in
      file_most s rates (in_range_passed s opens.range)

  -- Into 2 bytes and 5 for each rate, checked rates are always written.
  pub written_room : (out : List ℕ) → 2 + 5 * length rates ≤ length out → (write_file d n rates out).answer ≡ Ok (length (written_file s rates))
  written_room out room = ap (λ (a : AfterWriting). a.answer) (written_answer d n rates out passed (omega (arith, written_most)))
