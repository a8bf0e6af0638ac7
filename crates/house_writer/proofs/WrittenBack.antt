-- What is written is read back: the bytes of an answered length are a house file of the shape and its rates, the bytes after it are what they were, and a
-- refusal leaves all of them. True since an answered length says that every check passed, and a file of checked rates is read back.
-- Assumes nothing.
use Rattle.std.specs.Prelude.{Ok, Err}
use mathlib.Core.Path.{◌≡◌, ◌∙◌, refl}
use mathlib.Core.List.{List, [], ◌++◌}
use Prim.Native.Nat.{ℕ, ◌≤◌}
use native.Mathlib.Omega.{arith}
use lib.IntN.{ℤ}
use lib.ListN.{length, take, drop}
use Rattle.refusals.specs.declared.Refusal.{Refusal}
use Rattle.refusals.specs.Checks.{◌and_then◌}
use Rattle.refusals.proofs.Passing.{first_passed}
use Rattle.shapes.specs.declared.Shape.{Shape}
use Rattle.shapes.specs.Shapes.{points_of, sparse}
use Rattle.shapes.proofs.Checked.{in_range_passed}
use Rattle.tables.specs.Tables.{check_rated}
use Rattle.tables.proofs.Checking.{rated_opens, rated_passes}
use Rattle.house_numbers.specs.Reading.{got}
use Rattle.house_file.specs.Files.{read_contents, after_reading, read_file}
use Rattle.house_file.specs.Written.{written_file}
use Rattle.house_file.proofs.Undone.{file_back}
use Rattle.house_writer.specs.Writing.{after_writing, check_room, filled_out, write_file}
use Rattle.house_writer.proofs.Rates.{all_rates}
use Rattle.house_writer.proofs.WholeFile.{write_put}
use Rattle.house_writer.proofs.Putting.{length_passed, refused_kept, Stands, put_done, put_stands}

module _ (d n : ℕ) (rates : List ℤ) where
  abbrev s : Shape
  s = sparse d n

  -- A file of checked rates is read back.
  pub checked_back : check_rated s rates ≡ Ok tt → (places : ℕ) → points_of s ≤ places →
      read_contents places (written_file s rates) ≡ got (record { shape = s; rates = rates }) []
  checked_back passed places room =
      let opens = rated_opens s rates passed in
      file_back s refl rates places (in_range_passed s opens.range) opens.long (omega (arith, opens.long)) (all_rates rates (rated_passes s rates passed))

  module _ (out : List ℕ) where
    -- Where the checks pass and there is room, the file is written.
    pub written_answer : check_rated s rates ≡ Ok tt → length (written_file s rates) ≤ length out →
        write_file d n rates out
        ≡ after_writing (Ok (length (written_file s rates))) (written_file s rates ++ drop (length (written_file s rates)) out)
    written_answer passed room = write_put d n rates out passed ∙ put_done (written_file s rates) out room

    pub refused_untouched : {r : Refusal} → (write_file d n rates out).answer ≡ Err r → (write_file d n rates out).out ≡ out
    unfolding write_file
    refused_untouched e =
        let file = written_file s rates in
        refused_kept out (check_rated s rates and_then check_room file out) (filled_out file out) (λ never. cc) e

    module _ (k : ℕ) (e : (write_file d n rates out).answer ≡ Ok k) where
      pub answered_passed : check_rated s rates ≡ Ok tt
      unfolding write_file
      answered_passed =
          let room = check_room (written_file s rates) out in
          first_passed (check_rated s rates) room (length_passed out (check_rated s rates and_then room) (filled_out (written_file s rates) out) e)

      answered : Stands (written_file s rates) out k (write_file d n rates out).out
      answered =
          let is = write_put d n rates out answered_passed in
          rw is (put_stands (written_file s rates) out k (rw is at e))

      -- The answer is the file's length.
      pub answered_length : k ≡ length (written_file s rates)
      answered_length = answered.long

      pub file_first : take k (write_file d n rates out).out ≡ written_file s rates
      file_first = answered.front

      pub past_untouched : drop k (write_file d n rates out).out ≡ drop k out
      past_untouched = answered.past

      -- What was written is read as the shape and its rates.
      pub answered_reads : (table : List ℤ) → points_of s ≤ length table →
          read_file (take k (write_file d n rates out).out) table ≡ after_reading (Ok s) (rates ++ drop (length rates) table)
      unfolding read_file
      answered_reads table room = rw (file_first, checked_back answered_passed (length table) room)
