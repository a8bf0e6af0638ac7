-- A whole file put into the output buffer: its size, the checks, and its parts one after the other. True since d and n of a shape in range take one byte each.
-- Assumes nothing.
use Rattle.std.specs.Prelude.{Ok, Err}
use mathlib.Core.Path.{◌≡◌, sym, ap, ◌∙◌}
use mathlib.Core.List.{List, ◌++◌, append_assoc}
use Prim.Native.Nat.{ℕ, ◌+◌, ◌≤◌, ◌<◌}
use native.Mathlib.Omega.{arith}
use lib.IntN.{ℤ}
use lib.ListN.{length, take}
use borrow.Author.Tests.{lt-leb}
use Rattle.refusals.specs.declared.Refusal.{Refusal}
use Rattle.refusals.specs.declared.Refusal.TheVariants.{TableLength}
use Rattle.shapes.specs.declared.Shape.{Shape}
use Rattle.shapes.specs.Shapes.{check_shape, sparse}
use Rattle.tables.specs.Tables.{check_rated}
use Rattle.buffers.specs.Put.{Put}
use Rattle.buffers.proofs.Puts.{behind, past, put_behind, put_as, put_length, put_over}
use Rattle.house_file.specs.Written.{written, written_rates, written_file}
use Rattle.house_file.proofs.Lengths.{head_size, file_size}
use Rattle.house_writer.specs.Writing.{after_writing, kept_out, check_room, put_file, write_file}
use Rattle.house_writer.proofs.Putting.{put_done}

-- The checks of the writer.
module _ (d n : ℕ) (rates : List ℤ) (out : List ℕ) where
  pub write_refused : {r : Refusal} → check_rated (sparse d n) rates ≡ Err r → write_file d n rates out ≡ kept_out out r
  unfolding write_file
  write_refused e = rw e

  pub write_put : check_rated (sparse d n) rates ≡ Ok tt → write_file d n rates out ≡ put_file (written_file (sparse d n) rates) out
  unfolding write_file put_file
  write_put e = rw e

-- The room.
module _ (file out : List ℕ) where
  pub put_short : length out < length file → put_file file out ≡ kept_out out TableLength
  unfolding put_file check_room
  put_short h = rw (lt-leb (length file) (length out) h)

  pub put_answered : {new : List ℕ} {next : ℕ} → length file ≤ length out → Put file out 0 new next → after_writing (Ok next) new ≡ put_file file out
  put_answered {new} {next} room put =
      let long : next ≡ length file = omega (arith, put.after) in
      ap (λ (n : ℕ). after_writing (Ok n) new) long
      ∙ ap (after_writing (Ok (length file))) (put_over put room)
      ∙ sym (put_done file out room)

module _ (s : Shape) (passed : check_shape s ≡ Ok tt) where
  module _ (rates : List ℤ) where
    pub rates_room : {old mid : List ℕ} {place : ℕ} → length (written_file s rates) ≤ length old →
        Put (written s.axes ++ written s.level) old 0 mid place → place + length (written_rates rates) ≤ length mid
    rates_room room put = omega (arith, file_size s passed rates, put.after, put_length put, head_size s passed)

    pub parts_put : {old mid put : List ℕ} {place size : ℕ} → Put (written s.axes ++ written s.level) old 0 mid place → place ≤ length mid →
        Put (written_rates rates) (behind mid place) 0 put size → Put (written_file s rates) old 0 (take place mid ++ (put ++ past mid place)) (place + size)
    unfolding written_file
    parts_put head within put = put_as (append_assoc (written s.axes) (written s.level) (written_rates rates)) (put_behind head within put)
