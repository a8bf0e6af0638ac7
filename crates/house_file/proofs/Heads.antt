-- The shape can be learned first, with no buffer: of an accepted file it is the shape that the file holds, a refusal of it is the reader's for every buffer,
-- and a shape that is learned is in range. True since the reader reads and checks the head before all else.
-- Assumes nothing.
use Rattle.std.specs.Prelude.{Ok, Err}
use mathlib.Core.Path.{◌≡◌, refl, ap, ◌∙◌}
use mathlib.Core.List.{List}
use Prim.Native.Nat.{ℕ}
use native.Mathlib.Omega.{arith}
use lib.Dec.{leb}
use lib.IntN.{ℤ}
use lib.ListN.{length}
use borrow.Author.Tests.{le-leb}
use Rattle.refusals.specs.declared.Refusal.{Refusal}
use Rattle.refusals.specs.declared.Refusal.TheVariants.{TableLength}
use Rattle.refusals.specs.Checks.{unless, Verdict}
use Rattle.shapes.specs.declared.Shape.{Shape}
use Rattle.shapes.specs.Shapes.{check_shape, points_of}
use Rattle.house_numbers.specs.Reading.{Read, got, refused, ◌next◌, ◌then_read◌}
use Rattle.house_file.specs.Files.{read_head, head_checked, shape_read, shape_of_file, Contents, read_table, read_contents, after_reading, read_file}
use Rattle.house_file.proofs.Answering.{head_first}
use Rattle.house_file.proofs.Parts.{accepted_parts}

passes : (v : Verdict) (q s : Shape) (rest : List ℕ) → shape_read (v then_read got q rest) ≡ Ok s → (v ≡ Ok tt) × (q ≡ s)
passes (Ok _) q s rest e = (refl, cc)
passes (Err r) q s rest e = (cc, cc)

record Headed (x : Read Shape) (s : Shape) : Type 0 where
  after : List ℕ
  head : x ≡ got s after
  shaped : check_shape s ≡ Ok tt

headed : (x : Read Shape) (s : Shape) → shape_read (x next head_checked) ≡ Ok s → Headed x s
unfolding head_checked
headed (got q rest) s e =
    let p = passes (check_shape q) q s rest e in
    record { after = rest; head = ap (λ (q : Shape). got q rest) p.1; shaped = rw p.1 at p.0 }
headed (refused r) s e = let z : ◌≡◌ {A = ℕ} 0 1 = cc in absurd (omega arith)

turned_away : (v : Verdict) (q : Shape) (rest : List ℕ) (r : Refusal) → shape_read (v then_read got q rest) ≡ Err r → v ≡ Err r
turned_away (Ok _) q rest r e = cc
turned_away (Err p) q rest r e = let same : p ≡ r = cc in ap Err same

head_refused : (x : Read Shape) (r : Refusal) → shape_read (x next head_checked) ≡ Err r → (places : ℕ) → x next read_table places ≡ refused r
unfolding head_checked read_table
head_refused (got q rest) r e places = rw (turned_away (check_shape q) q rest r e)
head_refused (refused p) r e places = let same : p ≡ r = cc in ap refused same

module _ (bytes : List ℕ) where
  pub shape_first : (places : ℕ) (c : Contents) (rest : List ℕ) → read_contents places bytes ≡ got c rest → shape_of_file bytes ≡ Ok c.shape
  unfolding shape_of_file head_checked
  shape_first places c rest e =
      let p = accepted_parts bytes c places rest e in rw (p.head, p.shaped)

  pub shape_passes : (s : Shape) → shape_of_file bytes ≡ Ok s → check_shape s ≡ Ok tt
  unfolding shape_of_file
  shape_passes s e = (headed (read_head bytes) s e).shaped

  -- Once it is learned, the places decide nothing but whether they are enough: a buffer of N places is read into as every longer one is.
  pub shape_enough : (s : Shape) → shape_of_file bytes ≡ Ok s → (places : ℕ) →
      read_contents places bytes ≡ unless (leb (points_of s) places) TableLength then_read read_contents (points_of s) bytes
  unfolding shape_of_file read_contents read_table
  shape_enough s e places =
      let h = headed (read_head bytes) s e in rw (h.head, h.shaped, le-leb (points_of s) (points_of s) (omega arith))

  -- What is refused before the shape is known is refused by the reader, whatever the places.
  refused_first : (r : Refusal) → shape_of_file bytes ≡ Err r → (places : ℕ) → read_contents places bytes ≡ refused r
  unfolding shape_of_file
  refused_first r e places = head_first bytes places ∙ head_refused (read_head bytes) r e places

  pub shape_refused : (r : Refusal) → shape_of_file bytes ≡ Err r → (table : List ℤ) → read_file bytes table ≡ after_reading (Err r) table
  unfolding read_file
  shape_refused r e table = rw (refused_first r e (length table))
