-- An accepted file is a head of a checked shape and then just its rates. So the number of places decides nothing but whether there are enough. True since the
-- definition reads the one after the other, and looks at the places once.
-- Assumes nothing.
use Rattle.std.specs.Prelude.{Ok}
use mathlib.Core.Path.{◌≡◌, ap, ◌∙◌}
use mathlib.Core.List.{List, []}
use Prim.Native.Nat.{ℕ}
use lib.Dec.{leb}
use Rattle.std.proofs.lemmas.List.{nil_from_length}
use Rattle.refusals.specs.declared.Refusal.TheVariants.{TableLength}
use Rattle.refusals.specs.Checks.{unless}
use Rattle.shapes.specs.Shapes.{check_shape, points_of}
use Rattle.house_numbers.specs.Reading.{got, ◌then_read◌}
use Rattle.house_rates.specs.Rates.{read_rates}
use Rattle.house_file.specs.Files.{read_head, Contents, ended, read_table, read_contents}
use Rattle.house_file.proofs.Accepting.{contents_whole}
use Rattle.house_file.proofs.Answering.{head_first}

pub record Parts (bytes : List ℕ) (c : Contents) : Type 0 where
  pub after : List ℕ
  pub head : read_head bytes ≡ got c.shape after
  pub shaped : check_shape c.shape ≡ Ok tt
  pub filled : read_rates (points_of c.shape) after ≡ got c.rates []

module _ (bytes : List ℕ) (c : Contents) where
  pub accepted_parts : (places : ℕ) (rest : List ℕ) → read_contents places bytes ≡ got c rest → Parts bytes c
  accepted_parts places rest e =
      let w = contents_whole places bytes c rest e in
      record { after = w.after; head = w.head; shaped = w.shaped; filled = w.filled ∙ ap (got c.rates) (nil_from_length rest w.ends) }

  -- It is accepted wherever there are enough places, and refused with 3 elsewhere.
  pub parts_read : Parts bytes c → (places : ℕ) → read_contents places bytes ≡ unless (leb (points_of c.shape) places) TableLength then_read got c []
  unfolding read_table ended
  parts_read p places = head_first bytes places ∙ rw (p.head, p.shaped, p.filled)
