-- What a file's head, its table and the whole file give, by the first check that refuses. Each case is the definition with its tests decided.
-- Assumes nothing.
use mathlib.Core.Path.{◌≡◌, refl, sym, ap, ◌∙◌}
use mathlib.Core.List.{List}
use Prim.Native.Nat.{ℕ, ◌≤◌}
use lib.Dec.{leb}
use Rattle.std.specs.Prelude.{Result, Ok, Err}
use lib.IntN.{ℤ}
use borrow.Author.Tests.{leb-true}
use Rattle.refusals.specs.declared.Refusal.{Refusal}
use Rattle.refusals.specs.declared.Refusal.TheVariants.{TableLength}
use Rattle.refusals.specs.Checks.{unless, ◌and_then◌, Verdict}
use Rattle.refusals.proofs.Passing.{first_passed, next_passed, test_passed}
use Rattle.shapes.specs.declared.Shape.{Shape}
use Rattle.shapes.specs.Shapes.{check_shape, points_of}
use Rattle.house_numbers.specs.Reading.{Read, got, refused, ◌next◌, ◌then_read◌}
use Rattle.house_numbers.specs.Numbers.{read_number}
use Rattle.house_rates.specs.Rates.{read_rates, all_read}
use Rattle.house_file.specs.Files.{named, read_head, Contents, ended, read_table, read_contents}
use Rattle.house_rates.specs.declared.CheckedRates.{CheckedRates}
use Rattle.house_rates.specs.Steps.{closed}
use Rattle.house_rates.specs.Held.{held}
use Rattle.house_file.specs.Steps.{check_places, table_in}

module _ (bytes : List ℕ) where
  pub first_refused : {r : Refusal} → read_number bytes ≡ refused r → read_head bytes ≡ refused r
  unfolding read_head
  first_refused e = rw e

  module _ (d : ℕ) (more : List ℕ) (e : read_number bytes ≡ got d more) where
    pub second_refused : {r : Refusal} → read_number more ≡ refused r → read_head bytes ≡ refused r
    unfolding read_head
    second_refused h = rw (e, h)

    pub head_named : {n : ℕ} {rest : List ℕ} → read_number more ≡ got n rest → read_head bytes ≡ named d n rest
    unfolding read_head
    head_named h = rw (e, h)

  -- A whole file is its head and then its table.
  pub head_first : (places : ℕ) → read_contents places bytes ≡ read_head bytes next read_table places
  unfolding read_contents
  head_first places = refl

-- What the checks of the shape and of the places tell where they pass.
pub record Fitting (s : Shape) (places : ℕ) : Type 0 where
  pub shape : check_shape s ≡ Ok tt
  pub room : points_of s ≤ places

pub places_passed : (s : Shape) (places : ℕ) → check_places s places ≡ Ok tt → Fitting s places
unfolding check_places
places_passed s places e =
    let n = points_of s in
    let room = unless (leb n places) TableLength in
    record {
      shape = first_passed (check_shape s) room e;
      room = leb-true n places (test_passed (leb n places) TableLength (next_passed (check_shape s) room e));
    }

module _ (places : ℕ) (s : Shape) (rest : List ℕ) where
  in_a_row : (a b : Verdict) (x : Read Contents) → a then_read (b then_read x) ≡ (a and_then b) then_read x
  in_a_row (Ok _) b x = refl
  in_a_row (Err r) b x = refl

  checks_first : read_table places s rest ≡ check_places s places then_read (read_rates (points_of s) rest next ended s)
  unfolding read_table check_places
  checks_first = in_a_row (check_shape s) (unless (leb (points_of s) places) TableLength) _

  pub unplaced : {r : Refusal} → check_places s places ≡ Err r → read_table places s rest ≡ refused r
  unplaced e = checks_first ∙ rw e

  pub placed : check_places s places ≡ Ok tt → read_table places s rest ≡ read_rates (points_of s) rest next ended s
  placed e = checks_first ∙ rw e

-- Rates of a shape.
abbrev of_shape : Shape → List ℤ → List ℕ → Read Contents
of_shape s rates rest = got (record { shape = s; rates = rates }) rest

-- What the check of the rates answers is what the table's rates are.
module _ (s : Shape) where
  shape_after : (v : Verdict) (rates : List ℤ) (rest : List ℕ) → v then_read of_shape s rates rest ≡ (v then_read got rates rest) next of_shape s
  shape_after (Ok _) rates rest = refl
  shape_after (Err r) rates rest = refl

  ended_closed : (x : Read (List ℤ)) → x next ended s ≡ x next closed next of_shape s
  unfolding ended closed
  ended_closed (got rates rest) = shape_after (all_read rest) rates rest
  ended_closed (refused r) = refl

  table_held : (a : Result CheckedRates Refusal) → table_in s a ≡ held a next of_shape s
  table_held (Ok rates) = refl
  table_held (Err r) = refl

  pub table_checked : (x : Read (List ℤ)) (a : Result CheckedRates Refusal) → held a ≡ x next closed → table_in s a ≡ x next ended s
  table_checked x a e = table_held a ∙ ap (λ (y : Read (List ℤ)). y next of_shape s) e ∙ sym (ended_closed x)
