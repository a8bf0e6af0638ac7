-- The back way over a table with values on the border, from the first face up: the faces before number f are done. Each is worked from the table that the faces before it
-- left, and leaves it as the turn has it one face further.
-- Assumes nothing.
use mathlib.Core.Path.{◌≡◌, refl, ap, ap₂, sym, ◌∙◌}
use mathlib.Core.Bool.{true, false}
use mathlib.Core.List.{List}
use mathlib.Core.Logic.{inl, inr}
use Prim.Native.Nat.{ℕ, zero, suc, ◌+◌, ◌-◌, ◌^◌, ◌≤◌, ◌<◌}
use native.Mathlib.Nat.{sub-zero}
use native.Mathlib.Omega.{arith}
use lib.IntN.{ℤ}
use lib.ListN.{length}
use Rattle.std.specs.Prelude.{Some, None}
use Rattle.faces.specs.Row.{row}
use Rattle.faces.proofs.Row.{row_zero, row_mono}
use Rattle.shapes.specs.declared.Shape.{Shape}
use Rattle.shapes.specs.Shapes.{points_of}
use Rattle.grids.specs.Grids.{height}
use Rattle.grids.specs.Faces.{faces_of}
use Rattle.grids.proofs.Faces.{faces_end}
use Rattle.neighbours.specs.Faced.{FacetOf}
use Rattle.neighbours.specs.declared.facets.Line.{Line}
use Rattle.neighbours.specs.declared.facets.Facet.{Facet}
use Rattle.neighbours.proofs.Staying.{facet_end}
use Rattle.lists.specs.Lists.{odd_sums, whole_turn, turned_between}
use Rattle.lists.specs.Steps.{NoLarger}
use Rattle.walks.specs.Walks.{walk_up}
use Rattle.lists.proofs.Turned.{still_turn}
use Rattle.sweeps.specs.Sweeps.{lists_worked, face_worked, faces_up, table_worked}
use Rattle.sweeps.proofs.Parted.{Parted, none_parted, all_parted, parted_within}
use Rattle.sweeps.proofs.Odds.{odds_none, odds_few}
use Rattle.sweeps.proofs.Room.{former_within}
use Rattle.sweeps.proofs.Faces.{turn_long}
use Rattle.sweeps.proofs.Row.{StaysAs, still_same, not_yet, face_up, face_odds, passed_up, passed_odds, StaysAs}
use Rattle.sweeps.proofs.FaceByFace.{order, nothing_moves, passed_over, ends_at, worked_as}

-- The faces before number f hold in the table ys what they held before the forward turn that leads to xs; and so many sums are odd there.
pub record Up (line : Line) (xs : List ℤ) (f odd : ℕ) (ys : List ℤ) : Type 0 where
  pub parted : Parted (points_of line.shape) 0 (row line.shape.axes line.shape.level f) xs (whole_turn false line.shape line.place xs) ys
  pub odds : odd_sums line.shape line.place (whole_turn false line.shape line.place xs) (row line.shape.axes line.shape.level f) ≡ odd
  pub walked : faces_up line.shape line.place f (faces_of line.shape - f) ys ≡ table_worked false line.shape line.place xs

up_suc : (s : Shape) (t f k : ℕ) (ys : List ℤ) → faces_up s t f (suc k) ys ≡ faces_up s t (suc f) k (face_worked false s t f ys)
unfolding faces_up
up_suc s t f k ys = refl

up_none : (s : Shape) (t f : ℕ) (ys : List ℤ) → faces_up s t f 0 ys ≡ ys
unfolding faces_up
up_none s t f ys = refl

up_all : (s : Shape) (t : ℕ) (ys : List ℤ) → faces_up s t 0 (faces_of s) ys ≡ table_worked false s t ys
unfolding table_worked
up_all s t ys = refl

module _ (line : Line) (xs : List ℤ) (long : length xs ≡ points_of line.shape) where
  abbrev result : List ℤ
  result = whole_turn false line.shape line.place xs

  pub up_starts : Up line xs 0 0 xs
  up_starts =
      record {
        parted =
            rw (row_zero line.shape.axes line.shape.level)
            (none_parted (points_of line.shape) 0 xs (whole_turn false line.shape line.place xs) long);
        odds =
            ap (odd_sums line.shape line.place result) (row_zero line.shape.axes line.shape.level) ∙ odds_none line.shape line.place result;
        walked =
            ap (λ (k : ℕ). faces_up line.shape line.place 0 k xs) (sub-zero (faces_of line.shape)) ∙ up_all line.shape line.place xs;
      }

  pub up_few : {f odd : ℕ} {ys : List ℤ} → Up line xs f odd ys → f ≤ faces_of line.shape → odd ≤ points_of line.shape
  up_few {f} u in_row =
      omega (
        arith,
        u.odds,
        odds_few line.shape line.place result (row line.shape.axes line.shape.level f),
        row_mono line.shape.axes line.shape.level f (faces_of line.shape) in_row,
        faces_end line.shape,
      )

  pub up_room : {f odd : ℕ} {ys : List ℤ} → Up line xs f odd ys → NoLarger (2 ^ 53) xs → NoLarger (2 ^ 57) ys
  unfolding whole_turn height
  up_room u small =
      parted_within u.parted (2 ^ 57)
      (λ code. omega (arith, small code))
      (λ code. omega (arith, former_within line.shape line.place xs (2 ^ 53) long (omega (arith, line.top)) small code))

  pub up_ends : {f odd : ℕ} {ys : List ℤ} → f ≡ faces_of line.shape → Up line xs f odd ys →
      (ys ≡ table_worked false line.shape line.place xs) × (ys ≡ result) × (odd ≡ odd_sums line.shape line.place ys (points_of line.shape))
  up_ends {f} {odd} {ys} all u =
      let end : row line.shape.axes line.shape.level f ≡ points_of line.shape = ap (row line.shape.axes line.shape.level) all ∙ faces_end line.shape in
      let done : ys ≡ result =
      all_parted (points_of line.shape) xs result ys (turn_long false line.shape line.place xs) (rw end at u.parted) in (
        sym (ap (λ (k : ℕ). faces_up line.shape line.place f k ys) (omega arith) ∙ up_none line.shape line.place f ys) ∙ u.walked,
        done,
        sym u.odds ∙ ap₂ (λ (zs : List ℤ) (m : ℕ). odd_sums line.shape line.place zs m) (sym done) end,
      )

  -- One face more.
  module _ (on : line.shape.border ≡ true) (f : ℕ) (in_row : f < faces_of line.shape) {odd : ℕ} {ys : List ℤ} (u : Up line xs f odd ys) where
    left : faces_of line.shape - f ≡ suc (faces_of line.shape - suc f)
    left = omega (arith, in_row)

    next_walked : (zs : List ℤ) → zs ≡ face_worked false line.shape line.place f ys →
        faces_up line.shape line.place (suc f) (faces_of line.shape - suc f) zs ≡ table_worked false line.shape line.place xs
    next_walked zs e =
        ap (faces_up line.shape line.place (suc f) (faces_of line.shape - suc f)) e
        ∙ sym (up_suc line.shape line.place f (faces_of line.shape - suc f) ys)
        ∙ ap (λ (k : ℕ). faces_up line.shape line.place f k ys) (sym left)
        ∙ u.walked

    pub up_passed : FacetOf line f None → Up line xs (suc f) odd ys
    up_passed border =
        let still = nothing_moves line on f in_row border in
        record {
          parted = passed_up line.shape line.place _ _ (order line on f in_row) still xs long false 0 (omega arith) u.parted;
          odds =
              passed_odds line.shape line.place _ _ still result (row line.shape.axes line.shape.level (suc f)) (order line on f in_row) (omega arith)
              ∙ u.odds;
          walked = next_walked ys (sym (passed_over line on f in_row border false ys));
        }

    module _ (facet : Facet) (is : FacetOf line f (Some facet)) (r : ℕ) (zs : List ℤ)
        (walked : zs ≡ lists_worked false facet.line.shape facet.line.place facet.base facet.axes (walk_up facet.axes facet.line.shape.level) ys)
        (turned : zs ≡ turned_between false facet.line.shape facet.line.place facet.base (facet_end facet) ys)
        (counted : odd_sums facet.line.shape facet.line.place zs facet.base + r ≡ odd_sums facet.line.shape facet.line.place zs (facet_end facet)) where
      its_long : length xs ≡ points_of facet.line.shape
      its_long = rw is.1 long

      abbrev its_result : List ℤ
      its_result = whole_turn false facet.line.shape facet.line.place xs

      its_parted : Parted (points_of facet.line.shape) 0 facet.base xs its_result ys
      its_parted = rw (is.3, is.1) u.parted

      same : StaysAs facet xs its_long ys xs
      same = not_yet facet xs its_long false (λ p from to. inr from) its_parted

      turned_so : Parted (points_of facet.line.shape) 0 (facet_end facet) xs its_result zs
      turned_so = face_up facet xs its_long false ys zs its_parted.long same turned 0 (omega arith) its_parted

      -- The face is done, so its odd sums are those of the result.
      done : StaysAs facet xs its_long zs its_result
      done zero (inl within) = absurd (omega (arith, within.0))
      done (suc p) (inl within) = turned_so.inside p (omega arith) (omega (arith, within.1))
      done q (inr still) =
          still_same false facet.line.shape facet.line.place its_long turned_so q still
          ∙ sym (still_turn false facet.line.shape facet.line.place xs its_long q still)

      odds_so : odd_sums facet.line.shape facet.line.place its_result facet.base + r ≡ odd_sums facet.line.shape facet.line.place its_result (facet_end facet)
      odds_so = face_odds facet xs its_long zs its_result done r counted

      pub up_face : Up line xs (suc f) (odd + r) zs
      up_face =
          record {
            parted = rw (ends_at line on f in_row facet is, is.1) at turned_so;
            odds = omega (arith, u.odds, rw (ends_at line on f in_row facet is, is.3, is.1) at odds_so);
            walked = next_walked zs (worked_as line on f in_row facet is false ys zs walked);
          }
