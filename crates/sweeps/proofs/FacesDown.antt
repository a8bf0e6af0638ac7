-- The forward way over a table with values on the border, from the last face down: the faces from number f on are turned. Each is worked from the table that the faces
-- after it left, and leaves it as the turn has it one face further.
-- Assumes nothing.
use mathlib.Core.Path.{◌≡◌, refl, ap, sym, ◌∙◌}
use mathlib.Core.Bool.{true}
use mathlib.Core.List.{List}
use mathlib.Core.Logic.{inl}
use Prim.Native.Nat.{ℕ, suc, ◌+◌, ◌^◌, ◌≤◌, ◌<◌}
use native.Mathlib.Omega.{arith}
use lib.IntN.{ℤ}
use lib.ListN.{length}
use Rattle.std.specs.Prelude.{Some, None}
use Rattle.faces.specs.Row.{row}
use Rattle.faces.proofs.Row.{row_zero}
use Rattle.shapes.specs.declared.Shape.{Shape}
use Rattle.shapes.specs.Shapes.{points_of}
use Rattle.grids.specs.Faces.{faces_of}
use Rattle.grids.proofs.Faces.{faces_end}
use Rattle.neighbours.specs.Faced.{FacetOf}
use Rattle.neighbours.specs.declared.facets.Line.{Line}
use Rattle.neighbours.specs.declared.facets.Facet.{Facet}
use Rattle.neighbours.proofs.Staying.{facet_end}
use Rattle.lists.specs.Lists.{odd_sums, whole_turn, turned_between}
use Rattle.lists.specs.Steps.{NoLarger}
use Rattle.walks.specs.Walks.{walk_down}
use Rattle.sweeps.specs.Sweeps.{lists_worked, face_worked, faces_down, table_worked}
use Rattle.sweeps.proofs.Parted.{Parted, none_parted, all_parted, parted_within}
use Rattle.sweeps.proofs.Odds.{odds_none, odds_few}
use Rattle.sweeps.proofs.Room.{turned_within}
use Rattle.sweeps.proofs.Faces.{turn_long}
use Rattle.sweeps.proofs.Row.{StaysAs, not_yet, face_down, face_odds, passed_down, passed_odds, StaysAs}
use Rattle.sweeps.proofs.FaceByFace.{order, inside_table, nothing_moves, passed_over, ends_at, worked_as}

-- The faces from number f on are turned in the table ys, which holds the points from number k on so; and so many sums are odd there.
pub record Down (line : Line) (xs : List ℤ) (f odd : ℕ) (ys : List ℤ) : Type 0 where
  pub parted : Parted (points_of line.shape) (row line.shape.axes line.shape.level f) (points_of line.shape) xs
      (whole_turn true line.shape line.place xs) ys
  pub odds : odd_sums line.shape line.place xs (row line.shape.axes line.shape.level f) + odd ≡ odd_sums line.shape line.place xs (points_of line.shape)
  pub walked : faces_down line.shape line.place f ys ≡ table_worked true line.shape line.place xs

down_suc : (s : Shape) (t f : ℕ) (ys : List ℤ) → faces_down s t (suc f) ys ≡ faces_down s t f (face_worked true s t f ys)
unfolding faces_down
down_suc s t f ys = refl

down_none : (s : Shape) (t : ℕ) (ys : List ℤ) → faces_down s t 0 ys ≡ ys
unfolding faces_down
down_none s t ys = refl

down_all : (s : Shape) (t : ℕ) (ys : List ℤ) → faces_down s t (faces_of s) ys ≡ table_worked true s t ys
unfolding table_worked
down_all s t ys = refl

module _ (line : Line) (xs : List ℤ) (long : length xs ≡ points_of line.shape) where
  abbrev shape : Shape
  shape = line.shape

  abbrev place : ℕ
  place = line.place

  pub down_starts : (f : ℕ) → f ≡ faces_of line.shape → Down line xs f 0 xs
  down_starts f all =
      let end : row line.shape.axes line.shape.level f ≡ points_of line.shape = ap (row line.shape.axes line.shape.level) all ∙ faces_end line.shape in
      record {
        parted = rw end (none_parted (points_of line.shape) (points_of line.shape) xs (whole_turn true line.shape line.place xs) long);
        odds = omega (arith, ap (odd_sums line.shape line.place xs) end);
        walked = ap (λ (g : ℕ). faces_down line.shape line.place g xs) all ∙ down_all line.shape line.place xs;
      }

  -- No more sums are odd than there are points.
  pub down_few : {f odd : ℕ} {ys : List ℤ} → Down line xs f odd ys → odd ≤ points_of line.shape
  down_few d = omega (arith, d.odds, odds_few line.shape line.place xs (points_of line.shape))

  pub down_room : {f odd : ℕ} {ys : List ℤ} → Down line xs f odd ys → NoLarger (2 ^ 59) xs → NoLarger (2 ^ 60) ys
  unfolding whole_turn
  down_room d small =
      parted_within d.parted (2 ^ 60)
      (λ code. omega (arith, small code))
      (λ code. omega (arith, turned_within line.shape line.place xs (2 ^ 59) long small code))

  pub down_ends : {odd : ℕ} {ys : List ℤ} → Down line xs 0 odd ys →
      (ys ≡ table_worked true line.shape line.place xs) × (ys ≡ whole_turn true line.shape line.place xs) × (odd ≡ odd_sums line.shape line.place xs (points_of line.shape))
  down_ends {odd} {ys} d = (
    sym (down_none line.shape line.place ys) ∙ d.walked,
    all_parted (points_of line.shape) xs (whole_turn true line.shape line.place xs) ys (turn_long true line.shape line.place xs)
        (rw (row_zero line.shape.axes line.shape.level) at d.parted),
    omega (arith, d.odds, ap (odd_sums line.shape line.place xs) (row_zero line.shape.axes line.shape.level), odds_none line.shape line.place xs),
  )

  -- One face more.
  module _ (on : line.shape.border ≡ true) (f : ℕ) (in_row : f < faces_of line.shape) {odd : ℕ} {ys : List ℤ} (d : Down line xs (suc f) odd ys) where
    pub down_passed : FacetOf line f None → Down line xs f odd ys
    down_passed border =
        let still = nothing_moves line on f in_row border in
        record {
          parted =
              passed_down line.shape line.place _ _ (order line on f in_row) still xs long true (points_of line.shape)
              (inside_table line on f in_row) d.parted;
          odds =
              omega (
                arith,
                d.odds,
                passed_odds line.shape line.place _ _ still xs (row line.shape.axes line.shape.level (suc f)) (order line on f in_row) (omega arith),
              );
          walked =
              ap (faces_down line.shape line.place f) (sym (passed_over line on f in_row border true ys))
              ∙ sym (down_suc line.shape line.place f ys)
              ∙ d.walked;
        }

    module _ (facet : Facet) (is : FacetOf line f (Some facet)) (r : ℕ) (zs : List ℤ)
        (walked : zs ≡ lists_worked true facet.line.shape facet.line.place facet.base facet.axes (walk_down facet.axes facet.line.shape.level) ys)
        (turned : zs ≡ turned_between true facet.line.shape facet.line.place facet.base (facet_end facet) ys)
        (counted : odd_sums facet.line.shape facet.line.place ys facet.base + r ≡ odd_sums facet.line.shape facet.line.place ys (facet_end facet)) where
      its_long : length xs ≡ points_of facet.line.shape
      its_long = rw is.1 long

      its_parted : Parted (points_of facet.line.shape) (facet_end facet) (points_of facet.line.shape) xs
          (whole_turn true facet.line.shape facet.line.place xs) ys
      its_parted = rw (ends_at line on f in_row facet is, is.1) d.parted

      same : StaysAs facet xs its_long ys xs
      same = not_yet facet xs its_long true (λ p from to. inl to) its_parted

      turned_so : Parted (points_of facet.line.shape) facet.base (points_of facet.line.shape) xs (whole_turn true facet.line.shape facet.line.place xs) zs
      turned_so = face_down facet xs its_long true ys zs its_parted.long same turned (points_of facet.line.shape) facet.sits.inside its_parted

      odds_so : odd_sums facet.line.shape facet.line.place xs facet.base + r ≡ odd_sums facet.line.shape facet.line.place xs (facet_end facet)
      odds_so = face_odds facet xs its_long ys xs same r counted

      pub down_face : Down line xs f (odd + r) zs
      down_face =
          record {
            parted = rw (is.3, is.1) at turned_so;
            odds = omega (arith, d.odds, rw (ends_at line on f in_row facet is, is.3, is.1) at odds_so);
            walked =
                ap (faces_down line.shape line.place f) (worked_as line on f in_row facet is true ys zs walked)
                ∙ sym (down_suc line.shape line.place f ys)
                ∙ d.walked;
          }
