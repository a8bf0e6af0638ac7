-- The test of the marks says what the facts of a point say, both ways: an axis without a mark fits; a mark fits only where there are values on the border, is 1
-- or 2, and has level 0 and index 1.
-- Assumes nothing.
use mathlib.Core.Path.{◌≡◌, refl, ap, sym, ◌∙◌, fun_ext}
use mathlib.Core.Bool.{Bool, true, ◌&&◌, false≢true}
use Prim.Native.Nat.{ℕ, suc, ◌≤◌, ◌<◌}
use native.Mathlib.Omega.{arith}
use lib.Dec.{eqb, leb}
use borrow.Author.Tests.{eqb-true, eq-eqb, ne_eqb, leb-true, le-leb}
use Rattle.naturals.specs.Test.{all}
use Rattle.naturals.proofs.Cases.{le_or_lt, eq_or_not, true_or_false}
use Rattle.naturals.proofs.Tests.{and_left, and_right, all_suc, all_at, all_from}
use Rattle.numbering.specs.Point.{IsPoint}
use Rattle.shapes.specs.declared.Shape.{Shape}
use Rattle.grids.proofs.Points.{PointOf}
use Rattle.points.specs.Points.{mark_fits, fitting}

-- Without a mark it fits; with one, the other tests decide.
pub inside_fits : (border : Bool) (a l i : ℕ) → a ≡ 0 → mark_fits border a l i ≡ true
unfolding mark_fits
inside_fits border a l i e = simp (eq-eqb a 0 e)

pub marked_fits : (border : Bool) (a l i : ℕ) → (a ≡ 0 → ⊥) → mark_fits border a l i ≡ border && leb a 2 && eqb l 0 && eqb i 1
unfolding mark_fits
marked_fits border a l i ne = simp (ne_eqb a 0 ne)

-- What a mark that fits tells.
record Fits (border : Bool) (a l i : ℕ) : Type 0 where
  on : border ≡ true
  small : a ≤ 2
  level : l ≡ 0
  index : i ≡ 1

fits : (border : Bool) (a l i : ℕ) → mark_fits border a l i ≡ true → (a ≡ 0 → ⊥) → Fits border a l i
fits border a l i e ne =
    let tests : border && leb a 2 && eqb l 0 && eqb i 1 ≡ true = sym (marked_fits border a l i ne) ∙ e in
    let three = and_left (border && leb a 2 && eqb l 0) (eqb i 1) tests in
    let two = and_left (border && leb a 2) (eqb l 0) three in
    record {
      on = and_left border (leb a 2) two;
      small = leb-true a 2 (and_right border (leb a 2) two);
      level = eqb-true l 0 (and_right (border && leb a 2) (eqb l 0) three);
      index = eqb-true i 1 (and_right (border && leb a 2 && eqb l 0) (eqb i 1) tests);
    }

fitting_is : (border : Bool) (m l i : ℕ → ℕ) (t : ℕ) → fitting border m l i t ≡ mark_fits border (m t) (l t) (i t)
unfolding fitting
fitting_is border m l i t = refl

-- One axis more.
pub fits_on : (border : Bool) (m l i : ℕ → ℕ) (t : ℕ) → all (fitting border m l i) t ≡ true → mark_fits border (m t) (l t) (i t) ≡ true →
    all (fitting border m l i) (suc t) ≡ true
fits_on border m l i t before here = rw (all_suc, before, fitting_is, here)

module _ (s : Shape) {m l i : ℕ → ℕ} where
  -- Levels and indices of a point whose marks fit, with nothing past the axes, are a point of the shape.
  pub marks_named : IsPoint s.axes s.level l i → all (fitting s.border m l i) s.axes ≡ true → ((t : ℕ) → s.axes ≤ t → m t ≡ 0) →
      ((t : ℕ) → s.axes ≤ t → l t ≡ 0) → ((t : ℕ) → s.axes ≤ t → i t ≡ 0) → PointOf s m l i
  marks_named point fit no_mark no_level no_index =
      record {
        marked =
            record {
              point = point;
              mark = λ t h. eq_or_not (m t) 0 (λ e. omega arith) (λ ne. (here t h ne).small);
              level = λ t h some. (here t h (λ e. omega arith)).level;
              index = λ t h some. (here t h (λ e. omega arith)).index;
              no_mark = no_mark;
              no_level = no_level;
              no_index = no_index;
            };
        only = λ off.
            fun_ext λ t.
            eq_or_not (m t) 0 (λ e. e)
            (λ ne.
            le_or_lt s.axes t
            (λ past. no_mark t past)
            (λ h. absurd (false≢true (sym off ∙ (here t h ne).on))));
      }
    where
      here : (t : ℕ) → t < s.axes → (m t ≡ 0 → ⊥) → Fits s.border (m t) (l t) (i t)
      here t h ne = fits s.border (m t) (l t) (i t) (sym (fitting_is s.border m l i t) ∙ all_at (fitting s.border m l i) s.axes fit t h) ne

  -- The marks of a point of the shape fit.
  pub marks_pass : PointOf s m l i → all (fitting s.border m l i) s.axes ≡ true
  marks_pass x =
      all_from (fitting s.border m l i) s.axes
      (λ t h.
      fitting_is s.border m l i t
      ∙ eq_or_not (m t) 0
      (λ e. inside_fits s.border (m t) (l t) (i t) e)
      (λ ne.
      marked_fits s.border (m t) (l t) (i t) ne
      ∙ simp (
        on t ne,
        le-leb (m t) 2 (x.marked.mark t h),
        eq-eqb (l t) 0 (x.marked.level t h (omega arith)),
        eq-eqb (i t) 1 (x.marked.index t h (omega arith)),
      )))
    where
      on : (t : ℕ) → (m t ≡ 0 → ⊥) → s.border ≡ true
      on t ne = true_or_false s.border (λ e. e) (λ off. absurd (ne (ap (λ (f : ℕ → ℕ). f t) (x.only off))))
