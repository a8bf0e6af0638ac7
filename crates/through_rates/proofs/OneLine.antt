-- Surfaces and turns speak of the same lines: the test that two points lie on one line passes if and only if they differ on its axis at most. On the d axes the
-- test says so, and past them marks, levels and indices are all 0.
-- Assumes nothing.
use mathlib.Core.Path.{◌≡◌, ap, sym, ◌∙◌}
use mathlib.Core.Bool.{Bool, true, ◌&&◌, ◌||◌}
use Prim.Native.Nat.{ℕ, ◌<◌}
use lib.Dec.{eqb}
use borrow.Author.Tests.{eqb-true, eq-eqb, ne_eqb}
use Rattle.naturals.proofs.Cases.{le_or_lt, eq_or_not}
use Rattle.naturals.proofs.Tests.{and_left, and_right, all_at, all_from}
use Rattle.shapes.specs.declared.Shape.{Shape}
use Rattle.grids.specs.Grids.{mark_on, level_on, index_on}
use Rattle.grids.proofs.Points.{mark_past, level_past, index_past}
use Rattle.surfaces.specs.Lines.{same_in, same_on, same_beside, on_line}
use Rattle.turns.proofs.Lines.{OnLine}

module _ (s : Shape) (t p q : ℕ) (e : on_line s t p q ≡ true) where
  pub same_on_lem : (u : ℕ) → u < s.axes → (u ≡ t → ⊥) → same_on s p q u ≡ true
  unfolding on_line same_beside
  same_on_lem u h ne =
      sym (ap (λ (b : Bool). b || same_on s p q u) (ne_eqb u t ne)) ∙ all_at (same_beside s t p q) s.axes e u h

  -- The level and the index are the same.
  abbrev place_same : ℕ → Bool
  place_same u = eqb (level_on s p u) (level_on s q u) && eqb (index_on s p u) (index_on s q u)

  same_parts : (u : ℕ) → u < s.axes → (u ≡ t → ⊥) → eqb (mark_on s p u) (mark_on s q u) && place_same u ≡ true
  unfolding same_in
  same_parts u h ne = same_on_lem u h ne

  same_place : (u : ℕ) → u < s.axes → (u ≡ t → ⊥) → place_same u ≡ true
  same_place u h ne = and_right (eqb (mark_on s p u) (mark_on s q u)) (place_same u) (same_parts u h ne)

  same_mark : (u : ℕ) → u < s.axes → (u ≡ t → ⊥) → mark_on s p u ≡ mark_on s q u
  same_mark u h ne = eqb-true (mark_on s p u) (mark_on s q u) (and_left (eqb (mark_on s p u) (mark_on s q u)) (place_same u) (same_parts u h ne))

  same_level_lem : (u : ℕ) → u < s.axes → (u ≡ t → ⊥) → level_on s p u ≡ level_on s q u
  same_level_lem u h ne =
      eqb-true (level_on s p u) (level_on s q u)
      (and_left (eqb (level_on s p u) (level_on s q u)) (eqb (index_on s p u) (index_on s q u)) (same_place u h ne))

  same_index : (u : ℕ) → u < s.axes → (u ≡ t → ⊥) → index_on s p u ≡ index_on s q u
  same_index u h ne =
      eqb-true (index_on s p u) (index_on s q u)
      (and_right (eqb (level_on s p u) (level_on s q u)) (eqb (index_on s p u) (index_on s q u)) (same_place u h ne))

  pub on_line_means : OnLine s t q p
  on_line_means =
      record {
        marks = λ u ne. le_or_lt s.axes u (λ past. mark_past s p u past ∙ sym (mark_past s q u past)) (λ h. same_mark u h ne);
        levels =
            λ u ne.
            le_or_lt s.axes u (λ past. level_past s p u past ∙ sym (level_past s q u past)) (λ h. same_level_lem u h ne);
        indices =
            λ u ne.
            le_or_lt s.axes u (λ past. index_past s p u past ∙ sym (index_past s q u past)) (λ h. same_index u h ne);
      }

pub on_line_where : (s : Shape) (t p q : ℕ) → OnLine s t q p → on_line s t p q ≡ true
unfolding on_line same_beside same_in
on_line_where s t p q line =
    all_from (same_beside s t p q) s.axes
    (λ u h.
    eq_or_not u t
    (λ e. rw (eq-eqb u t e))
    (λ ne.
    rw (
      ne_eqb u t ne,
      eq-eqb (mark_on s p u) (mark_on s q u) (line.marks u ne),
      eq-eqb (level_on s p u) (level_on s q u) (line.levels u ne),
      eq-eqb (index_on s p u) (index_on s q u) (line.indices u ne),
    )))
