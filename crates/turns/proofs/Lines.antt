-- A single turn changes each value by the values of its own line along the axis alone: tables that agree on a line agree on it after the turn. True since a
-- parent lies on the line: it differs from the point on that axis only.
-- Assumes nothing.
use mathlib.Core.Path.{◌≡◌, refl, ap, ap₂, sym, ◌∙◌}
use mathlib.Core.Logic.{◌⊎◌, inl, inr, ⊎_elim}
use mathlib.Core.List.{List}
use Prim.Native.Nat.{ℕ, zero, suc, ◌<◌}
use lib.IntN.{ℤ, pos, ◌+ℤ◌, ◌-ℤ◌}
use lib.ListN.{get_or}
use Rattle.integers.specs.Half.{half}
use Rattle.numbering.specs.declared.Side.{Side}
use Rattle.numbering.specs.declared.Side.TheVariants.{Left, Right}
use Rattle.numbering.proofs.Parents.{update_other}
use Rattle.hierarchy.specs.Turns.{value_at, forward, backward}
use Rattle.hierarchy.proofs.Inverse.{forward_is, backward_zero}
use Rattle.hierarchy.proofs.Values.{value_zero, value_suc, values_at}
use Rattle.shapes.specs.declared.Shape.{Shape}
use Rattle.shapes.specs.Shapes.{points_of}
use Rattle.grids.specs.Grids.{number_of, mark_on, level_on, index_on, neighbour, depth, height}
use Rattle.grids.proofs.Points.{PointOf, number_lt, marks_again, levels_again, indices_again}
use Rattle.grids.proofs.Beside.{to_across, to_parent, across_there, parent_there, none_or_point}
use Rattle.grids.proofs.Instance.{grid}
use Rattle.grids.specs.Turned.{turned_table, former_table}

-- Two points on a line along place t: they differ on that axis at most.
pub record OnLine (s : Shape) (t p q : ℕ) : Type 0 where
  pub marks : (u : ℕ) → (u ≡ t → ⊥) → mark_on s q u ≡ mark_on s p u
  pub levels : (u : ℕ) → (u ≡ t → ⊥) → level_on s q u ≡ level_on s p u
  pub indices : (u : ℕ) → (u ≡ t → ⊥) → index_on s q u ≡ index_on s p u

-- A point of the shape beside point p, on its line.
pub record Beside (s : Shape) (t p code : ℕ) : Type 0 where
  pub point : ℕ
  pub coded : code ≡ suc point
  pub below : point < points_of s
  pub line : OnLine s t p point

-- The points of a line lie on one line, from whichever it is looked at.
pub itself : (s : Shape) (t p : ℕ) → OnLine s t p p
itself s t p = record { marks = λ u ne. refl; levels = λ u ne. refl; indices = λ u ne. refl }

pub other_way : (s : Shape) (t p q : ℕ) → OnLine s t p q → OnLine s t q p
other_way s t p q a =
    record { marks = λ u ne. sym (a.marks u ne); levels = λ u ne. sym (a.levels u ne); indices = λ u ne. sym (a.indices u ne) }

pub along : (s : Shape) (t p q r : ℕ) → OnLine s t p q → OnLine s t q r → OnLine s t p r
along s t p q r a b =
    record {
      marks = λ u ne. b.marks u ne ∙ a.marks u ne;
      levels = λ u ne. b.levels u ne ∙ a.levels u ne;
      indices = λ u ne. b.indices u ne ∙ a.indices u ne;
    }

module _ (s : Shape) (t : ℕ) (axis : t < s.axes) where
  -- A point that differs from point p on the axis at most lies beside it.
  beside_named : (p code : ℕ) {m l i : ℕ → ℕ} → PointOf s m l i → code ≡ suc (number_of s m l i) → ((u : ℕ) → (u ≡ t → ⊥) → m u ≡ mark_on s p u) →
      ((u : ℕ) → (u ≡ t → ⊥) → l u ≡ level_on s p u) → ((u : ℕ) → (u ≡ t → ⊥) → i u ≡ index_on s p u) → Beside s t p code
  beside_named p code {m} {l} {i} x coded marks levels indices =
      record {
        point = number_of s m l i;
        coded = coded;
        below = number_lt s x;
        line =
            record {
              marks = λ u ne. ap (λ (f : ℕ → ℕ). f u) (marks_again s x) ∙ marks u ne;
              levels = λ u ne. ap (λ (f : ℕ → ℕ). f u) (levels_again s x) ∙ levels u ne;
              indices = λ u ne. ap (λ (f : ℕ → ℕ). f u) (indices_again s x) ∙ indices u ne;
            };
      }

  -- A neighbour is none or lies on the line.
  pub neighbour_on_line : (b : Side) (p : ℕ) → p < points_of s → (neighbour s t b (suc p) ≡ 0) ⊎ Beside s t p (neighbour s t b (suc p))
  neighbour_on_line b p h =
      none_or_point s t b p inl
      (λ h axis inner e.
      inr
      (beside_named p (neighbour s t b (suc p)) (parent_there s t b p h axis inner e) (to_parent s t b p h axis inner e)
      (λ u ne. refl)
      (λ u ne. update_other (level_on s p) t _ u ne)
      (λ u ne. update_other (index_on s p) t _ u ne)))
      (λ h axis inner e on.
      inr
      (beside_named p (neighbour s t b (suc p)) (across_there s t b p h axis inner on) (to_across s t b p h axis inner e on)
      (λ u ne. update_other (mark_on s p) t _ u ne)
      (λ u ne. update_other (level_on s p) t _ u ne)
      (λ u ne. update_other (index_on s p) t _ u ne)))

  -- Tables that agree on the line of point p agree at p after the turn.
  pub own_line : (xs ys : List ℤ) (p : ℕ) → p < points_of s →
      ((q : ℕ) → q < points_of s → OnLine s t p q → get_or xs q (pos 0) ≡ get_or ys q (pos 0)) →
      get_or (turned_table s t xs) p (pos 0) ≡ get_or (turned_table s t ys) p (pos 0)
  unfolding turned_table
  own_line xs ys p h same =
      values_at (points_of s) (forward (neighbour s) t (value_at xs)) p h
      ∙ forward_is (points_of s) (neighbour s) (depth s) (grid s) t (value_at xs) (suc p)
      ∙ ap₂ (λ (v w : ℤ). v -ℤ half w) (held p h (itself s t p)) (ap₂ ◌+ℤ◌ (parent Left) (parent Right))
      ∙ sym
      (values_at (points_of s) (forward (neighbour s) t (value_at ys)) p h
      ∙ forward_is (points_of s) (neighbour s) (depth s) (grid s) t (value_at ys) (suc p))
    where
      held : (q : ℕ) → q < points_of s → OnLine s t p q → value_at xs (suc q) ≡ value_at ys (suc q)
      held q lt line = value_suc xs q ∙ same q lt line ∙ sym (value_suc ys q)

      parent : (b : Side) → value_at xs (neighbour s t b (suc p)) ≡ value_at ys (neighbour s t b (suc p))
      parent b =
          ⊎_elim
          (λ e. rw e (value_zero xs ∙ sym (value_zero ys)))
          (λ q. rw q.coded (held q.point q.below q.line))
          (neighbour_on_line b p h)

  -- The same of a turn back: the value at p is found from the values of its line alone, since a parent's line is the point's.
  back_along : (k : ℕ) (x y : ℕ → ℤ) (p : ℕ) → p < points_of s →
      ((q : ℕ) → q < points_of s → OnLine s t p q → x (suc q) ≡ y (suc q)) →
      ((z : ℕ) → backward (neighbour s) z t x 0 ≡ backward (neighbour s) z t y 0) →
      backward (neighbour s) k t x (suc p) ≡ backward (neighbour s) k t y (suc p)
  unfolding backward
  back_along zero x y p h same none = same p h (itself s t p)
  back_along (suc k) x y p h same none =
      let parent : (b : Side) → backward (neighbour s) k t x (neighbour s t b (suc p)) ≡ backward (neighbour s) k t y (neighbour s t b (suc p)) =
      λ b.
      ⊎_elim
      (λ z. rw z (none k))
      (λ q.
      rw q.coded
      (back_along k x y q.point q.below (λ r lt line. same r lt (along s t p q.point r q.line line)) none))
      (neighbour_on_line b p h) in
      ap₂ (λ (v w : ℤ). v +ℤ half w) (same p h (itself s t p)) (ap₂ ◌+ℤ◌ (parent Left) (parent Right))

  pub own_line_back : (xs ys : List ℤ) (p : ℕ) → p < points_of s →
      ((q : ℕ) → q < points_of s → OnLine s t p q → get_or xs q (pos 0) ≡ get_or ys q (pos 0)) →
      get_or (former_table s t xs) p (pos 0) ≡ get_or (former_table s t ys) p (pos 0)
  unfolding former_table
  own_line_back xs ys p h same =
      values_at (points_of s) (backward (neighbour s) (height s) t (value_at xs)) p h
      ∙ back_along (height s) (value_at xs) (value_at ys) p h
      (λ q lt line. value_suc xs q ∙ same q lt line ∙ sym (value_suc ys q))
      (λ z.
      backward_zero (points_of s) (neighbour s) (depth s) (grid s) t z (value_at xs) (value_zero xs)
      ∙ sym (backward_zero (points_of s) (neighbour s) (depth s) (grid s) t z (value_at ys) (value_zero ys)))
      ∙ sym (values_at (points_of s) (backward (neighbour s) (height s) t (value_at ys)) p h)
