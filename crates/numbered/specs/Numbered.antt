-- Points that are known by marks, levels and indices and have numbers: what the neighbours on a grid need, with a zero border or with values on the border
-- (document 02, g). A mark says where a point lies on an axis: inside (0), on the lower border (1) or on the upper border (2).
-- Assumes nothing.
use Rattle.std.specs.Prelude.{Bool, true, false, ◌≡◌, ℕ, suc, ◌%◌, ◌^◌, ◌≤◌, ◌<◌}
use Rattle.numbering.specs.declared.Side.{Side}
use Rattle.numbering.specs.declared.Side.TheVariants.{Left, Right}
use Rattle.numbering.specs.Parent.{numerator, is_border, parent_level, parent_index, update}

-- The mark of the border on either side.
abbrev pub mark_of : Side → ℕ
mark_of Left = 1
mark_of Right = 2

-- The marks of a point that lies inside on every axis.
abbrev pub unmarked : ℕ → ℕ
unmarked t = 0

-- A point that lies inside on every axis, of levels and indices as P says.
pub record Unmarked (P : (ℕ → ℕ) → (ℕ → ℕ) → Type 0) (m l i : ℕ → ℕ) : Type 0 where
  pub inside : P l i
  pub marks : m ≡ unmarked

-- How many axes and points there are, whether there are values on the border, the number of the point of marks m, levels l and indices i, and the mark, the
-- level and the index of a point number on an axis.
pub record Numbered : Type 0 where
  pub axes : ℕ
  pub count : ℕ
  pub border : Bool
  pub number : (ℕ → ℕ) → (ℕ → ℕ) → (ℕ → ℕ) → ℕ
  pub mark : ℕ → ℕ → ℕ
  pub level : ℕ → ℕ → ℕ
  pub index : ℕ → ℕ → ℕ

-- The numbers are a numbering of points: every number below the count stands for a point, whose number it is; a point's number is below the count and stands
-- for it; points of the same marks, levels and indices on every axis have one number. On each axis of a point the index is odd and below 2^(level+1); the mark is
-- at most 2, and on a border the level is 0 and the index 1; with a zero border no axis is marked. What lies beside a point, off the border, is a point, and
-- where there are values on the border so is what lies across it.
pub record Numbering (g : Numbered) (Point : (ℕ → ℕ) → (ℕ → ℕ) → (ℕ → ℕ) → Type 0) : Type 0 where
  pub point_at : (p : ℕ) → p < g.count → Point (g.mark p) (g.level p) (g.index p)
  pub number_at : (p : ℕ) → p < g.count → g.number (g.mark p) (g.level p) (g.index p) ≡ p
  pub number_lt : {m l i : ℕ → ℕ} → Point m l i → g.number m l i < g.count
  pub marks_again : {m l i : ℕ → ℕ} → Point m l i → g.mark (g.number m l i) ≡ m
  pub levels_again : {m l i : ℕ → ℕ} → Point m l i → g.level (g.number m l i) ≡ l
  pub indices_again : {m l i : ℕ → ℕ} → Point m l i → g.index (g.number m l i) ≡ i
  pub one_number : {m l i o k j : ℕ → ℕ} → Point m l i → Point o k j → ((t : ℕ) → t < g.axes → m t ≡ o t) →
      ((t : ℕ) → t < g.axes → l t ≡ k t) → ((t : ℕ) → t < g.axes → i t ≡ j t) → g.number m l i ≡ g.number o k j
  pub odd : {m l i : ℕ → ℕ} → Point m l i → (t : ℕ) → t < g.axes → i t % 2 ≡ 1
  pub below : {m l i : ℕ → ℕ} → Point m l i → (t : ℕ) → t < g.axes → i t < 2 ^ suc (l t)
  pub mark_le : {m l i : ℕ → ℕ} → Point m l i → (t : ℕ) → t < g.axes → m t ≤ 2
  pub border_level : {m l i : ℕ → ℕ} → Point m l i → (t : ℕ) → t < g.axes → 0 < m t → l t ≡ 0
  pub border_index : {m l i : ℕ → ℕ} → Point m l i → (t : ℕ) → t < g.axes → 0 < m t → i t ≡ 1
  pub only : {m l i : ℕ → ℕ} → Point m l i → g.border ≡ false → (t : ℕ) → t < g.axes → m t ≡ 0
  pub parent_there : {m l i : ℕ → ℕ} → Point m l i → (t : ℕ) (b : Side) → t < g.axes → m t ≡ 0 → is_border (l t) (numerator b (i t)) ≡ false →
      Point m (update l t (parent_level (l t) (numerator b (i t)))) (update i t (parent_index (numerator b (i t))))
  pub across_there : {m l i : ℕ → ℕ} → Point m l i → (t : ℕ) (b : Side) → t < g.axes → g.border ≡ true → m t ≡ 0 →
      Point (update m t (mark_of b)) (update l t 0) (update i t 1)
