-- The points of one level list of a face are 2^(level sum) numbers in a row, from the number of its first point on, and of a sum over them one term is left:
-- a point's place in the row is its position, whose digits are its halved indices, and on an axis inside only the index of the cell of the coordinate has weight; on a
-- border axis there is one index. So of all of them only the one taken can be reached, or have a joint weight above 0.
-- Assumes nothing.
use mathlib.Core.Path.{◌≡◌, refl, ap, sym, subst, ◌∙◌}
use mathlib.Core.Bool.{false}
use mathlib.Core.Logic.{⊎_elim}
use Prim.Native.Nat.{ℕ, suc, ◌+◌, ◌*◌, ◌/◌, ◌^◌, ◌≤◌, ◌<◌}
use native.Mathlib.Nat.{eq-zero-or-pos}
use native.Mathlib.Omega.{arith}
use Rattle.naturals.specs.Sum.{sum_to}
use Rattle.naturals.proofs.Cases.{le_or_lt, eq_or_not, true_or_false}
use Rattle.naturals.proofs.Sums.{sum_to_cong}
use Rattle.numbering.specs.Point.{IsPoint}
use Rattle.numbering.specs.Number.{digit, position, first_of}
use Rattle.numbering.specs.Inverse.{index_of}
use Rattle.numbering.proofs.Position.{position_lt, position_cong, position_of_index, index_of_position, index_odd, index_below}
use Rattle.numbering.proofs.Subspaces.{indices_to, indices_in}
use Rattle.faces.specs.Packing.{packed}
use Rattle.shapes.specs.declared.Shape.{Shape}
use Rattle.shapes.specs.Shapes.{points_of}
use Rattle.grids.specs.Grids.{mark_on, level_on, index_on}
use Rattle.grids.proofs.Faces.{FaceOf, ListOn, list_in, list_marks, list_levels, list_indices}
use Rattle.surfaces.specs.Weights.{unit, weight, axis_weight, joint}
use Rattle.surfaces.specs.Surface.{weight_in, joint_in, weight_on, joint_at}
use Rattle.surfaces.specs.Margin.{is_reached}
use Rattle.surfaces.proofs.Hat.{weight_high}
use Rattle.surfaces.proofs.AxisHat.{weight_inside}
use Rattle.surfaces.proofs.Joint.{joint_above, joint_cong}
use Rattle.surfaces.proofs.Cells.{only_half}
use Rattle.surfaces.proofs.Reached.{reached_above, reached_cong}
use Rattle.axis_weights.specs.Steps.{marked_cell, index_of_cell}
use Rattle.axis_weights.proofs.Weighing.{cell_inside, marked_cell_inside, marked_cell_border, marked_index_below}

-- ---- the points of a level list

-- The points of the level list l on the face of marks m are numbers in a row from `first` on.
pub record ListAt (s : Shape) (m l : ℕ → ℕ) (first : ℕ) : Type 0 where
  pub border : (t : ℕ) → t < s.axes → 0 < m t → l t ≡ 0
  pub inside : (j : ℕ) → j < 2 ^ sum_to l s.axes → first + j < points_of s
  pub marks : (j : ℕ) → j < 2 ^ sum_to l s.axes → mark_on s (first + j) ≡ m
  pub levels : (j : ℕ) → j < 2 ^ sum_to l s.axes → level_on s (first + j) ≡ l
  pub indices : (j : ℕ) → j < 2 ^ sum_to l s.axes → index_on s (first + j) ≡ indices_to s.axes l j

pub list_at : {s : Shape} {m l : ℕ → ℕ} {k base first : ℕ} → FaceOf s m k base → ListOn s m l → base + first_of k (packed m s.axes l) ≡ first →
    ListAt s m l first
list_at {s} {m} {l} f on here =
    subst (ListAt s m l) here
    (record {
      border = on.border;
      inside = list_in f on;
      marks = list_marks f on;
      levels = list_levels f on;
      indices = list_indices f on;
    })

-- The weight on axis t at the coordinates x of a point of the marks m, levels l and indices i.
abbrev pub weights_of : (ℕ → ℕ) → (ℕ → ℕ) → (ℕ → ℕ) → (ℕ → ℕ) → ℕ → ℕ
weights_of x m l i t = axis_weight unit (x t) (m t) (l t) (i t)

module _ {s : Shape} {m l : ℕ → ℕ} {first : ℕ} (a : ListAt s m l first) (x : ℕ → ℕ) (j : ℕ) (j_in : j < 2 ^ sum_to l s.axes) where
  block_weight : (t : ℕ) → t < s.axes → weight_on s x (first + j) t ≡ weights_of x m l (index_of l j) t
  unfolding weight_in
  block_weight t h =
      let p : ℕ = first + j in
      ap (λ (o : ℕ → ℕ). axis_weight unit (x t) (o t) (level_on s p t) (index_on s p t)) (a.marks j j_in)
      ∙ ap (λ (o : ℕ → ℕ). axis_weight unit (x t) (m t) (o t) (index_on s p t)) (a.levels j j_in)
      ∙ ap (λ (o : ℕ → ℕ). axis_weight unit (x t) (m t) (l t) (o t)) (a.indices j j_in)
      ∙ ap (axis_weight unit (x t) (m t) (l t)) (indices_in s.axes l j t h)

  block_joint : joint_at s x (first + j) ≡ joint unit (weights_of x m l (index_of l j)) s.axes
  unfolding joint_in
  block_joint = joint_cong unit (weight_on s x (first + j)) (weights_of x m l (index_of l j)) s.axes block_weight

  block_reached : is_reached s.axes (weight_on s x (first + j)) ≡ is_reached s.axes (weights_of x m l (index_of l j))
  block_reached = reached_cong (weight_on s x (first + j)) (weights_of x m l (index_of l j)) s.axes block_weight

-- ---- the point in whose cells the coordinates lie

module _ (x m l : ℕ → ℕ) where
  -- Its index on axis t, what the axis adds to its position, and the position.
  unfoldable pub taken_index : ℕ → ℕ
  taken_index t = index_of_cell (marked_cell (x t) (m t) (l t))

  unfoldable pub taken_step : ℕ → ℕ
  taken_step t = marked_cell (x t) (m t) (l t) * 2 ^ sum_to l t

  unfoldable pub taken_at : ℕ → ℕ
  taken_at d = sum_to taken_step d

  taken_position : (d : ℕ) → position l taken_index d ≡ taken_at d
  unfolding position digit taken_at taken_step taken_index
  taken_position d = sum_to_cong _ _ d (λ t h. ap (λ (a : ℕ). a * 2 ^ sum_to l t) (omega arith))

  taken_point : (d : ℕ) → IsPoint d (sum_to l d) l taken_index
  unfolding taken_index
  taken_point d =
      record {
        sum = omega arith;
        odd = λ t h. omega arith;
        below = λ t h. marked_index_below (x t) (m t) (l t);
      }

  pub taken_below : (d : ℕ) → taken_at d < 2 ^ sum_to l d
  taken_below d = rw (sym (taken_position d)) (position_lt (taken_point d) d (omega arith))

  taken_index_lem : (d t : ℕ) → t < d → index_of l (taken_at d) t ≡ taken_index t
  taken_index_lem d t h = ap (λ (q : ℕ). index_of l q t) (sym (taken_position d)) ∙ index_of_position (taken_point d) t h

module _ {s : Shape} {m l : ℕ → ℕ} {first : ℕ} (a : ListAt s m l first) (x : ℕ → ℕ) where
  taken_weight : (t : ℕ) → t < s.axes → weights_of x m l (index_of l (taken_at x m l s.axes)) t ≡ weights_of x m l (taken_index x m l) t
  taken_weight t h = ap (axis_weight unit (x t) (m t) (l t)) (taken_index_lem x m l s.axes t h)

  pub taken_joint : joint_at s x (first + taken_at x m l s.axes) ≡ joint unit (weights_of x m l (taken_index x m l)) s.axes
  taken_joint = block_joint a x (taken_at x m l s.axes) (taken_below x m l s.axes) ∙ joint_cong unit _ _ s.axes taken_weight

  pub taken_reached : is_reached s.axes (weight_on s x (first + taken_at x m l s.axes)) ≡ is_reached s.axes (weights_of x m l (taken_index x m l))
  taken_reached = block_reached a x (taken_at x m l s.axes) (taken_below x m l s.axes) ∙ reached_cong _ _ s.axes taken_weight

  module _ (inside : (t : ℕ) → t < s.axes → x t ≤ unit) (j : ℕ) (j_in : j < 2 ^ sum_to l s.axes) where
    -- Inside, a weight above 0 on an axis is that of the cell's index.
    index_inside : (t : ℕ) → t < s.axes → 0 < weight unit (x t) (l t) (index_of l j t) → index_of l j t ≡ 2 * (x t * 2 ^ l t / unit) + 1
    index_inside t h some = omega (arith, index_odd l j t, only_half unit (x t) (l t) (index_of l j t) (index_odd l j t) some)

    below_unit : (t : ℕ) → t < s.axes → 0 < weight unit (x t) (l t) (index_of l j t) → x t < unit
    below_unit t h some =
        le_or_lt unit (x t)
        (λ border.
        let e : x t ≡ unit = omega (arith, inside t h) in
        absurd (omega (
          arith,
          ap (λ (y : ℕ). weight unit y (l t) (index_of l j t)) e,
          weight_high unit (l t) (index_of l j t) (index_below l j t),
          some,
        )))
        (λ within. within)

    -- On each axis a weight above 0 is that of the index taken.
    index_taken : (t : ℕ) → t < s.axes → 0 < weights_of x m l (index_of l j) t → index_of l j t ≡ taken_index x m l t
    unfolding taken_index
    index_taken t h some =
        eq_or_not (m t) 0
        (λ e.
        let above : 0 < weight unit (x t) (l t) (index_of l j t) = rw (weight_inside unit (x t) (l t) (index_of l j t) (m t) e) at some in
        omega (
          arith,
          index_inside t h above,
          cell_inside (x t) (l t) (below_unit t h above),
          marked_cell_inside (x t) (m t) (l t) e,
        ))
        (λ marked.
        let flat : 2 ^ suc (l t) ≡ 2 = ap (λ (b : ℕ). 2 ^ suc b) (a.border t h (omega arith)) in
        omega (arith, index_odd l j t, index_below l j t, flat, marked_cell_border (x t) (m t) (l t) (omega arith)))

    -- So only the point taken has them all above 0.
    only_taken : ((t : ℕ) → t < s.axes → 0 < weights_of x m l (index_of l j) t) → j ≡ taken_at x m l s.axes
    only_taken above =
        sym (position_of_index l j s.axes j_in)
        ∙ position_cong l (index_of l j) l (taken_index x m l) s.axes (λ t h. refl) (λ t h. index_taken t h (above t h))
        ∙ taken_position x m l s.axes

    module _ (other : j ≡ taken_at x m l s.axes → ⊥) where
      pub block_zero : joint_at s x (first + j) ≡ 0
      block_zero =
          block_joint a x j j_in
          ∙ ⊎_elim (λ none. none) (λ some. absurd (other (only_taken (joint_above unit weights s.axes some)))) (eq-zero-or-pos (joint unit weights s.axes))
        where
          weights : ℕ → ℕ
          weights = weights_of x m l (index_of l j)

      pub block_unreached : is_reached s.axes (weight_on s x (first + j)) ≡ false
      block_unreached =
          block_reached a x j j_in
          ∙ true_or_false (is_reached s.axes (weights_of x m l (index_of l j)))
          (λ all_above. absurd (other (only_taken (reached_above (weights_of x m l (index_of l j)) s.axes all_above))))
          (λ some_not. some_not)
