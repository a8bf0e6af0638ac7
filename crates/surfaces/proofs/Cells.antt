-- On each level vector of a face at most one point has a joint weight above 0: on each axis inside, a weight above 0 puts the coordinate into the cell of the
-- index, and the cells of a level do not overlap, so coordinate and level give the index; on a border the index is 1.
-- Assumes nothing.
use mathlib.Core.Path.{◌≡◌, ap, sym, ◌∙◌}
use Prim.Native.Nat.{ℕ, ◌+◌, ◌-◌, ◌*◌, ◌/◌, ◌%◌, ◌^◌, ◌<◌}
use native.Mathlib.Nat.{pow-suc, div-eq_of_lt-le}
use native.Mathlib.Omega.{arith}
use Rattle.naturals.proofs.Cases.{eq_or_not}
use Rattle.shapes.specs.declared.Shape.{Shape}
use Rattle.shapes.specs.Shapes.{points_of}
use Rattle.grids.specs.Grids.{mark_on, level_on, index_on}
use Rattle.grids.proofs.Points.{index_odd, numbering, same_point}
use Rattle.surfaces.specs.Weights.{unit, weight, distance}
use Rattle.surfaces.specs.Surface.{weight_in, joint_in, weight_on, joint_at}
use Rattle.surfaces.proofs.Hat.{weight_is}
use Rattle.surfaces.proofs.AxisHat.{weight_inside}
use Rattle.surfaces.proofs.Joint.{joint_above}

-- ---- one axis

module _ (u x l i : ℕ) where
  pub only_half : i % 2 ≡ 1 → 0 < weight u x l i → (i - 1) / 2 ≡ x * 2 ^ l / u
  unfolding distance
  only_half odd some =
      let index : i ≡ 2 * ((i - 1) / 2) + 1 = omega arith in
      sym (in_cell (x * 2 ^ l) ((i - 1) / 2) u
      (omega (arith, weight_is u x l i, ap (λ (j : ℕ). j * u) index, ap (λ (m : ℕ). x * m) (pow-suc 2 l))))
    where
      in_cell : (y h v : ℕ) → 0 < v - ((2 * y - (2 * h + 1) * v) + ((2 * h + 1) * v - 2 * y)) → y / v ≡ h
      in_cell y h v near = div-eq_of_lt-le v (omega arith) (omega arith)

-- ---- the points of a shape

module _ (s : Shape) (x : ℕ → ℕ) where
  -- A point whose joint weight is above 0 has on each axis inside the index of the cell in which the coordinate lies. At the coordinate `unit` itself no such
  -- point has a weight above 0.
  pub which_point : (p : ℕ) → p < points_of s → 0 < joint_at s x p → (t : ℕ) → t < s.axes → mark_on s p t ≡ 0 →
      index_on s p t ≡ 2 * (x t * 2 ^ level_on s p t / unit) + 1
  unfolding joint_in weight_in
  which_point p p_in some t h inside =
      let odd = index_odd s p p_in t h in
      omega (
        arith,
        odd,
        only_half unit (x t) (level_on s p t) (index_on s p t) odd
            (omega (
              arith,
              weight_inside unit (x t) (level_on s p t) (index_on s p t) (mark_on s p t) inside,
              joint_above unit (weight_on s x p) s.axes some t h,
            )),
      )

  pub one_for_each_vector : (p q : ℕ) → p < points_of s → q < points_of s → ((t : ℕ) → t < s.axes → mark_on s p t ≡ mark_on s q t) →
      ((t : ℕ) → t < s.axes → level_on s p t ≡ level_on s q t) → 0 < joint_at s x p → 0 < joint_at s x q → p ≡ q
  one_for_each_vector p q p_in q_in marks same some_p some_q = same_point s p q p_in q_in marks same indices
    where
      indices : (t : ℕ) → t < s.axes → index_on s p t ≡ index_on s q t
      indices t h =
          eq_or_not (mark_on s p t) 0
          (λ inside.
          which_point p p_in some_p t h inside
          ∙ ap (λ (l : ℕ). 2 * (x t * 2 ^ l / unit) + 1) (same t h)
          ∙ sym (which_point q q_in some_q t h (sym (marks t h) ∙ inside)))
          (λ marked.
          (numbering s).border_index ((numbering s).point_at p p_in) t h (omega arith)
          ∙ sym ((numbering s).border_index ((numbering s).point_at q q_in) t h (omega (arith, marks t h))))
