-- At a grid point the sum of coefficient times joint weight is the surface, but for the unit that each counts in: term by term, since rounding the
-- joint weight down loses nothing there.
-- Assumes nothing.
use mathlib.Core.Path.{◌≡◌, sym, ◌∙◌}
use Prim.Native.Nat.{ℕ, ◌+◌, ◌^◌, ◌≤◌, ◌<◌}
use lib.IntN.{ℤ, pos, ◌*ℤ◌}
use Rattle.numbered.specs.Numbered.{Numbered, Numbering}
use Rattle.shapes.specs.declared.Shape.{Shape}
use Rattle.shapes.specs.Shapes.{points_of}
use Rattle.grids.proofs.Points.{numbering}
use Rattle.interpolation.proofs.Weighted.{weighted_sum_cong, weighted_sum_times}
use Rattle.surfaces.specs.Weights.{unit}
use Rattle.surfaces.specs.Surface.{coordinates_in, product_in, joint_in, surface_in, joint_sum_in, coordinates_of, surface, joint_sum}
use Rattle.surfaces.proofs.Unit.{unit_bits, unit_is}
use Rattle.surfaces.proofs.GridPoints.{WholeWeights, joint_exact_in, shape_weights}

pub weighted_exact_in : (u bits : ℕ) → u ≡ 2 ^ bits → {g : Numbered} {Point : (ℕ → ℕ) → (ℕ → ℕ) → (ℕ → ℕ) → Type 0} → Numbering g Point →
    WholeWeights bits g → (c : ℕ → ℤ) (q : ℕ) → q < g.count →
    joint_sum_in u g c (coordinates_in u g q) *ℤ pos (u ^ g.axes) ≡ surface_in u g c (coordinates_in u g q) *ℤ pos u
unfolding surface_in joint_sum_in
weighted_exact_in u bits binary {g} n whole c q q_in =
    let x : ℕ → ℕ = coordinates_in u g q in
    sym (weighted_sum_times g.count c (joint_in u g x) (u ^ g.axes))
    ∙ weighted_sum_cong g.count c _ _ (λ p p_in. joint_exact_in u bits binary n whole p q p_in q_in)
    ∙ weighted_sum_times g.count c (product_in u g x) u

pub weighted_exact : (s : Shape) → s.level + s.axes ≤ unit_bits → (c : ℕ → ℤ) (q : ℕ) → q < points_of s →
    joint_sum s c (coordinates_of s q) *ℤ pos (unit ^ s.axes) ≡ surface s c (coordinates_of s q) *ℤ pos unit
weighted_exact s few = weighted_exact_in unit unit_bits unit_is (numbering s) (shape_weights s few)
