-- What the four calls of the recursion find and leave, in the terms of the code: the parts that it made are those of the split.
-- Assumes nothing.
use mathlib.Core.Path.{◌≡◌, refl, ap, sym, ◌∙◌}
use mathlib.Core.List.{List, []}
use Prim.Native.Nat.{ℕ, ◌<◌}
use native.Mathlib.Omega.{arith}
use lib.IntN.{ℤ}
use Rattle.naturals.proofs.Cases.{le_or_lt}
use Rattle.numbering.specs.Point.{at}
use Rattle.hierarchy.specs.Work.{Item, all_worked}
use Rattle.hierarchy.proofs.Values.{values_of_value}
use Rattle.component_grids.specs.Component.{across, points_to}
use Rattle.component_boxes.specs.Order.{widest, middle_of, half_of, order_in}
use Rattle.component_boxes.proofs.Widest.{widest_lt, widest_most}
use Rattle.component_boxes.proofs.Falling.{single_point, level_left, middle_fewer, half_fewer, in_none}
use Rattle.component_sweeps.specs.declared.grid.Layout.{Layout}
use Rattle.component_sweeps.specs.Steps.{tops_of}
use Rattle.component_order.specs.declared.Piece.{Piece}
use Rattle.component_order.specs.declared.Parts.{Parts}
use Rattle.component_order.specs.InOrder.{worked_in}
use Rattle.component_order.specs.Steps.{Mixed, MixedOn, worked_on, IsPiece, PartsOf}
use Rattle.component_order.proofs.Mixing.{middle_mixed, left_mixed, right_mixed, rest_mixed, all_four}

-- A box with more than one point has an axis with more than one.
pub more_points : (k : ℕ → ℕ) (d : ℕ) → 1 < points_to k d → 1 < across (k (widest k d))
more_points k d some =
    le_or_lt (across (k (widest k d))) 1
    (λ one. absurd (omega (arith, single_point k d (λ t axis. omega (arith, widest_most k d t axis)))))
    (λ more. more)

-- No axis to do: nothing changes.
pub nothing_due : (p : Piece) (xs : List ℤ) → MixedOn p xs → p.from ≡ p.to → xs ≡ worked_on p xs
nothing_due p xs mixed same =
    sym
    (ap (λ (is : List Item). worked_in d tops is xs) (ap (λ (u : ℕ). order_in d tops p.from u k p.of.centre) (sym same) ∙ in_none d tops p.from k p.of.centre)
    ∙ no_work)
  where
    d : ℕ
    d = p.of.grid.now.axes

    tops : ℕ → ℕ
    tops = tops_of p.of.grid.now

    k : ℕ → ℕ
    k = at p.of.levels

    no_work : worked_in d tops [] xs ≡ xs
    no_work = unfold worked_in all_worked in values_of_value (points_to tops d) xs mixed.standing.long

-- What is due and left on a piece that is known by its grid, its levels, its middle point and its axes.
module _ {g : Layout} {k : ℕ → ℕ} {c s t : ℕ} {p : Piece} (is : IsPiece g k c s t p) where
  pub mixed_as : (xs : List ℤ) → Mixed g.axes (tops_of g) k c s t xs → MixedOn p xs
  mixed_as xs mixed = rw (is.grid, is.levels, is.centre, is.from, is.to) mixed

  pub worked_as : (xs : List ℤ) → worked_on p xs ≡ worked_in g.axes (tops_of g) (order_in g.axes (tops_of g) s t k c) xs
  worked_as xs = rw (is.grid, is.levels, is.centre, is.from, is.to) refl

  pub points_as : points_to (at p.of.levels) p.of.grid.now.axes ≡ points_to k g.axes
  points_as = rw (is.grid, is.levels) refl

module _ (p : Piece) (xs : List ℤ) (mixed : MixedOn p xs) (more : 1 < across (at p.of.levels (widest (at p.of.levels) p.of.grid.now.axes)))
    (parts : Parts) (split : PartsOf p parts) where
  abbrev g : Layout
  g = p.of.grid.now

  abbrev k : ℕ → ℕ
  k = at p.of.levels

  abbrev c : ℕ
  c = p.of.centre

  some : 0 < k (widest k g.axes)
  some = level_left g.axes (tops_of g) (k (widest k g.axes)) more

  -- Fewer points are left.
  middle_less : points_to (middle_of k (widest k g.axes)) g.axes < points_to k g.axes
  middle_less = middle_fewer k g.axes (widest k g.axes) (widest_lt k g.axes g.some) some

  half_less : points_to (half_of k (widest k g.axes)) g.axes < points_to k g.axes
  half_less = half_fewer k g.axes (widest k g.axes) (widest_lt k g.axes g.some) some

  pub first_falls : points_to (at parts.first.of.levels) parts.first.of.grid.now.axes < points_to k g.axes
  first_falls = rw (points_as split.first) middle_less

  pub left_falls : points_to (at parts.left.of.levels) parts.left.of.grid.now.axes < points_to k g.axes
  left_falls = rw (points_as split.left) half_less

  pub right_falls : points_to (at parts.right.of.levels) parts.right.of.grid.now.axes < points_to k g.axes
  right_falls = rw (points_as split.right) half_less

  pub last_falls : points_to (at parts.last.of.levels) parts.last.of.grid.now.axes < points_to k g.axes
  last_falls = rw (points_as split.last) middle_less

  -- What the calls work through.
  pub first_call : MixedOn parts.first xs
  first_call = mixed_as split.first xs (middle_mixed g.axes (tops_of g) g.some k c p.from p.to xs mixed more)

  module _ (one : List ℤ) (first : one ≡ worked_on parts.first xs) where
    pub second_call : MixedOn parts.left one
    second_call = mixed_as split.left one (rw (first, worked_as split.first xs) (left_mixed g.axes (tops_of g) g.some k c p.from p.to xs mixed more))

    module _ (two : List ℤ) (second : two ≡ worked_on parts.left one) where
      pub third_call : MixedOn parts.right two
      third_call =
          mixed_as split.right two
          (rw (second, worked_as split.left one, first, worked_as split.first xs) (right_mixed g.axes (tops_of g) g.some k c p.from p.to xs mixed more))

      module _ (three : List ℤ) (third : three ≡ worked_on parts.right two) where
        pub fourth_call : MixedOn parts.last three
        fourth_call =
            mixed_as split.last three
            (rw (third, worked_as split.right two, second, worked_as split.left one, first, worked_as split.first xs)
            (rest_mixed g.axes (tops_of g) g.some k c p.from p.to xs mixed more))

        pub calls_end : (four : List ℤ) → four ≡ worked_on parts.last three → four ≡ worked_on p xs
        calls_end four fourth =
            fourth
            ∙ worked_as split.last three
            ∙ rw (third, worked_as split.right two, second, worked_as split.left one, first, worked_as split.first xs)
            (sym (all_four g.axes (tops_of g) g.some k c p.from p.to xs mixed more))
