-- What the work on a box asks and leaves.
-- Assumes nothing.
use Rattle.std.specs.Prelude.{List, ◌≡◌, ℕ, ◌+◌, ◌-◌, ◌^◌, ◌≤◌, ℤ, pos, nat_abs, length}
use Rattle.numbering.specs.Point.{at}
use Rattle.hierarchy.specs.Turns.{value_at}
use Rattle.splits.specs.Splits.{cut, Due}
use Rattle.component_grids.specs.Component.{points_to, neighbour}
use Rattle.component_boxes.specs.Order.{widest, middle_of, half_of, away, order_in}
use Rattle.component_boxes.specs.Boxes.{Box, Fits}
use Rattle.component_boxes.specs.Stages.{stages_of}
use Rattle.component_sweeps.specs.declared.grid.Layout.{Layout}
use Rattle.component_sweeps.specs.Steps.{tops_of}
use Rattle.component_order.specs.InOrder.{worked_in}
use Rattle.component_order.specs.declared.Piece.{Piece}
use Rattle.component_order.specs.declared.Parts.{Parts}

module _ (d : ℕ) (tops : ℕ → ℕ) where
  -- A table part of the way: each place holds what the sweeps of as many axes as its count says leave there.
  pub record Standing (xs : List ℤ) : Type 0 where
    pub long : length xs ≡ points_to tops d
    pub rates : ℕ → ℤ
    pub border : rates 0 ≡ pos 0
    pub small : (p : ℕ) → nat_abs (rates p) ≤ 2 ^ 31
    pub count : ℕ → ℕ
    pub most : (p : ℕ) → count p ≤ d
    pub holds : (p : ℕ) → value_at xs p ≡ stages_of d tops rates (count p) p

  -- On a box the axes s to t − 1 are due.
  pub record Mixed (k : ℕ → ℕ) (c s t : ℕ) (xs : List ℤ) : Type 0 where
    pub order : s ≤ t
    pub axes : t ≤ d
    pub fits : Fits d tops k c
    pub standing : Standing xs
    pub due : Due (neighbour d tops) d s t (Box d tops k c) standing.count

  -- Part of the sweeps of a box: its points have the axes before a done, the others hold what they held.
  pub record SweptTo (k : ℕ → ℕ) (c a : ℕ) (r : ℕ → ℤ) (xs ys : List ℤ) : Type 0 where
    pub long : length ys ≡ length xs
    pub inside : (p : ℕ) → Box d tops k c p → value_at ys p ≡ stages_of d tops r a p
    pub outside : (p : ℕ) → (Box d tops k c p → ⊥) → value_at ys p ≡ value_at xs p

-- The axes of a piece are due, and the table that their steps leave.
abbrev pub MixedOn : Piece → List ℤ → Type 0
MixedOn p xs = Mixed p.of.grid.now.axes (tops_of p.of.grid.now) (at p.of.levels) p.of.centre p.from p.to xs

abbrev pub worked_on : Piece → List ℤ → List ℤ
worked_on p xs =
    worked_in p.of.grid.now.axes (tops_of p.of.grid.now) (order_in p.of.grid.now.axes (tops_of p.of.grid.now) p.from p.to (at p.of.levels) p.of.centre) xs

-- A piece of the same grid: its box has levels k and the middle point at position c, and the axes s to t − 1 are due.
pub record IsPiece (g : Layout) (k : ℕ → ℕ) (c s t : ℕ) (p : Piece) : Type 0 where
  pub grid : p.of.grid.now ≡ g
  pub levels : at p.of.levels ≡ k
  pub centre : p.of.centre ≡ c
  pub from : p.from ≡ s
  pub to : p.to ≡ t

-- The parts of a piece that is split along axis r.
module _ (p : Piece) (r : ℕ) where
  abbrev far : ℕ
  far = away (tops_of p.of.grid.now) (at p.of.levels) r

  pub record SplitAt (parts : Parts) : Type 0 where
    pub first : IsPiece p.of.grid.now (middle_of (at p.of.levels) r) p.of.centre p.from (cut p.from p.to r) parts.first
    pub left : IsPiece p.of.grid.now (half_of (at p.of.levels) r) (p.of.centre - far) p.from p.to parts.left
    pub right : IsPiece p.of.grid.now (half_of (at p.of.levels) r) (p.of.centre + far) p.from p.to parts.right
    pub last : IsPiece p.of.grid.now (middle_of (at p.of.levels) r) p.of.centre (cut p.from p.to r) p.to parts.last

-- Along the widest.
abbrev pub PartsOf : Piece → Parts → Type 0
PartsOf p parts = SplitAt p (widest (at p.of.levels) p.of.grid.now.axes) parts
