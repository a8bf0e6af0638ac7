-- A turn works on each face by itself: the neighbours of a face's points are points of the face or do not move on the axis. So what the whole turn leaves on the face
-- depends on nothing but what stands on the face and at the points that do not move.
-- Assumes nothing.
use mathlib.Core.Path.{◌≡◌, ap, ap₂, sym, ◌∙◌}
use mathlib.Core.Bool.{Bool, true, false}
use mathlib.Core.List.{List}
use mathlib.Core.Logic.{inl, inr}
use Prim.Native.Nat.{ℕ, zero, suc, ◌≤◌, ◌<◌}
use lib.IntN.{ℤ, ◌+ℤ◌, ◌-ℤ◌}
use lib.ListN.{length}
use Rattle.integers.specs.Half.{half}
use Rattle.numbering.specs.declared.Side.{Side}
use Rattle.numbering.specs.declared.Side.TheVariants.{Left, Right}
use Rattle.hierarchy.specs.Grid.{Neighbours}
use Rattle.hierarchy.specs.Turns.{value_at, sum_on, forward, backward}
use Rattle.shapes.specs.declared.Shape.{Shape}
use Rattle.shapes.specs.Shapes.{points_of}
use Rattle.grids.specs.Grids.{neighbour, height}
use Rattle.grids.proofs.Instance.{grid}
use Rattle.grids.proofs.Turned.{turned_holds, former_holds}
use Rattle.neighbours.proofs.Staying.{Stays}
use Rattle.lists.specs.Lists.{whole_turn}

module _ (nb : Neighbours) (t lo hi : ℕ) (none : (b : Side) → nb t b 0 ≡ 0)
    (closed : (q : ℕ) → lo < q → q ≤ hi → (b : Side) → Stays nb t lo hi (nb t b q))
    (f g : ℕ → ℤ) (same : (q : ℕ) → Stays nb t lo hi q → f q ≡ g q) where
  -- The neighbour of such a code is one too.
  beside_stays : (q : ℕ) → Stays nb t lo hi q → (b : Side) → Stays nb t lo hi (nb t b q)
  beside_stays q (inl inside) b = closed q inside.0 inside.1 b
  beside_stays q (inr still) b = rw (still b) (inr none)

  forward_agrees : (q : ℕ) → Stays nb t lo hi q → forward nb t f q ≡ forward nb t g q
  unfolding forward sum_on
  forward_agrees q stays =
      ap₂ (λ (x y : ℤ). x -ℤ half y) (same q stays)
      (ap₂ ◌+ℤ◌ (same (nb t Left q) (beside_stays q stays Left)) (same (nb t Right q) (beside_stays q stays Right)))

  backward_agrees : (k q : ℕ) → Stays nb t lo hi q → backward nb k t f q ≡ backward nb k t g q
  unfolding backward
  backward_agrees zero q stays = same q stays
  backward_agrees (suc k) q stays =
      ap₂ (λ (x y : ℤ). x +ℤ half y) (same q stays)
      (ap₂ ◌+ℤ◌ (backward_agrees k (nb t Left q) (beside_stays q stays Left)) (backward_agrees k (nb t Right q) (beside_stays q stays Right)))

-- What the whole turn leaves on a face, of two tables that hold the same on the face and at all points that do not move.
pub turn_agrees : (ahead : Bool) (s : Shape) (t lo hi : ℕ) →
    ((q : ℕ) → lo < q → q ≤ hi → (b : Side) → Stays (neighbour s) t lo hi (neighbour s t b q)) →
    (xs ys : List ℤ) → length xs ≡ points_of s → length ys ≡ points_of s →
    ((q : ℕ) → Stays (neighbour s) t lo hi q → value_at xs q ≡ value_at ys q) →
    (q : ℕ) → Stays (neighbour s) t lo hi q → value_at (whole_turn ahead s t xs) q ≡ value_at (whole_turn ahead s t ys) q
unfolding whole_turn
turn_agrees true s t lo hi closed xs ys long also same q stays =
    ap (λ (f : ℕ → ℤ). f q) (turned_holds s t xs long)
    ∙ forward_agrees (neighbour s) t lo hi ((grid s).border t) closed (value_at xs) (value_at ys) same q stays
    ∙ sym (ap (λ (f : ℕ → ℤ). f q) (turned_holds s t ys also))
turn_agrees false s t lo hi closed xs ys long also same q stays =
    ap (λ (f : ℕ → ℤ). f q) (former_holds s t xs long)
    ∙ backward_agrees (neighbour s) t lo hi ((grid s).border t) closed (value_at xs) (value_at ys) same (height s) q stays
    ∙ sym (ap (λ (f : ℕ → ℤ). f q) (former_holds s t ys also))
