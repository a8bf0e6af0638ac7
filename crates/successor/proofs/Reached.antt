-- The point that a step reaches is the one after: a point of a sparse table whose number is one higher is the point of that number, and it is below the count.
-- And after a number that has none below the count above it there is none.
-- Assumes nothing.
use Rattle.std.specs.Prelude.{Option, Some, None}
use mathlib.Core.List.{List}
use mathlib.Core.Path.{◌≡◌, refl, ap₂, sym}
use Prim.Native.Nat.{ℕ, suc, ◌≤◌, ◌<◌}
use native.Mathlib.Omega.{arith}
use lib.Dec.{ltb}
use borrow.Author.Tests.{lt-ltb, le-ltb, ltb-true}
use Rattle.naturals.proofs.Cases.{true_or_false}
use Rattle.numbering.specs.Count.{points}
use Rattle.numbering.specs.Point.{at}
use Rattle.numbering.specs.Number.{number}
use Rattle.numbering.specs.Inverse.{level_at, index_at}
use Rattle.numbering.proofs.Named.{Named, levels_again, indices_again}
use Rattle.numbering.proofs.Numbering.{number_lt}
use Rattle.points.specs.declared.Point.{Point}
use Rattle.points.specs.Points.{bare_point}
use Rattle.points.specs.Steps.{PointIn}
use Rattle.points.proofs.Eight.{eight_ext}
use Rattle.successor.specs.Steps.{next_inner}

-- The answer of a step that reached the point in two lists.
abbrev pub reached : List ℕ → List ℕ → Option Point
reached ls is = Some (record { levels = ls; indices = is })

module _ {d n : ℕ} {ls is : List ℕ} (p : PointIn d n ls is) where
  there : Named d n (at ls) (at is)
  there = record { point = p.point; levels = p.no_level; indices = p.no_index }

  -- A point is the point of its number.
  point_at_lem : bare_point (level_at d n (number d (at ls) (at is))) (index_at d n (number d (at ls) (at is))) ≡ record { levels = ls; indices = is }
  point_at_lem =
      rw (levels_again there, indices_again there)
      (sym
      (ap₂ (λ (x y : List ℕ). record { levels = x; indices = y })
      (eight_ext (at ls) ls p.long_levels (λ t h. refl))
      (eight_ext (at is) is p.long_indices (λ t h. refl))))

  pub reaches : (l i : ℕ → ℕ) → number d (at ls) (at is) ≡ suc (number d l i) → reached ls is ≡ next_inner d n (number d l i)
  unfolding next_inner
  reaches l i e =
      sym (rw (lt-ltb (suc (number d l i)) (points d n) (omega (arith, number_lt p.point, e)), ← e, point_at_lem))

pub ended : (d n : ℕ) (l i : ℕ → ℕ) → points d n ≤ suc (number d l i) → None ≡ next_inner d n (number d l i)
unfolding next_inner
ended d n l i e = sym (rw (le-ltb (suc (number d l i)) (points d n) e))

-- What an answer tells: it is the point one number on, or that number is not below the count.
pub inner_some : (d n q : ℕ) (x : Point) → next_inner d n q ≡ Some x →
    (suc q < points d n) × (x ≡ bare_point (level_at d n (suc q)) (index_at d n (suc q)))
unfolding next_inner
inner_some d n q x e =
    true_or_false (ltb (suc q) (points d n))
    (λ on. (ltb-true (suc q) (points d n) on, let is = rw on at e in cc))
    (λ off. let is = rw off at e in absurd cc)
