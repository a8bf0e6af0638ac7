-- The ways on from a point: the next position on its levels; past the last position, the first on the next level vector; or the end, where that vector has
-- a sum past the top level. Each number is one higher, since a number is the first of its level vector and the position, and the next vector starts
-- where this one ends.
-- Assumes nothing.
use Rattle.std.specs.Prelude.{None}
use mathlib.Core.Bool.{Bool, true, false}
use mathlib.Core.List.{List}
use mathlib.Core.Path.{◌≡◌, ap, sym, ◌∙◌}
use Prim.Native.Nat.{ℕ, suc, ◌^◌, ◌≤◌, ◌<◌}
use native.Mathlib.Nat.{pow-suc}
use native.Mathlib.Omega.{arith}
use lib.Pow.{pow_pos}
use Rattle.naturals.specs.Sum.{sum_to}
use Rattle.numbering.specs.Count.{start}
use Rattle.numbering.specs.Point.{at}
use Rattle.numbering.specs.Number.{number, first_of}
use Rattle.numbering.proofs.Numbering.{points_is, start_mono}
use Rattle.numbering.proofs.Subspaces.{first_is, number_from_first}
use Rattle.numbering.proofs.Succession.{first_position}
use Rattle.vectors.specs.declared.LevelVector.{LevelVector}
use Rattle.vectors.specs.Steps.{VectorIn, NextVector}
use Rattle.points.specs.Steps.{PointIn}
use Rattle.successor.specs.Steps.{StepsIndices, next_inner}
use Rattle.successor.proofs.Reached.{reached, reaches, ended}

-- The levels of a point in eight places are a level vector of their sum.
pub vector_of : {d n : ℕ} {ls is : List ℕ} → PointIn d n ls is → (sum : ℕ) → sum ≡ sum_to (at ls) d → VectorIn d sum ls
vector_of p sum e = record { long = p.long_levels; total = sym e; rest = p.no_level }

module _ {d n : ℕ} {ls is js : List ℕ} {past : Bool} (p : PointIn d n ls is) (turned : StepsIndices d ls is past js) where
  pub next_index : past ≡ false → reached ls js ≡ next_inner d n (number d (at ls) (at is))
  next_index e =
      let point : PointIn d n ls js = record {
        long_levels = p.long_levels;
        long_indices = turned.long;
        point = record { sum = p.point.sum; odd = turned.odd; below = turned.below };
        no_level = p.no_level;
        no_index = λ t h. turned.rest t h ∙ p.no_index t h;
      } in
      reaches point (at ls) (at is)
      (omega (arith, number_from_first d (at ls) (at js), number_from_first d (at ls) (at is), turned.higher e))

  module _ (e : past ≡ true) (v : LevelVector) (of : (v.axes ≡ d) × (v.levels ≡ ls)) {sum' : ℕ} {ms : List ℕ}
      (stepped : NextVector v.axes v.sum v.levels sum' ms) where
    next : NextVector d v.sum ls sum' ms
    next = rw (of.0, of.1) at stepped

    whole : sum_to (at ls) d ≡ v.sum
    whole = rw (of.0, of.1) at v.vector.total

    -- The next vector starts one past this point.
    starts : first_of d (at ms) ≡ suc (number d (at ls) (at is))
    starts =
        omega (
          arith,
          next.first,
          number_from_first d (at ls) (at is),
          turned.last e,
          ap (λ (s : ℕ). 2 ^ s) whole,
        )

    -- The indices 1 fit any levels.
    pub first_of_next : sum' ≤ n → reached ms js ≡ next_inner d n (number d (at ls) (at is))
    first_of_next within =
        let point : PointIn d n ms js = record {
          long_levels = next.vector.long;
          long_indices = turned.long;
          point =
              record {
                sum = omega (arith, next.vector.total);
                odd = turned.odd;
                below = λ t h. omega (arith, turned.ones e t h, pow-suc 2 (at ms t), pow_pos (at ms t));
              };
          no_level = next.vector.rest;
          no_index = λ t h. turned.rest t h ∙ p.no_index t h;
        } in
        reaches point (at ls) (at is)
        (omega (arith, number_from_first d (at ms) (at js), first_position (at ms) (at js) d (turned.ones e), starts))

    pub none_left : n < sum' → None ≡ next_inner d n (number d (at ls) (at is))
    none_left past_top =
        ended d n (at ls) (at is)
        (omega (
          arith,
          starts,
          first_is d (at ms),
          ap (start d) next.vector.total,
          start_mono d (suc n) sum' past_top,
          points_is d n,
        ))
