-- The level list at which a way over a face stands: a level vector of the face, with its sum. It is known by its sum and its rank, and by the number of its
-- first point. Forward, a way begins at the one that the last point lies in.
-- Assumes nothing.
use mathlib.Core.Logic.{⊎_elim}
use mathlib.Core.List.{List}
use mathlib.Core.Path.{◌≡◌, ap, sym, ◌∙◌, fun_ext}
use Prim.Native.Nat.{ℕ, suc, ◌+◌, ◌^◌, ◌≤◌, ◌<◌}
use native.Mathlib.Omega.{arith}
use Rattle.naturals.specs.Sum.{sum_to}
use Rattle.naturals.proofs.Cases.{le_or_lt}
use Rattle.numbering.specs.Count.{vectors, points}
use Rattle.numbering.specs.Point.{at}
use Rattle.numbering.specs.Number.{rank, first_of}
use Rattle.numbering.specs.Inverse.{level_of}
use Rattle.numbering.proofs.Rank.{rank_lt}
use Rattle.numbering.proofs.Unrank.{level_of_rank, level_past}
use Rattle.numbering.proofs.Numbering.{points_is, start_mono}
use Rattle.numbering.proofs.Succession.{rank_first}
use Rattle.numbering.proofs.Subspaces.{first_is}
use Rattle.vectors.specs.Steps.{VectorIn, NextVector, PreviousVector}
use Rattle.vectors.specs.declared.LevelVector.{LevelVector}
use Rattle.vectors.proofs.Following.{no_levels}
use Rattle.layouts.specs.Layouts.{last_levels}
use Rattle.layouts.proofs.LastLevels.{last_sum, last_rank}
use Rattle.neighbours.specs.declared.facets.Facet.{Facet}
use Rattle.sweeps.specs.Steps.{LastOf}
use Rattle.sweeps.proofs.Ranks.{first_at, end_le, some_points, Follows, following}

-- A level vector of the face.
pub record Standing (facet : Facet) (vector : LevelVector) : Type 0 where
  pub same : vector.axes ≡ facet.axes
  pub low : vector.sum ≤ facet.line.shape.level

pub vector_in : {facet : Facet} {vector : LevelVector} → Standing facet vector → VectorIn facet.axes vector.sum vector.levels
vector_in {facet} {vector} s = rw s.same at vector.vector

module _ {d sum : ℕ} {ls : List ℕ} (vector : VectorIn d sum ls) where
  pub first_at_lem : first_of d (at ls) ≡ first_at d sum (rank (at ls) d)
  first_at_lem = first_is d (at ls) ∙ ap (λ (s : ℕ). first_at d s (rank (at ls) d)) vector.total

  pub rank_in : rank (at ls) d < vectors d sum
  rank_in = rw (sym vector.total) (rank_lt (at ls) d)

  -- Its levels are those of its sum and rank.
  pub levels_of_rank : level_of d sum (rank (at ls) d) ≡ at ls
  levels_of_rank =
      fun_ext
      (λ t.
      le_or_lt d t
      (λ past. level_past d sum (rank (at ls) d) t past ∙ sym (vector.rest t past))
      (λ axis. ap (λ (s : ℕ). level_of d s (rank (at ls) d) t) (sym vector.total) ∙ level_of_rank (at ls) d t axis))

  -- It is one of the face if its first point is.
  pub sum_inside : (n : ℕ) → first_of d (at ls) < points d n → sum ≤ n
  sum_inside n inside =
      le_or_lt sum n (λ low. low)
      (λ high. absurd (omega (arith, inside, first_at_lem, points_is d n, start_mono d (suc n) sum high)))

module _ {facet : Facet} {vector : LevelVector} (s : Standing facet vector) where
  pub end_inside : first_of facet.axes (at vector.levels) + 2 ^ vector.sum ≤ points facet.axes facet.line.shape.level
  end_inside =
      omega (
        arith,
        first_at_lem (vector_in s),
        end_le facet.axes vector.sum (rank (at vector.levels) facet.axes) (rank_in (vector_in s)),
        start_mono facet.axes (suc vector.sum) (suc facet.line.shape.level) (omega (arith, s.low)),
        points_is facet.axes facet.line.shape.level,
      )

-- The first of all has no level, so none comes before it.
pub first_standing : (facet : Facet) (vector : LevelVector) → (vector.axes ≡ facet.axes) × (vector.sum ≡ 0) → Standing facet vector
first_standing facet vector first = record { same = first.0; low = omega (arith, first.1) }

pub first_rank : (facet : Facet) (vector : LevelVector) → (vector.axes ≡ facet.axes) × (vector.sum ≡ 0) → rank (at vector.levels) facet.axes ≡ 0
first_rank facet vector first =
    rank_first (at vector.levels) facet.axes (λ t some axis. no_levels (rw (first.0, first.1) at vector.vector) t)

-- ---- the one before and the next

module _ {facet : Facet} {vector : LevelVector} (s : Standing facet vector) (vector' : LevelVector) where
  module _ (stepped : (vector'.axes ≡ vector.axes) × PreviousVector vector.axes vector.sum vector.levels vector'.sum vector'.levels) where
    before : PreviousVector facet.axes vector.sum vector.levels vector'.sum vector'.levels
    before = rw s.same at stepped.1

    pub previous_follows : Follows facet.axes vector'.sum (rank (at vector'.levels) facet.axes) vector.sum (rank (at vector.levels) facet.axes)
    previous_follows =
        following facet.axes (omega (arith, facet.inner)) vector'.sum (rank (at vector'.levels) facet.axes) (rank_in before.vector)
        vector.sum (rank (at vector.levels) facet.axes) (rank_in (vector_in s))
        (omega (arith, before.first, first_at_lem (vector_in s), first_at_lem before.vector))

    pub previous_standing : Standing facet vector'
    previous_standing =
        record {
          same = stepped.0 ∙ s.same;
          low = ⊎_elim (λ same. omega (arith, same.0, s.low)) (λ below. omega (arith, below.0, s.low)) previous_follows;
        }

  module _ (stepped : (vector'.axes ≡ vector.axes) × NextVector vector.axes vector.sum vector.levels vector'.sum vector'.levels) where
    next : NextVector facet.axes vector.sum vector.levels vector'.sum vector'.levels
    next = rw s.same at stepped.1

    pub next_follows : Follows facet.axes vector.sum (rank (at vector.levels) facet.axes) vector'.sum (rank (at vector'.levels) facet.axes)
    next_follows =
        following facet.axes (omega (arith, facet.inner)) vector.sum (rank (at vector.levels) facet.axes) (rank_in (vector_in s))
        vector'.sum (rank (at vector'.levels) facet.axes) (rank_in next.vector)
        (omega (arith, next.first, first_at_lem (vector_in s), first_at_lem next.vector))

    -- It is one of the face if the other ends before the table does.
    pub next_standing : first_of facet.axes (at vector.levels) + 2 ^ vector.sum < points facet.axes facet.line.shape.level → Standing facet vector'
    next_standing more =
        record { same = stepped.0 ∙ s.same; low = sum_inside next.vector facet.line.shape.level (omega (arith, next.first, more)) }

-- ---- the last

module _ (facet : Facet) where
  -- A face has points.
  pub some_place : 1 ≤ points facet.axes facet.line.shape.level
  some_place = some_points facet.axes facet.line.shape.level (omega (arith, facet.inner))

  module _ (vector : LevelVector) (last : LastOf facet vector) where
    pub last_standing : Standing facet vector
    last_standing = record { same = last.axes; low = omega (arith, last.sum) }

    pub last_of_face : suc (rank (at vector.levels) facet.axes) ≡ vectors facet.axes vector.sum
    last_of_face = last.rank ∙ ap (vectors facet.axes) (sym last.sum)

-- As the array of faces has it.
pub last_made : (facet : Facet) (vector : LevelVector) (n : ℕ) {levels : List ℕ} → facet.line.shape.level ≡ n → at levels ≡ last_levels facet.axes n →
    (vector.axes ≡ facet.axes) × (vector.levels ≡ levels) → LastOf facet vector
last_made facet vector n top is made =
    let some : 1 ≤ facet.axes = omega (arith, facet.inner) in
    let here : at vector.levels ≡ last_levels facet.axes n = ap at made.1 ∙ is in
    record {
      axes = made.0;
      sum = sym (rw made.0 at vector.vector.total) ∙ ap (λ (l : ℕ → ℕ). sum_to l facet.axes) here ∙ last_sum facet.axes n some ∙ sym top;
      rank = rw (here, top) (last_rank facet.axes n some);
    }
