-- The level lists of a face, one after the other. A list over the k inner axes stands on all axes with 0 on each border axis; it has the same sum, its points begin at
-- the face's first number and its own first number over the inner axes, and the walk over the lists ends where the face does. A face without inner axes has one list
-- and one point, and so has one axis with top level 0: so the walk has at least one axis.
-- Assumes nothing.
use mathlib.Core.List.{List}
use mathlib.Core.Path.{◌≡◌, refl, ap, sym, ◌∙◌, fun_ext}
use Prim.Native.Nat.{ℕ, zero, suc, ◌+◌, ◌-◌, ◌*◌, ◌^◌, ◌≤◌, ◌<◌}
use native.Mathlib.Omega.{arith}
use lib.Pow.{pow_pos}
use borrow.Author.Tests.{eq-eqb, ne_eqb, lt-ltb, le-ltb}
use Rattle.naturals.specs.Sum.{sum_to}
use Rattle.naturals.proofs.Cases.{le_or_lt}
use Rattle.naturals.proofs.Sums.{sum_to_zero, sum_to_suc, sum_to_cong, sum_to_mono}
use Rattle.numbering.specs.Binomial.{choose}
use Rattle.numbering.specs.Count.{vectors, shell, start, points}
use Rattle.numbering.specs.Number.{rank, first_of}
use Rattle.numbering.specs.Point.{at}
use Rattle.numbering.proofs.Numbering.{points_is, start_mono}
use Rattle.numbering.proofs.Rank.{rank_zero, rank_lt}
use Rattle.numbering.proofs.Subspaces.{first_is, block_below}
use Rattle.numbering.proofs.Succession.{rank_first}
use Rattle.numbered.specs.Numbered.{unmarked}
use Rattle.faces.specs.Packing.{before, packed}
use Rattle.faces.proofs.Packing.{axis_inner, inner_axes, packed_is, packed_sum}
use Rattle.faces.proofs.Row.{before_unmarked}
use Rattle.shapes.specs.declared.Shape.{Shape}
use Rattle.shapes.proofs.Totals.{start_zero}
use Rattle.shapes.proofs.Layers.{points_none}
use Rattle.grids.proofs.Faces.{FaceOf, ListOn}
use Rattle.grids.proofs.Facets.{first_of_cong}
use Rattle.vectors.specs.declared.LevelVector.{LevelVector}
use Rattle.vectors.specs.Steps.{VectorIn, vectors_before, NextVector}
use Rattle.vectors.proofs.Following.{no_levels}
use Rattle.evaluation.specs.Steps.{whole}
use Rattle.evaluation.proofs.Blocks.{ListAt, list_at}

-- ---- on all axes

module _ (d : ℕ) (m v : ℕ → ℕ) where
  pub whole_inner : (t : ℕ) → t < d → m t ≡ 0 → whole d m v t ≡ v (before m t)
  unfolding whole
  whole_inner t h e = rw (lt-ltb t d h, eq-eqb (m t) 0 e) refl

  pub whole_border : (t : ℕ) → t < d → 0 < m t → whole d m v t ≡ 0
  unfolding whole
  whole_border t h some = rw (lt-ltb t d h, ne_eqb (m t) 0 (λ e. omega arith)) refl

  pub whole_past : (t : ℕ) → d ≤ t → whole d m v t ≡ 0
  unfolding whole
  whole_past t h = rw (le-ltb t d h) refl

  whole_packed : (u : ℕ) → u < before m d → packed m d (whole d m v) u ≡ v u
  whole_packed u h =
      let inner = axis_inner m d u h in
      packed_is m d (whole d m v) u ∙ whole_inner _ inner.axis inner.mark ∙ ap v inner.place

  whole_sum : sum_to (whole d m v) d ≡ sum_to v (before m d)
  whole_sum =
      sym (packed_sum m d (whole d m v) whole_border) ∙ sum_to_cong (packed m d (whole d m v)) v (before m d) whole_packed

-- Where every axis is inside it is the list itself.
pub whole_unmarked : (d : ℕ) (v : ℕ → ℕ) → ((t : ℕ) → d ≤ t → v t ≡ 0) → whole d unmarked v ≡ v
whole_unmarked d v rest =
    fun_ext λ t.
    le_or_lt d t
    (λ past. whole_past d unmarked v t past ∙ sym (rest t past))
    (λ h. whole_inner d unmarked v t h refl ∙ ap v (before_unmarked t))

-- ---- the axes walked

-- The lists of w axes up to the level sum top are those of k axes up to n.
pub record Walks (k n w top : ℕ) : Type 0 where
  pub low : top ≤ n
  pub ends : points w top ≡ points k n
  pub lists : sum_to (vectors w) (suc top) ≡ sum_to (vectors k) (suc n)
  pub first : (v : ℕ → ℕ) → sum_to v w ≤ top → first_of w v ≡ first_of k v
  pub sum : (v : ℕ → ℕ) → sum_to v w ≤ top → sum_to v k ≡ sum_to v w

pub walks_inner : (k n : ℕ) → Walks k n k n
walks_inner k n =
    record {
      low = omega arith;
      ends = refl;
      lists = refl;
      first = λ v h. refl;
      sum = λ v h. refl;
    }

-- Over no axes there is one list, that of the sum 0.
no_other : (n : ℕ) → vectors 0 (suc n) ≡ 0
unfolding vectors
no_other n = refl

list_of_none : vectors 0 0 ≡ 1
unfolding vectors
list_of_none = refl

one_list : (n : ℕ) → sum_to (vectors 0) (suc n) ≡ 1
one_list zero = omega (arith, sum_to_suc (vectors 0) 0, sum_to_zero (vectors 0), list_of_none)
one_list (suc n) = omega (arith, sum_to_suc (vectors 0) (suc n), one_list n, no_other n)

one_on_axis : sum_to (vectors 1) 1 ≡ 1
unfolding vectors sum_to choose
one_on_axis = refl

one_point : points 1 0 ≡ 1
unfolding points start shell vectors sum_to choose
one_point = refl

pub walks_none : (n : ℕ) → Walks 0 n 1 0
walks_none n =
    record {
      low = omega arith;
      ends = one_point ∙ sym (points_none n);
      lists = one_on_axis ∙ sym (one_list n);
      first = λ v h.
          let sum : sum_to v 1 ≡ 0 = omega (arith, h) in
          let flat : start 1 (sum_to v 1) ≡ 0 = ap (start 1) sum ∙ start_zero 1 in
          let none : start 0 (sum_to v 0) ≡ 0 = ap (start 0) (sum_to_zero v) ∙ start_zero 0 in
          let low : rank v 1 ≡ 0 = rank_first v 1 (λ t pos lt. absurd (omega arith)) in
          omega (
            arith,
            first_is 1 v,
            first_is 0 v,
            flat,
            none,
            ap (λ (r : ℕ). 2 ^ sum_to v 1 * r) low,
            ap (λ (r : ℕ). 2 ^ sum_to v 0 * r) (rank_zero v),
          );
      sum = λ v h. omega (arith, h, sum_to_zero v);
    }

-- ---- a list of a face

module _ {s : Shape} {m : ℕ → ℕ} {k base w top : ℕ} (f : FaceOf s m k base) (walks : Walks k s.level w top) {sum : ℕ} {levels : List ℕ}
    (vector : VectorIn w sum levels) (low : sum ≤ top) where
  abbrev v : ℕ → ℕ
  v = at levels

  low_walked : sum_to v w ≤ top
  low_walked = omega (arith, vector.total)

  all_inner : before m s.axes ≡ k
  all_inner = inner_axes m s.axes ∙ sym f.inner

  pub whole_total : sum_to (whole s.axes m v) s.axes ≡ sum
  whole_total = whole_sum s.axes m v ∙ ap (sum_to v) all_inner ∙ walks.sum v low_walked ∙ vector.total

  list_on : ListOn s m (whole s.axes m v)
  list_on =
      record {
        border = whole_border s.axes m v;
        none = whole_past s.axes m v;
        low = omega (arith, whole_total, walks.low);
      }

  list_first : first_of k (packed m s.axes (whole s.axes m v)) ≡ first_of w v
  list_first =
      first_of_cong k (packed m s.axes (whole s.axes m v)) v (λ u h. whole_packed s.axes m v u (omega (arith, all_inner)))
      ∙ sym (walks.first v low_walked)

  -- Its points begin at its first number.
  pub whole_at : {first : ℕ} → base + first_of w v ≡ first → ListAt s m (whole s.axes m v) first
  whole_at here = list_at f list_on (ap (λ (a : ℕ). base + a) list_first ∙ here)

-- ---- the walk over the lists of a face

-- The vector at hand is a list of the face whose first point has the number `first`, or the walk has ended.
pub record VectorAt (w top base first : ℕ) (vector : LevelVector) : Type 0 where
  pub same : vector.axes ≡ w
  pub here : base + first_of w (at vector.levels) ≡ first
  pub within : first ≤ base + points w top
  pub counted : vectors_before w (at vector.levels) ≤ sum_to (vectors w) (suc top)

before_is : (w : ℕ) (l : ℕ → ℕ) → vectors_before w l ≡ sum_to (vectors w) (sum_to l w) + rank l w
unfolding vectors_before
before_is w l = refl

-- It starts at the vector of zeros.
module _ (w top base : ℕ) (vector : LevelVector) (starts : (vector.axes ≡ w) × (vector.sum ≡ 0)) where
  zeros : VectorIn w 0 vector.levels
  zeros = rw (starts.0, starts.1) at vector.vector

  no_rank : rank (at vector.levels) w ≡ 0
  no_rank = rank_first (at vector.levels) w (λ t pos h. no_levels zeros t)

  pub none_before : vectors_before w (at vector.levels) ≡ 0
  none_before =
      omega (arith, before_is w (at vector.levels), ap (sum_to (vectors w)) zeros.total, no_rank, sum_to_zero (vectors w))

  first_none : first_of w (at vector.levels) ≡ 0
  first_none =
      let flat : start w (sum_to (at vector.levels) w) ≡ 0 = ap (start w) zeros.total ∙ start_zero w in
      omega (arith, first_is w (at vector.levels), flat, ap (λ (r : ℕ). 2 ^ sum_to (at vector.levels) w * r) no_rank)

  pub vector_starts : VectorAt w top base base vector
  vector_starts =
      record {
        same = starts.0;
        here = omega (arith, first_none);
        within = omega arith;
        counted = omega (arith, none_before);
      }

module _ {w top base first : ℕ} {vector : LevelVector} (a : VectorAt w top base first vector) where
  pub vector_in : VectorIn w vector.sum vector.levels
  vector_in = rw a.same at vector.vector

  -- Before the end of the face the level sum is at most the top level, and past it the end is reached.
  top_reached : top < vector.sum → base + points w top ≤ first
  top_reached lt =
      omega (
        arith,
        a.here,
        first_is w (at vector.levels),
        points_is w top,
        ap (start w) vector_in.total,
        start_mono w (suc top) vector.sum lt,
      )

  pub vector_low : first < base + points w top → vector.sum ≤ top
  vector_low h = le_or_lt vector.sum top (λ le. le) (λ lt. absurd (omega (arith, top_reached lt)))

  pub vector_ends : top < vector.sum → first ≡ base + points w top
  vector_ends lt = omega (arith, top_reached lt, a.within)

  module _ (low : vector.sum ≤ top) where
    -- There is room for the list in the count.
    pub one_more : suc (vectors_before w (at vector.levels)) ≤ sum_to (vectors w) (suc top)
    one_more =
        omega (
          arith,
          before_is w (at vector.levels),
          rank_lt (at vector.levels) w,
          sum_to_suc (vectors w) (sum_to (at vector.levels) w),
          sum_to_mono (vectors w) (suc (sum_to (at vector.levels) w)) (suc top) (omega (arith, vector_in.total)),
        )

    next_within : first + 2 ^ vector.sum ≤ base + points w top
    next_within =
        let power : 2 ^ sum_to (at vector.levels) w ≡ 2 ^ vector.sum = ap (λ (k : ℕ). 2 ^ k) vector_in.total in
        let last : 2 ^ vector.sum - 1 < 2 ^ sum_to (at vector.levels) w = omega (arith, power, pow_pos vector.sum) in
        omega (
          arith,
          a.here,
          pow_pos vector.sum,
          block_below w top (at vector.levels) vector_in.rest (omega (arith, vector_in.total)) (2 ^ vector.sum - 1) last,
        )

    -- One vector more.
    pub vector_steps : (vector' : LevelVector) →
        (vector'.axes ≡ vector.axes) × NextVector vector.axes vector.sum vector.levels vector'.sum vector'.levels →
        VectorAt w top base (first + 2 ^ vector.sum) vector'
    vector_steps vector' stepped =
        let next : NextVector w vector.sum vector.levels vector'.sum vector'.levels = rw a.same at stepped.1 in
        record {
          same = stepped.0 ∙ a.same;
          here = omega (arith, next.first, a.here);
          within = next_within;
          counted = omega (arith, next.count, one_more);
        }

    pub next_count : (vector' : LevelVector) →
        (vector'.axes ≡ vector.axes) × NextVector vector.axes vector.sum vector.levels vector'.sum vector'.levels →
        vectors_before w (at vector'.levels) ≡ suc (vectors_before w (at vector.levels))
    next_count vector' stepped =
        let next : NextVector w vector.sum vector.levels vector'.sum vector'.levels = rw a.same at stepped.1 in
        next.count
