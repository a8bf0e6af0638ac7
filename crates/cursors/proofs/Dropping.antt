-- Level vectors of one sum with the same level on an axis keep their order when the axis is left out: it is decided by the last axis on which they differ. So the
-- level vectors of sum s with level k on the axis are, in order, those of one axis less and sum s − k, each with k put in; and so many of them come before one of
-- them as level vectors come before the one without the axis.
-- Assumes nothing.
use mathlib.Core.Path.{◌≡◌, refl, ap, ap₂, sym, ◌∙◌}
use mathlib.Core.Logic.{inl, inr}
use Prim.Native.Nat.{ℕ, zero, suc, ◌+◌, ◌-◌, ◌≤◌, ◌<◌}
use native.Mathlib.Omega.{arith}
use lib.Dec.{eqb, ltb}
use Rattle.std.specs.Prelude.{if◌then◌else◌}
use borrow.Author.Tests.{lt-ltb, le-ltb, le-leb, lt-leb, eq-eqb, ne_eqb}
use Rattle.naturals.specs.Sum.{sum_to}
use Rattle.naturals.proofs.Cases.{le_or_lt, eq_or_not}
use Rattle.naturals.proofs.Sums.{sum_to_zero, sum_to_suc, sum_to_cong, term_le}
use Rattle.numbering.specs.Count.{vectors}
use Rattle.numbering.specs.Number.{ending, rank}
use Rattle.numbering.specs.Inverse.{level_of}
use Rattle.numbering.proofs.Rank.{rank_zero, rank_suc, rank_lt, rank_cong}
use Rattle.numbering.proofs.Ordering.{rank_less}
use Rattle.numbering.proofs.Unrank.{level_of_rank, sum_of_level, rank_of_level, level_le}
use Rattle.neighbours.specs.Facets.{without}
use Rattle.neighbours.proofs.Without.{without_low, without_high, sum_after}
use Rattle.cursors.specs.Steps.{reaches, passed}
use Rattle.cursors.proofs.Lowering.{level_is}
use Rattle.cursors.proofs.Marks.{Marks, marks_before}

-- ---- a level put in

-- The levels of one axis less, with k put in place j.
put_in : ℕ → ℕ → (ℕ → ℕ) → ℕ → ℕ
put_in j k l u = if ltb u j then l u else if eqb u j then k else l (u - 1)

module _ (j k : ℕ) where
  put_low : (l : ℕ → ℕ) (u : ℕ) → u < j → put_in j k l u ≡ l u
  unfolding put_in
  put_low l u h = rw (lt-ltb u j h) refl

  put_there : (l : ℕ → ℕ) → put_in j k l j ≡ k
  unfolding put_in
  put_there l = let here : j ≤ j = omega arith in rw (le-ltb j j here, eq-eqb j j refl) refl

  put_high : (l : ℕ → ℕ) (u : ℕ) → j ≤ u → put_in j k l (suc u) ≡ l u
  unfolding put_in
  put_high l u h =
      let past : j ≤ suc u = omega arith in
      rw (le-ltb (suc u) j past, ne_eqb (suc u) j (λ e. omega arith)) (ap l (omega arith))

  put_cong : (l m : ℕ → ℕ) (c : ℕ) → j ≤ c → ((u : ℕ) → u < c → l u ≡ m u) → (u : ℕ) → u < suc c → put_in j k l u ≡ put_in j k m u
  put_cong l m c there same u h =
      le_or_lt j u
      (λ le.
      eq_or_not u j
      (λ e. rw e (put_there l ∙ sym (put_there m)))
      (λ ne.
      let after : suc (u - 1) ≡ u = omega arith in
      rw after at (put_high l (u - 1) (omega arith) ∙ same (u - 1) (omega arith) ∙ sym (put_high m (u - 1) (omega arith)))))
      (λ lt. put_low l u lt ∙ same u (omega arith) ∙ sym (put_low m u lt))

  -- Left out again.
  left_out : (l : ℕ → ℕ) (u : ℕ) → without j (put_in j k l) u ≡ l u
  left_out l u =
      le_or_lt j u
      (λ le. without_high j (put_in j k l) u le ∙ put_high l u le)
      (λ lt. without_low j (put_in j k l) u lt ∙ put_low l u lt)

  sum_put : (l : ℕ → ℕ) (c : ℕ) → j ≤ c → sum_to (put_in j k l) (suc c) ≡ sum_to l c + k
  sum_put l c there =
      omega (arith, sum_after j (put_in j k l) c there, sum_to_cong (without j (put_in j k l)) l c (λ u h. left_out l u), put_there l)

-- A level vector left out of and put in again.
put_back : (j : ℕ) (l : ℕ → ℕ) (u : ℕ) → put_in j (l j) (without j l) u ≡ l u
put_back j l u =
    le_or_lt j u
    (λ le.
    eq_or_not u j
    (λ e. rw e (put_there j (l j) (without j l)))
    (λ ne.
    let after : suc (u - 1) ≡ u = omega arith in
    rw after at (put_high j (l j) (without j l) (u - 1) (omega arith) ∙ without_high j l (u - 1) (omega arith))))
    (λ lt. put_low j (l j) (without j l) u lt ∙ without_low j l u lt)

-- ---- the order is kept

module _ (j k : ℕ) (l m : ℕ → ℕ) where
  abbrev from : ℕ → ℕ
  from = put_in j k l

  abbrev to : ℕ → ℕ
  to = put_in j k m

  -- Where the axis is the last.
  order_at : sum_to l j ≡ sum_to m j → rank l j < rank m j → rank from (suc j) < rank to (suc j)
  order_at same lt =
      let here : j ≤ j = omega arith in
      let sums : sum_to from (suc j) ≡ sum_to to (suc j) = omega (arith, sum_put j k l j here, sum_put j k m j here) in
      let last : sum_to (ending j (sum_to from (suc j))) (from j) ≡ sum_to (ending j (sum_to to (suc j))) (to j)
      = ap₂ (λ (s v : ℕ). sum_to (ending j s) v) sums (put_there j k l ∙ sym (put_there j k m)) in
      omega (
        arith,
        last,
        rank_suc from j,
        rank_suc to j,
        rank_cong from l j (put_low j k l),
        rank_cong to m j (put_low j k m),
      )

  order_put : (c : ℕ) → j ≤ c → sum_to l c ≡ sum_to m c → rank l c < rank m c → rank from (suc c) < rank to (suc c)
  order_put zero there same lt = omega (arith, rank_zero l, rank_zero m)
  order_put (suc c) there same lt =
      let sums : sum_to from (suc (suc c)) ≡ sum_to to (suc (suc c)) = omega (arith, sum_put j k l (suc c) there, sum_put j k m (suc c) there) in
      le_or_lt j c
      (λ past.
      eq_or_not (l c) (m c)
      (λ level.
      let last : sum_to (ending c (sum_to l (suc c))) (l c) ≡ sum_to (ending c (sum_to m (suc c))) (m c)
      = ap₂ (λ (s v : ℕ). sum_to (ending c s) v) same level in
      let last_put : sum_to (ending (suc c) (sum_to from (suc (suc c)))) (from (suc c)) ≡ sum_to (ending (suc c) (sum_to to (suc (suc c)))) (to (suc c))
      = ap₂ (λ (s v : ℕ). sum_to (ending (suc c) s) v) sums (put_high j k l c past ∙ level ∙ sym (put_high j k m c past)) in
      omega (
        arith,
        last_put,
        rank_suc from (suc c),
        rank_suc to (suc c),
        order_put c past (omega (arith, sum_to_suc l c, sum_to_suc m c)) (omega (arith, last, rank_suc l c, rank_suc m c)),
      ))
      (λ differ.
      le_or_lt (l c) (m c)
      (λ le. rank_less from to (suc c) sums (omega (arith, put_high j k l c past, put_high j k m c past)))
      (λ gt. omega (arith, rank_less m l c (sym same) gt))))
      (λ before.
      let last : suc c ≡ j = omega arith in
      rw last (order_at (rw last at same) (rw last at lt)))

-- ---- the level vectors with one level on the axis

-- 1 if the level vector of d axes and sum s that r others come before has level k on axis t, else 0.
exactly : ℕ → ℕ → ℕ → ℕ → ℕ → ℕ
exactly d t s k r = if eqb k (level_of d s r t) then 1 else 0

module _ (l : ℕ → ℕ) (d t s k : ℕ) (axis : t < d) (sum : sum_to l d ≡ s) where
  is_exact : k ≡ l t → exactly d t s k (rank l d) ≡ 1
  unfolding exactly
  is_exact e = rw (eq-eqb k (level_of d s (rank l d) t) (e ∙ sym (level_is l d t s axis sum)))

  not_exact : (k ≡ l t → ⊥) → exactly d t s k (rank l d) ≡ 0
  unfolding exactly
  not_exact ne = rw (ne_eqb k (level_of d s (rank l d) t) (λ e. ne (e ∙ level_is l d t s axis sum)))

module _ (c j s k : ℕ) (there : j ≤ c) (low : k ≤ s) where
  -- From the rank of a level vector of one axis less to that of the one with k put in.
  abbrev put : ℕ → ℕ
  put q = rank (put_in j k (level_of c (s - k) q)) (suc c)

  sum_is : (q : ℕ) → q < vectors c (s - k) → sum_to (put_in j k (level_of c (s - k) q)) (suc c) ≡ s
  sum_is q h = omega (arith, sum_put j k (level_of c (s - k) q) c there, sum_of_level c (s - k) q h)

  module _ (l : ℕ → ℕ) (sum : sum_to l (suc c) ≡ s) (own : k ≡ l j) where
    sum_left : sum_to (without j l) c ≡ s - k
    sum_left = omega (arith, sum_after j l c there)

    rank_left : rank (without j l) c < vectors c (s - k)
    rank_left = omega (arith, rank_lt (without j l) c, ap (vectors c) sum_left)

    put_left : put (rank (without j l) c) ≡ rank l (suc c)
    put_left =
        let same : (u : ℕ) → u < c → level_of c (s - k) (rank (without j l) c) u ≡ without j l u
        = λ u h. ap (λ (s : ℕ). level_of c s (rank (without j l) c) u) (sym sum_left) ∙ level_of_rank (without j l) c u h
        in
        rank_cong (put_in j k (level_of c (s - k) (rank (without j l) c))) l (suc c) λ u h.
        put_cong j k (level_of c (s - k) (rank (without j l) c)) (without j l) c there same u h
        ∙ ap (λ (k : ℕ). put_in j k (without j l) u) own
        ∙ put_back j l u

  -- They are those of one axis less, with k put in, in their order.
  marks : Marks (exactly (suc c) j s k) put (λ r. rank (without j (level_of (suc c) s r)) c) (vectors (suc c) s) (vectors c (s - k))
  marks =
      record {
        rises =
            λ p q lt h.
            let before = sum_of_level c (s - k) p (omega arith) in
            let after = sum_of_level c (s - k) q h in
            order_put j k (level_of c (s - k) p) (level_of c (s - k) q) c there (before ∙ sym after)
            (omega (arith, rank_of_level c (s - k) p (omega arith), rank_of_level c (s - k) q h));
        inside =
            λ q h. omega (arith, rank_lt (put_in j k (level_of c (s - k) q)) (suc c), ap (vectors (suc c)) (sum_is q h));
        marked =
            λ q h.
            is_exact (put_in j k (level_of c (s - k) q)) (suc c) j s k (omega arith) (sum_is q h) (sym (put_there j k (level_of c (s - k) q)));
        other =
            λ r h.
            let l : ℕ → ℕ = level_of (suc c) s r in
            let sum : sum_to l (suc c) ≡ s = sum_of_level (suc c) s r h in
            let same : rank l (suc c) ≡ r = rank_of_level (suc c) s r h in
            eq_or_not k (l j)
            (λ own. inr (rank_left l sum own, put_left l sum own ∙ same))
            (λ ne. inl (ap (exactly (suc c) j s k) (sym same) ∙ not_exact l (suc c) j s k (omega arith) sum ne));
      }

  -- As many of them come before a level vector as level vectors come before the one without the axis.
  exact_before : (l : ℕ → ℕ) → sum_to l (suc c) ≡ s → k ≡ l j → sum_to (exactly (suc c) j s k) (rank l (suc c)) ≡ rank (without j l) c
  exact_before l sum own =
      ap (sum_to (exactly (suc c) j s k)) (sym (put_left l sum own)) ∙ marks_before marks (rank (without j l) c) (rank_left l sum own)

-- ---- as the cursors count them

-- Of the first b level vectors those with a level of at least k are those with k and those with more.
module _ (d t s k : ℕ) where
  apart : (r : ℕ) → reaches d t s k r ≡ exactly d t s k r + reaches d t s (suc k) r
  unfolding reaches exactly
  apart r =
      let v : ℕ = level_of d s r t in
      le_or_lt k v
      (λ le.
      eq_or_not k v
      (λ e. let less : v < suc k = omega arith in rw (le-leb k v le, eq-eqb k v e, lt-leb (suc k) v less) refl)
      (λ ne. let more : suc k ≤ v = omega arith in rw (le-leb k v le, ne_eqb k v ne, le-leb (suc k) v more) refl))
      (λ lt. let less : v < suc k = omega arith in rw (lt-leb k v lt, ne_eqb k v (λ e. omega arith), lt-leb (suc k) v less) refl)

  passed_apart : (b : ℕ) → passed d t s k b ≡ sum_to (exactly d t s k) b + passed d t s (suc k) b
  unfolding passed
  passed_apart zero = omega (arith, sum_to_zero (reaches d t s k), sum_to_zero (exactly d t s k), sum_to_zero (reaches d t s (suc k)))
  passed_apart (suc b) =
      omega (
        arith,
        sum_to_suc (reaches d t s k) b,
        sum_to_suc (exactly d t s k) b,
        sum_to_suc (reaches d t s (suc k)) b,
        apart b,
        passed_apart b,
      )

-- All have a level of at least 0, and none one above the sum.
module _ (d t s : ℕ) where
  reached : (r : ℕ) → reaches d t s 0 r ≡ 1
  unfolding reaches
  reached r = let low : 0 ≤ level_of d s r t = omega arith in rw (le-leb 0 (level_of d s r t) low) refl

  unreached : (k r : ℕ) → s < k → reaches d t s k r ≡ 0
  unfolding reaches
  unreached k r over =
      let low : level_of d s r t < k = omega (arith, level_le d s r t) in
      rw (lt-leb k (level_of d s r t) low) refl

  pub passed_at_zero : (b : ℕ) → passed d t s 0 b ≡ b
  unfolding passed
  passed_at_zero zero = sum_to_zero (reaches d t s 0)
  passed_at_zero (suc b) = omega (arith, sum_to_suc (reaches d t s 0) b, reached b, passed_at_zero b)

  pub passed_past : (k b : ℕ) → s < k → passed d t s k b ≡ 0
  unfolding passed
  passed_past k zero over = sum_to_zero (reaches d t s k)
  passed_past k (suc b) over = omega (arith, sum_to_suc (reaches d t s k) b, unreached k b over, passed_past k b over)

-- The rank of a level vector without the axis: of those before it, as many as have its level there.
pub rank_without : (d t s : ℕ) (l : ℕ → ℕ) → t < d → sum_to l d ≡ s →
    passed d t s (l t) (rank l d) ≡ rank (without t l) (d - 1) + passed d t s (suc (l t)) (rank l d)
rank_without zero t s l axis sum = omega arith
rank_without (suc c) t s l axis sum =
    let less : suc c - 1 ≡ c = omega arith in
    rw less
    (omega (
      arith,
      passed_apart (suc c) t s (l t) (rank l (suc c)),
      exact_before c t s (l t) (omega arith) (omega (arith, term_le l (suc c) t axis)) l sum refl,
    ))
