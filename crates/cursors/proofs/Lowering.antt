-- Adding the same levels to two level vectors of one sum keeps their order: it is decided by the last axis on which they differ. So the level vectors of
-- sum s with a level of at least j on an axis are, in order, those of sum s − j, each raised by j there; and so many of them come before one of them as level
-- vectors come before the lowered one.
-- Assumes nothing.
use mathlib.Core.Path.{◌≡◌, ap, ap₂, sym, ◌∙◌}
use mathlib.Core.Logic.{inl, inr}
use Prim.Native.Nat.{ℕ, zero, suc, ◌+◌, ◌-◌, ◌≤◌, ◌<◌}
use native.Mathlib.Omega.{arith}
use borrow.Author.Tests.{le-leb, lt-leb}
use Rattle.naturals.specs.Sum.{sum_to}
use Rattle.naturals.proofs.Cases.{le_or_lt, eq_or_not}
use Rattle.naturals.proofs.Sums.{sum_to_zero, sum_to_suc}
use Rattle.numbering.specs.Count.{vectors}
use Rattle.numbering.specs.Number.{ending, rank}
use Rattle.numbering.specs.Inverse.{level_of}
use Rattle.numbering.specs.Parent.{update}
use Rattle.numbering.proofs.Rank.{rank_zero, rank_suc, rank_lt, rank_cong}
use Rattle.numbering.proofs.Ordering.{rank_less}
use Rattle.numbering.proofs.Unrank.{level_of_rank, sum_of_level, rank_of_level}
use Rattle.numbering.proofs.Parents.{update_same, update_other, update_sum}
use Rattle.cursors.specs.Steps.{reaches, passed}
use Rattle.cursors.proofs.Marks.{Marks, marks_before, all_marks}

-- ---- the order of level vectors

-- Two level vectors added axis by axis.
abbrev plus : (ℕ → ℕ) → (ℕ → ℕ) → ℕ → ℕ
plus l e u = l u + e u

sum_plus : (l e : ℕ → ℕ) (k : ℕ) → sum_to (plus l e) k ≡ sum_to l k + sum_to e k
sum_plus l e zero = omega (arith, sum_to_zero (plus l e), sum_to_zero l, sum_to_zero e)
sum_plus l e (suc k) = omega (arith, sum_to_suc (plus l e) k, sum_to_suc l k, sum_to_suc e k, sum_plus l e k)

-- The same levels added to both keep the order: where the last levels differ they decide before and after, else the axes below do.
order_kept : (e l m : ℕ → ℕ) (k : ℕ) → sum_to l k ≡ sum_to m k → rank l k < rank m k → rank (plus l e) k < rank (plus m e) k
order_kept e l m zero same lt = omega (arith, rank_zero l, rank_zero m)
order_kept e l m (suc k) same lt =
    let raised : sum_to (plus l e) (suc k) ≡ sum_to (plus m e) (suc k) = omega (arith, sum_plus l e (suc k), sum_plus m e (suc k)) in
    eq_or_not (l k) (m k)
    (λ level.
    let last : sum_to (ending k (sum_to l (suc k))) (l k) ≡ sum_to (ending k (sum_to m (suc k))) (m k)
    = ap₂ (λ (s v : ℕ). sum_to (ending k s) v) same level in
    let last_raised : sum_to (ending k (sum_to (plus l e) (suc k))) (l k + e k) ≡ sum_to (ending k (sum_to (plus m e) (suc k))) (m k + e k)
    = ap₂ (λ (s v : ℕ). sum_to (ending k s) (v + e k)) raised level in
    omega (
      arith,
      last_raised,
      rank_suc (plus l e) k,
      rank_suc (plus m e) k,
      order_kept e l m k (omega (arith, sum_to_suc l k, sum_to_suc m k)) (omega (arith, rank_suc l k, rank_suc m k)),
    ))
    (λ differ.
    le_or_lt (l k) (m k)
    (λ le. rank_less (plus l e) (plus m e) k raised (omega arith))
    (λ gt. omega (arith, rank_less m l k (sym same) gt)))

-- ---- one axis raised, and lowered

-- No levels at all.
sum_of_zeros : (k : ℕ) → sum_to (λ u. 0) k ≡ 0
sum_of_zeros zero = sum_to_zero (λ u. 0)
sum_of_zeros (suc k) = omega (arith, sum_to_suc (λ u. 0) k, sum_of_zeros k)

-- The level of a level vector on an axis, from its rank.
pub level_is : (l : ℕ → ℕ) (d t s : ℕ) → t < d → sum_to l d ≡ s → level_of d s (rank l d) t ≡ l t
level_is l d t s axis sum = ap (λ (s : ℕ). level_of d s (rank l d) t) (sym sum) ∙ level_of_rank l d t axis

-- Whether it is at least j.
module _ (l : ℕ → ℕ) (d t s j : ℕ) (axis : t < d) (sum : sum_to l d ≡ s) where
  pub does_reach : j ≤ l t → reaches d t s j (rank l d) ≡ 1
  unfolding reaches
  does_reach h = rw (le-leb j (level_of d s (rank l d) t) (omega (arith, level_is l d t s axis sum)))

  pub does_not_reach : l t < j → reaches d t s j (rank l d) ≡ 0
  unfolding reaches
  does_not_reach h = rw (lt-leb j (level_of d s (rank l d) t) (omega (arith, level_is l d t s axis sum)))

module _ (d t s j : ℕ) (axis : t < d) (low : j ≤ s) where
  -- The level j on the axis, 0 elsewhere.
  abbrev step : ℕ → ℕ
  step = update (λ u. 0) t j

  abbrev lowered : (ℕ → ℕ) → ℕ → ℕ
  lowered l = update l t (l t - j)

  sum_of_step : sum_to step d ≡ j
  sum_of_step = omega (arith, update_sum (λ u. 0) t j d axis, sum_of_zeros d)

  -- A level vector lowered by j and raised by j again.
  raised_again : (l : ℕ → ℕ) → j ≤ l t → (u : ℕ) → plus (lowered l) step u ≡ l u
  raised_again l h u =
      eq_or_not u t
      (λ e. rw e (omega (arith, update_same l t (l t - j), update_same (λ u. 0) t j)))
      (λ ne. omega (arith, update_other l t (l t - j) u ne, update_other (λ u. 0) t j u ne))

  -- From the rank of a level vector of sum s − j to that of the raised one.
  abbrev raise : ℕ → ℕ
  raise q = rank (plus (level_of d (s - j) q) step) d

  sum_raised : (q : ℕ) → q < vectors d (s - j) → sum_to (plus (level_of d (s - j) q) step) d ≡ s
  sum_raised q h = omega (arith, sum_plus (level_of d (s - j) q) step d, sum_of_level d (s - j) q h, sum_of_step)

  module _ (l : ℕ → ℕ) (sum : sum_to l d ≡ s) (high : j ≤ l t) where
    pub sum_lowered : sum_to (lowered l) d ≡ s - j
    sum_lowered = omega (arith, update_sum l t (l t - j) d axis)

    pub lowered_rank_lt : rank (lowered l) d < vectors d (s - j)
    lowered_rank_lt = omega (arith, rank_lt (lowered l) d, ap (vectors d) sum_lowered)

    raise_lowered : raise (rank (lowered l) d) ≡ rank l d
    raise_lowered =
        rank_cong (plus (level_of d (s - j) (rank (lowered l) d)) step) l d λ u h.
        ap (λ (v : ℕ). v + step u)
        (ap (λ (s : ℕ). level_of d s (rank (lowered l) d) u) (sym sum_lowered) ∙ level_of_rank (lowered l) d u h)
        ∙ raised_again l high u

  -- The level vectors of sum s with a level of at least j are those of sum s − j, raised, in their order.
  marks : Marks (reaches d t s j) raise (λ r. rank (lowered (level_of d s r)) d) (vectors d s) (vectors d (s - j))
  marks =
      record {
        rises =
            λ p q lt h.
            let before = sum_of_level d (s - j) p (omega arith) in
            let after = sum_of_level d (s - j) q h in
            order_kept step (level_of d (s - j) p) (level_of d (s - j) q) d (before ∙ sym after)
            (omega (arith, rank_of_level d (s - j) p (omega arith), rank_of_level d (s - j) q h));
        inside =
            λ q h. omega (arith, rank_lt (plus (level_of d (s - j) q) step) d, ap (vectors d) (sum_raised q h));
        marked =
            λ q h.
            does_reach (plus (level_of d (s - j) q) step) d t s j axis (sum_raised q h) (omega (arith, update_same (λ u. 0) t j));
        other =
            λ r h.
            let l : ℕ → ℕ = level_of d s r in
            let sum : sum_to l d ≡ s = sum_of_level d s r h in
            let same : rank l d ≡ r = rank_of_level d s r h in
            le_or_lt j (l t)
            (λ high. inr (lowered_rank_lt l sum high, raise_lowered l sum high ∙ same))
            (λ less. inl (ap (reaches d t s j) (sym same) ∙ does_not_reach l d t s j axis sum less));
      }

  -- As many of them come before a level vector as level vectors come before the lowered one.
  pub passed_lower : (l : ℕ → ℕ) → sum_to l d ≡ s → j ≤ l t → passed d t s j (rank l d) ≡ rank (update l t (l t - j)) d
  unfolding passed
  passed_lower l sum high =
      ap (sum_to (reaches d t s j)) (sym (raise_lowered l sum high)) ∙ marks_before marks (rank (lowered l) d) (lowered_rank_lt l sum high)

  -- And there are as many as level vectors of sum s − j.
  pub passed_all : passed d t s j (vectors d s) ≡ vectors d (s - j)
  unfolding passed
  passed_all = all_marks marks

pub passed_none : (d t s j : ℕ) → passed d t s j 0 ≡ 0
unfolding passed
passed_none d t s j = sum_to_zero (reaches d t s j)

pub passed_step : (d t s j r : ℕ) → passed d t s j (suc r) ≡ passed d t s j r + reaches d t s j r
unfolding passed
passed_step d t s j r = sum_to_suc (reaches d t s j) r
