-- Numbers are ordered exactly as document 01 orders points: by level sum, then by level vector from the last axis down, then by position.
-- True since each part of the number is below the step of the part before it.
-- Assumes nothing.
use mathlib.Core.Path.{◌≡◌, refl, ap, ap₂, sym, ◌∙◌}
use Prim.Native.Nat.{ℕ, zero, suc, ◌+◌, ◌-◌, ◌*◌, ◌^◌, ◌<◌}
use native.Mathlib.Nat.{mul-suc, mul-le-mul_left}
use native.Mathlib.Omega.{arith}
use borrow.Author.Tests.{lt-ltb, le-ltb}
use Rattle.naturals.specs.Sum.{sum_to}
use Rattle.naturals.proofs.Cases.{le_or_lt}
use Rattle.naturals.proofs.Sums.{sum_to_suc, sum_to_mono}
use Rattle.std.specs.declared.cmp.Ordering.{Ordering}
use Rattle.std.specs.declared.cmp.Ordering.TheVariants.{Less, Equal, Greater}
use Rattle.numbering.specs.Count.{vectors, start}
use Rattle.numbering.specs.Point.{IsPoint}
use Rattle.numbering.specs.Number.{ending, rank, position, number}
use Rattle.numbering.specs.Order.{by, by_levels, order_of_levels, order_of_points}
use Rattle.numbering.proofs.Rank.{ending_is, rank_zero, rank_suc, rank_lt}
use Rattle.numbering.proofs.Position.{position_lt}
use Rattle.numbering.proofs.Numbering.{number_is, number_in_shell, start_mono}

-- A comparison of two numbers, case by case.
pub by_less : (a b : ℕ) (next : Ordering) → a < b → by a b next ≡ Less
by_less a b next h = rw (lt-ltb a b h)

pub by_more : (a b : ℕ) (next : Ordering) → b < a → by a b next ≡ Greater
by_more a b next h = rw (le-ltb a b (omega arith), lt-ltb b a h)

pub by_equal : (a b : ℕ) (next : Ordering) → a ≡ b → by a b next ≡ next
by_equal a b next e = rw (le-ltb a b (omega arith), le-ltb b a (omega arith))

-- Two comparisons that go the same way in each case are the same.
pub by_same : (a b x y : ℕ) (next last : Ordering) →
    (a < b → x < y) → (b < a → y < x) → (a ≡ b → by x y last ≡ next) → by x y last ≡ by a b next
by_same a b x y next last less more equal =
    le_or_lt a b
    (λ le.
    le_or_lt b a
    (λ ge. equal (omega arith) ∙ sym (by_equal a b next (omega arith)))
    (λ lt. by_less x y last (less lt) ∙ sym (by_less a b next lt)))
    (λ gt. by_more x y last (more gt) ∙ sym (by_more a b next gt))

-- Adding the same to both numbers changes no comparison.
by_shift : (a b c x y : ℕ) (next : Ordering) → x ≡ a + c → y ≡ b + c → by x y next ≡ by a b next
by_shift a b c x y next ex ey =
    by_same a b x y next next (λ h. omega arith) (λ h. omega arith) (λ e. by_equal x y next (omega arith))

pub levels_zero : (l m : ℕ → ℕ) (next : Ordering) → by_levels l m 0 next ≡ next
unfolding by_levels
levels_zero l m next = refl

pub levels_suc : (l m : ℕ → ℕ) (k : ℕ) (next : Ordering) → by_levels l m (suc k) next ≡ by (l k) (m k) (by_levels l m k next)
unfolding by_levels
levels_suc l m k next = refl

-- A smaller last level, at the same level sum, gives a smaller rank.
pub rank_less : (l m : ℕ → ℕ) (k : ℕ) → sum_to l (suc k) ≡ sum_to m (suc k) → l k < m k → rank l (suc k) < rank m (suc k)
rank_less l m k e h =
    let s : ℕ = sum_to l (suc k) in
    let left : s - l k ≡ sum_to l k = omega (arith, sum_to_suc l k) in
    omega (
      arith,
      rank_suc l k,
      rank_suc m k,
      rank_lt l k,
      sum_to_suc (ending k s) (l k),
      ending_is k s (l k),
      ap (vectors k) left,
      sum_to_mono (ending k s) (suc (l k)) (m k) h,
      ap (λ (u : ℕ). sum_to (ending k u) (m k)) e,
    )

-- At the same level sum, ranks are ordered as the levels are from the last axis down.
rank_order : (l m : ℕ → ℕ) (k : ℕ) (next : Ordering) → sum_to l k ≡ sum_to m k →
    by (rank l k) (rank m k) next ≡ by_levels l m k next
rank_order l m zero next e = by_equal (rank l 0) (rank m 0) next (rank_zero l ∙ sym (rank_zero m)) ∙ sym (levels_zero l m next)
rank_order l m (suc k) next e =
    by_same (l k) (m k) (rank l (suc k)) (rank m (suc k)) (by_levels l m k next) next
    (rank_less l m k e)
    (rank_less m l k (sym e))
    (λ f.
    by_shift (rank l k) (rank m k) (sum_to (ending k (sum_to m (suc k))) (m k)) (rank l (suc k)) (rank m (suc k)) next
    (rank_suc l k ∙ ap₂ (λ (s j : ℕ). rank l k + sum_to (ending k s) j) e f)
    (rank_suc m k)
    ∙ rank_order l m k next (omega (arith, sum_to_suc l k, sum_to_suc m k)))
    ∙ sym (levels_suc l m k next)

-- At the same level sum, numbers are ordered by rank and then by position.
pub same_sum : {d n : ℕ} {l i m j : ℕ → ℕ} → IsPoint d n l i → IsPoint d n m j → sum_to l d ≡ sum_to m d → rank l d < rank m d →
    number d l i < number d m j
same_sum {d} {l = l} {i = i} {m = m} {j = j} p q e h =
    omega (
      arith,
      number_is d l i,
      number_is d m j,
      position_lt p d (omega arith),
      mul-suc (2 ^ sum_to l d) (rank l d),
      mul-le-mul_left (2 ^ sum_to l d) h,
      ap (start d) e,
      ap (λ (s : ℕ). 2 ^ s * rank m d) e,
    )

pub smaller_sum : {d n : ℕ} {l i m j : ℕ → ℕ} → IsPoint d n l i → IsPoint d n m j → sum_to l d < sum_to m d →
    number d l i < number d m j
smaller_sum {d} {l = l} {i = i} {m = m} {j = j} p q h =
    omega (arith, number_in_shell p, start_mono d (suc (sum_to l d)) (sum_to m d) h, number_is d m j)

-- Comparing numbers is comparing points as document 01 does.
pub numbers_ordered : {d n : ℕ} {l i m j : ℕ → ℕ} → IsPoint d n l i → IsPoint d n m j →
    by (number d l i) (number d m j) Equal ≡ order_of_points d l i m j
unfolding order_of_points order_of_levels
numbers_ordered {d} {l = l} {i = i} {m = m} {j = j} p q =
    by_same (sum_to l d) (sum_to m d) (number d l i) (number d m j)
    (by_levels l m d (by (position l i d) (position m j d) Equal)) Equal
    (smaller_sum p q)
    (smaller_sum q p)
    (λ e.
    by_same (rank l d) (rank m d) (number d l i) (number d m j) (by (position l i d) (position m j d) Equal) Equal
    (same_sum p q e)
    (same_sum q p (sym e))
    (λ f.
    by_shift (position l i d) (position m j d) (start d (sum_to m d) + 2 ^ sum_to m d * rank m d) (number d l i) (number d m j) Equal
    (omega (arith, number_is d l i, ap (start d) e, ap₂ (λ (s r : ℕ). 2 ^ s * r) e f))
    (omega (arith, number_is d m j)))
    ∙ rank_order l m d (by (position l i d) (position m j d) Equal) e)
