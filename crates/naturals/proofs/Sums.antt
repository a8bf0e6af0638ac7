-- Laws of finite sums: a sum's two clauses, and that a sum grows with its length, is at least each of its terms, and depends on its terms alone;
-- of a sum whose last terms are 0 but one, that one is left.
-- Assumes nothing.
use mathlib.Core.Path.{◌≡◌, refl, ap, ap₂, sym, ◌∙◌}
use mathlib.Core.Logic.{⊎_elim}
use Prim.Native.Nat.{ℕ, zero, suc, ◌+◌, ◌≤◌, ◌<◌}
use native.Mathlib.Nat.{add-zero, add-suc, eq-or-lt_of_le, le_of_suc-le-suc}
use native.Mathlib.Omega.{arith}
use Rattle.naturals.specs.Sum.{sum_to}
use Rattle.naturals.proofs.Cases.{eq_or_not}

pub sum_to_zero : (f : ℕ → ℕ) → sum_to f 0 ≡ 0
unfolding sum_to
sum_to_zero f = refl

pub sum_to_suc : (f : ℕ → ℕ) (m : ℕ) → sum_to f (suc m) ≡ sum_to f m + f m
unfolding sum_to
sum_to_suc f m = refl

-- Sums of the same terms are equal.
pub sum_to_cong : (f g : ℕ → ℕ) (m : ℕ) → ((t : ℕ) → t < m → f t ≡ g t) → sum_to f m ≡ sum_to g m
sum_to_cong f g zero same = omega (arith, sum_to_zero f, sum_to_zero g)
sum_to_cong f g (suc m) same =
    omega
    (arith, sum_to_suc f m, sum_to_suc g m, same m (omega arith), sum_to_cong f g m (λ t h. same t (omega arith)))

-- A sum of more terms is no less.
pub sum_to_mono : (f : ℕ → ℕ) (i j : ℕ) → i ≤ j → sum_to f i ≤ sum_to f j
sum_to_mono f zero zero h = omega arith
sum_to_mono f (suc i) zero h = omega arith
sum_to_mono f zero (suc j) h = omega (arith, sum_to_zero f)
sum_to_mono f (suc i) (suc j) h =
    ⊎_elim
    (λ e. omega (arith, ap (sum_to f) e))
    (λ l. omega (arith, sum_to_mono f (suc i) j (le_of_suc-le-suc l), sum_to_suc f j))
    (eq-or-lt_of_le h)

-- A term is at most the sum.
pub term_le : (f : ℕ → ℕ) (m t : ℕ) → t < m → f t ≤ sum_to f m
term_le f m t h = omega (arith, sum_to_mono f (suc t) m h, sum_to_suc f t)

-- A sum of which one term of the last b is left.
sum_none : (f : ℕ → ℕ) (a b : ℕ) → ((j : ℕ) → j < b → f (a + j) ≡ 0) → sum_to f (a + b) ≡ sum_to f a
sum_none f a zero none = ap (sum_to f) (add-zero a)
sum_none f a (suc b) none =
    omega (
      arith,
      ap (sum_to f) (add-suc a b),
      sum_to_suc f (a + b),
      sum_none f a b (λ j h. none j (omega arith)),
      none b (omega arith),
    )

pub sum_block : (f : ℕ → ℕ) (a b q : ℕ) → q < b → ((j : ℕ) → j < b → (j ≡ q → ⊥) → f (a + j) ≡ 0) →
    sum_to f (a + b) ≡ sum_to f a + f (a + q)
sum_block f a zero q h others = absurd (omega arith)
sum_block f a (suc b) q h others =
    ap (sum_to f) (add-suc a b)
    ∙ sum_to_suc f (a + b)
    ∙ eq_or_not q b
    (λ e. ap₂ ◌+◌ (sum_none f a b (λ j lt. others j (omega arith) (λ i. omega arith))) (ap (λ (j : ℕ). f (a + j)) (sym e)))
    (λ e.
    omega (
      arith,
      sum_block f a b q (omega arith) (λ j lt ne. others j (omega arith) ne),
      others b (omega arith) (λ i. e (sym i)),
    ))
