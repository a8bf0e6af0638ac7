-- Counts of level vectors: Pascal's rule, by which row k + 1 is the running sum of row k, and what follows from it by size.
-- True since the counts are binomial coefficients.
-- Assumes nothing.
use mathlib.Core.Path.{◌≡◌, refl, ap, sym, ◌∙◌}
use Prim.Native.Nat.{ℕ, zero, suc, ◌+◌, ◌≤◌, ◌<◌}
use native.Mathlib.Nat.{zero-add, add-suc, suc-add}
use native.Mathlib.Omega.{arith}
use Rattle.numbering.specs.Binomial.{choose}
use Rattle.numbering.specs.Count.{vectors}

pub choose_zero : (n : ℕ) → choose n 0 ≡ 1
unfolding choose
choose_zero zero = refl
choose_zero (suc n) = refl

pub choose_suc : (n k : ℕ) → choose (suc n) (suc k) ≡ choose n k + choose n (suc k)
unfolding choose
choose_suc n k = refl

choose_over : (n k : ℕ) → n < k → choose n k ≡ 0
unfolding choose
choose_over zero zero h = omega arith
choose_over zero (suc k) h = refl
choose_over (suc n) zero h = omega arith
choose_over (suc n) (suc k) h = omega (arith, choose_over n k (omega arith), choose_over n (suc k) (omega arith))

-- One level vector has the level sum 0.
pub vectors_zero : (k : ℕ) → vectors k 0 ≡ 1
unfolding vectors
vectors_zero zero = refl
vectors_zero (suc k) = choose_zero (k + 0)

pub no_axes : (j : ℕ) → vectors 0 (suc j) ≡ 0
unfolding vectors
no_axes j = refl

vectors_suc : (k j : ℕ) → vectors (suc k) j ≡ choose (k + j) j
unfolding vectors
vectors_suc k j = refl

-- Pascal's rule: a level vector of sum j + 1 has the last level 0, or is one of sum j with the last level raised.
pub pascal : (k j : ℕ) → vectors (suc k) (suc j) ≡ vectors (suc k) j + vectors k (suc j)
pascal zero j =
    omega (
      arith,
      no_axes j,
      vectors_suc 0 j,
      vectors_suc 0 (suc j),
      ap (λ (n : ℕ). choose n j) (zero-add j),
      ap (λ (n : ℕ). choose n (suc j)) (zero-add (suc j)),
      choose_suc j j,
      choose_over j (suc j) (omega arith),
    )
pascal (suc k) j =
    omega (
      arith,
      vectors_suc (suc k) (suc j),
      vectors_suc (suc k) j,
      vectors_suc k (suc j),
      ap (λ (n : ℕ). choose n (suc j)) (add-suc (suc k) j),
      ap (λ (n : ℕ). choose n (suc j)) (add-suc k j ∙ sym (suc-add k j)),
      choose_suc (suc k + j) j,
    )

-- More level vectors have a larger sum, and more axes.
pub vectors_step : (k j : ℕ) → vectors (suc k) j ≤ vectors (suc k) (suc j)
vectors_step k j = omega (arith, pascal k j)

pub vectors_more : (k j : ℕ) → vectors k j ≤ vectors (suc k) j
vectors_more k zero = omega (arith, vectors_zero k, vectors_zero (suc k))
vectors_more k (suc j) = omega (arith, pascal k j)

pub vectors_pos : (k j : ℕ) → 0 < vectors (suc k) j
vectors_pos k zero = omega (arith, vectors_zero (suc k))
vectors_pos k (suc j) = omega (arith, vectors_pos k j, vectors_step k j)

-- One level vector of one axis has a given sum.
pub vectors_one : (j : ℕ) → vectors 1 j ≡ 1
vectors_one zero = vectors_zero 1
vectors_one (suc j) = omega (arith, pascal 0 j, vectors_one j, no_axes j)
