-- Division to the nearest, halves away from zero. On natural numbers it is the one multiple of the divisor that lies at most half a divisor above and less
-- than half below; below zero it mirrors that. So it lies within half a divisor of the number, any other multiple lies at least half away, and one that
-- lies just half away is nearer to zero: it is the nearest in the paper's words, and the only one.
-- Assumes nothing.
use mathlib.Core.Path.{◌≡◌, refl, ap, ap₂, sym, ◌∙◌}
use mathlib.Core.Logic.{⊎_elim}
use Prim.Native.Nat.{ℕ, zero, suc, ◌+◌, ◌-◌, ◌*◌, ◌/◌, ◌%◌, ◌≤◌, ◌<◌}
use native.Mathlib.Nat.{suc-mul, mod-lt, div-add-mod', mul-le-mul, mul-le-mul_right, le_of_mul-le-mul_right, eq_of_mul-eq-mul_right, eq-zero-or-pos}
use native.Mathlib.Omega.{arith}
use Rattle.std.proofs.lemmas.Int.{ints}
use lib.IntN.{ℤ, pos, negsuc, neg_ℤ, nat_abs, ◌+ℤ◌, ◌-ℤ◌, ◌*ℤ◌, neg_ℤ-neg_ℤ, +ℤ_idr}
use borrow.Author.Tests.{le-leb, lt-leb, lt-ltb, le-ltb}
use Rattle.naturals.proofs.Cases.{le_or_lt}
use Rattle.integers.specs.Nearest.{nearest_up, nearest, apart, Nearest, step_up}
use Rattle.integers.proofs.Floors.{still_below}
use Rattle.integers.proofs.Products.{times_times, plus_times, neg_times, size_neg, size_times, no_difference}

-- ---- natural numbers

module _ (m n : ℕ) (some : 0 < m) where
  -- At most half a divisor above, and less than half below.
  up_high : 2 * (nearest_up m n * m) ≤ 2 * n + m
  unfolding nearest_up
  up_high =
      le_or_lt m (2 * (n % m))
      (λ le. rw (le-leb m (2 * (n % m)) le) (omega (arith, suc-mul (n / m) m, div-add-mod' n m)))
      (λ lt. rw (lt-leb m (2 * (n % m)) lt) (omega (arith, div-add-mod' n m)))

  up_low : 2 * n < 2 * (nearest_up m n * m) + m
  unfolding nearest_up
  up_low =
      le_or_lt m (2 * (n % m))
      (λ le. rw (le-leb m (2 * (n % m)) le) (omega (arith, suc-mul (n / m) m, div-add-mod' n m, mod-lt n some)))
      (λ lt. rw (lt-leb m (2 * (n % m)) lt) (omega (arith, div-add-mod' n m)))

  -- No other multiple does.
  no_higher : (j k : ℕ) → 2 * (j * m) ≤ 2 * n + m → 2 * n < 2 * (k * m) + m → j ≤ k
  no_higher j k high low =
      le_or_lt j k (λ le. le) (λ lt. absurd (omega (arith, suc-mul k m, mul-le-mul_right {m = suc k} {n = j} m lt)))

  up_is : (k : ℕ) → 2 * (k * m) ≤ 2 * n + m → 2 * n < 2 * (k * m) + m → nearest_up m n ≡ k
  up_is k high low =
      omega (arith, no_higher (nearest_up m n) k up_high low, no_higher k (nearest_up m n) high up_low)

-- ---- whole numbers

-- Rounding is odd: the nearest of the negated number is the negated nearest.
pub nearest_odd : (m : ℕ) (z : ℤ) → 0 < m → nearest m (neg_ℤ z) ≡ neg_ℤ (nearest m z)
unfolding nearest
nearest_odd m (pos zero) some = rw (up_is m 0 some 0 (omega arith) (omega arith))
nearest_odd m (pos (suc n)) some = refl
nearest_odd m (negsuc n) some = sym (neg_ℤ-neg_ℤ (pos (nearest_up m (suc n))))

-- Negated numbers are as far apart.
apart_negated : (m : ℕ) (z q : ℤ) → apart m (neg_ℤ z) (neg_ℤ q) ≡ apart m z q
apart_negated m z q =
    omega (arith, ints, neg_times q m)

-- What is said of a natural number and its nearest holds of every whole number, where it is said of sizes and distances alone.
module _ (m : ℕ) (P : ℕ → ℕ → ℕ → Type 0) (above : (n : ℕ) → P n (apart m (pos n) (pos (nearest_up m n))) (nearest_up m n)) where
  by_size : (z : ℤ) → P (nat_abs z) (apart m z (nearest m z)) (nat_abs (nearest m z))
  unfolding nearest
  by_size (pos n) = above n
  by_size (negsuc n) =
      let k : ℕ = nearest_up m (suc n) in
      rw (apart_negated m (pos (suc n)) (pos k), size_neg k) (above (suc n))

module _ (m : ℕ) (z : ℤ) (some : 0 < m) where
  -- The nearest lies within half a divisor of the number.
  pub nearest_half : 2 * apart m z (nearest m z) ≤ m
  nearest_half =
      by_size m (λ a e k. 2 * e ≤ m)
      (λ n. omega (arith, ints, up_high m n some, up_low m n some))
      z

  -- Where it lies just half a divisor away, it is further from zero than the number.
  half_away : 2 * apart m z (nearest m z) ≡ m → nat_abs z + apart m z (nearest m z) ≡ nat_abs (nearest m z) * m
  half_away =
      by_size m (λ a e k. 2 * e ≡ m → a + e ≡ k * m)
      (λ n half. omega (arith, ints, up_high m n some, up_low m n some))
      z

-- ---- the paper's words

-- The distances of two multiples to a number are together at least what lies between the two.
both_apart : (m : ℕ) (z p q : ℤ) → nat_abs (p -ℤ q) * m ≤ apart m z p + apart m z q
both_apart m z p q =
    omega (
      arith,
      ints,
      size_times (p -ℤ q) m,
      plus_times p (neg_ℤ q) m,
      neg_times q m,
    )

-- A multiple is no further from zero than the number and its distance to it.
no_further : (m : ℕ) (z p : ℤ) → nat_abs p * m ≤ nat_abs z + apart m z p
no_further m z p = omega (arith, ints, size_times p m)

same_or_apart : {A : Type 0} (p q : ℤ) → (p ≡ q → A) → (1 ≤ nat_abs (p -ℤ q) → A) → A
same_or_apart p q same other =
    ⊎_elim (λ none. same (no_difference p q none)) other (eq-zero-or-pos (nat_abs (p -ℤ q)))

module _ (m : ℕ) (z : ℤ) (some : 0 < m) where
  -- Another multiple lies at least half a divisor away.
  others_half : (p : ℤ) → 1 ≤ nat_abs (p -ℤ nearest m z) → m ≤ apart m z p + apart m z (nearest m z)
  others_half p other =
      omega (arith, both_apart m z p (nearest m z), mul-le-mul_right {m = 1} {n = nat_abs (p -ℤ nearest m z)} m other)

  pub nearest_is : Nearest m z (nearest m z)
  nearest_is =
      let q : ℤ = nearest m z in
      record {
        near = λ p.
            same_or_apart p q
            (λ e. rw e (omega arith))
            (λ other. omega (arith, others_half p other, nearest_half m z some));
        away = λ p level.
            same_or_apart p q
            (λ e. rw e (omega arith))
            (λ other.
            le_of_mul-le-mul_right {k = m}
            (omega (
              arith,
              level,
              no_further m z p,
              half_away m z some (omega (arith, level, others_half p other, nearest_half m z some)),
            ))
            some);
      }

  -- Nothing else is: it would be as near and as large, so at most one apart, and a number and its negative are two or more apart.
  pub nearest_only : (q : ℤ) → Nearest m z q → q ≡ nearest m z
  nearest_only q is =
      let k : ℤ = nearest m z in
      let level : apart m z q ≡ apart m z k = omega (arith, is.near k, nearest_is.near q) in
      let size : nat_abs q ≡ nat_abs k = omega (arith, is.away k (sym level), nearest_is.away q level) in
      same_side q k size
      (le_of_mul-le-mul_right {k = m} (omega (arith, level, both_apart m z q k, nearest_half m z some)) some)
    where
      same_side : (a b : ℤ) → nat_abs a ≡ nat_abs b → nat_abs (a -ℤ b) ≤ 1 → a ≡ b
      same_side (pos i) (pos j) size close = ap pos size
      same_side (pos i) (negsuc j) size close = absurd (omega arith)
      same_side (negsuc i) (pos zero) size close = absurd (omega arith)
      same_side (negsuc i) (pos (suc j)) size close = absurd (omega arith)
      same_side (negsuc i) (negsuc j) size close = ap negsuc (omega arith)

-- Where divisor and number are f times others, the nearest is theirs: all distances are f times as large.
apart_finer : (m f : ℕ) (z q : ℤ) → apart (m * f) (z *ℤ pos f) q ≡ apart m z q * f
apart_finer m f z q =
    ap nat_abs
    (ap₂ (λ (a b : ℤ). a +ℤ b) (times_times q m f) (sym (neg_times z f)) ∙ sym (plus_times (q *ℤ pos m) (neg_ℤ z) f))
    ∙ size_times (q *ℤ pos m -ℤ z) f

pub nearest_finer : (m f : ℕ) (z : ℤ) → 0 < m → 0 < f → nearest (m * f) (z *ℤ pos f) ≡ nearest m z
nearest_finer m f z some more =
    let q : ℤ = nearest m z in
    let nearest_there : Nearest m z q = nearest_is m z some in
    sym (nearest_only (m * f) (z *ℤ pos f) (omega (arith, mul-le-mul some more)) q
    (record {
      near = λ p. rw (apart_finer m f z q, apart_finer m f z p) (mul-le-mul_right f (nearest_there.near p));
      away = λ p level.
          nearest_there.away p
          (eq_of_mul-eq-mul_right f more (apart m z p) (apart m z q) (sym (apart_finer m f z p) ∙ level ∙ apart_finer m f z q));
    }))

-- ---- by quotient and remainder

module _ (m : ℕ) (some : 0 < m) where
  -- A number that is q × m and r more, with r below m.
  pub nearest_steps : (q : ℤ) (r : ℕ) → r < m → nearest m (q *ℤ pos m +ℤ pos r) ≡ q +ℤ pos (step_up m q r)
  unfolding nearest step_up
  nearest_steps (pos k) r small =
      le_or_lt m (2 * r)
      (λ le. rw (le-leb m (2 * r) le) (ap pos (up_is m (k * m + r) some (k + 1) (omega arith) (omega arith))))
      (λ lt. rw (lt-leb m (2 * r) lt) (ap pos (up_is m (k * m + r) some (k + 0) (omega arith) (omega arith))))
  nearest_steps (negsuc k) r small =
      let n : ℕ = k * m + (m - 1 - r) in
      ap (nearest m) (still_below (suc k * m) r n (omega (arith, suc-mul k m)))
      ∙ le_or_lt (2 * r) m
      (λ le.
      rw (le-ltb m (2 * r) le)
      (ap (λ (j : ℕ). neg_ℤ (pos j)) (up_is m (suc n) some (suc k) (omega (arith, suc-mul k m)) (omega (arith, suc-mul k m)))
      ∙ sym (+ℤ_idr (negsuc k))))
      (λ lt.
      rw (lt-ltb m (2 * r) lt)
      (ap (λ (j : ℕ). neg_ℤ (pos j)) (up_is m (suc n) some k (omega arith) (omega arith))
      ∙ one_above k))
    where
      one_above : (j : ℕ) → neg_ℤ (pos j) ≡ negsuc j +ℤ pos 1
      one_above zero = refl
      one_above (suc j) = sym (still_below (suc (suc j)) 1 j (omega arith))

  -- A multiple of the divisor is its own nearest.
  pub nearest_whole : (z : ℤ) → nearest m (z *ℤ pos m) ≡ z
  unfolding step_up
  nearest_whole z =
      ap (nearest m) (sym (+ℤ_idr (z *ℤ pos m)))
      ∙ nearest_steps z 0 some
      ∙ ap (λ (k : ℕ). z +ℤ pos k) (no_step z)
      ∙ +ℤ_idr z
    where
      no_step : (q : ℤ) → step_up m q 0 ≡ 0
      no_step (pos k) = rw (lt-leb m 0 some)
      no_step (negsuc k) = rw (le-ltb m 0 (omega arith))
