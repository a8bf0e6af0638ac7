-- The position of a point among those of its level vector: its digits, axis 1 lowest, are the halved indices, l_t bits for axis t. So it is
-- below 2^(level sum), and the indices are read off it again. True since such a digit is below 2^(l_t).
-- Assumes nothing.
use mathlib.Core.Path.{◌≡◌, ap, ap₂, sym, ◌∙◌}
use Prim.Native.Nat.{ℕ, zero, suc, ◌+◌, ◌-◌, ◌*◌, ◌/◌, ◌%◌, ◌^◌, ◌≤◌, ◌<◌}
use native.Mathlib.Nat.{pow-suc, add_comm, mul_comm, mul_assoc, mod-eq_of_lt, mod-lt, add-mul-mod_self_right}
use native.Mathlib.Omega.{arith}
use lib.Pow.{pow_pos, pow-add, mod-pow-add, field, high}
use lib.Arith.{digits_lt}
use Rattle.naturals.specs.Sum.{sum_to}
use Rattle.naturals.proofs.Cases.{le_or_lt}
use Rattle.naturals.proofs.Sums.{sum_to_zero, sum_to_suc, sum_to_mono, sum_to_cong}
use Rattle.numbering.specs.Point.{IsPoint}
use Rattle.numbering.specs.Number.{digit, position}
use Rattle.numbering.specs.Inverse.{index_of}

-- The digit of an axis before it is shifted: how many odd indices stand below the point's.
abbrev pub half : (ℕ → ℕ) → ℕ → ℕ
half i t = (i t - 1) / 2

pub position_zero : (l i : ℕ → ℕ) → position l i 0 ≡ 0
unfolding position
position_zero l i = sum_to_zero (digit l i)

pub position_suc : (l i : ℕ → ℕ) (k : ℕ) → position l i (suc k) ≡ position l i k + half i k * 2 ^ sum_to l k
unfolding position digit
position_suc l i k = sum_to_suc (digit l i) k

-- 2^(level sum) of one axis more.
pub pow_sum : (l : ℕ → ℕ) (k : ℕ) → 2 ^ sum_to l (suc k) ≡ 2 ^ sum_to l k * 2 ^ l k
pow_sum l k = ap (λ (n : ℕ). 2 ^ n) (sum_to_suc l k) ∙ pow-add 2 (sum_to l k) (l k)

-- The halved index of a point is below 2^(its level).
pub half_lt : {d n : ℕ} {l i : ℕ → ℕ} → IsPoint d n l i → (t : ℕ) → t < d → half i t < 2 ^ l t
half_lt {l = l} {i = i} p t h = omega (arith, p.odd t h, p.below t h, pow-suc 2 (l t))

pub position_lt : {d n : ℕ} {l i : ℕ → ℕ} → IsPoint d n l i → (k : ℕ) → k ≤ d → position l i k < 2 ^ sum_to l k
position_lt {l = l} {i = i} p zero h = omega (arith, position_zero l i, pow_pos (sum_to l 0))
position_lt {l = l} {i = i} p (suc k) h =
    omega (
      arith,
      position_suc l i k,
      pow_sum l k,
      mul_comm (2 ^ sum_to l k) (2 ^ l k),
      digits_lt (half_lt p k h) (position_lt p k (omega arith)),
    )

-- The lowest digits of the position are those of the first axes.
pub pow_split : (l : ℕ → ℕ) (k m : ℕ) → k ≤ m → 2 ^ sum_to l m ≡ 2 ^ (sum_to l m - sum_to l k) * 2 ^ sum_to l k
pow_split l k m h =
    ap (λ (n : ℕ). 2 ^ n) (omega (arith, sum_to_mono l k m h)) ∙ pow-add 2 (sum_to l m - sum_to l k) (sum_to l k)

higher_gone : (l : ℕ → ℕ) (k m a h : ℕ) → k ≤ m → (a + h * 2 ^ sum_to l m) % 2 ^ sum_to l k ≡ a % 2 ^ sum_to l k
higher_gone l k m a h le =
    ap (λ (x : ℕ). (a + x) % 2 ^ sum_to l k)
    (ap (λ (x : ℕ). h * x) (pow_split l k m le) ∙ sym (mul_assoc h (2 ^ (sum_to l m - sum_to l k)) (2 ^ sum_to l k)))
    ∙ add-mul-mod_self_right a (h * 2 ^ (sum_to l m - sum_to l k)) (2 ^ sum_to l k)

pub position_low : {d n : ℕ} {l i : ℕ → ℕ} → IsPoint d n l i → (k m : ℕ) → k ≤ m → m ≤ d →
    position l i m % 2 ^ sum_to l k ≡ position l i k
position_low {l = l} {i = i} p k zero kl le =
    let e : k ≡ 0 = omega arith in
    rw e (mod-eq_of_lt (position_lt p 0 le))
position_low {l = l} {i = i} p k (suc m) kl le =
    le_or_lt k m
    (λ h.
    ap (λ (x : ℕ). x % 2 ^ sum_to l k) (position_suc l i m)
    ∙ higher_gone l k m (position l i m) (half i m) h
    ∙ position_low p k m h (omega arith))
    (λ h.
    let e : k ≡ suc m = omega arith in
    rw e (mod-eq_of_lt (position_lt p (suc m) le)))

-- The digit of an axis, read off the position.
pub digit_of_position : {d n : ℕ} {l i : ℕ → ℕ} → IsPoint d n l i → (t : ℕ) → t < d →
    position l i d / 2 ^ sum_to l t % 2 ^ l t ≡ half i t
digit_of_position {d} {l = l} {i = i} p t h =
    sym (field (position l i d) (l t) (sum_to l t))
    ∙ ap (λ (n : ℕ). position l i d % 2 ^ n / 2 ^ sum_to l t) (omega (arith, sum_to_suc l t))
    ∙ ap (λ (x : ℕ). x / 2 ^ sum_to l t)
    (position_low p (suc t) d h (omega arith) ∙ position_suc l i t ∙ omega arith)
    ∙ high (half i t) (sum_to l t) (position_lt p t (omega arith))

-- From indices to position and back.
pub index_of_position : {d n : ℕ} {l i : ℕ → ℕ} → IsPoint d n l i → (t : ℕ) → t < d → index_of l (position l i d) t ≡ i t
unfolding index_of
index_of_position p t h = omega (arith, digit_of_position p t h, p.odd t h)

-- From position to indices and back.
pub half_of_index : (l : ℕ → ℕ) (q t : ℕ) → half (index_of l q) t ≡ q / 2 ^ sum_to l t % 2 ^ l t
unfolding index_of
half_of_index l q t = omega arith

position_of_digits : (l : ℕ → ℕ) (q k : ℕ) → position l (index_of l q) k ≡ q % 2 ^ sum_to l k
position_of_digits l q zero =
    omega (arith, position_zero l (index_of l q), ap (λ (n : ℕ). q % 2 ^ n) (sum_to_zero l))
position_of_digits l q (suc k) =
    omega (
      arith,
      position_suc l (index_of l q) k,
      position_of_digits l q k,
      ap (λ (x : ℕ). x * 2 ^ sum_to l k) (half_of_index l q k),
      ap (λ (n : ℕ). q % 2 ^ n) (sum_to_suc l k ∙ add_comm (sum_to l k) (l k)),
      mod-pow-add q (l k) (sum_to l k),
    )

pub position_of_index : (l : ℕ → ℕ) (q d : ℕ) → q < 2 ^ sum_to l d → position l (index_of l q) d ≡ q
position_of_index l q d h = position_of_digits l q d ∙ mod-eq_of_lt h

-- The indices of a position are odd and within their levels.
pub index_odd : (l : ℕ → ℕ) (q t : ℕ) → index_of l q t % 2 ≡ 1
unfolding index_of
index_odd l q t = omega arith

pub index_below : (l : ℕ → ℕ) (q t : ℕ) → index_of l q t < 2 ^ suc (l t)
unfolding index_of
index_below l q t = omega (arith, mod-lt (q / 2 ^ sum_to l t) (pow_pos (l t)), pow-suc 2 (l t))

-- The position depends on the levels and indices of its axes alone.
pub position_cong : (l i m j : ℕ → ℕ) (k : ℕ) →
    ((t : ℕ) → t < k → l t ≡ m t) → ((t : ℕ) → t < k → i t ≡ j t) → position l i k ≡ position m j k
position_cong l i m j zero lm ij = omega (arith, position_zero l i, position_zero m j)
position_cong l i m j (suc k) lm ij =
    omega (
      arith,
      position_suc l i k,
      position_suc m j k,
      position_cong l i m j k (λ t h. lm t (omega arith)) (λ t h. ij t (omega arith)),
      ap₂ (λ (x s : ℕ). (x - 1) / 2 * 2 ^ s) (ij k (omega arith)) (sum_to_cong l m k (λ t h. lm t (omega arith))),
    )
