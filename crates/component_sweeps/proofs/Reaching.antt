-- The places of one reach: r is two to some power, and a place that reaches r is an odd number times r. So two of them lie 2 r apart or further, the first after a
-- multiple of 2 r lies r after it, and a neighbour reaches further. Between the two ends of a box all places but its middle reach less far than the box does.
-- Assumes nothing.
use mathlib.Core.Path.{◌≡◌, ap, sym, ◌∙◌}
use Prim.Native.Nat.{ℕ, suc, ◌+◌, ◌-◌, ◌*◌, ◌/◌, ◌^◌, ◌≤◌, ◌<◌}
use native.Mathlib.Nat.{add-mul, mul-add, mul_assoc, one-mul, mul-le-mul_right, pow-suc}
use native.Mathlib.Omega.{arith}
use lib.Pow.{pow-add, pow_pos, pow-lt, pow_mono}
use Rattle.naturals.proofs.Cases.{le_or_lt, eq_or_not}
use Rattle.numbering.specs.declared.Side.{Side}
use Rattle.numbering.specs.declared.Side.TheVariants.{Left, Right}
use Rattle.numbering.specs.Parent.{twos, parent_index}
use Rattle.numbering.proofs.Twos.{width_enough}
use Rattle.component_grids.proofs.Levels.{place_value, index_odd, index_times, twos_again}
use Rattle.component_grids.proofs.Beside.{reach, moved}
use Rattle.component_boxes.proofs.Reach.{reach_multiple}

-- A place that is an odd number times r.
pub record OddTimes (r x : ℕ) : Type 0 where
  pub pairs : ℕ
  pub is : x ≡ pairs * (r + r) + r

pub odd_times : (x : ℕ) → 1 ≤ x → OddTimes (reach x) x
odd_times x some =
    let o = parent_index x in
    let odd : o ≡ o / 2 + o / 2 + 1 = omega (arith, index_odd x some) in
    record {
      pairs = o / 2;
      is =
          omega (
            arith,
            index_times x,
            ap (λ (n : ℕ). n * reach x) odd,
            add-mul (o / 2 + o / 2) 1 (reach x),
            add-mul (o / 2) (o / 2) (reach x),
            mul-add (o / 2) (reach x) (reach x),
            one-mul (reach x),
          );
    }

pub reach_odd : (z x : ℕ) → OddTimes (2 ^ z) x → reach x ≡ 2 ^ z
reach_odd z x h =
    let r = 2 ^ z in
    let o = h.pairs + h.pairs + 1 in
    let whole : o * 2 ^ z ≡ x =
    omega (arith, h.is, add-mul (h.pairs + h.pairs) 1 r, add-mul h.pairs h.pairs r, mul-add h.pairs r r, one-mul r) in
    let power : z + o - o ≡ z = omega arith in
    let same : twos (o * 2 ^ (z + o - o)) ≡ z + o - o =
    ap twos (sym (place_value (z + o) o o))
    ∙ twos_again (z + o) o o (omega arith) (omega arith) (omega (arith, width_enough o, pow-suc 2 o)) in
    ap (λ (n : ℕ). 2 ^ n) (ap twos (sym whole) ∙ (rw power at same))

-- Two multiples of s, compared.
pub below_next : (a b s x : ℕ) → a * s ≤ x → x < b * s → a < b
below_next a b s x from to = le_or_lt b a (λ le. absurd (omega (arith, mul-le-mul_right {m = b} {n = a} s le))) (λ lt. lt)

module _ (r x y : ℕ) (some : 0 < r) (hx : OddTimes r x) (hy : OddTimes r y) where
  -- A place of the same reach that lies less than 2 r further is the same.
  pub odd_near : y ≤ x → x < y + (r + r) → x ≡ y
  odd_near from to =
      let s = r + r in
      let a = hx.pairs in
      let b = hy.pairs in
      let one : a < b + 1 =
      below_next a (b + 1) s (a * s) (omega arith) (omega (arith, hx.is, hy.is, add-mul b 1 s, one-mul s)) in
      let two : b < a + 1 =
      below_next b (a + 1) s (b * s) (omega arith) (omega (arith, hx.is, hy.is, add-mul a 1 s, one-mul s)) in
      let same : a ≡ b = omega arith in
      omega (arith, hx.is, hy.is, ap (λ (n : ℕ). n * s) same)

pub odd_next : (r x : ℕ) → OddTimes r x → OddTimes r (x + (r + r))
odd_next r x h =
    record { pairs = h.pairs + 1; is = omega (arith, h.is, add-mul h.pairs 1 (r + r), one-mul (r + r)) }

-- A multiple of a larger power of two is an even number times r.
pub even_times : (z k e : ℕ) → z < k → e * 2 ^ k ≡ e * 2 ^ (k - suc z) * (2 ^ z + 2 ^ z)
even_times z k e less =
    let parts : k ≡ k - suc z + suc z = omega arith in
    let double : 2 ^ suc z ≡ 2 ^ z + 2 ^ z = omega (arith, pow-suc 2 z) in
    ap (λ (n : ℕ). e * 2 ^ n) parts
    ∙ ap (λ (n : ℕ). e * n) (pow-add 2 (k - suc z) (suc z))
    ∙ sym (mul_assoc e (2 ^ (k - suc z)) (2 ^ suc z))
    ∙ ap (λ (n : ℕ). e * 2 ^ (k - suc z) * n) double

-- The first place of that reach after it.
module _ (r low m : ℕ) (some : 0 < r) (even : low ≡ m * (r + r)) where
  pub odd_first : OddTimes r (low + r)
  odd_first = record { pairs = m; is = omega arith }

  pub odd_after : (x : ℕ) → OddTimes r x → low < x → low + r ≤ x
  odd_after x h less =
      let s = r + r in
      let a = h.pairs in
      let more : m < a + 1 = below_next m (a + 1) s low (omega arith) (omega (arith, h.is, add-mul a 1 s, one-mul s)) in
      omega (arith, h.is, mul-le-mul_right {m = m} {n = a} s (omega arith))

-- A neighbour reaches further.
pub reach_grows : (b : Side) (x : ℕ) → 1 ≤ x → 1 ≤ moved b x → reach x < reach (moved b x)
reach_grows Left x some inside =
    let h = odd_times x some in
    omega (
      arith,
      pow_pos (twos x),
      pow-suc 2 (twos x),
      reach_multiple (suc (twos x)) h.pairs (x - reach x) inside
          (omega (arith, h.is, ap (λ (n : ℕ). h.pairs * n) (double (twos x)))),
    )
  where
    double : (z : ℕ) → 2 ^ suc z ≡ 2 ^ z + 2 ^ z
    double z = omega (arith, pow-suc 2 z)
reach_grows Right x some inside =
    let h = odd_times x some in
    omega (
      arith,
      pow_pos (twos x),
      pow-suc 2 (twos x),
      reach_multiple (suc (twos x)) (h.pairs + 1) (x + reach x) inside
          (omega (
            arith,
            h.is,
            ap (λ (n : ℕ). (h.pairs + 1) * n) (double (twos x)),
            add-mul h.pairs 1 (reach x + reach x),
            one-mul (reach x + reach x),
          )),
    )
  where
    double : (z : ℕ) → 2 ^ suc z ≡ 2 ^ z + 2 ^ z
    double z = omega (arith, pow-suc 2 z)

-- A place that reaches less than twice as far as r reaches r at most.
pub reach_less : (z x : ℕ) → reach x < 2 ^ z + 2 ^ z → (reach x ≡ 2 ^ z → ⊥) → reach x < 2 ^ z
reach_less z x less ne =
    le_or_lt z (twos x)
    (λ le.
    eq_or_not z (twos x)
    (λ e. absurd (ne (ap (λ (n : ℕ). 2 ^ n) (sym e))))
    (λ gt. absurd (omega (arith, pow-suc 2 z, pow_mono {i = suc z} {j = twos x} (omega arith)))))
    (λ lt. pow-lt {i = twos x} {j = z} lt)

-- Between the ends of a box only the middle reaches as far as the box.
module _ (k e x : ℕ) (some : 1 ≤ x) (low : e * 2 ^ k < x + 2 ^ k) (high : x < e * 2 ^ k + 2 ^ k) where
  pub middle_only : 2 ^ k ≤ reach x → x ≡ e * 2 ^ k
  middle_only far =
      le_or_lt k (twos x)
      (λ le.
      let parts : twos x ≡ twos x - k + k = omega arith in
      let m = parent_index x * 2 ^ (twos x - k) in
      let whole : m * 2 ^ k ≡ x =
      mul_assoc (parent_index x) (2 ^ (twos x - k)) (2 ^ k)
      ∙ ap (λ (n : ℕ). parent_index x * n) (sym (pow-add 2 (twos x - k) k))
      ∙ ap (λ (n : ℕ). parent_index x * 2 ^ n) (sym parts)
      ∙ index_times x in
      let one : m < e + 1 = below_next m (e + 1) (2 ^ k) x (omega arith) (omega (arith, add-mul e 1 (2 ^ k), one-mul (2 ^ k))) in
      let two : e < m + 1 =
      below_next e (m + 1) (2 ^ k) (e * 2 ^ k) (omega arith) (omega (arith, add-mul m 1 (2 ^ k), one-mul (2 ^ k))) in
      let same : m ≡ e = omega arith in
      sym whole ∙ ap (λ (n : ℕ). n * 2 ^ k) same)
      (λ lt. absurd (omega (arith, pow-lt {i = twos x} {j = k} lt)))
