-- Hierarchical parents on an axis: the parent of a point of the shape is one too, lies exactly at the neighbour's coordinate, is less deep on
-- that axis and has a smaller number. True since an even numerator within the borders has a factor of two to drop and is an odd number times
-- those dropped.
-- Assumes nothing.
use mathlib.Core.Path.{◌≡◌, refl, ap, ap₂, sym, ◌∙◌, fun_ext}
use mathlib.Core.Bool.{Bool, true, false, ◌||◌, true≢false}
use mathlib.Core.Logic.{◌⊎◌, inl, inr}
use Prim.Native.Nat.{ℕ, zero, suc, ◌+◌, ◌-◌, ◌*◌, ◌%◌, ◌^◌, ◌≤◌, ◌<◌}
use native.Mathlib.Nat.{mul_comm, mul_assoc, mul-le-mul_right, one-mul, mul-one, lt_of_mul-lt-mul_right}
use native.Mathlib.Omega.{arith}
use lib.Dec.{eqb}
use lib.Pow.{pow_mono, pow-add}
use borrow.Author.Tests.{eq-eqb, ne_eqb, eqb-true, eqb-false}
use Rattle.naturals.specs.Sum.{sum_to}
use Rattle.std.specs.Prelude.{if◌then◌else◌}
use Rattle.naturals.proofs.Cases.{eq_or_not, le_or_lt, true_or_false}
use Rattle.naturals.proofs.Sums.{sum_to_suc, sum_to_cong}
use Rattle.numbering.specs.declared.Side.{Side}
use Rattle.numbering.specs.declared.Side.TheVariants.{Left, Right}
use Rattle.numbering.specs.Point.{IsPoint}
use Rattle.numbering.specs.Number.{number}
use Rattle.numbering.specs.Parent.{numerator, is_border, twos, parent_level, parent_index, update, border, inner, moved, parent}
use Rattle.numbering.proofs.Twos.{zeros_divide, zeros_left_odd, width_enough}
use Rattle.numbering.proofs.Ordering.{smaller_sum}

-- ---- the border

-- A border exactly where the coordinate is 0 or 1.
pub border_low : (l : ℕ) → is_border l 0 ≡ true
unfolding is_border
border_low l = refl

pub border_high : (l : ℕ) → is_border l (2 ^ suc l) ≡ true
unfolding is_border
border_high l = rw (eq-eqb (2 ^ suc l) (2 ^ suc l) refl) (or_true (eqb (2 ^ suc l) 0))
  where
    or_true : (b : Bool) → (b || true) ≡ true
    or_true true = refl
    or_true false = refl

pub not_border : (l m : ℕ) → is_border l m ≡ false → (m ≡ 0 → ⊥) × (m ≡ 2 ^ suc l → ⊥)
unfolding is_border
not_border l m e = split (eqb m 0) (eqb m (2 ^ suc l)) e (eqb-false m 0) (eqb-false m (2 ^ suc l))
  where
    split : (a b : Bool) → (a || b) ≡ false → (a ≡ false → m ≡ 0 → ⊥) → (b ≡ false → m ≡ 2 ^ suc l → ⊥) →
        (m ≡ 0 → ⊥) × (m ≡ 2 ^ suc l → ⊥)
    split true b f na nb = absurd (true≢false f)
    split false b f na nb = (na refl, nb f)

pub border_means : (l m : ℕ) → is_border l m ≡ true → (m ≡ 0) ⊎ (m ≡ 2 ^ suc l)
unfolding is_border
border_means l m e = split (eqb m 0) (eqb m (2 ^ suc l)) e (eqb-true m 0) (eqb-true m (2 ^ suc l))
  where
    split : (a b : Bool) → (a || b) ≡ true → (a ≡ true → m ≡ 0) → (b ≡ true → m ≡ 2 ^ suc l) → (m ≡ 0) ⊎ (m ≡ 2 ^ suc l)
    split true b f low high = inl (low refl)
    split false b f low high = inr (high f)

-- ---- one axis

-- A neighbour within the borders: an even numerator between 0 and 2^(l+1).
pub record Inside (l m : ℕ) : Type 0 where
  pub even : m % 2 ≡ 0
  pub pos : 0 < m
  pub below : m < 2 ^ suc l

pub inside : (side : Side) (l i : ℕ) → i % 2 ≡ 1 → i < 2 ^ suc l → is_border l (numerator side i) ≡ false → Inside l (numerator side i)
inside Left l i odd lt e =
    let n = not_border l (i - 1) e in
    record { even = omega arith; pos = pos_of n.0; below = omega arith }
  where
    pos_of : (i - 1 ≡ 0 → ⊥) → 0 < i - 1
    pos_of no_zero = eq_or_not (i - 1) 0 (λ z. absurd (no_zero z)) (λ z. omega arith)
inside Right l i odd lt e =
    let n = not_border l (i + 1) e in
    record { even = omega arith; pos = omega arith; below = below_of n.1 }
  where
    below_of : (i + 1 ≡ 2 ^ suc l → ⊥) → i + 1 < 2 ^ suc l
    below_of no_one = eq_or_not (i + 1) (2 ^ suc l) (λ z. absurd (no_one z)) (λ z. omega arith)

module _ (l m : ℕ) (h : Inside l m) where
  pub index_odd_up : parent_index m % 2 ≡ 1
  unfolding parent_index twos
  index_odd_up = zeros_left_odd m m h.pos (width_enough m)

  pub index_times : parent_index m * 2 ^ twos m ≡ m
  unfolding parent_index twos
  index_times = zeros_divide m m

  -- At least one factor of two is dropped, and no more than the level has.
  pub twos_pos : 0 < twos m
  twos_pos =
      eq_or_not (twos m) 0
      (λ z. omega (arith, index_times, index_odd_up, ap (λ (x : ℕ). parent_index m * 2 ^ x) z, h.even, mul-one (parent_index m)))
      (λ z. omega arith)

  pub twos_le : twos m ≤ l
  twos_le =
      le_or_lt (twos m) l (λ le. le)
      (λ gt.
      omega (
        arith,
        h.below,
        index_times,
        pow_mono {i = suc l} {j = twos m} gt,
        mul-le-mul_right {m = 1} {n = parent_index m} (2 ^ twos m) (omega (arith, index_odd_up)),
        one-mul (2 ^ twos m),
      ))

  -- The level falls.
  pub level_falls : parent_level l m < l
  unfolding parent_level
  level_falls = omega (arith, twos_pos, twos_le)

  pow_drop : 2 ^ suc l ≡ 2 ^ suc (parent_level l m) * 2 ^ twos m
  unfolding parent_level
  pow_drop = ap (λ (e : ℕ). 2 ^ e) (omega (arith, twos_le)) ∙ pow-add 2 (suc (l - twos m)) (twos m)

  pub index_below_up : parent_index m < 2 ^ suc (parent_level l m)
  index_below_up = lt_of_mul-lt-mul_right (2 ^ twos m) (omega (arith, index_times, pow_drop, h.below))

  -- The parent's coordinate is exactly the neighbour's: index / 2^(level + 1) = m / 2^(l + 1).
  pub coordinate : parent_index m * 2 ^ suc l ≡ m * 2 ^ suc (parent_level l m)
  coordinate =
      ap (λ (x : ℕ). parent_index m * x) (pow_drop ∙ mul_comm (2 ^ suc (parent_level l m)) (2 ^ twos m))
      ∙ sym (mul_assoc (parent_index m) (2 ^ twos m) (2 ^ suc (parent_level l m)))
      ∙ ap (λ (x : ℕ). x * 2 ^ suc (parent_level l m)) index_times

-- ---- one axis of a point is changed

pub update_same : (f : ℕ → ℕ) (t v : ℕ) → update f t v t ≡ v
unfolding update
update_same f t v = rw (eq-eqb t t refl)

pub update_other : (f : ℕ → ℕ) (t v u : ℕ) → (u ≡ t → ⊥) → update f t v u ≡ f u
unfolding update
update_other f t v u ne = rw (ne_eqb u t ne)

pub update_none : (f : ℕ → ℕ) (t v : ℕ) → f t ≡ v → update f t v ≡ f
update_none f t v e =
    fun_ext λ u. eq_or_not u t (λ same. rw same (update_same f t v ∙ sym e)) (λ other. update_other f t v u other)

pub update_sum : (f : ℕ → ℕ) (t v d : ℕ) → t < d → sum_to (update f t v) d + f t ≡ sum_to f d + v
update_sum f t v zero h = omega arith
update_sum f t v (suc d) h =
    eq_or_not t d
    (λ e.
    omega (
      arith,
      sum_to_suc (update f t v) d,
      sum_to_suc f d,
      sum_to_cong (update f t v) f d (λ u lt. update_other f t v u (λ same. omega arith)),
      ap (update f t v) e,
      ap f e,
      update_same f t v,
    ))
    (λ e.
    omega (
      arith,
      sum_to_suc (update f t v) d,
      sum_to_suc f d,
      update_sum f t v d (omega arith),
      update_other f t v d (λ same. e (sym same)),
    ))

pub update_swap : (f : ℕ → ℕ) (t s v w : ℕ) → (t ≡ s → ⊥) → update (update f t v) s w ≡ update (update f s w) t v
update_swap f t s v w ne = fun_ext λ u. at_place u
  where
    at_place : (u : ℕ) → update (update f t v) s w u ≡ update (update f s w) t v u
    at_place u =
        eq_or_not u s
        (λ es.
        rw es
        (update_same (update f t v) s w
        ∙ sym (update_other (update f s w) t v s (λ e. ne (sym e)) ∙ update_same f s w)))
        (λ ns.
        update_other (update f t v) s w u ns
        ∙ eq_or_not u t
        (λ et. rw et (update_same f t v ∙ sym (update_same (update f s w) t v)))
        (λ nt.
        update_other f t v u nt
        ∙ sym (update_other (update f s w) t v u nt ∙ update_other f s w u ns)))

-- ---- the parent of a point

pub parent_border : (t : ℕ) (side : Side) (l i : ℕ → ℕ) → is_border (l t) (numerator side (i t)) ≡ true → parent t side l i ≡ border
unfolding parent
parent_border t side l i e = rw e

pub parent_inner : (t : ℕ) (side : Side) (l i : ℕ → ℕ) → is_border (l t) (numerator side (i t)) ≡ false →
    parent t side l i ≡ moved t (numerator side (i t)) l i
unfolding parent
parent_inner t side l i e = rw e

-- A parent is the border only where the neighbour lies at 0 or 1.
pub only_border : (t : ℕ) (side : Side) (l i : ℕ → ℕ) → parent t side l i ≡ border → (numerator side (i t) ≡ 0) ⊎ (numerator side (i t) ≡ 2 ^ suc (l t))
only_border t side l i e =
    border_means (l t) (numerator side (i t))
    (true_or_false (is_border (l t) (numerator side (i t))) (λ there. there)
    (λ off. absurd (never _ _ (sym (parent_inner t side l i off) ∙ e))))
  where
    never : (a b : ℕ → ℕ) → inner a b ≡ border → ⊥
    never a b f = let z : ◌≡◌ {A = ℕ} 0 1 = cc in omega arith

-- At level 0 both neighbours are borders.
pub level_zero_border : (side : Side) (i : ℕ) → i % 2 ≡ 1 → i < 2 ^ 1 → is_border 0 (numerator side i) ≡ true
level_zero_border Left i odd lt = ap (λ (m : ℕ). is_border 0 (m - 1)) (one i odd lt) ∙ border_low 0
  where
    one : (i : ℕ) → i % 2 ≡ 1 → i < 2 ^ 1 → i ≡ 1
    one i odd lt = omega arith
level_zero_border Right i odd lt = ap (λ (m : ℕ). is_border 0 (m + 1)) (one i odd lt) ∙ border_high 0
  where
    one : (i : ℕ) → i % 2 ≡ 1 → i < 2 ^ 1 → i ≡ 1
    one i odd lt = omega arith

module _ {d n : ℕ} {l i : ℕ → ℕ} (p : IsPoint d n l i) (t : ℕ) (axis : t < d) (side : Side)
    (e : is_border (l t) (numerator side (i t)) ≡ false) where
  within_borders : Inside (l t) (numerator side (i t))
  within_borders = inside side (l t) (i t) (p.odd t axis) (p.below t axis) e

  pub parent_sum : sum_to (update l t (parent_level (l t) (numerator side (i t)))) d < sum_to l d
  parent_sum =
      omega (
        arith,
        update_sum l t (parent_level (l t) (numerator side (i t))) d axis,
        level_falls (l t) (numerator side (i t)) within_borders,
      )

  -- It is a point of the same shape.
  pub parent_is_point : IsPoint d n (update l t (parent_level (l t) (numerator side (i t)))) (update i t (parent_index (numerator side (i t))))
  parent_is_point =
      record {
        sum = omega (arith, parent_sum, p.sum);
        odd =
            λ u h.
            eq_or_not u t
            (λ same.
            rw same
            (ap (λ (x : ℕ). x % 2) (update_same i t (parent_index (numerator side (i t))))
            ∙ index_odd_up (l t) (numerator side (i t)) within_borders))
            (λ other. ap (λ (x : ℕ). x % 2) (update_other i t (parent_index (numerator side (i t))) u other) ∙ p.odd u h);
        below =
            λ u h.
            eq_or_not u t
            (λ same.
            rw same
            (rw (update_same i t (parent_index (numerator side (i t))), update_same l t (parent_level (l t) (numerator side (i t))))
            (index_below_up (l t) (numerator side (i t)) within_borders)))
            (λ other.
            rw (
              update_other i t (parent_index (numerator side (i t))) u other,
              update_other l t (parent_level (l t) (numerator side (i t))) u other,
            )
            (p.below u h));
      }

  -- Its number is smaller.
  pub parent_number : number d (update l t (parent_level (l t) (numerator side (i t)))) (update i t (parent_index (numerator side (i t)))) < number d l i
  parent_number = smaller_sum parent_is_point p parent_sum
