-- Places by position: a position of a component grid is a number whose digits, axis 1 the lowest, are its places less 1, axis t counting to the points across
-- it. So positions of the same places are one; a step of h on an axis is h times the points of the axes before, and changes no other place; and positions have
-- the same places from an axis on exactly where they have the same quotient by the points of the axes before. True since dividing a quotient by the points
-- across the next axis leaves the next quotient, and the place less 1 over.
-- Assumes nothing.
use mathlib.Core.Path.{◌≡◌, refl, ap, sym, ◌∙◌}
use Prim.Native.Nat.{ℕ, zero, suc, ◌+◌, ◌-◌, ◌*◌, ◌/◌, ◌%◌, ◌^◌, ◌≤◌, ◌<◌}
use native.Mathlib.Nat.{mul_assoc, mul_comm, mul-pos, mod-lt, mod-le, zero-mod, zero-div, div-one, div-eq_of_lt, div-add-mod', div-div-eq-div-mul, div-lt_iff_lt-mul, le-div_iff_mul-le, add-mul-div_right, add-mul-mod_self_right}
use native.Mathlib.Omega.{arith}
use lib.Arith.{digits_div, digits_mod}
use lib.Pow.{pow_pos}
use Rattle.naturals.specs.Sum.{prod_to}
use Rattle.naturals.proofs.Cases.{eq_or_not, le_or_lt}
use Rattle.component_grids.specs.Component.{across, across_on, points_to, place_at}

-- ---- how many points there are

pub across_is : (n : ℕ) → across n + 1 ≡ 2 ^ suc n
unfolding across
across_is n = omega (arith, pow_pos (suc n))

pub across_pos : (n : ℕ) → 0 < across n
across_pos n = omega (arith, across_is n, pow_pos n)

module _ (tops : ℕ → ℕ) where
  pub points_to_zero : points_to tops 0 ≡ 1
  unfolding points_to prod_to
  points_to_zero = refl

  pub points_to_suc : (k : ℕ) → points_to tops (suc k) ≡ points_to tops k * across (tops k)
  unfolding points_to prod_to across_on
  points_to_suc k = refl

  pub points_to_pos : (k : ℕ) → 0 < points_to tops k
  points_to_pos zero = omega (arith, points_to_zero)
  points_to_pos (suc k) = rw (points_to_suc k) (mul-pos (points_to_pos k) (across_pos (tops k)))

  -- ---- one place of a position

  pub place_is_lem : (p t : ℕ) → place_at tops p t ≡ p / points_to tops t % across (tops t) + 1
  unfolding place_at
  place_is_lem p t = refl

  pub place_low : (p t : ℕ) → 1 ≤ place_at tops p t
  place_low p t = omega (arith, place_is_lem p t)

  pub place_high : (p t : ℕ) → place_at tops p t < 2 ^ suc (tops t)
  place_high p t =
      omega (arith, place_is_lem p t, across_is (tops t), mod-lt (p / points_to tops t) (across_pos (tops t)))

  -- The quotient by the points of one axis more: the next quotient.
  next_quotient : (p k : ℕ) → p / points_to tops (suc k) ≡ p / points_to tops k / across (tops k)
  next_quotient p k =
      ap (λ (x : ℕ). p / x) (points_to_suc k) ∙ sym (div-div-eq-div-mul p (points_to tops k) (across (tops k)))

  -- A quotient is the next one times the points across the axis, and the place less 1.
  quotient_is : (p k : ℕ) → p / points_to tops k + 1 ≡ p / points_to tops (suc k) * across (tops k) + place_at tops p k
  quotient_is p k =
      omega (
        arith,
        place_is_lem p k,
        ap (λ (x : ℕ). x * across (tops k)) (next_quotient p k),
        div-add-mod' (p / points_to tops k) (across (tops k)),
      )

  first_quotient : (p : ℕ) → p / points_to tops 0 ≡ p
  first_quotient p = ap (λ (x : ℕ). p / x) points_to_zero ∙ div-one p

  -- The same quotient at one axis is the same from there on, and so are the places.
  same_quotient : (k t p q : ℕ) → k ≤ t → p / points_to tops k ≡ q / points_to tops k → p / points_to tops t ≡ q / points_to tops t
  same_quotient k zero p q h e = let first : k ≡ 0 = omega arith in rw first at e
  same_quotient k (suc t) p q h e =
      eq_or_not k (suc t)
      (λ same. rw same at e)
      (λ ne.
      next_quotient p t
      ∙ ap (λ (x : ℕ). x / across (tops t)) (same_quotient k t p q (omega arith) e)
      ∙ sym (next_quotient q t))

  same_place : (t p q : ℕ) → p / points_to tops t ≡ q / points_to tops t → place_at tops p t ≡ place_at tops q t
  same_place t p q e =
      place_is_lem p t ∙ ap (λ (x : ℕ). x % across (tops t) + 1) e ∙ sym (place_is_lem q t)

  -- So many times the points of the first k axes change no place on them.
  pub place_below : (t k p y : ℕ) → t < k → place_at tops (p + y * points_to tops k) t ≡ place_at tops p t
  place_below t zero p y h = absurd (omega arith)
  place_below t (suc k) p y h =
      eq_or_not t k
      (λ e. rw e own)
      (λ ne.
      ap (λ (x : ℕ). place_at tops (p + x) t) regrouped ∙ place_below t k p (y * across (tops k)) (omega arith))
    where
      regrouped : y * points_to tops (suc k) ≡ y * across (tops k) * points_to tops k
      regrouped =
          ap (λ (x : ℕ). y * x) (points_to_suc k ∙ mul_comm (points_to tops k) (across (tops k)))
          ∙ sym (mul_assoc y (across (tops k)) (points_to tops k))

      own : place_at tops (p + y * points_to tops (suc k)) k ≡ place_at tops p k
      own =
          place_is_lem (p + y * points_to tops (suc k)) k
          ∙ ap (λ (x : ℕ). x % across (tops k) + 1)
          (ap (λ (x : ℕ). (p + x) / points_to tops k) regrouped
          ∙ add-mul-div_right p (y * across (tops k)) (points_to_pos k))
          ∙ ap (λ (x : ℕ). x + 1) (add-mul-mod_self_right (p / points_to tops k) y (across (tops k)))
          ∙ sym (place_is_lem p k)

-- ---- a step on one axis

-- Position q is position p but for its place on axis t, which is v.
pub record Shifted (d : ℕ) (tops : ℕ → ℕ) (t p q v : ℕ) : Type 0 where
  pub inside : q < points_to tops d
  pub own : place_at tops q t ≡ v
  pub others : (u : ℕ) → u < d → (u ≡ t → ⊥) → place_at tops q u ≡ place_at tops p u

-- What is added to a number and still fits its rest changes the rest alone; and so what is taken from it.
rest_up : (n h m : ℕ) → n % m + h < m → ((n + h) % m ≡ n % m + h) × ((n + h) / m ≡ n / m)
rest_up n h m fits =
    let whole : n + h ≡ n / m * m + (n % m + h) = omega (arith, div-add-mod' n m) in
    (rw whole (digits_mod (n / m) fits), rw whole (digits_div (n / m) fits))

rest_down : (n h m : ℕ) → 0 < m → h ≤ (n + h) % m → n % m + h ≡ (n + h) % m
rest_down n h m pos fits =
    let whole : n ≡ (n + h) / m * m + ((n + h) % m - h) = omega (arith, div-add-mod' (n + h) m) in
    omega (
      arith,
      ap (λ (x : ℕ). x % m) whole,
      digits_mod ((n + h) / m) {m = m} {r = (n + h) % m - h} (omega (arith, mod-lt (n + h) pos)),
    )

module _ (d : ℕ) (tops : ℕ → ℕ) where
  -- A position with no quotient by all the points lies on the grid.
  zero_quotient : (p : ℕ) → p / points_to tops d ≡ 0 → p < points_to tops d
  zero_quotient p e =
      omega
      (arith, (div-lt_iff_lt-mul {k = points_to tops d} {x = p} {y = 1} (points_to_pos tops d)).0 (omega arith))

  pub shift_up : (t p h : ℕ) → t < d → p < points_to tops d → place_at tops p t + h < 2 ^ suc (tops t) →
      Shifted d tops t p (p + h * points_to tops t) (place_at tops p t + h)
  shift_up t p h axis there fits =
      record {
        inside = zero_quotient q (same_quotient tops (suc t) d q p axis beyond ∙ div-eq_of_lt there);
        own = omega (arith, place_is_lem tops q t, place_is_lem tops p t, ap (λ (x : ℕ). x % across (tops t)) moved, rest.0);
        others =
            λ u lt ne.
            le_or_lt t u
            (λ le. same_place tops u q p (same_quotient tops (suc t) u q p (omega arith) beyond))
            (λ below. place_below tops u t p h below);
      }
    where
      q : ℕ
      q = p + h * points_to tops t

      moved : q / points_to tops t ≡ p / points_to tops t + h
      moved = add-mul-div_right p h (points_to_pos tops t)

      rest : ((p / points_to tops t + h) % across (tops t) ≡ p / points_to tops t % across (tops t) + h)
          × ((p / points_to tops t + h) / across (tops t) ≡ p / points_to tops t / across (tops t))
      rest =
          rest_up (p / points_to tops t) h (across (tops t)) (omega (arith, place_is_lem tops p t, across_is (tops t)))

      beyond : q / points_to tops (suc t) ≡ p / points_to tops (suc t)
      beyond =
          next_quotient tops q t ∙ ap (λ (x : ℕ). x / across (tops t)) moved ∙ rest.1 ∙ sym (next_quotient tops p t)

  -- What was stepped up to steps down: the step up, read backwards.
  shift_back : (t p q h : ℕ) → t < d → p < points_to tops d → h < place_at tops p t → p ≡ q + h * points_to tops t →
      Shifted d tops t p q (place_at tops p t - h)
  shift_back t p q h axis there less e =
      record {
        inside = omega arith;
        own = omega (arith, place_down);
        others = λ u lt ne. sym (up.others u lt ne) ∙ ap (λ (x : ℕ). place_at tops x u) (sym e);
      }
    where
      moved : p / points_to tops t ≡ q / points_to tops t + h
      moved = ap (λ (x : ℕ). x / points_to tops t) e ∙ add-mul-div_right q h (points_to_pos tops t)

      same : p / points_to tops t % across (tops t) ≡ (q / points_to tops t + h) % across (tops t)
      same = ap (λ (x : ℕ). x % across (tops t)) moved

      place_down : place_at tops q t + h ≡ place_at tops p t
      place_down =
          omega (
            arith,
            place_is_lem tops p t,
            place_is_lem tops q t,
            same,
            rest_down (q / points_to tops t) h (across (tops t)) (across_pos (tops t)) (omega (arith, place_is_lem tops p t, same)),
          )

      up : Shifted d tops t q (q + h * points_to tops t) (place_at tops q t + h)
      up = shift_up t q h axis (omega arith) (omega (arith, place_down, place_high tops p t))

  pub shift_down : (t p h : ℕ) → t < d → p < points_to tops d → h < place_at tops p t →
      (h * points_to tops t ≤ p) × Shifted d tops t p (p - h * points_to tops t) (place_at tops p t - h)
  shift_down t p h axis there less =
      (enough, shift_back t p (p - h * points_to tops t) h axis there less (omega (arith, enough)))
    where
      enough : h * points_to tops t ≤ p
      enough =
          (le-div_iff_mul-le {k = points_to tops t} {x = h} {y = p} (points_to_pos tops t)).0
          (omega (arith, place_is_lem tops p t, mod-le (p / points_to tops t) (across (tops t))))

  -- Past the last axis every place is 1.
  pub place_past : (p t : ℕ) → p < points_to tops d → d ≤ t → place_at tops p t ≡ 1
  place_past p t there past =
      omega (
        arith,
        place_is_lem tops p t,
        ap (λ (x : ℕ). x % across (tops t)) (same_quotient tops d t p 0 past (div-eq_of_lt there ∙ sym (zero-div (points_to tops d)))),
        ap (λ (x : ℕ). x % across (tops t)) (zero-div (points_to tops t)),
        zero-mod (across (tops t)),
      )

  -- ---- the places from an axis on

  -- Positions of the same quotient by the points of the axes before have the same places.
  pub low_digits : (k p q : ℕ) → k ≤ d → p / points_to tops k ≡ q / points_to tops k → (t : ℕ) → k ≤ t → t < d → place_at tops p t ≡ place_at tops q t
  low_digits k p q le e t from axis = same_place tops t p q (same_quotient tops k t p q from e)

  module _ (p q : ℕ) (hp : p < points_to tops d) (hq : q < points_to tops d) where
    -- Downwards from the last axis.
    from_last : (j k : ℕ) → k + j ≡ d → ((t : ℕ) → k ≤ t → t < d → place_at tops p t ≡ place_at tops q t) →
        p / points_to tops k ≡ q / points_to tops k
    from_last zero k e same =
        let last : k ≡ d = omega arith in
        rw last (div-eq_of_lt hp ∙ sym (div-eq_of_lt hq))
    from_last (suc j) k e same =
        omega (
          arith,
          quotient_is tops p k,
          quotient_is tops q k,
          same k (omega arith) (omega arith),
          ap (λ (x : ℕ). x * across (tops k)) (from_last j (suc k) (omega arith) (λ t from axis. same t (omega arith) axis)),
        )

  pub high_digits : (k p q : ℕ) → k ≤ d → p < points_to tops d → q < points_to tops d →
      ((t : ℕ) → k ≤ t → t < d → place_at tops p t ≡ place_at tops q t) → p / points_to tops k ≡ q / points_to tops k
  high_digits k p q le hp hq same = from_last p q hp hq (d - k) k (omega arith) same

  -- Positions of the same places are one.
  pub same_places : (p q : ℕ) → p < points_to tops d → q < points_to tops d → ((t : ℕ) → t < d → place_at tops p t ≡ place_at tops q t) → p ≡ q
  same_places p q hp hq same =
      sym (first_quotient tops p) ∙ high_digits 0 p q (omega arith) hp hq (λ t from axis. same t axis) ∙ first_quotient tops q
