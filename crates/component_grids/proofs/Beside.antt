-- What lies beside a position on an axis: a point of place x has its neighbours at x less and plus its reach, the greatest power of two that divides x, and the
-- border where that is 0 or 2^(n+1). True since document 01's numerators, index − 1 and index + 1, stand over 2^(level+1), and a step of that level is the
-- reach: index times reach is x. So a neighbour's position is so many times the points of the axes before away, and its other places are the same.
-- Assumes nothing.
use mathlib.Core.Path.{◌≡◌, refl, ap, ap₂, sym, ◌∙◌}
use mathlib.Core.Bool.{Bool, true, false}
use mathlib.Core.Logic.{⊎_elim}
use Prim.Native.Nat.{ℕ, suc, ◌+◌, ◌-◌, ◌*◌, ◌^◌, ◌≤◌, ◌<◌}
use native.Mathlib.Nat.{zero-mul, one-mul, mul_assoc, add-mul, mul-le-mul_right, eq_of_mul-eq-mul_right}
use native.Mathlib.Omega.{arith}
use lib.Pow.{pow_pos, pow-add}
use Rattle.naturals.proofs.Cases.{eq_or_not, true_or_false}
use Rattle.numbering.specs.declared.Side.{Side}
use Rattle.numbering.specs.declared.Side.TheVariants.{Left, Right}
use Rattle.numbering.specs.Parent.{numerator, is_border, twos, parent_level, parent_index}
use Rattle.numbering.proofs.Parents.{inside, twos_le, border_low, border_high, border_means, update_same, update_other}
use Rattle.numbered.proofs.Beside.{parent_levels, parent_indices, to_border, to_parent, parent_there}
use Rattle.component_grids.specs.Component.{points_to, place, position, place_at, level_at, index_at, component, neighbour}
use Rattle.component_grids.proofs.Places.{Shifted, place_low, place_high, same_places, shift_up, shift_down}
use Rattle.component_grids.proofs.Levels.{place_value, power_le, level_is, level_le, level_steps, index_odd, index_times, index_below}
use Rattle.component_grids.proofs.Numbering.{OnGrid, numbering, place_there, place_of}

-- How far the neighbours of a place lie from it.
abbrev pub reach : ℕ → ℕ
reach x = 2 ^ twos x

abbrev pub moved : Side → ℕ → ℕ
moved Left x = x - reach x
moved Right x = x + reach x

-- ---- on one axis

pub reach_le : (x : ℕ) → 1 ≤ x → reach x ≤ x
reach_le x low = power_le x low

-- A numerator counts steps of the point's own level, which have the length of its reach.
steps : (b : Side) (x : ℕ) → 1 ≤ x → numerator b (parent_index x) * reach x ≡ moved b x
steps Left x low =
    let again : parent_index x - 1 + 1 ≡ parent_index x = omega (arith, index_odd x low) in
    omega (
      arith,
      index_times x,
      ap (λ (i : ℕ). i * reach x) again,
      add-mul (parent_index x - 1) 1 (reach x),
      one-mul (reach x),
    )
steps Right x low = omega (arith, index_times x, add-mul (parent_index x) 1 (reach x), one-mul (reach x))

-- The parent of numerator m over 2^(l+1) lies at m steps of level l.
parent_place : (n l m : ℕ) → l ≤ n → twos m ≤ l → place n (parent_level l m) (parent_index m) ≡ m * 2 ^ (n - l)
parent_place n l m le twos_le =
    place_value n (parent_level l m) (parent_index m)
    ∙ ap (λ (k : ℕ). parent_index m * 2 ^ k) (omega (arith, level_is l m))
    ∙ ap (λ (k : ℕ). parent_index m * k) (pow-add 2 (twos m) (n - l))
    ∙ sym (mul_assoc (parent_index m) (2 ^ twos m) (2 ^ (n - l)))
    ∙ ap (λ (k : ℕ). k * 2 ^ (n - l)) (index_times m)

module _ (n x : ℕ) (low : 1 ≤ x) (high : x < 2 ^ suc n) where
  -- The whole axis, in steps of the point's own level.
  whole : 2 ^ suc (parent_level n x) * reach x ≡ 2 ^ suc n
  whole =
      sym (pow-add 2 (suc (parent_level n x)) (twos x))
      ∙ ap (λ (k : ℕ). 2 ^ k) (omega (arith, level_steps n x low high, level_le n x))

  pub reach_high : x + reach x ≤ 2 ^ suc n
  reach_high =
      omega (
        arith,
        steps Right x low,
        whole,
        mul-le-mul_right {m = parent_index x + 1} {n = 2 ^ suc (parent_level n x)} (reach x) (omega (arith, index_below n x low high)),
      )

  -- Where the neighbour's place is 0 or 2^(n+1) lies the border, and elsewhere none.
  border_zero : (b : Side) → moved b x ≡ 0 → is_border (parent_level n x) (numerator b (parent_index x)) ≡ true
  border_zero b e =
      ap (is_border (parent_level n x))
      (eq_of_mul-eq-mul_right (reach x) (pow_pos (twos x)) (numerator b (parent_index x)) 0 (steps b x low ∙ e ∙ sym (zero-mul (reach x))))
      ∙ border_low (parent_level n x)

  border_one : (b : Side) → moved b x ≡ 2 ^ suc n → is_border (parent_level n x) (numerator b (parent_index x)) ≡ true
  border_one b e =
      ap (is_border (parent_level n x))
      (eq_of_mul-eq-mul_right (reach x) (pow_pos (twos x)) (numerator b (parent_index x)) (2 ^ suc (parent_level n x))
      (steps b x low ∙ e ∙ sym whole))
      ∙ border_high (parent_level n x)

  off_border : (b : Side) → 0 < moved b x → moved b x < 2 ^ suc n → is_border (parent_level n x) (numerator b (parent_index x)) ≡ false
  off_border b some less =
      true_or_false (is_border (parent_level n x) (numerator b (parent_index x)))
      (λ e.
      ⊎_elim
      (λ zero. absurd (omega (arith, steps b x low, ap (λ (m : ℕ). m * reach x) zero, zero-mul (reach x))))
      (λ one. absurd (omega (arith, steps b x low, ap (λ (m : ℕ). m * reach x) one, whole)))
      (border_means (parent_level n x) (numerator b (parent_index x)) e))
      (λ off. off)

  -- Off the border, the parent's place.
  neighbour_place : (b : Side) → is_border (parent_level n x) (numerator b (parent_index x)) ≡ false →
      place n (parent_level (parent_level n x) (numerator b (parent_index x))) (parent_index (numerator b (parent_index x))) ≡ moved b x
  neighbour_place b off =
      parent_place n (parent_level n x) (numerator b (parent_index x)) (level_le n x)
      (twos_le (parent_level n x) (numerator b (parent_index x))
      (inside b (parent_level n x) (parent_index x) (index_odd x low) (index_below n x low high) off))
      ∙ ap (λ (k : ℕ). numerator b (parent_index x) * 2 ^ k) (level_steps n x low high)
      ∙ steps b x low

-- ---- on the grid

-- Position q lies beside position p on axis t: its place there is the neighbour's, and on every other axis that of p.
pub record Beside (d : ℕ) (tops : ℕ → ℕ) (t : ℕ) (b : Side) (p q : ℕ) : Type 0 where
  pub inside : q < points_to tops d
  pub own : place_at tops q t ≡ moved b (place_at tops p t)
  pub others : (u : ℕ) → u < d → (u ≡ t → ⊥) → place_at tops q u ≡ place_at tops p u

-- Whether the border lies beside p, and where its parent is.
abbrev at_border : (ℕ → ℕ) → ℕ → Side → ℕ → Bool
at_border tops t b p = is_border (parent_level (tops t) (place_at tops p t)) (numerator b (parent_index (place_at tops p t)))

abbrev parent_at : ℕ → (ℕ → ℕ) → ℕ → Side → ℕ → ℕ
parent_at d tops t b p = position d tops (parent_levels (component d tops) t b p) (parent_indices (component d tops) t b p)

module _ (d : ℕ) (tops : ℕ → ℕ) where
  module _ (t : ℕ) (b : Side) (p : ℕ) (axis : t < d) (there : p < points_to tops d) where
    none_beside : at_border tops t b p ≡ true → neighbour d tops t b (suc p) ≡ 0
    unfolding neighbour level_at index_at
    none_beside e = to_border (component d tops) t b p there axis refl e refl

    some_beside : at_border tops t b p ≡ false → neighbour d tops t b (suc p) ≡ suc (parent_at d tops t b p)
    unfolding neighbour level_at index_at
    some_beside e = to_parent (component d tops) t b p there axis refl e

    parent_on_grid : at_border tops t b p ≡ false → OnGrid d tops (parent_levels (component d tops) t b p) (parent_indices (component d tops) t b p)
    unfolding level_at index_at
    parent_on_grid e = (parent_there (numbering d tops) t b p there axis refl e).inside

    -- The parent's places.
    own_place : at_border tops t b p ≡ false →
        place (tops t) (parent_levels (component d tops) t b p t) (parent_indices (component d tops) t b p t) ≡ moved b (place_at tops p t)
    unfolding level_at index_at
    own_place e =
        ap₂ (place (tops t)) (update_same (level_at tops p) t _) (update_same (index_at tops p) t _)
        ∙ neighbour_place (tops t) (place_at tops p t) (place_low tops p t) (place_high tops p t) b e

    other_place : (u : ℕ) → (u ≡ t → ⊥) →
        place (tops u) (parent_levels (component d tops) t b p u) (parent_indices (component d tops) t b p u) ≡ place_at tops p u
    other_place u ne =
        ap₂ (place (tops u)) (update_other (level_at tops p) t _ u ne) (update_other (index_at tops p) t _ u ne) ∙ place_there tops p u

    parent_beside : at_border tops t b p ≡ false → Beside d tops t b p (parent_at d tops t b p)
    parent_beside e =
        let x = parent_on_grid e in
        record {
          inside = (numbering d tops).number_lt (record { inside = x; marks = refl });
          own = place_of d tops x t axis ∙ own_place e;
          others = λ u other ne. place_of d tops x u other ∙ other_place u ne;
        }

    -- It is the one position of those places.
    parent_shifted : (q : ℕ) → at_border tops t b p ≡ false → Shifted d tops t p q (moved b (place_at tops p t)) → neighbour d tops t b (suc p) ≡ suc q
    parent_shifted q e s =
        let x = parent_beside e in
        some_beside e
        ∙ ap suc
        (same_places d tops (parent_at d tops t b p) q x.inside s.inside
        (λ u other.
        eq_or_not u t
        (λ same. rw same (x.own ∙ sym s.own))
        (λ ne. x.others u other ne ∙ sym (s.others u other ne))))

  pub beside : (t : ℕ) (b : Side) (p q : ℕ) → t < d → p < points_to tops d → neighbour d tops t b (suc p) ≡ suc q → Beside d tops t b p q
  beside t b p q axis there e =
      true_or_false (at_border tops t b p)
      (λ none. absurd (omega (arith, none_beside t b p axis there none)))
      (λ some.
      let same : parent_at d tops t b p ≡ q = omega (arith, some_beside t b p axis there some) in
      rw same at (parent_beside t b p axis there some))

  module _ (t p : ℕ) (axis : t < d) (there : p < points_to tops d) where
    pub left_none_lem : place_at tops p t ≡ reach (place_at tops p t) → neighbour d tops t Left (suc p) ≡ 0
    left_none_lem e =
        none_beside t Left p axis there (border_zero (tops t) (place_at tops p t) (place_low tops p t) (place_high tops p t) Left (omega arith))

    pub left_some_lem : reach (place_at tops p t) < place_at tops p t →
        neighbour d tops t Left (suc p) ≡ suc (p - reach (place_at tops p t) * points_to tops t)
    left_some_lem less =
        parent_shifted t Left p axis there (p - reach (place_at tops p t) * points_to tops t)
        (off_border (tops t) (place_at tops p t) (place_low tops p t) (place_high tops p t) Left (omega arith) (omega (arith, place_high tops p t)))
        (shift_down d tops t p (reach (place_at tops p t)) axis there less).1

    pub right_none_lem : place_at tops p t + reach (place_at tops p t) ≡ 2 ^ suc (tops t) → neighbour d tops t Right (suc p) ≡ 0
    right_none_lem e = none_beside t Right p axis there (border_one (tops t) (place_at tops p t) (place_low tops p t) (place_high tops p t) Right e)

    pub right_some_lem : place_at tops p t + reach (place_at tops p t) < 2 ^ suc (tops t) →
        neighbour d tops t Right (suc p) ≡ suc (p + reach (place_at tops p t) * points_to tops t)
    right_some_lem less =
        parent_shifted t Right p axis there (p + reach (place_at tops p t) * points_to tops t)
        (off_border (tops t) (place_at tops p t) (place_low tops p t) (place_high tops p t) Right (omega (arith, place_low tops p t)) less)
        (shift_up d tops t p (reach (place_at tops p t)) axis there less)
