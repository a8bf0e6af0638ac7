-- The positions of a component grid are a numbering of its points: a point's position is below the number of points and has the point's levels and indices,
-- every position below it is that of its own, and parents are points. True since a position's places are digits, and each place is that of one level and index.
-- Assumes nothing.
use mathlib.Core.Path.{◌≡◌, refl, ap, ap₂, sym, ◌∙◌, fun_ext}
use mathlib.Core.Bool.{false, false≢true}
use Prim.Native.Nat.{ℕ, zero, suc, ◌+◌, ◌-◌, ◌*◌, ◌/◌, ◌%◌, ◌^◌, ◌≤◌, ◌<◌}
use native.Mathlib.Nat.{add_comm, mul_comm, add-sub_cancel, sub_self, mod-one, mod-eq_of_lt}
use native.Mathlib.Omega.{arith}
use lib.Arith.{digits_lt, digits_div, mod-mul}
use lib.Pow.{pow_mono}
use Rattle.naturals.specs.Sum.{sum_to}
use Rattle.naturals.proofs.Cases.{eq_or_not, le_or_lt}
use Rattle.naturals.proofs.Sums.{sum_to_cong}
use Rattle.numbering.specs.declared.Side.{Side}
use Rattle.numbering.specs.Parent.{numerator, is_border, parent_level, parent_index, update}
use Rattle.numbering.proofs.Parents.{Inside, inside, index_odd_up, index_below_up, level_falls, update_same, update_other}
use Rattle.numbered.specs.Numbered.{Unmarked, Numbering}
use Rattle.component_grids.specs.Component.{across, points_to, place, share, position, place_at, level_at, index_at, component}
use Rattle.component_grids.proofs.Places.{across_is, across_pos, points_to_zero, points_to_suc, points_to_pos, place_is_lem, place_low, place_high, place_below, place_past}
use Rattle.component_grids.proofs.Levels.{place_value, place_again, level_le, index_odd, index_below, place_least, place_most, level_again, index_again}

-- Levels and indices of a point of the grid, with those of place 1 past its axes.
pub record OnGrid (d : ℕ) (tops l i : ℕ → ℕ) : Type 0 where
  pub level : (t : ℕ) → t < d → l t ≤ tops t
  pub odd : (t : ℕ) → t < d → i t % 2 ≡ 1
  pub below : (t : ℕ) → t < d → i t < 2 ^ suc (l t)
  pub levels : (t : ℕ) → d ≤ t → l t ≡ tops t
  pub indices : (t : ℕ) → d ≤ t → i t ≡ 1

-- Place 1 is that of the top level and index 1.
place_one : (n : ℕ) → place n n 1 ≡ 1
place_one n = place_value n n 1 ∙ ap (λ (k : ℕ). 1 * 2 ^ k) (sub_self n)

one_below : (n : ℕ) → 1 < 2 ^ suc n
one_below n = omega (arith, pow_mono {i = 1} {j = suc n} (omega arith))

level_one : (n : ℕ) → parent_level n 1 ≡ n
level_one n = ap (parent_level n) (sym (place_one n)) ∙ level_again n n 1 (omega arith) refl (one_below n)

index_one : parent_index 1 ≡ 1
index_one = ap parent_index (sym (place_one 0)) ∙ index_again 0 0 1 (omega arith) refl (one_below 0)

-- ---- the level and the index at a position

module _ (tops : ℕ → ℕ) (p t : ℕ) where
  level_of_lem : level_at tops p t ≡ parent_level (tops t) (place_at tops p t)
  unfolding level_at
  level_of_lem = refl

  index_of : index_at tops p t ≡ parent_index (place_at tops p t)
  unfolding index_at
  index_of = refl

  -- They are those of the place.
  pub place_there : place (tops t) (level_at tops p t) (index_at tops p t) ≡ place_at tops p t
  place_there =
      ap₂ (place (tops t)) level_of_lem index_of ∙ place_again (tops t) (place_at tops p t) (place_low tops p t) (place_high tops p t)

-- ---- the position of levels and indices

position_zero : (tops l i : ℕ → ℕ) → position 0 tops l i ≡ 0
unfolding position sum_to
position_zero tops l i = refl

position_suc : (k : ℕ) (tops l i : ℕ → ℕ) →
    position (suc k) tops l i ≡ position k tops l i + (place (tops k) (l k) (i k) - 1) * points_to tops k
unfolding position sum_to share
position_suc k tops l i = refl

-- It is made of the levels and indices on the axes alone.
position_cong : (d : ℕ) (tops l i m j : ℕ → ℕ) → ((t : ℕ) → t < d → l t ≡ m t) → ((t : ℕ) → t < d → i t ≡ j t) →
    position d tops l i ≡ position d tops m j
unfolding position share
position_cong d tops l i m j levels indices =
    sum_to_cong (share tops l i) (share tops m j) d
    (λ t axis. ap₂ (λ (a b : ℕ). (place (tops t) a b - 1) * points_to tops t) (levels t axis) (indices t axis))

-- That of the levels and indices at p is p but for the axes from k on.
position_rest : (tops : ℕ → ℕ) (p k : ℕ) → position k tops (level_at tops p) (index_at tops p) ≡ p % points_to tops k
position_rest tops p zero =
    position_zero tops (level_at tops p) (index_at tops p) ∙ sym (ap (λ (x : ℕ). p % x) (points_to_zero tops) ∙ mod-one p)
position_rest tops p (suc k) =
    omega (
      arith,
      position_suc k tops (level_at tops p) (index_at tops p),
      position_rest tops p k,
      ap (λ (x : ℕ). (x - 1) * points_to tops k) (place_there tops p k ∙ place_is_lem tops p k),
      ap (λ (x : ℕ). x * points_to tops k) (add-sub_cancel (p / points_to tops k % across (tops k)) 1),
      ap (λ (x : ℕ). p % x) (points_to_suc tops k ∙ mul_comm (points_to tops k) (across (tops k))),
      mod-mul p (across_pos (tops k)) (points_to_pos tops k),
    )

module _ (d : ℕ) (tops : ℕ → ℕ) {l i : ℕ → ℕ} (x : OnGrid d tops l i) where
  digit_lt : (t : ℕ) → t < d → place (tops t) (l t) (i t) - 1 < across (tops t)
  digit_lt t axis =
      omega (
        arith,
        across_is (tops t),
        place_least (tops t) (l t) (i t) (x.level t axis) (x.odd t axis) (x.below t axis),
        place_most (tops t) (l t) (i t) (x.level t axis) (x.odd t axis) (x.below t axis),
      )

  position_lt : (k : ℕ) → k ≤ d → position k tops l i < points_to tops k
  position_lt zero h = omega (arith, position_zero tops l i, points_to_zero tops)
  position_lt (suc k) h =
      omega (
        arith,
        position_suc k tops l i,
        points_to_suc tops k,
        mul_comm (points_to tops k) (across (tops k)),
        digits_lt (digit_lt k h) (position_lt k (omega arith)),
      )

  -- Its places are those of the levels and indices.
  places_again : (k t : ℕ) → k ≤ d → t < k → place_at tops (position k tops l i) t ≡ place (tops t) (l t) (i t)
  places_again zero t h axis = absurd (omega arith)
  places_again (suc k) t h axis =
      ap (λ (p : ℕ). place_at tops p t) (position_suc k tops l i)
      ∙ eq_or_not t k
      (λ e. rw e own)
      (λ ne.
      place_below tops t k (position k tops l i) digit (omega arith) ∙ places_again k t (omega arith) (omega arith))
    where
      digit : ℕ
      digit = place (tops k) (l k) (i k) - 1

      own : place_at tops (position k tops l i + digit * points_to tops k) k ≡ place (tops k) (l k) (i k)
      own =
          omega (
            arith,
            place_is_lem tops (position k tops l i + digit * points_to tops k) k,
            ap (λ (p : ℕ). p / points_to tops k % across (tops k)) (add_comm (position k tops l i) (digit * points_to tops k)),
            ap (λ (p : ℕ). p % across (tops k)) (digits_div digit (position_lt k (omega arith))),
            mod-eq_of_lt (digit_lt k h),
            place_least (tops k) (l k) (i k) (x.level k h) (x.odd k h) (x.below k h),
          )

  pub place_of : (t : ℕ) → t < d → place_at tops (position d tops l i) t ≡ place (tops t) (l t) (i t)
  place_of t axis = places_again d t (omega arith) axis

  level_same : level_at tops (position d tops l i) ≡ l
  level_same =
      fun_ext λ t.
      level_of_lem tops (position d tops l i) t
      ∙ le_or_lt d t
      (λ past.
      ap (parent_level (tops t)) (place_past d tops (position d tops l i) t (position_lt d (omega arith)) past)
      ∙ level_one (tops t)
      ∙ sym (x.levels t past))
      (λ axis.
      ap (parent_level (tops t)) (place_of t axis)
      ∙ level_again (tops t) (l t) (i t) (x.level t axis) (x.odd t axis) (x.below t axis))

  index_same : index_at tops (position d tops l i) ≡ i
  index_same =
      fun_ext λ t.
      index_of tops (position d tops l i) t
      ∙ le_or_lt d t
      (λ past.
      ap parent_index (place_past d tops (position d tops l i) t (position_lt d (omega arith)) past)
      ∙ index_one
      ∙ sym (x.indices t past))
      (λ axis.
      ap parent_index (place_of t axis)
      ∙ index_again (tops t) (l t) (i t) (x.level t axis) (x.odd t axis) (x.below t axis))

  -- The parent is a point of the grid too: on its axis it is less deep, and elsewhere the same.
  module _ (t : ℕ) (b : Side) (axis : t < d) (e : is_border (l t) (numerator b (i t)) ≡ false) where
    within_borders : Inside (l t) (numerator b (i t))
    within_borders = inside b (l t) (i t) (x.odd t axis) (x.below t axis) e

    parent_on_grid : OnGrid d tops (update l t (parent_level (l t) (numerator b (i t)))) (update i t (parent_index (numerator b (i t))))
    parent_on_grid =
        record {
          level =
              λ u h.
              eq_or_not u t
              (λ same.
              rw same
              (omega (
                arith,
                update_same l t (parent_level (l t) (numerator b (i t))),
                level_falls (l t) (numerator b (i t)) within_borders,
                x.level t axis,
              )))
              (λ other. rw (update_other l t (parent_level (l t) (numerator b (i t))) u other) (x.level u h));
          odd =
              λ u h.
              eq_or_not u t
              (λ same.
              rw (same, update_same i t (parent_index (numerator b (i t)))) (index_odd_up (l t) (numerator b (i t)) within_borders))
              (λ other. rw (update_other i t (parent_index (numerator b (i t))) u other) (x.odd u h));
          below =
              λ u h.
              eq_or_not u t
              (λ same.
              rw (
                same,
                update_same i t (parent_index (numerator b (i t))),
                update_same l t (parent_level (l t) (numerator b (i t))),
              )
              (index_below_up (l t) (numerator b (i t)) within_borders))
              (λ other.
              rw (
                update_other i t (parent_index (numerator b (i t))) u other,
                update_other l t (parent_level (l t) (numerator b (i t))) u other,
              )
              (x.below u h));
          levels = λ u past. update_other l t (parent_level (l t) (numerator b (i t))) u (λ same. omega arith) ∙ x.levels u past;
          indices = λ u past. update_other i t (parent_index (numerator b (i t))) u (λ same. omega arith) ∙ x.indices u past;
        }

-- ---- every position is that of a point

module _ (d : ℕ) (tops : ℕ → ℕ) where
  on_grid : (p : ℕ) → p < points_to tops d → OnGrid d tops (level_at tops p) (index_at tops p)
  on_grid p h =
      record {
        level = λ t axis. rw (level_of_lem tops p t) (level_le (tops t) (place_at tops p t));
        odd = λ t axis. rw (index_of tops p t) (index_odd (place_at tops p t) (place_low tops p t));
        below =
            λ t axis.
            rw (index_of tops p t, level_of_lem tops p t)
            (index_below (tops t) (place_at tops p t) (place_low tops p t) (place_high tops p t));
        levels = λ t past. level_of_lem tops p t ∙ ap (parent_level (tops t)) (place_past d tops p t h past) ∙ level_one (tops t);
        indices = λ t past. index_of tops p t ∙ ap parent_index (place_past d tops p t h past) ∙ index_one;
      }

  pub numbering : Numbering (component d tops) (Unmarked (OnGrid d tops))
  numbering =
      record {
        point_at = λ p h. record { inside = on_grid p h; marks = refl };
        number_at = λ p h. position_rest tops p d ∙ mod-eq_of_lt h;
        number_lt = λ x. position_lt d tops x.inside d (omega arith);
        marks_again = λ x. sym x.marks;
        levels_again = λ x. level_same d tops x.inside;
        indices_again = λ x. index_same d tops x.inside;
        one_number = λ x y marks levels indices. position_cong d tops _ _ _ _ levels indices;
        odd = λ x. x.inside.odd;
        below = λ x. x.inside.below;
        mark_le = λ x t axis. omega (arith, ap (λ (m : ℕ → ℕ). m t) x.marks);
        border_level = λ x t axis marked. absurd (omega (arith, ap (λ (m : ℕ → ℕ). m t) x.marks));
        border_index = λ x t axis marked. absurd (omega (arith, ap (λ (m : ℕ → ℕ). m t) x.marks));
        only = λ x zero t axis. ap (λ (m : ℕ → ℕ). m t) x.marks;
        parent_there = λ x t b axis inner e. record { inside = parent_on_grid d tops x.inside t b axis e; marks = x.marks };
        across_there = λ x t b axis on. absurd (false≢true on);
      }
