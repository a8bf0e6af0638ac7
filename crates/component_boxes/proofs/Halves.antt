-- A box split along an axis that has more than one point left: the middle and the halves lie in the grid as boxes do, are the box together, have no point in
-- common, and neighbours lead from a half to the middle alone and only along that axis. True since the place of the middle point on the axis is a multiple of 2^k:
-- the middle's neighbours there lie outside the box, and those of a half go no further than the middle.
-- Assumes nothing.
use mathlib.Core.Path.{◌≡◌, refl, ap, sym, ◌∙◌}
use mathlib.Core.Logic.{◌⊎◌, inl, inr, ⊎_elim}
use Prim.Native.Nat.{ℕ, zero, suc, ◌+◌, ◌-◌, ◌*◌, ◌^◌, ◌≤◌, ◌<◌}
use native.Mathlib.Nat.{pow-suc, add-mul, one-mul, mul-le-mul_right, lt_of_mul-lt-mul_right}
use native.Mathlib.Omega.{arith}
use native.Mathlib.Decide.{dec_lt}
use lib.Pow.{pow_pos}
use Rattle.naturals.proofs.Cases.{eq_or_not, le_or_lt}
use Rattle.numbering.specs.declared.Side.{Side}
use Rattle.numbering.specs.declared.Side.TheVariants.{Left, Right}
use Rattle.numbering.specs.Parent.{update}
use Rattle.numbering.proofs.Parents.{update_same, update_other}
use Rattle.splits.specs.Splits.{Split}
use Rattle.component_grids.specs.Component.{points_to, place_at, neighbour}
use Rattle.component_grids.proofs.Places.{Shifted, place_low, place_high, shift_up, shift_down}
use Rattle.component_boxes.specs.Order.{middle_of, half_of, away}
use Rattle.component_boxes.proofs.Fitting.{times_on, on_multiple, fits_by}
use Rattle.component_boxes.specs.Boxes.{Near, Box, Fits}
use Rattle.component_boxes.proofs.Reach.{power_parts, reach_multiple, reach_between}
use Rattle.component_grids.proofs.Beside.{moved, Beside, beside, reach_le}

-- ---- levels with one axis changed

middle_same : (k : ℕ → ℕ) (r : ℕ) → middle_of k r r ≡ 0
unfolding middle_of
middle_same k r = update_same k r 0

middle_other : (k : ℕ → ℕ) (r t : ℕ) → (t ≡ r → ⊥) → middle_of k r t ≡ k t
unfolding middle_of
middle_other k r t ne = update_other k r 0 t ne

half_same : (k : ℕ → ℕ) (r : ℕ) → half_of k r r ≡ k r - 1
unfolding half_of
half_same k r = update_same k r (k r - 1)

half_other : (k : ℕ → ℕ) (r t : ℕ) → (t ≡ r → ⊥) → half_of k r t ≡ k t
unfolding half_of
half_other k r t ne = update_other k r (k r - 1) t ne

-- A point of a box is one of another whose levels and middle point differ on axis r alone, where it lies near enough there.
near_change : (d : ℕ) (tops k m : ℕ → ℕ) (c e r : ℕ) → ((t : ℕ) → (t ≡ r → ⊥) → m t ≡ k t) →
    ((t : ℕ) → t < d → (t ≡ r → ⊥) → place_at tops e t ≡ place_at tops c t) → (p : ℕ) →
    place_at tops c r < place_at tops p r + 2 ^ k r → place_at tops p r < place_at tops c r + 2 ^ k r → Near d tops m e p → Near d tops k c p
near_change d tops k m c e r levels places p low high near =
    record {
      inside = near.inside;
      low =
          λ t axis.
          eq_or_not t r
          (λ same. rw same low)
          (λ other. omega (arith, near.low t axis, places t axis other, ap (λ (x : ℕ). 2 ^ x) (levels t other)));
      high =
          λ t axis.
          eq_or_not t r
          (λ same. rw same high)
          (λ other. omega (arith, near.high t axis, places t axis other, ap (λ (x : ℕ). 2 ^ x) (levels t other)));
    }

-- What can be told of each number can be told of all below n.
dec_each : (P : ℕ → Type 0) → ((t : ℕ) → Dec (P t)) → (n : ℕ) → Dec ((t : ℕ) → t < n → P t)
dec_each P dec_p zero = yes (λ t h. absurd (omega arith))
dec_each P dec_p (suc n) = join (dec_each P dec_p n) (dec_p n)
  where
    join : Dec ((t : ℕ) → t < n → P t) → Dec (P n) → Dec ((t : ℕ) → t < suc n → P t)
    join (no before) here = no (λ every. before (λ t h. every t (omega arith)))
    join (yes before) (no here) = no (λ every. here (every n (omega arith)))
    join (yes before) (yes here) = yes (λ t h. eq_or_not t n (λ same. rw same here) (λ other. before t (omega arith)))

-- Whether a point is in a box can be told.
pub dec_near : (d : ℕ) (tops k : ℕ → ℕ) (c p : ℕ) → Dec (Near d tops k c p)
dec_near d tops k c p =
    all_three (dec_lt p (points_to tops d))
    (dec_each (λ t. place_at tops c t < place_at tops p t + 2 ^ k t) (λ t. dec_lt (place_at tops c t) (place_at tops p t + 2 ^ k t)) d)
    (dec_each (λ t. place_at tops p t < place_at tops c t + 2 ^ k t) (λ t. dec_lt (place_at tops p t) (place_at tops c t + 2 ^ k t)) d)
  where
    all_three : Dec (p < points_to tops d) → Dec ((t : ℕ) → t < d → place_at tops c t < place_at tops p t + 2 ^ k t) →
        Dec ((t : ℕ) → t < d → place_at tops p t < place_at tops c t + 2 ^ k t) → Dec (Near d tops k c p)
    all_three (no out) low high = no (λ near. out near.inside)
    all_three (yes in_grid) (no out) high = no (λ near. out near.low)
    all_three (yes in_grid) (yes low) (no out) = no (λ near. out near.high)
    all_three (yes in_grid) (yes low) (yes high) = yes (record { inside = in_grid; low = low; high = high })

pub dec_box : (d : ℕ) (tops k : ℕ → ℕ) (c p : ℕ) → Dec (Box d tops k c p)
dec_box d tops k c zero = no (λ none. none)
dec_box d tops k c (suc p) = dec_near d tops k c p

module _ (d : ℕ) (tops k : ℕ → ℕ) (c : ℕ) (fits : Fits d tops k c) (r : ℕ) (axis : r < d) (some : 0 < k r) where
  -- The place of the middle point on the axis, how far the box reaches from it, and half of that.
  pub at : ℕ
  at = place_at tops c r

  wide : ℕ
  wide = 2 ^ k r

  pub part : ℕ
  part = 2 ^ (k r - 1)

  at_is : at ≡ place_at tops c r
  unfolding at
  at_is = refl

  wide_is : wide ≡ 2 ^ k r
  unfolding wide
  wide_is = refl

  away_is : away tops k r ≡ part * points_to tops r
  unfolding away part
  away_is = refl

  wide_part : wide ≡ part + part
  unfolding wide part
  wide_part =
      let e : k r ≡ suc (k r - 1) = omega arith in
      let double : 2 ^ (k r - 1) * 2 ≡ 2 ^ (k r - 1) + 2 ^ (k r - 1) = omega arith in
      ap (λ (x : ℕ). 2 ^ x) e ∙ pow-suc 2 (k r - 1) ∙ double

  part_pos : 0 < part
  unfolding part
  part_pos = pow_pos (k r - 1)

  times : ℕ
  times = times_on d tops k c r

  at_multiple : at ≡ times * wide
  unfolding at wide times
  at_multiple = on_multiple d tops k c fits r axis

  -- The box lies between the borders of the axis.
  times_pos : 0 < times
  times_pos =
      eq_or_not times 0
      (λ z. absurd (omega (arith, at_multiple, ap (λ (x : ℕ). x * wide) z, at_is, place_low tops c r)))
      (λ ne. omega arith)

  -- The multiple before.
  at_before : (times - 1) * wide + wide ≡ at
  at_before =
      let e : times ≡ times - 1 + 1 = omega (arith, times_pos) in
      omega (arith, at_multiple, ap (λ (x : ℕ). x * wide) e, add-mul (times - 1) 1 wide, one-mul wide)

  above_low : wide ≤ at
  above_low = omega (arith, at_before)

  below_high : at + wide ≤ 2 ^ suc (tops r)
  unfolding wide
  below_high =
      let n : ℕ = 2 ^ (suc (tops r) - k r) in
      let parts : 2 ^ suc (tops r) ≡ n * wide = power_parts (k r) (suc (tops r)) (omega (arith, fits.within r axis)) in
      let less : times < n = lt_of_mul-lt-mul_right wide (omega (arith, at_multiple, at_is, place_high tops c r)) in
      omega (arith, at_multiple, mul-le-mul_right {m = suc times} {n = n} wide less, add-mul times 1 wide, one-mul wide)

  -- ---- the middle points of the halves

  pub left_shift : (away tops k r ≤ c) × Shifted d tops r c (c - away tops k r) (at - part)
  unfolding at
  left_shift = rw away_is (shift_down d tops r c part axis fits.inside (omega (arith, at_is, above_low, wide_part, part_pos)))

  pub right_shift : Shifted d tops r c (c + away tops k r) (at + part)
  unfolding at
  right_shift = rw away_is (shift_up d tops r c part axis fits.inside (omega (arith, at_is, below_high, wide_part, part_pos)))

  -- ---- the parts lie in the grid as boxes do

  pub middle_fits : Fits d tops (middle_of k r) c
  middle_fits =
      let kept : ℕ → ℕ = times_on d tops k c in
      fits_by d tops (middle_of k r) c fits.inside
      (λ t lt.
      eq_or_not t r
      (λ same. rw (same, middle_same k r) (omega arith))
      (λ other. rw (middle_other k r t other) (fits.within t lt)))
      (update kept r at)
      (λ t lt.
      eq_or_not t r
      (λ same. rw (same, middle_same k r, update_same kept r at) (omega (arith, at_is)))
      (λ other. rw (middle_other k r t other, update_other kept r at t other) (on_multiple d tops k c fits t lt)))

  -- A half whose middle point has a place that is v times its width, on the axis of the split.
  half_fits : (e v : ℕ) → Shifted d tops r c e (v * part) → Fits d tops (half_of k r) e
  unfolding part
  half_fits e v shifted =
      let kept : ℕ → ℕ = times_on d tops k c in
      fits_by d tops (half_of k r) e shifted.inside
      (λ t lt.
      eq_or_not t r
      (λ same. rw (same, half_same k r) (omega (arith, fits.within r axis)))
      (λ other. rw (half_other k r t other) (fits.within t lt)))
      (update kept r v)
      (λ t lt.
      eq_or_not t r
      (λ same. rw (same, half_same k r, update_same kept r v) shifted.own)
      (λ other.
      rw (half_other k r t other, update_other kept r v t other)
      (shifted.others t lt other ∙ on_multiple d tops k c fits t lt)))

  at_parts : at ≡ (times + times) * part
  at_parts = at_multiple ∙ ap (λ (x : ℕ). times * x) wide_part ∙ (let both : times * (part + part) ≡ (times + times) * part = omega arith in both)

  pub left_fits : Fits d tops (half_of k r) (c - away tops k r)
  left_fits =
      let v : ℕ = times + times - 1 in
      let e : times + times ≡ v + 1 = omega (arith, times_pos) in
      let place : at - part ≡ v * part = omega (arith, at_parts, ap (λ (x : ℕ). x * part) e, add-mul v 1 part, one-mul part) in
      half_fits (c - away tops k r) v (rw place at left_shift.1)

  pub right_fits : Fits d tops (half_of k r) (c + away tops k r)
  right_fits =
      let v : ℕ = times + times + 1 in
      let place : at + part ≡ v * part = omega (arith, at_parts, add-mul (times + times) 1 part, one-mul part) in
      half_fits (c + away tops k r) v (rw place at right_shift)

  -- ---- which points the parts have

  -- The place of a point on the axis of the split.
  abbrev on : ℕ → ℕ
  on p = place_at tops p r

  power_zero : 2 ^ middle_of k r r ≡ 1
  power_zero = ap (λ (x : ℕ). 2 ^ x) (middle_same k r)

  power_part : 2 ^ half_of k r r ≡ part
  unfolding part
  power_part = ap (λ (x : ℕ). 2 ^ x) (half_same k r)

  abbrev Whole : ℕ → Type 0
  Whole = Near d tops k c

  abbrev Middle : ℕ → Type 0
  Middle = Near d tops (middle_of k r) c

  abbrev LeftHalf : ℕ → Type 0
  LeftHalf = Near d tops (half_of k r) (c - away tops k r)

  abbrev RightHalf : ℕ → Type 0
  RightHalf = Near d tops (half_of k r) (c + away tops k r)

  in_whole : (p : ℕ) → Whole p → (at < on p + wide) × (on p < at + wide)
  unfolding at wide
  in_whole p near = (near.low r axis, near.high r axis)

  in_middle : (p : ℕ) → Middle p → on p ≡ at
  in_middle p near = omega (arith, near.low r axis, near.high r axis, power_zero, at_is)

  in_left : (p : ℕ) → LeftHalf p → (at < on p + wide) × (on p < at)
  in_left p near =
      let low = near.low r axis in
      let high = near.high r axis in
      let own = left_shift.1.own in
      (omega (arith, power_part, wide_part, above_low), omega (arith, power_part, wide_part, above_low, part_pos))

  in_right : (p : ℕ) → RightHalf p → (at < on p) × (on p < at + wide)
  in_right p near =
      let low = near.low r axis in
      let high = near.high r axis in
      let own = right_shift.own in
      (omega (arith, power_part, wide_part), omega (arith, power_part, wide_part))

  middle_whole : (p : ℕ) → Middle p → Whole p
  unfolding at wide
  middle_whole p near =
      let here = in_middle p near in
      near_change d tops k (middle_of k r) c c r (middle_other k r) (λ t lt other. refl) p
      (omega (arith, pow_pos (k r)))
      (omega (arith, pow_pos (k r)))
      near

  whole_middle : (p : ℕ) → Whole p → on p ≡ at → Middle p
  whole_middle p near here =
      near_change d tops (middle_of k r) k c c r (λ t other. sym (middle_other k r t other)) (λ t lt other. refl) p
      (omega (arith, power_zero, at_is))
      (omega (arith, power_zero, at_is))
      near

  left_whole : (p : ℕ) → LeftHalf p → Whole p
  unfolding at wide
  left_whole p near =
      let here = in_left p near in
      near_change d tops k (half_of k r) c (c - away tops k r) r (half_other k r) left_shift.1.others p here.0 (omega arith) near

  whole_left : (p : ℕ) → Whole p → on p < at → LeftHalf p
  whole_left p near less =
      let here = in_whole p near in
      let own = left_shift.1.own in
      near_change d tops (half_of k r) k (c - away tops k r) c r (λ t other. sym (half_other k r t other))
      (λ t lt other. sym (left_shift.1.others t lt other)) p
      (omega (arith, power_part, wide_part, above_low))
      (omega (arith, power_part, wide_part, above_low))
      near

  right_whole : (p : ℕ) → RightHalf p → Whole p
  unfolding at wide
  right_whole p near =
      let here = in_right p near in
      near_change d tops k (half_of k r) c (c + away tops k r) r (half_other k r) right_shift.others p (omega arith) here.1 near

  whole_right : (p : ℕ) → Whole p → at < on p → RightHalf p
  whole_right p near more =
      let here = in_whole p near in
      let own = right_shift.own in
      near_change d tops (half_of k r) k (c + away tops k r) c r (λ t other. sym (half_other k r t other))
      (λ t lt other. sym (right_shift.others t lt other)) p
      (omega (arith, power_part, wide_part))
      (omega (arith, power_part, wide_part))
      near

  -- ---- where neighbours lead

  -- On the axis of the split a neighbour lies at the point's reach, on every other axis it keeps its place there.
  link : (a : ℕ) (b : Side) (p q : ℕ) → Beside d tops a b p q → ((a ≡ r) × (on q ≡ moved b (on p))) ⊎ (on q ≡ on p)
  link a b p q next =
      eq_or_not a r
      (λ same. inl (same, ap (place_at tops q) (sym same) ∙ next.own ∙ ap (λ (t : ℕ). moved b (place_at tops p t)) same))
      (λ other. inr (next.others r axis (λ e. other (sym e))))

  -- From the middle out of the box, and from a half no further than the middle.
  from_middle : (b : Side) (x : ℕ) → x ≡ at → (moved b x + wide ≤ at) ⊎ (at + wide ≤ moved b x)
  from_middle Left x here =
      inl
      (omega (
        arith,
        reach_multiple (k r) times x (omega (arith, above_low, wide_part, part_pos)) (here ∙ at_multiple ∙ ap (λ (w : ℕ). times * w) wide_is),
        reach_le x (omega (arith, above_low, wide_part, part_pos)),
        wide_is,
      ))
  from_middle Right x here =
      inr
      (omega (
        arith,
        reach_multiple (k r) times x (omega (arith, above_low, wide_part, part_pos)) (here ∙ at_multiple ∙ ap (λ (w : ℕ). times * w) wide_is),
        wide_is,
      ))

  from_left : (b : Side) (x : ℕ) → 1 ≤ x → at < x + wide → x < at → moved b x ≤ at
  from_left Left x low near less = omega arith
  from_left Right x low near less =
      let before : (times - 1) * 2 ^ k r + wide ≡ at = ap (λ (w : ℕ). (times - 1) * w + wide) (sym wide_is) ∙ at_before in
      omega (arith, (reach_between (k r) (times - 1) x low (omega (arith, wide_is)) (omega (arith, wide_is))).above, wide_is)

  from_right : (b : Side) (x : ℕ) → 1 ≤ x → at < x → x < at + wide → at ≤ moved b x
  from_right Left x low more near =
      let here : times * 2 ^ k r ≡ at = ap (λ (w : ℕ). times * w) (sym wide_is) ∙ sym at_multiple in
      omega (arith, (reach_between (k r) times x low (omega (arith, wide_is)) (omega (arith, wide_is))).below)
  from_right Right x low more near = omega arith

  -- A code beside a point, where it is in a part: a point beside it.
  module _ (a : ℕ) (b : Side) (p : ℕ) (lt : a < d) (there : p < points_to tops d) {A : Type 0} where
    beside_in : (m : ℕ → ℕ) (e : ℕ) → ((q : ℕ) → Beside d tops a b p q → Near d tops m e q → A) → Box d tops m e (neighbour d tops a b (suc p)) → A
    beside_in m e then = at_code (neighbour d tops a b (suc p)) refl
      where
        at_code : (n : ℕ) → neighbour d tops a b (suc p) ≡ n → Box d tops m e n → A
        at_code zero is none = absurd none
        at_code (suc q) is near = then q (beside d tops a b p q lt there is) near

  middle_to_left : (a : ℕ) (b : Side) (p q : ℕ) → Middle p → Beside d tops a b p q → LeftHalf q → ⊥
  middle_to_left a b p q here next there =
      let x = in_middle p here in
      let y = in_left q there in
      ⊎_elim
      (λ moves. ⊎_elim (λ low. omega arith) (λ high. omega arith) (from_middle b (on p) x))
      (λ stays. omega arith)
      (link a b p q next)

  middle_to_right : (a : ℕ) (b : Side) (p q : ℕ) → Middle p → Beside d tops a b p q → RightHalf q → ⊥
  middle_to_right a b p q here next there =
      let x = in_middle p here in
      let y = in_right q there in
      ⊎_elim
      (λ moves. ⊎_elim (λ low. omega arith) (λ high. omega arith) (from_middle b (on p) x))
      (λ stays. omega arith)
      (link a b p q next)

  left_to_right : (a : ℕ) (b : Side) (p q : ℕ) → LeftHalf p → Beside d tops a b p q → RightHalf q → ⊥
  left_to_right a b p q here next there =
      let x = in_left p here in
      let y = in_right q there in
      ⊎_elim
      (λ moves. omega (arith, from_left b (on p) (place_low tops p r) x.0 x.1))
      (λ stays. omega arith)
      (link a b p q next)

  right_to_left : (a : ℕ) (b : Side) (p q : ℕ) → RightHalf p → Beside d tops a b p q → LeftHalf q → ⊥
  right_to_left a b p q here next there =
      let x = in_right p here in
      let y = in_left q there in
      ⊎_elim
      (λ moves. omega (arith, from_right b (on p) (place_low tops p r) x.0 x.1))
      (λ stays. omega arith)
      (link a b p q next)

  left_along : (a : ℕ) (b : Side) (p q : ℕ) → LeftHalf p → Beside d tops a b p q → Middle q → a ≡ r
  left_along a b p q here next there =
      ⊎_elim
      (λ moves. moves.0)
      (λ stays. absurd (omega (arith, in_left p here, in_middle q there)))
      (link a b p q next)

  right_along : (a : ℕ) (b : Side) (p q : ℕ) → RightHalf p → Beside d tops a b p q → Middle q → a ≡ r
  right_along a b p q here next there =
      ⊎_elim
      (λ moves. moves.0)
      (λ stays. absurd (omega (arith, in_right p here, in_middle q there)))
      (link a b p q next)

  -- The split.
  pub halves :
      Split (neighbour d tops) d r (Box d tops k c) (Box d tops (middle_of k r) c) (Box d tops (half_of k r) (c - away tops k r))
      (Box d tops (half_of k r) (c + away tops k r))
  halves =
      record {
        parts = parts;
        middle_in = λ p h. up (middle_of k r) c middle_whole p h;
        left_in = λ p h. up (half_of k r) (c - away tops k r) left_whole p h;
        right_in = λ p h. up (half_of k r) (c + away tops k r) right_whole p h;
        middle_left = apart (middle_of k r) (half_of k r) c (c - away tops k r) (λ p x y. omega (arith, in_middle p x, in_left p y));
        middle_right = apart (middle_of k r) (half_of k r) c (c + away tops k r) (λ p x y. omega (arith, in_middle p x, in_right p y));
        left_right = apart (half_of k r) (half_of k r) (c - away tops k r) (c + away tops k r) (λ p x y. omega (arith, in_left p x, in_right p y));
        into_left = links (middle_of k r) (half_of k r) c (c - away tops k r) middle_to_left;
        into_right = links (middle_of k r) (half_of k r) c (c + away tops k r) middle_to_right;
        left_to_right = links (half_of k r) (half_of k r) (c - away tops k r) (c + away tops k r) left_to_right;
        right_to_left = links (half_of k r) (half_of k r) (c + away tops k r) (c - away tops k r) right_to_left;
        left_along = links (half_of k r) (middle_of k r) (c - away tops k r) c left_along;
        right_along = links (half_of k r) (middle_of k r) (c + away tops k r) c right_along;
      }
    where
      parts : (p : ℕ) → Box d tops k c p →
          Box d tops (middle_of k r) c p ⊎ Box d tops (half_of k r) (c - away tops k r) p ⊎ Box d tops (half_of k r) (c + away tops k r) p
      parts zero none = absurd none
      parts (suc p) near =
          eq_or_not (on p) at
          (λ same. inl (whole_middle p near same))
          (λ other.
          le_or_lt (on p) at
          (λ le. inr (inl (whole_left p near (omega arith))))
          (λ lt. inr (inr (whole_right p near lt))))

      up : (m : ℕ → ℕ) (e : ℕ) → ((p : ℕ) → Near d tops m e p → Whole p) → (p : ℕ) → Box d tops m e p → Box d tops k c p
      up m e by zero none = absurd none
      up m e by (suc p) near = by p near

      apart : (m n : ℕ → ℕ) (e f : ℕ) → ((p : ℕ) → Near d tops m e p → Near d tops n f p → ⊥) → (p : ℕ) → Box d tops m e p → Box d tops n f p → ⊥
      apart m n e f by zero none other = none
      apart m n e f by (suc p) near other = by p near other

      links : {A : ℕ → Type 0} (m n : ℕ → ℕ) (e f : ℕ) →
          ((a : ℕ) (b : Side) (p q : ℕ) → Near d tops m e p → Beside d tops a b p q → Near d tops n f q → A a) →
          (a : ℕ) (b : Side) (p : ℕ) → a < d → Box d tops m e p → Box d tops n f (neighbour d tops a b p) → A a
      links m n e f by a b zero lt none other = absurd none
      links m n e f by a b (suc p) lt near other = beside_in a b p lt near.inside n f (λ q next there. by a b p q near next there) other
