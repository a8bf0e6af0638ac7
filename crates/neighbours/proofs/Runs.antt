-- The parents of a run: points with the same digit on the axis that follow each other have parents that follow each other, since their numbers differ as
-- what the axes before add does; so do the points across the border. Every second numerator has one factor of two, so those parents lie one level up and follow each other from run to run
-- too. The points to which the axes beyond add the same are a block, and a level vector is whole blocks.
-- Assumes nothing.
use mathlib.Core.Path.{◌≡◌, ap, ap₂, ◌∙◌}
use mathlib.Core.Bool.{true, false}
use mathlib.Core.List.{List}
use Prim.Native.Nat.{ℕ, suc, ◌+◌, ◌-◌, ◌*◌, ◌/◌, ◌%◌, ◌^◌, ◌≤◌, ◌<◌}
use native.Mathlib.Nat.{pow-suc, add-mul, mul_assoc, mul_comm, mul-le-mul_right, lt_of_mul-lt-mul_right}
use native.Mathlib.Omega.{arith}
use lib.Pow.{pow_mono, pow-add, high, low}
use Rattle.naturals.specs.Sum.{sum_to}
use Rattle.naturals.proofs.Cases.{le_or_lt}
use Rattle.naturals.proofs.Sums.{sum_to_suc, sum_to_mono}
use Rattle.numbering.specs.declared.Side.{Side}
use Rattle.numbering.specs.declared.Side.TheVariants.{Left, Right}
use Rattle.numbering.specs.Point.{at}
use Rattle.numbering.specs.Parent.{numerator, is_border, twos, parent_level, parent_index}
use Rattle.numbering.proofs.Parents.{border_low, border_high, Inside, index_times, twos_pos}
use Rattle.grids.specs.Grids.{neighbour}
use Rattle.neighbours.specs.declared.subspaces.Subspace.{Subspace}
use Rattle.neighbours.specs.Steps.{Below, parent_from, number_in, across_from}
use Rattle.neighbours.proofs.Seeing.{Seen}
use Rattle.neighbours.proofs.Beside.{inner, own_digit, beyond_of, beside_border, beside_inner}

-- ---- every second numerator

-- The numerators run up to 2^(own + 1).
all_numerators : (own : ℕ) → 1 ≤ own → 4 * 2 ^ (own - 1) ≡ 2 ^ suc own
all_numerators own some =
    let again : suc (own - 1) ≡ own = omega (arith, some) in
    omega (arith, pow-suc 2 own, pow-suc 2 (own - 1), ap (λ (k : ℕ). 2 ^ k) again)

module _ (own j : ℕ) (some : 1 ≤ own) (in_row : j < 2 ^ (own - 1)) where
  abbrev second : ℕ
  second = 4 * j + 2

  second_inside : Inside own second
  second_inside = record { even = omega arith; pos = omega arith; below = omega (arith, in_row, all_numerators own some) }

  -- It has one factor of two: two of them would make it a multiple of four.
  one_two : twos second ≡ 1
  one_two =
      le_or_lt (twos second) 1
      (λ le. omega (arith, le, twos_pos own second second_inside))
      (λ more.
      let k : ℕ = twos second - 2 in
      let again : twos second ≡ k + 2 = omega (arith, more) in
      absurd
      (omega (
        arith,
        index_times own second second_inside,
        ap (λ (a : ℕ). parent_index second * 2 ^ a) again,
        ap (λ (x : ℕ). parent_index second * x) (pow-add 2 k 2),
        mul_assoc (parent_index second) (2 ^ k) 4,
      )))

  half_index : (parent_index second - 1) / 2 ≡ j
  half_index = omega (arith, index_times own second second_inside, ap (λ (a : ℕ). parent_index second * 2 ^ a) one_two)

  level_below : parent_level own second ≡ own - 1
  unfolding parent_level
  level_below = ap (λ (a : ℕ). own - a) one_two

-- ---- the parents inside the face

module _ (v : Subspace) (starts : List ℕ) where
  -- Their numbers differ as what the axes before add does.
  pub parent_along : (before beyond m : ℕ) → parent_from v starts before beyond m ≡ parent_from v starts 0 beyond m + before
  unfolding parent_from
  parent_along before beyond m = omega arith

  -- Every second of them has its parent one level up.
  pub parent_near : (before beyond j : ℕ) → 1 ≤ v.own → j < 2 ^ (v.own - 1) →
      parent_from v starts before beyond (4 * j + 2) ≡ at starts 1 + before + j * 2 ^ v.low + beyond * 2 ^ (v.low + v.own - 1)
  unfolding parent_from
  parent_near before beyond j some in_row =
      let up : v.low + parent_level v.own (4 * j + 2) ≡ v.low + v.own - 1 = omega (arith, level_below v.own j some in_row, some) in
      omega (
        arith,
        ap (at starts) (one_two v.own j some in_row),
        ap (λ (h : ℕ). h * 2 ^ v.low) (half_index v.own j some in_row),
        ap (λ (a : ℕ). beyond * 2 ^ a) up,
      )

-- ---- what lies beside a run

module _ {v : Subspace} (s : Seen v) (before e beyond : ℕ) (before_fits : before < 2 ^ v.low) (digit_fits : e < 2 ^ v.own)
    (there : number_in v before e beyond < v.end) where
  abbrev its_position : ℕ
  its_position = number_in v before e beyond - v.start

  position_is : its_position ≡ (beyond * 2 ^ v.own + e) * 2 ^ v.low + before
  position_is =
      omega (
        arith,
        add-mul (beyond * 2 ^ v.own) e (2 ^ v.low),
        mul_assoc beyond (2 ^ v.own) (2 ^ v.low),
        ap (λ (x : ℕ). beyond * x) (pow-add 2 v.low v.own ∙ mul_comm (2 ^ v.low) (2 ^ v.own)),
      )

  -- The digits of its position are those it was made of.
  before_digit : its_position % 2 ^ v.low ≡ before
  before_digit = ap (λ (q : ℕ). q % 2 ^ v.low) position_is ∙ low (beyond * 2 ^ v.own + e) v.low before_fits

  rest_digits : its_position / 2 ^ v.low ≡ beyond * 2 ^ v.own + e
  rest_digits = ap (λ (q : ℕ). q / 2 ^ v.low) position_is ∙ high (beyond * 2 ^ v.own + e) v.low before_fits

  own_digit_lem : own_digit v its_position ≡ e
  own_digit_lem = ap (λ (q : ℕ). q % 2 ^ v.own) rest_digits ∙ low beyond v.own digit_fits

  beyond_digit : beyond_of v its_position ≡ beyond
  beyond_digit = ap (λ (q : ℕ). q / 2 ^ v.own) rest_digits ∙ high beyond v.own digit_fits

  from : v.start ≤ number_in v before e beyond
  from = omega arith

  abbrev beside : Side → ℕ
  beside b = neighbour v.facet.line.shape v.facet.line.place b (suc (number_in v before e beyond))

  module _ (b : Side) where
    abbrev top : ℕ
    top = numerator b (2 * e + 1)

    by_digit : numerator b (2 * own_digit v its_position + 1) ≡ top
    by_digit = ap (λ (d : ℕ). numerator b (2 * d + 1)) own_digit_lem

    at_border : is_border v.own top ≡ true → beside b ≡ across_from v b before beyond
    at_border h =
        beside_border s (number_in v before e beyond) from there b (ap (is_border v.own) by_digit ∙ h)
        ∙ ap₂ (across_from v b) before_digit beyond_digit

    off_border : {starts : List ℕ} → Below v starts → is_border v.own top ≡ false → beside b ≡ suc (parent_from v starts before beyond top)
    off_border {starts} held h =
        beside_inner s (number_in v before e beyond) from there b held (ap (is_border v.own) by_digit ∙ h)
        ∙ ap₂ (λ (x y : ℕ). suc (parent_from v starts x y (numerator b (2 * own_digit v its_position + 1)))) before_digit beyond_digit
        ∙ ap (λ (m : ℕ). suc (parent_from v starts before beyond m)) by_digit

  left_top : top Left ≡ 2 * e
  left_top = omega arith

  right_top : top Right ≡ 2 * e + 2
  right_top = omega arith

  -- Across the border: before the first digit and after the last.
  pub left_border : e ≡ 0 → beside Left ≡ across_from v Left before beyond
  left_border first =
      let zero : top Left ≡ 0 = omega (arith, first) in
      at_border Left (ap (is_border v.own) zero ∙ border_low v.own)

  pub right_border : suc e ≡ 2 ^ v.own → beside Right ≡ across_from v Right before beyond
  right_border last =
      let full : top Right ≡ 2 ^ suc v.own = omega (arith, last, pow-suc 2 v.own) in
      at_border Right (ap (is_border v.own) full ∙ border_high v.own)

  -- Inside the face.
  module _ {starts : List ℕ} (held : Below v starts) where
    pub left_inner : 0 < e → beside Left ≡ suc (parent_from v starts before beyond (2 * e))
    left_inner some =
        let off : is_border v.own (2 * e) ≡ false = inner v.own (2 * e) (omega (arith, some)) (omega (arith, digit_fits, pow-suc 2 v.own)) in
        off_border Left held (ap (is_border v.own) left_top ∙ off) ∙ ap (λ (m : ℕ). suc (parent_from v starts before beyond m)) left_top

    pub right_inner : suc e < 2 ^ v.own → beside Right ≡ suc (parent_from v starts before beyond (2 * e + 2))
    right_inner more =
        let off : is_border v.own (2 * e + 2) ≡ false = inner v.own (2 * e + 2) (omega arith) (omega (arith, more, pow-suc 2 v.own)) in
        off_border Right held (ap (is_border v.own) right_top ∙ off) ∙ ap (λ (m : ℕ). suc (parent_from v starts before beyond m)) right_top

-- ---- blocks

module _ {v : Subspace} (s : Seen v) (beyond : ℕ) (there : v.start + beyond * 2 ^ (v.low + v.own) < v.end) where
  abbrev bits_beyond : ℕ
  bits_beyond = sum_to (at v.vector.levels) v.facet.axes - (v.low + v.own)

  blocks : 2 ^ sum_to (at v.vector.levels) v.facet.axes ≡ 2 ^ bits_beyond * 2 ^ (v.low + v.own)
  blocks =
      ap (λ (a : ℕ). 2 ^ a)
      (omega (
        arith,
        s.low,
        s.own,
        sum_to_suc (at v.vector.levels) v.facet.place,
        sum_to_mono (at v.vector.levels) (suc v.facet.place) v.facet.axes s.axis,
      ))
      ∙ pow-add 2 bits_beyond (v.low + v.own)

  beyond_fits : beyond < 2 ^ bits_beyond
  beyond_fits = lt_of_mul-lt-mul_right (2 ^ (v.low + v.own)) (omega (arith, there, s.end, blocks))

  pub beyond_small : beyond < 2 ^ 8
  beyond_small = omega (arith, beyond_fits, pow_mono {i = bits_beyond} {j = 8} (omega (arith, s.sum, s.top)))

  pub block_whole : v.start + suc beyond * 2 ^ (v.low + v.own) ≤ v.end
  block_whole =
      omega (
        arith,
        s.end,
        blocks,
        mul-le-mul_right {m = suc beyond} {n = 2 ^ bits_beyond} (2 ^ (v.low + v.own)) (omega (arith, beyond_fits)),
      )
