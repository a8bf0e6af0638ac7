-- The neighbours of a point of a level vector: from its position the digits of the axes before and beyond are read. Off the border the parent is found among the
-- points of its own level vector at the same digits, by the law of where a parent stands; that level vector is lower on the axis by the factors of two that were
-- dropped, so its first number is one of the list's, and it stands before the whole level vector, since its level sum is smaller. Across the border the digit of
-- the axis is gone.
-- Assumes nothing.
use mathlib.Core.Path.{◌≡◌, refl, ap, ap₂, sym, ◌∙◌}
use mathlib.Core.Bool.{true, false}
use mathlib.Core.Logic.{◌⊎◌, inl, inr}
use mathlib.Core.List.{List}
use Rattle.std.specs.Prelude.{Option, Some, None}
use Prim.Native.Nat.{ℕ, suc, ◌+◌, ◌-◌, ◌*◌, ◌/◌, ◌%◌, ◌^◌, ◌≤◌, ◌<◌}
use native.Mathlib.Nat.{div-div-eq-div-mul, mod-lt}
use native.Mathlib.Omega.{arith}
use lib.Pow.{pow_pos, pow-add}
use Rattle.naturals.specs.Sum.{sum_to}
use Rattle.naturals.proofs.Cases.{true_or_false}
use Rattle.naturals.proofs.Sums.{sum_to_suc, sum_to_mono}
use Rattle.numbering.specs.declared.Side.{Side}
use Rattle.numbering.specs.declared.Side.TheVariants.{Left, Right}
use Rattle.numbering.specs.Point.{at}
use Rattle.numbering.specs.Count.{points}
use Rattle.numbering.specs.Number.{position, first_of}
use Rattle.numbering.specs.Inverse.{level_at, index_of, index_at}
use Rattle.numbering.specs.Parent.{numerator, is_border, twos, parent_level, parent_index, update}
use Rattle.numbering.proofs.Position.{position_low}
use Rattle.numbering.proofs.Numbering.{start_mono, number_in_shell}
use Rattle.numbering.proofs.Named.{Named}
use Rattle.numbering.proofs.Subspaces.{first_is, number_from_first, indices_to, indices_in, block_point, block_position, block_below, block_levels, block_indices}
use Rattle.numbering.proofs.Parents.{border_means, Inside, inside, twos_pos, twos_le, update_other, update_sum, level_zero_border, parent_is_point, parent_sum}
use Rattle.numbering.proofs.ParentPlaces.{moved_position}
use Rattle.shapes.specs.Shapes.{points_of}
use Rattle.grids.specs.Grids.{neighbour}
use Rattle.neighbours.specs.declared.facets.Rims.{Rims}
use Rattle.neighbours.specs.declared.subspaces.Subspace.{Subspace}
use Rattle.neighbours.specs.Facets.{on_border, parent_number, number_without, without, across, moved_on, Apart}
use Rattle.neighbours.specs.Steps.{Below, parent_from, across_from}
use Rattle.neighbours.proofs.Seeing.{Seen}

-- Between the first numerator and the last there is no border.
pub inner : (own m : ℕ) → 0 < m → m < 2 ^ suc own → is_border own m ≡ false
inner own m pos below =
    true_or_false (is_border own m)
    (λ there. absurd (off (border_means own m there)))
    (λ off_border. off_border)
  where
    off : (m ≡ 0) ⊎ (m ≡ 2 ^ suc own) → ⊥
    off (inl first) = omega (arith, pos, first)
    off (inr last) = omega (arith, below, last)

-- The digit of the axis in a position, and the number that the axes beyond it add.
abbrev pub own_digit : Subspace → ℕ → ℕ
own_digit v q = q / 2 ^ v.low % 2 ^ v.own

abbrev pub beyond_of : Subspace → ℕ → ℕ
beyond_of v q = q / 2 ^ v.low / 2 ^ v.own

-- Across the border of a level vector as across that of the face: what the first numbers add is added once.
pub across_added : (rims : Option Rims) (b : Side) (x y : ℕ) → across (moved_on rims x) b y ≡ across rims b (x + y)
unfolding across moved_on
across_added None b x y = refl
across_added (Some rims) Left x y = omega arith
across_added (Some rims) Right x y = omega arith

-- A level vector has few bits up to the axis.
pub bits : {v : Subspace} → Seen v → v.low + v.own ≤ 8
bits {v} s =
    omega (
      arith,
      s.low,
      s.own,
      sum_to_suc (at v.vector.levels) v.facet.place,
      sum_to_mono (at v.vector.levels) (suc v.facet.place) v.facet.axes s.axis,
      s.sum,
      s.top,
    )

-- It ends within the face, and so within the table.
pub end_in_face : {v : Subspace} → Seen v → v.end ≤ v.facet.base + points v.facet.axes v.facet.line.shape.level
end_in_face {v} s =
    let size : ℕ = 2 ^ sum_to (at v.vector.levels) v.facet.axes in
    let some : 0 < size = pow_pos (sum_to (at v.vector.levels) v.facet.axes) in
    omega (
      arith,
      s.start,
      s.end,
      some,
      block_below v.facet.axes v.facet.line.shape.level (at v.vector.levels) s.rest s.sum (size - 1) (omega (arith, some)),
    )

pub end_inside : {v : Subspace} → Seen v → v.end ≤ points_of v.facet.line.shape
end_inside {v} s = omega (arith, end_in_face s, v.facet.sits.inside)

-- The level vectors below it.
module _ {v : Subspace} {starts : List ℕ} (s : Seen v) (held : Below v starts) (j : ℕ) (some : 1 ≤ j) (most : j ≤ v.own) where
  abbrev lowered : ℕ → ℕ
  lowered = update (at v.vector.levels) v.facet.place (v.own - j)

  lowered_rest : (u : ℕ) → v.facet.axes ≤ u → lowered u ≡ 0
  lowered_rest u past = update_other (at v.vector.levels) v.facet.place (v.own - j) u (λ same. omega (arith, s.axis)) ∙ s.rest u past

  lowered_sum : sum_to lowered v.facet.axes + j ≡ sum_to (at v.vector.levels) v.facet.axes
  lowered_sum = omega (arith, update_sum (at v.vector.levels) v.facet.place (v.own - j) v.facet.axes s.axis, s.own, most)

  -- Their numbers are small.
  pub first_small : at starts j < 2 ^ 32
  first_small =
      omega (
        arith,
        held.first j some most,
        block_below v.facet.axes v.facet.line.shape.level lowered lowered_rest (omega (arith, lowered_sum, s.sum)) 0 (pow_pos (sum_to lowered v.facet.axes)),
        v.facet.sits.inside,
        v.facet.line.small,
      )

-- Point number p of a level vector.
module _ {v : Subspace} (s : Seen v) (p : ℕ) (from : v.start ≤ p) (to : p < v.end) where
  -- Its levels and indices, and how many points of the face come before it.
  abbrev l : ℕ → ℕ
  l = at v.vector.levels

  abbrev i : ℕ → ℕ
  i = indices_to v.facet.axes (at v.vector.levels) (p - v.start)

  abbrev q : ℕ
  q = first_of v.facet.axes (at v.vector.levels) + (p - v.start)

  inside_vector : p - v.start < 2 ^ sum_to (at v.vector.levels) v.facet.axes
  inside_vector = omega (arith, s.end)

  number_is : v.facet.base + q ≡ p
  number_is = omega (arith, s.start)

  named : Named v.facet.axes v.facet.line.shape.level l i
  named = block_point v.facet.axes v.facet.line.shape.level (at v.vector.levels) s.rest s.sum (p - v.start) inside_vector

  below : q < points v.facet.axes v.facet.line.shape.level
  below = block_below v.facet.axes v.facet.line.shape.level (at v.vector.levels) s.rest s.sum (p - v.start) inside_vector

  levels_are : level_at v.facet.axes v.facet.line.shape.level q ≡ l
  levels_are = block_levels v.facet.axes v.facet.line.shape.level (at v.vector.levels) s.rest s.sum (p - v.start) inside_vector

  indices_are : index_at v.facet.axes v.facet.line.shape.level q ≡ i
  indices_are = block_indices v.facet.axes v.facet.line.shape.level (at v.vector.levels) s.rest s.sum (p - v.start) inside_vector

  index_is : i v.facet.place ≡ 2 * own_digit v (p - v.start) + 1
  unfolding index_of
  index_is =
      indices_in v.facet.axes (at v.vector.levels) (p - v.start) v.facet.place s.axis
      ∙ ap₂ (λ (a b : ℕ). 2 * ((p - v.start) / 2 ^ a % 2 ^ b) + 1) (sym s.low) (sym s.own)

  -- What the axes before and beyond add to its position.
  before_is : position l i v.facet.place ≡ (p - v.start) % 2 ^ v.low
  before_is =
      sym (position_low named.point v.facet.place v.facet.axes (omega (arith, s.axis)) (omega arith))
      ∙ ap₂ (λ (q a : ℕ). q % 2 ^ a)
      (block_position v.facet.axes v.facet.line.shape.level (at v.vector.levels) s.rest s.sum (p - v.start) inside_vector) (sym s.low)

  through : sum_to l (suc v.facet.place) ≡ v.low + v.own
  through = omega (arith, sum_to_suc (at v.vector.levels) v.facet.place, s.low, s.own)

  beyond_is : position l i v.facet.axes / 2 ^ sum_to l (suc v.facet.place) ≡ beyond_of v (p - v.start)
  beyond_is =
      ap₂ (λ (q a : ℕ). q / 2 ^ a)
      (block_position v.facet.axes v.facet.line.shape.level (at v.vector.levels) s.rest s.sum (p - v.start) inside_vector) through
      ∙ ap (λ (x : ℕ). (p - v.start) / x) (pow-add 2 v.low v.own)
      ∙ sym (div-div-eq-div-mul (p - v.start) (2 ^ v.low) (2 ^ v.own))

  module _ (b : Side) where
    abbrev top : ℕ
    top = numerator b (i v.facet.place)

    abbrev beside : ℕ
    beside = neighbour v.facet.line.shape v.facet.line.place b (suc p)

    -- Which of the two it is, as the face says.
    border_is : on_border v.facet.place b (level_at v.facet.axes v.facet.line.shape.level q) (index_at v.facet.axes v.facet.line.shape.level q) ≡ is_border v.own top
    border_is =
        ap₂ (λ (l i : ℕ → ℕ). on_border v.facet.place b l i) levels_are indices_are
        ∙ ap (λ (o : ℕ). is_border o top) (sym s.own)

    there : neighbour v.facet.line.shape v.facet.line.place b (suc (v.facet.base + q)) ≡ beside
    there = ap (λ (p : ℕ). neighbour v.facet.line.shape v.facet.line.place b (suc p)) number_is

    -- Across the border.
    at_border : is_border v.own top ≡ true → beside ≡ across_from v b ((p - v.start) % 2 ^ v.low) (beyond_of v (p - v.start))
    at_border e =
        sym there
        ∙ v.facet.sits.outer q below b (border_is ∙ e)
        ∙ ap₂ (λ (l i : ℕ → ℕ). across v.facet.rims b (number_without v.facet.axes v.facet.place l i)) levels_are indices_are
        ∙ ap (λ (x : ℕ). across v.facet.rims b (first_of (v.facet.axes - 1) (without v.facet.place l) + x))
        (ap₂ (λ (x y : ℕ). x + y * 2 ^ sum_to l v.facet.place) before_is beyond_is
        ∙ omega (arith, ap (λ (a : ℕ). beyond_of v (p - v.start) * 2 ^ a) s.low))
        ∙ sym (across_added v.facet.rims b _ _)

    -- Inside the face.
    module _ (e : is_border v.own top ≡ false) where
      between_borders : Inside v.own top
      between_borders = rw s.own (inside b (l v.facet.place) _ (named.point.odd v.facet.place s.axis) (named.point.below v.facet.place s.axis) (rw s.own at e))

      beside_number : beside ≡ suc (v.facet.base + parent_number v.facet.axes v.facet.place b l i)
      beside_number =
          sym there
          ∙ v.facet.sits.inner q below b (border_is ∙ e)
          ∙ ap₂ (λ (l i : ℕ → ℕ). suc (v.facet.base + parent_number v.facet.axes v.facet.place b l i)) levels_are indices_are

      first_below : {starts : List ℕ} → Below v starts →
          v.facet.base + first_of v.facet.axes (update l v.facet.place (parent_level v.own top)) ≡ at starts (twos top)
      unfolding parent_level
      first_below held = sym (held.first (twos top) (twos_pos v.own top between_borders) (twos_le v.own top between_borders))

      off_border : {starts : List ℕ} → Below v starts → beside ≡ suc (parent_from v starts ((p - v.start) % 2 ^ v.low) (beyond_of v (p - v.start)) top)
      unfolding parent_from
      off_border {starts} held =
          let k : ℕ = parent_level v.own top in
          let own : parent_level (l v.facet.place) top ≡ k = ap (λ (o : ℕ). parent_level o top) (sym s.own) in
          omega (
            arith,
            beside_number,
            number_from_first v.facet.axes (update l v.facet.place (parent_level (l v.facet.place) top)) (update i v.facet.place (parent_index top)),
            ap (λ (k : ℕ). first_of v.facet.axes (update l v.facet.place k)) own,
            first_below held,
            moved_position l i v.facet.place (parent_level (l v.facet.place) top) (parent_index top) named.point s.axis,
            before_is,
            ap (λ (a : ℕ). (parent_index top - 1) / 2 * 2 ^ a) s.low,
            ap (λ (a : ℕ). position l i v.facet.axes / 2 ^ sum_to l (suc v.facet.place) * 2 ^ (sum_to l v.facet.place + a)) own,
            ap₂ (λ (q a : ℕ). q * 2 ^ (a + k)) beyond_is (sym s.low),
          )

      -- It stands before the level vector.
      inner_before : beside ≤ v.start
      inner_before =
          let own : is_border (l v.facet.place) top ≡ false = rw s.own at e in
          omega (
            arith,
            beside_number,
            number_in_shell (parent_is_point named.point v.facet.place s.axis b own),
            start_mono v.facet.axes _ _ (parent_sum named.point v.facet.place s.axis b own),
            first_is v.facet.axes (at v.vector.levels),
            s.start,
          )

    -- Each stands apart from the level vector.
    pub beside_apart : Apart (neighbour v.facet.line.shape) v.facet.line.place v.facet.base v.start v.end beside
    beside_apart =
        true_or_false (is_border v.own top)
        (λ e some.
        let apart = v.facet.sits.apart q below b (border_is ∙ e) (omega (arith, there, some)) in
        let behind = apart.1 apart.0 in
        (omega (arith, there, apart.0), λ more. (omega (arith, there, behind.0, end_in_face s), rw there at behind.1)))
        (λ e some. (omega (arith, beside_number e), λ more. absurd (omega (arith, inner_before e, more))))

    -- Both by the digit of the axis.
    abbrev at_digit : ℕ
    at_digit = numerator b (2 * own_digit v (p - v.start) + 1)

    by_digit : top ≡ at_digit
    by_digit = ap (numerator b) index_is

    pub beside_border : is_border v.own at_digit ≡ true → beside ≡ across_from v b ((p - v.start) % 2 ^ v.low) (beyond_of v (p - v.start))
    beside_border e = at_border (ap (is_border v.own) by_digit ∙ e)

    pub beside_inner : {starts : List ℕ} → Below v starts → is_border v.own at_digit ≡ false →
        beside ≡ suc (parent_from v starts ((p - v.start) % 2 ^ v.low) (beyond_of v (p - v.start)) at_digit)
    beside_inner {starts} held e =
        off_border (ap (is_border v.own) by_digit ∙ e) held
        ∙ ap (λ (m : ℕ). suc (parent_from v starts ((p - v.start) % 2 ^ v.low) (beyond_of v (p - v.start)) m)) by_digit

    -- At level 0 of the axis the border lies on both sides.
    pub beside_flat : v.own ≡ 0 → beside ≡ across_from v b ((p - v.start) % 2 ^ v.low) (beyond_of v (p - v.start))
    beside_flat flat =
        let one : 2 ^ v.own ≡ 1 = ap (λ (o : ℕ). 2 ^ o) flat in
        let none : own_digit v (p - v.start) < 1 = omega (arith, mod-lt ((p - v.start) / 2 ^ v.low) (pow_pos v.own), one) in
        beside_border
        (ap (λ (o : ℕ). is_border o at_digit) flat
        ∙ level_zero_border b (2 * own_digit v (p - v.start) + 1) (omega arith) (omega (arith, none)))
