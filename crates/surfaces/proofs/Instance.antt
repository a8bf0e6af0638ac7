-- Numbered points have hat functions, with a zero border or with values on it: the axis weights of the points at each other. A neighbour lies at the numerator
-- beside its point's, across a border too; a zero border there counts 0, as the weight at 0 and at the unit is; a border point's neighbours count 0, and only its own
-- weight is not 0 there. So the identity on one axis is that of the grid.
-- Assumes nothing.
use mathlib.Core.Path.{◌≡◌, refl, ap, ap₂, sym, ◌∙◌}
use mathlib.Core.Logic.{◌⊎◌, inl, inr, ⊎_elim}
use mathlib.Core.Bool.{Bool, true, false, ◌&&◌}
use Prim.Native.Nat.{ℕ, zero, suc, ◌+◌, ◌*◌, ◌%◌, ◌^◌, ◌<◌}
use native.Mathlib.Nat.{mul_comm, zero-mul}
use native.Mathlib.Omega.{arith}
use lib.Dec.{eqb}
use borrow.Author.Tests.{eq-eqb, eqb-true}
use Rattle.naturals.proofs.Cases.{eq_or_not, true_or_false}
use Rattle.naturals.proofs.Tests.{and_left, and_right}
use Rattle.numbering.specs.declared.Side.{Side}
use Rattle.numbering.specs.declared.Side.TheVariants.{Left, Right}
use Rattle.numbering.specs.Parent.{numerator, is_border, parent_level, parent_index}
use Rattle.numbering.proofs.Parents.{border_means, inside, update_same, update_other}
use Rattle.numbering.proofs.Parents as P
use Rattle.numbered.specs.Numbered.{mark_of, Numbered, Numbering}
use Rattle.numbered.specs.Neighbours.{neighbour}
use Rattle.numbered.proofs.Beside.{numerator_on, parent_levels, parent_indices, across_marks, across_levels, across_indices, still_there, to_border, to_across, to_parent, none_or_point, parent_there, across_there}
use Rattle.numbered.proofs.Instance.{same_point}
use Rattle.shapes.specs.declared.Shape.{Shape}
use Rattle.shapes.specs.Shapes.{points_of}
use Rattle.grids.specs.Grids.{numbered}
use Rattle.grids.specs.Grids as grids
use Rattle.grids.proofs.Points.{level_le, numbering}
use Rattle.grids.proofs.Instance.{neighbours_of}
use Rattle.interpolation.specs.Hats.{Hats, indicator}
use Rattle.surfaces.specs.Weights.{unit, coordinate, weight, axis_coordinate, axis_weight}
use Rattle.surfaces.specs.Surface.{coordinates_in, weight_in}
use Rattle.surfaces.specs.Lines.{same_in}
use Rattle.surfaces.proofs.Unit.{unit_bits, unit_is, WholeCoordinates, unit_splits, coordinate_is}
use Rattle.surfaces.proofs.Hat.{weight_low, weight_high}
use Rattle.surfaces.proofs.AxisHat.{OnAxis, agree, weight_inside, coordinate_inside, coordinate_lower, coordinate_upper, hat_inside, hat_lower, hat_upper}

-- The weight of point number p on axis t at a code: 0 at the zero border, at code q + 1 that at the coordinates of point number q, in the unit u.
unfoldable pub grid_weight : ℕ → Numbered → ℕ → ℕ → ℕ → ℕ
grid_weight u g t p zero = 0
grid_weight u g t p (suc q) = weight_in u g (coordinates_in u g q) p t

-- Point number p and a code have the same mark, level and index on axis t.
unfoldable pub grid_same : Numbered → ℕ → ℕ → ℕ → Bool
grid_same g t p zero = false
grid_same g t p (suc q) = same_in g p q t

-- A border on one side lies at its numerator, m shares of the unit.
border_place : (u : ℕ) (b : Side) (l i v : ℕ) → v * 2 ^ suc l ≡ u → i % 2 ≡ 1 → i < 2 ^ suc l → is_border l (numerator b i) ≡ true →
    axis_coordinate u (mark_of b) 0 1 ≡ numerator b i * v
border_place u Left l i v whole odd below e =
    ⊎_elim
    (λ low. coordinate_lower u 0 1 ∙ sym (ap (λ (m : ℕ). m * v) low ∙ zero-mul v))
    (λ high. absurd (omega arith))
    (border_means l (numerator Left i) e)
border_place u Right l i v whole odd below e =
    ⊎_elim
    (λ low. absurd (omega arith))
    (λ high. coordinate_upper u 0 1 0 ∙ sym (ap (λ (m : ℕ). m * v) high ∙ mul_comm (2 ^ suc l) v ∙ whole))
    (border_means l (numerator Right i) e)

module _ (u : ℕ) {g : Numbered} {Point : (ℕ → ℕ) → (ℕ → ℕ) → (ℕ → ℕ) → Type 0} (n : Numbering g Point) where
  weight_none : (t p : ℕ) → grid_weight u g t p 0 ≡ 0
  unfolding grid_weight
  weight_none t p = refl

  -- The weight of point number p on axis t at a coordinate.
  abbrev weight_to : ℕ → ℕ → ℕ → ℕ
  weight_to t p y = axis_weight u y (g.mark p t) (g.level p t) (g.index p t)

  weight_at_lem : (t p q : ℕ) → grid_weight u g t p (suc q) ≡ weight_to t p (axis_coordinate u (g.mark q t) (g.level q t) (g.index q t))
  unfolding grid_weight weight_in coordinates_in
  weight_at_lem t p q = refl

  -- Whether point number p has this mark, level and index on axis t.
  abbrev agrees : ℕ → ℕ → ℕ → ℕ → ℕ → Bool
  agrees t p = agree (g.mark p t) (g.level p t) (g.index p t)

  same_at : (t p q : ℕ) → grid_same g t p (suc q) ≡ agrees t p (g.mark q t) (g.level q t) (g.index q t)
  unfolding grid_same same_in
  same_at t p q = refl

  -- Both read the mark, level and index of the code on axis t alone.
  module _ (t p : ℕ) {m l i : ℕ → ℕ} (x : Point m l i) where
    weight_named : grid_weight u g t p (suc (g.number m l i)) ≡ weight_to t p (axis_coordinate u (m t) (l t) (i t))
    weight_named = weight_at_lem t p (g.number m l i) ∙ rw (n.marks_again x, n.levels_again x, n.indices_again x)

    same_named : grid_same g t p (suc (g.number m l i)) ≡ agrees t p (m t) (l t) (i t)
    same_named = same_at t p (g.number m l i) ∙ rw (n.marks_again x, n.levels_again x, n.indices_again x)

  pub on_axis : (p : ℕ) → p < g.count → (t : ℕ) → t < g.axes → OnAxis (g.mark p t) (g.level p t) (g.index p t)
  on_axis p h t axis =
      let x = n.point_at p h in
      record {
        mark = n.mark_le x t axis;
        odd = n.odd x t axis;
        below = n.below x t axis;
        level = n.border_level x t axis;
        index = n.border_index x t axis;
      }

  -- ---- a move on axis a

  module _ (a : ℕ) (b : Side) (q : ℕ) where
    -- On another axis nothing changes.
    module _ (t p : ℕ) (other : t ≡ a → ⊥) (some : neighbour g a b (suc q) ≡ 0 → ⊥) where
      abbrev Still : ℕ → Type 0
      Still r = (grid_weight u g t p r ≡ grid_weight u g t p (suc q)) × (grid_same g t p r ≡ grid_same g t p (suc q))

      point_still : (m l i : ℕ → ℕ) → Point m l i → m t ≡ g.mark q t → l t ≡ g.level q t → i t ≡ g.index q t → Still (suc (g.number m l i))
      point_still m l i x em el ei = (
        weight_named t p x
            ∙ ap (λ (c : ℕ). weight_to t p (axis_coordinate u c (l t) (i t))) em
            ∙ ap₂ (λ (k j : ℕ). weight_to t p (axis_coordinate u (g.mark q t) k j)) el ei
            ∙ sym (weight_at_lem t p q),
        same_named t p x
            ∙ ap (λ (c : ℕ). agrees t p c (l t) (i t)) em
            ∙ ap₂ (λ (k j : ℕ). agrees t p (g.mark q t) k j) el ei
            ∙ sym (same_at t p q),
      )

      both_still : Still (neighbour g a b (suc q))
      both_still =
          none_or_point g a b q
          (λ none. absurd (some none))
          (λ h axis inside e.
          rw (to_parent g a b q h axis inside e)
          (point_still (g.mark q) (parent_levels g a b q) (parent_indices g a b q) (parent_there n a b q h axis inside e) refl
          (update_other (g.level q) a _ t other)
          (update_other (g.index q) a _ t other)))
          (λ h axis inside e on.
          rw (to_across g a b q h axis inside e on)
          (point_still (across_marks g a b q) (across_levels g a b q) (across_indices g a b q) (across_there n a b q h axis inside on)
          (update_other (g.mark q) a _ t other)
          (update_other (g.level q) a _ t other)
          (update_other (g.index q) a _ t other)))

    -- On its own axis the weight is that at the neighbour's numerator.
    module _ (p v : ℕ) (p_in : p < g.count) (h : q < g.count) (axis : a < g.axes) (inside_q : g.mark q a ≡ 0)
        (whole : v * 2 ^ suc (g.level q a) ≡ u) where
      abbrev beside_q : ℕ
      beside_q = numerator_on g a b q * v

      its_axis : OnAxis (g.mark q a) (g.level q a) (g.index q a)
      its_axis = on_axis q h a axis

      -- With a zero border the weight is 0 there.
      zero_weight : g.border ≡ false → is_border (g.level q a) (numerator_on g a b q) ≡ true → weight_to a p beside_q ≡ 0
      zero_weight off e =
          weight_inside u beside_q (g.level p a) (g.index p a) (g.mark p a) (n.only (n.point_at p p_in) off a axis)
          ∙ ends (border_means (g.level q a) (numerator_on g a b q) e)
        where
          ends : (numerator_on g a b q ≡ 0) ⊎ (numerator_on g a b q ≡ 2 ^ suc (g.level q a)) → weight u beside_q (g.level p a) (g.index p a) ≡ 0
          ends (inl low) = rw (low, zero-mul v) (weight_low u (g.level p a) (g.index p a) (omega (arith, (on_axis p p_in a axis).odd)))
          ends (inr high) =
              rw (high, mul_comm (2 ^ suc (g.level q a)) v, whole) (weight_high u (g.level p a) (g.index p a) (on_axis p p_in a axis).below)

      across_weight : is_border (g.level q a) (numerator_on g a b q) ≡ true → g.border ≡ true →
          grid_weight u g a p (neighbour g a b (suc q)) ≡ weight_to a p beside_q
      across_weight e on =
          ap (grid_weight u g a p) (to_across g a b q h axis inside_q e on)
          ∙ weight_named a p (across_there n a b q h axis inside_q on)
          ∙ rw (update_same (g.mark q) a (mark_of b), update_same (g.level q) a 0, update_same (g.index q) a 1)
          (ap (weight_to a p) (border_place u b (g.level q a) (g.index q a) v whole its_axis.odd its_axis.below e))

      inner_weight : is_border (g.level q a) (numerator_on g a b q) ≡ false →
          grid_weight u g a p (neighbour g a b (suc q)) ≡ weight_to a p beside_q
      inner_weight e =
          let l : ℕ = g.level q a in
          let m : ℕ = numerator_on g a b q in
          ap (grid_weight u g a p) (to_parent g a b q h axis inside_q e)
          ∙ weight_named a p (parent_there n a b q h axis inside_q e)
          ∙ ap (weight_to a p)
          (coordinate_inside u (parent_levels g a b q a) (parent_indices g a b q a) (g.mark q a) inside_q
          ∙ ap₂ (coordinate u) (update_same (g.level q) a _) (update_same (g.index q) a _)
          ∙ coordinate_is u l m (parent_level l m) (parent_index m) v whole
          (P.coordinate l m (inside b l (g.index q a) its_axis.odd its_axis.below e)))

      weight_beside : grid_weight u g a p (neighbour g a b (suc q)) ≡ weight_to a p beside_q
      weight_beside =
          true_or_false (is_border (g.level q a) (numerator_on g a b q))
          (λ e.
          true_or_false g.border (across_weight e)
          (λ off. ap (grid_weight u g a p) (to_border g a b q h axis inside_q e off) ∙ weight_none a p ∙ sym (zero_weight off e)))
          inner_weight

  -- ---- the record

  agree_itself : (t p : ℕ) → grid_same g t p (suc p) ≡ true
  agree_itself t p =
      same_at t p p
      ∙ rw (eq-eqb (g.mark p t) (g.mark p t) refl, eq-eqb (g.level p t) (g.level p t) refl, eq-eqb (g.index p t) (g.index p t) refl)

  agree_one : (p q : ℕ) → p < g.count → q < g.count → ((t : ℕ) → t < g.axes → grid_same g t p (suc q) ≡ true) → p ≡ q
  agree_one p q p_in q_in same =
      same_point n p q p_in q_in
      (λ t axis. eqb-true (g.mark p t) (g.mark q t) (and_left _ _ (all_three t axis)))
      (λ t axis. eqb-true (g.level p t) (g.level q t) (and_left _ _ (last_two t axis)))
      (λ t axis. eqb-true (g.index p t) (g.index q t) (and_right (eqb (g.level p t) (g.level q t)) _ (last_two t axis)))
    where
      all_three : (t : ℕ) → t < g.axes → agrees t p (g.mark q t) (g.level q t) (g.index q t) ≡ true
      all_three t axis = sym (same_at t p q) ∙ same t axis

      last_two : (t : ℕ) → t < g.axes → eqb (g.level p t) (g.level q t) && eqb (g.index p t) (g.index q t) ≡ true
      last_two t axis = and_right (eqb (g.mark p t) (g.mark q t)) _ (all_three t axis)

  abbrev HatAt : ℕ → ℕ → ℕ → Type 0
  HatAt t p q =
      grid_weight u g t p (suc q) + grid_weight u g t p (suc q)
      ≡ grid_weight u g t p (neighbour g t Left (suc q)) + grid_weight u g t p (neighbour g t Right (suc q))
      + indicator (grid_same g t p (suc q)) * (u + u)

  module _ (t p q : ℕ) (axis : t < g.axes) (p_in : p < g.count) (q_in : q < g.count) where
    -- Point number q lies on a border.
    none_beside : (b : Side) → 0 < g.mark q t → grid_weight u g t p (neighbour g t b (suc q)) ≡ 0
    none_beside b marked = ap (grid_weight u g t p) (still_there g t b q q_in axis marked) ∙ weight_none t p

    border_hat : (c : ℕ) → g.mark q t ≡ c → 0 < c → HatAt t p q
    border_hat zero e some = absurd (omega arith)
    border_hat (suc zero) e some =
        let x = on_axis q q_in t axis in
        rw (
          none_beside Left (omega arith),
          none_beside Right (omega arith),
          weight_at_lem t p q,
          same_at t p q,
          e,
          x.level (omega arith),
          x.index (omega arith),
          coordinate_lower u 0 1,
        )
        (omega (arith, hat_lower u (g.mark p t) (g.level p t) (g.index p t) (on_axis p p_in t axis)))
    border_hat (suc (suc zero)) e some =
        let x = on_axis q q_in t axis in
        rw (
          none_beside Left (omega arith),
          none_beside Right (omega arith),
          weight_at_lem t p q,
          same_at t p q,
          e,
          x.level (omega arith),
          x.index (omega arith),
          coordinate_upper u 0 1 0,
        )
        (omega (arith, hat_upper u (g.mark p t) (g.level p t) (g.index p t) (on_axis p p_in t axis)))
    border_hat (suc (suc (suc c))) e some = absurd (omega (arith, (on_axis q q_in t axis).mark))

  module _ (bits : ℕ) (binary : u ≡ 2 ^ bits) where
    inner_hat : WholeCoordinates bits g → (t p q : ℕ) → t < g.axes → p < g.count → q < g.count → g.mark q t ≡ 0 → HatAt t p q
    inner_hat whole t p q axis p_in q_in inside_q =
        let part = unit_splits u bits (suc (g.level q t)) binary (whole q t q_in axis) in
        let v : ℕ = part.share in
        rw (
          weight_at_lem t p q,
          same_at t p q,
          weight_beside t Left q p v p_in q_in axis inside_q part.whole,
          weight_beside t Right q p v p_in q_in axis inside_q part.whole,
          inside_q,
          coordinate_inside u (g.level q t) (g.index q t) 0 refl,
          coordinate_is u (g.level q t) (g.index q t) (g.level q t) (g.index q t) v part.whole refl,
        )
        (hat_inside u (g.mark p t) (g.level p t) (g.index p t) (on_axis p p_in t axis) (g.level q t) (g.index q t) v
        (on_axis q q_in t axis).odd
        (on_axis q q_in t axis).below
        part.whole)

    grid_hat : WholeCoordinates bits g → (t p q : ℕ) → t < g.axes → p < g.count → q < g.count → HatAt t p q
    grid_hat whole t p q axis p_in q_in =
        eq_or_not (g.mark q t) 0
        (inner_hat whole t p q axis p_in q_in)
        (λ marked. border_hat t p q axis p_in q_in (g.mark q t) refl (omega arith))

    pub hats_in : WholeCoordinates bits g → Hats g.count g.axes u (neighbour g) (grid_weight u g) (grid_same g)
    hats_in whole =
        record {
          none = weight_none;
          still = λ t a b p q axis other ne p_in q_in some. (both_still a b q t p ne some).0;
          still_same = λ t a b p q axis other ne p_in q_in some. (both_still a b q t p ne some).1;
          hat = grid_hat whole;
          itself = λ t p axis p_in. agree_itself t p;
          one_point = agree_one;
        }

-- Those of a shape whose top level is below the bits of the unit.
pub shape_coordinates : (s : Shape) → s.level < unit_bits → WholeCoordinates unit_bits (numbered s)
shape_coordinates s few p t p_in axis = omega (arith, level_le s p p_in t axis)

pub hats : (s : Shape) → s.level < unit_bits → Hats (points_of s) s.axes unit (grids.neighbour s) (grid_weight unit (numbered s)) (grid_same (numbered s))
hats s few = rw neighbours_of (hats_in unit (numbering s) unit_bits unit_is (shape_coordinates s few))
