-- The points of a band's lines with one place on the turned axis: they are a band of positions, so many times the axis's stride after the first one, and their parents
-- lie as far away as the place reaches. So lowering the band turns them. True since a step on an axis changes the place there alone.
-- Assumes nothing.
use mathlib.Core.List.{List}
use mathlib.Core.Path.{◌≡◌, refl, ap, ap₂, sym, ◌∙◌}
use Prim.Native.Nat.{ℕ, suc, ◌+◌, ◌-◌, ◌*◌, ◌^◌, ◌≤◌, ◌<◌}
use native.Mathlib.Nat.{add-mul, one-mul, mul_comm, mul-le-mul_right}
use native.Mathlib.Omega.{arith}
use lib.IntN.{ℤ, ◌+ℤ◌, ◌-ℤ◌}
use lib.Pow.{pow-add, pow_pos}
use Rattle.std.specs.Prelude.{Some, None}
use Rattle.std.proofs.Math.Logic.{∥∥₁_elim}
use Rattle.std.proofs.Props.{props}
use Rattle.naturals.proofs.Cases.{eq_or_not}
use Rattle.integers.specs.Half.{half}
use Rattle.numbering.specs.declared.Side.{Side}
use Rattle.numbering.specs.declared.Side.TheVariants.{Left, Right}
use Rattle.numbering.specs.Parent.{twos}
use Rattle.numbering.specs.Point.{at}
use Rattle.hierarchy.specs.Grid.{Still}
use Rattle.hierarchy.specs.Turns.{value_at, sum_on, forward}
use Rattle.hierarchy.proofs.Still.{forward_still}
use Rattle.hierarchy.proofs.Values.{value_zero}
use Rattle.component_grids.specs.Component.{points_to, neighbour}
use Rattle.component_grids.proofs.Places.{Shifted, place_low, place_high, shift_up, shift_down}
use Rattle.component_grids.proofs.Beside.{reach, moved, reach_le, reach_high, beside, left_none_lem, left_some_lem, right_none_lem, right_some_lem}
use Rattle.component_boxes.proofs.Fitting.{times_on, on_multiple}
use Rattle.component_sweeps.specs.declared.Parents.{Parents}
use Rattle.component_sweeps.specs.declared.axis.Sweep.{Sweep}
use Rattle.component_sweeps.specs.Steps.{behind, ahead, lowered, Band, CanBand, LoweredOn, Turn, place_on, middle, InBox, Asked, Turned, Ground, Row, Along, First, ParentsAt, Covers}
use Rattle.component_sweeps.specs.SweepSteps.{turn}
use Rattle.component_sweeps.proofs.Apart.{Apart}
use Rattle.component_sweeps.proofs.Bounds.{known, unit_near}
use Rattle.component_sweeps.proofs.Reaching.{below_next}
use Rattle.component_sweeps.proofs.Lowering.{none_or_some}

module _ (g : Turn) (ground : Ground g) where
  -- ---- the box

  -- It lies between the borders of each axis.
  pub box_low : (u : ℕ) → u < g.axes → 2 ^ g.levels u ≤ middle g u
  box_low u axis =
      let n = times_on g.axes g.tops g.levels g.centre u in
      let aligned = on_multiple g.axes g.tops g.levels g.centre ground.fits u axis in
      eq_or_not n 0
      (λ e. absurd (omega (arith, aligned, ap (λ (x : ℕ). x * 2 ^ g.levels u) e, place_low g.tops g.centre u)))
      (λ ne.
      omega (
        arith,
        aligned,
        mul-le-mul_right {m = 1} {n = n} (2 ^ g.levels u) (omega arith),
        one-mul (2 ^ g.levels u),
      ))

  pub box_high : (u : ℕ) → u < g.axes → middle g u + 2 ^ g.levels u ≤ 2 ^ suc (g.tops u)
  box_high u axis =
      let k = g.levels u in
      let n = times_on g.axes g.tops g.levels g.centre u in
      let aligned = on_multiple g.axes g.tops g.levels g.centre ground.fits u axis in
      let rest = suc (g.tops u) - k in
      let parts : suc (g.tops u) ≡ rest + k = omega (arith, ground.fits.within u axis) in
      let whole : 2 ^ suc (g.tops u) ≡ 2 ^ rest * 2 ^ k = ap (λ (x : ℕ). 2 ^ x) parts ∙ pow-add 2 rest k in
      let less : n < 2 ^ rest =
      below_next n (2 ^ rest) (2 ^ k) (middle g u) (omega (arith, aligned)) (omega (arith, place_high g.tops g.centre u)) in
      omega (
        arith,
        aligned,
        mul-le-mul_right {m = suc n} {n = 2 ^ rest} (2 ^ k) less,
        add-mul n 1 (2 ^ k),
        one-mul (2 ^ k),
      )

  -- A point of the box that steps on an axis, within the box.
  pub near_moved : (t p p' v : ℕ) → t < g.axes → InBox g p → Shifted g.axes g.tops t p p' v → middle g t < v + 2 ^ g.levels t → v < middle g t + 2 ^ g.levels t →
      InBox g p'
  near_moved t p p' v axis near s low high =
      record {
        inside = s.inside;
        low =
            λ u lt.
            eq_or_not u t
            (λ e. rw e (omega (arith, s.own)))
            (λ ne. omega (arith, s.others u lt ne, near.low u lt));
        high =
            λ u lt.
            eq_or_not u t
            (λ e. rw e (omega (arith, s.own)))
            (λ ne. omega (arith, s.others u lt ne, near.high u lt));
      }

  row_moved : (j q p p' v : ℕ) → Row g j q p → Shifted g.axes g.tops g.axis p p' v → middle g g.axis < v + 2 ^ g.levels g.axis →
      v < middle g g.axis + 2 ^ g.levels g.axis → Row g j q p'
  row_moved j q p p' v row s low high =
      record {
        near = near_moved g.axis p p' v ground.axis row.near s low high;
        same = λ u from lt ne. s.others u lt ne ∙ row.same u from lt ne;
      }

  -- ---- what lies apart

  -- Two kinds of places of a row, where no place of the second kind is of the first and no neighbour of one.
  pub kinds_apart : (j q : ℕ) {first next : ℕ → Type 0} → ((x : ℕ) → next x → first x → ⊥) →
      ((b : Side) (x : ℕ) → 1 ≤ x → 1 ≤ moved b x → next x → first (moved b x) → ⊥) →
      Apart g.axes g.tops g.axis (Along g j q first) (Along g j q next)
  kinds_apart j q {first} {next} own beyond =
      record {
        points = λ p n f. own (place_on g p g.axis) n.there f.there;
        parents =
            λ p n b r e f.
            let s = beside g.axes g.tops g.axis b p r ground.axis n.row.near.inside e in
            beyond b (place_on g p g.axis) (place_low g.tops p g.axis) (omega (arith, s.own, place_low g.tops r g.axis)) n.there
            (rw s.own at f.there);
      }

-- No distance is none.
none_not_some : {far : ℕ} → None ≡ Some far → ⊥
none_not_some e = cc

-- ---- one place of a line

module _ (w : Sweep) (covers : Covers w.on.of w.on.axis w.spread) (q : ℕ) (f : First (turn w) w.spread.from q) where
  abbrev g : Turn
  g = turn w

  ground : Ground g
  ground = known w

  -- So many places after the first one.
  module _ (h x : ℕ) (is : x ≡ place_on g q g.axis + h) (high : x < middle g g.axis + 2 ^ g.levels g.axis) where
    abbrev Here : ℕ → Type 0
    Here = Along g w.spread.from q (λ y. y ≡ x)

    abbrev There : ℕ → Type 0
    There = Band w.spread (q + h * w.stride)

    low : middle g g.axis < x + 2 ^ g.levels g.axis
    low = omega (arith, f.own)

    far_there : h * w.stride ≡ h * points_to g.tops g.axis
    far_there = ap (λ (y : ℕ). h * y) w.stride_is

    line_into : (p : ℕ) → There p → Here p
    line_into p b =
        let t = g.axis in
        let p' = q + b.line * w.spread.apart + b.index * w.spread.unit in
        let base =
        covers.banded.into q p' f
        (record { line = b.line; index = b.index; below = b.below; inside = b.inside; is = refl }) in
        let s =
        shift_up g.axes g.tops t p' h ground.axis base.row.near.inside
        (omega (arith, base.there, box_high g ground t ground.axis)) in
        let at : p ≡ p' + h * points_to g.tops t = omega (arith, b.is, far_there) in
        let there : place_on g p' t + h ≡ x = omega (arith, base.there) in
        rw at
        record {
          row = row_moved g ground w.spread.from q p' _ _ base.row s (omega (arith, low, there)) (omega (arith, there));
          there = s.own ∙ there;
        }

    line_from : (p : ℕ) → Here p → There p
    line_from p l =
        let t = g.axis in
        let s =
        shift_down g.axes g.tops t p h ground.axis l.row.near.inside (omega (arith, l.there, place_low g.tops q t)) in
        let back : place_on g p t - h ≡ place_on g q t = omega (arith, l.there) in
        let base =
        covers.banded.from q (p - h * points_to g.tops t) f
        (record {
          row =
              row_moved g ground w.spread.from q p _ _ l.row s.1 (omega (arith, f.own, back))
              (omega (arith, back, f.near.high t ground.axis));
          there = s.1.own ∙ back;
        }) in
        record {
          line = base.line;
          index = base.index;
          below = base.below;
          inside = base.inside;
          is = omega (arith, base.is, s.0, far_there);
        }

    module _ (r : ℕ) (reaches : reach x ≡ r) (a : Parents) (parents : ParentsAt w.stride w.end x r a) where
      module _ (p : ℕ) (l : Here p) where
        own_reach : reach (place_on g p g.axis) ≡ r
        own_reach = ap reach l.there ∙ reaches

        far_is : w.stride * r ≡ reach (place_on g p g.axis) * points_to g.tops g.axis
        far_is = mul_comm w.stride r ∙ ap₂ ◌*◌ (sym own_reach) w.stride_is

        left_is : (far : ℕ) → a.left ≡ Some far → far ≡ reach (place_on g p g.axis) * points_to g.tops g.axis
        left_is far e = (parents.left_some far e).0 ∙ far_is

        right_is : (far : ℕ) → a.right ≡ Some far → far ≡ reach (place_on g p g.axis) * points_to g.tops g.axis
        right_is far e = (parents.right_some far e).0 ∙ far_is

        left_less : (far : ℕ) → a.left ≡ Some far → reach (place_on g p g.axis) < place_on g p g.axis
        left_less far e =
            eq_or_not x r (λ same. absurd ((parents.left_some far e).1 same))
            (λ other.
            omega (arith, own_reach, l.there, reach_le (place_on g p g.axis) (place_low g.tops p g.axis)))

        right_less : (far : ℕ) → a.right ≡ Some far → place_on g p g.axis + reach (place_on g p g.axis) < 2 ^ suc (g.tops g.axis)
        right_less far e =
            eq_or_not (x + r) w.end (λ same. absurd ((parents.right_some far e).1 same))
            (λ other.
            omega (
              arith,
              own_reach,
              l.there,
              w.end_is,
              reach_high (g.tops g.axis) (place_on g p g.axis) (place_low g.tops p g.axis) (place_high g.tops p g.axis),
            ))

        behind_is : behind p a.left ≡ neighbour g.axes g.tops g.axis Left (suc p)
        behind_is =
            none_or_some a.left
            (λ e.
            rw e
            (sym
            (left_none_lem g.axes g.tops g.axis p ground.axis l.row.near.inside
            (l.there ∙ parents.left_none e ∙ sym own_reach))))
            (λ far e.
            rw e
            (ap (λ (y : ℕ). suc (p - y)) (left_is far e)
            ∙ sym (left_some_lem g.axes g.tops g.axis p ground.axis l.row.near.inside (left_less far e))))

        ahead_is : ahead p a.right ≡ neighbour g.axes g.tops g.axis Right (suc p)
        ahead_is =
            none_or_some a.right
            (λ e.
            rw e
            (sym
            (right_none_lem g.axes g.tops g.axis p ground.axis l.row.near.inside
            (ap₂ ◌+◌ l.there own_reach ∙ parents.right_none e ∙ w.end_is))))
            (λ far e.
            rw e
            (ap (λ (y : ℕ). suc (p + y)) (right_is far e)
            ∙ sym (right_some_lem g.axes g.tops g.axis p ground.axis l.row.near.inside (right_less far e))))

      -- The parents of a point have another place on the axis.
      left_there : (p far : ℕ) → Here p → a.left ≡ Some far → (far ≤ p) × (place_on g (p - far) g.axis < x)
      left_there p far l e =
          let s =
          shift_down g.axes g.tops g.axis p (reach (place_on g p g.axis)) ground.axis l.row.near.inside (left_less p l far e) in (
            omega (arith, s.0, left_is p l far e),
            rw (left_is p l far e)
                (omega (arith, s.1.own, l.there, left_less p l far e, pow_pos (twos (place_on g p g.axis)))),
          )

      right_there : (p far : ℕ) → Here p → a.right ≡ Some far → (p + far < points_to g.tops g.axes) × (x < place_on g (p + far) g.axis)
      right_there p far l e =
          let s =
          shift_up g.axes g.tops g.axis p (reach (place_on g p g.axis)) ground.axis l.row.near.inside (right_less p l far e) in (
            omega (arith, s.inside, right_is p l far e),
            rw (right_is p l far e) (omega (arith, s.own, l.there, pow_pos (twos (place_on g p g.axis)))),
          )

      can_by : (xs : List ℤ) → Asked g Here xs → CanBand w.spread (q + h * w.stride) a xs
      can_by xs asked =
          record {
            room = omega (arith, asked.long, ground.small, unit_near w.on.of w.on.axis w.spread covers);
            some = covers.banded.some;
            step = covers.banded.step;
            wide = covers.banded.wide;
            can =
                record {
                  each =
                      λ p b.
                      let l = line_into p b in
                      record {
                        inside = omega (arith, asked.long, l.row.near.inside);
                        before = λ far e. (left_there p far l e).0;
                        after = λ far e. omega (arith, asked.long, (right_there p far l e).0);
                        own = asked.before _;
                        behind_in = asked.before _;
                        ahead_in = asked.before _;
                      };
                  before = λ p far b e other. omega (arith, (left_there p far (line_into p b) e).1, (line_into _ other).there);
                  after = λ p far b e other. omega (arith, (right_there p far (line_into p b) e).1, (line_into _ other).there);
                };
          }

      turned_by : (xs ys : List ℤ) → LoweredOn a There xs ys → Turned g Here xs ys
      unfolding lowered forward sum_on
      turned_by xs ys s =
          record {
            long = s.long;
            on =
                λ p l.
                s.on p (line_from p l)
                ∙ ap (λ (w : ℤ). value_at xs (suc p) -ℤ half w)
                (ap₂ ◌+ℤ◌ (ap (value_at xs) (behind_is p l)) (ap (value_at xs) (ahead_is p l)));
            off = λ p out. s.off p (λ b. out (line_into p b));
          }

    -- A place with no parents stays.
    still_by : (r : ℕ) → reach x ≡ r → x ≡ r → x + r ≡ w.end → (xs : List ℤ) → Turned g Here xs xs
    still_by r reaches left right xs =
        record {
          long = refl;
          on = λ p l. sym (forward_still (neighbour g.axes g.tops) g.axis (value_at xs) (value_zero xs) (suc p) (still p l));
          off = λ p out. refl;
        }
      where
        none : ParentsAt w.stride w.end x r (record { left = None; right = None })
        none =
            record {
              left_some = λ far e. absurd (none_not_some e);
              left_none = λ e. left;
              right_some = λ far e. absurd (none_not_some e);
              right_none = λ e. right;
            }

        still : (p : ℕ) → Here p → Still (neighbour g.axes g.tops) g.axis (suc p)
        still p l Left = sym (behind_is r reaches _ none p l)
        still p l Right = sym (ahead_is r reaches _ none p l)

-- As the type of a sweep says that its band covers the box.
module _ (w : Sweep) (q : ℕ) (f : First (turn w) w.spread.from q) (h x : ℕ) (is : x ≡ place_on (turn w) q w.on.axis + h)
    (high : x < middle (turn w) w.on.axis + 2 ^ at w.on.of.levels w.on.axis) (r : ℕ) (reaches : reach x ≡ r) where
  abbrev Placed : ℕ → Type 0
  Placed = Along (turn w) w.spread.from q (λ y. y ≡ x)

  module _ (a : Parents) (parents : ParentsAt w.stride w.end x r a) (xs : List ℤ) where
    pub band_can : Asked (turn w) Placed xs → CanBand w.spread (q + h * w.stride) a xs
    band_can asked = ∥∥₁_elim w.covers (hlevel props) (λ covers. can_by w covers q f h x is high r reaches a parents xs asked)

    pub band_turned : (ys : List ℤ) → LoweredOn a (Band w.spread (q + h * w.stride)) xs ys → Turned (turn w) Placed xs ys
    band_turned ys s = ∥∥₁_elim w.covers (hlevel props) (λ covers. turned_by w covers q f h x is high r reaches a parents xs ys s)

  pub band_still : x ≡ r → x + r ≡ w.end → (xs : List ℤ) → Turned (turn w) Placed xs xs
  band_still left right xs = ∥∥₁_elim w.covers (hlevel props) (λ covers. still_by w covers q f h x is high r reaches left right xs)
