-- A step along one axis as the code takes it: a place that is written in a list of eight is one axis changed; and what lies beside a point, case by case.
-- Assumes nothing.
use Rattle.std.specs.Prelude.{Option, Some, None}
use mathlib.Core.Bool.{Bool, true, false}
use mathlib.Core.List.{List}
use mathlib.Core.Path.{◌≡◌, refl, sym, ◌∙◌, fun_ext}
use Prim.Native.Nat.{ℕ, ◌<◌}
use native.Mathlib.Omega.{arith}
use lib.ListN.{length, set, replicate, length-set, get_or-replicate, get_or-eq_default}
use lib.Seq.{get_or-set_same, get_or-set_other}
use Rattle.naturals.proofs.Cases.{le_or_lt, eq_or_not}
use Rattle.numbering.specs.declared.Side.{Side}
use Rattle.numbering.specs.Point.{at}
use Rattle.numbering.specs.Parent.{numerator, is_border, parent_level, parent_index, update}
use Rattle.numbering.proofs.Parents.{update_same, update_other}
use Rattle.numbered.specs.Numbered.{mark_of}
use Rattle.numbered.specs.Neighbours.{beside}
use Rattle.numbered.proofs.Moves.{move_still, move_border, move_inner, across_some, across_none, beside_stop, beside_to}
use Rattle.points.specs.declared.MarkedPoint.{MarkedPoint}
use Rattle.points.specs.Points.{eight, point_of}
use Rattle.points.proofs.Eight.{eight_ext}
use Rattle.parents.specs.Parents.{located}

pub written : (xs : List ℕ) (t v : ℕ) → length xs ≡ 8 → t < 8 → set xs t v ≡ eight (update (at xs) t v)
written xs t v e h = eight_ext (update (at xs) t v) (set xs t v) (length-set xs t v ∙ e) each
  where
    each : (u : ℕ) → u < 8 → at (set xs t v) u ≡ update (at xs) t v u
    each u lt =
        eq_or_not u t
        (λ same. rw same (get_or-set_same xs t v 0 (omega arith) ∙ sym (update_same (at xs) t v)))
        (λ other. get_or-set_other xs t u v 0 other ∙ sym (update_other (at xs) t v u other))

-- Without a mark there the marks are those with none there.
pub unwritten : (ms : List ℕ) (t : ℕ) → length ms ≡ 8 → at ms t ≡ 0 → ms ≡ eight (update (at ms) t 0)
unwritten ms t e none = eight_ext (update (at ms) t 0) ms e each
  where
    each : (u : ℕ) → u < 8 → at ms u ≡ update (at ms) t 0 u
    each u lt =
        eq_or_not u t
        (λ same. rw same (none ∙ sym (update_same (at ms) t 0)))
        (λ other. sym (update_other (at ms) t 0 u other))

-- Eight zeros are no marks.
pub no_marks : {m : ℕ → ℕ} → ((t : ℕ) → m t ≡ 0) → at (replicate 8 0) ≡ m
no_marks none = fun_ext λ t. zero t ∙ sym (none t)
  where
    zero : (t : ℕ) → at (replicate 8 0) t ≡ 0
    zero t = le_or_lt 8 t (λ past. get_or-eq_default (replicate 8 0) 0 past) (λ h. get_or-replicate 8 t 0 0 h)

-- A point of marks ms, levels ls and indices is, and the numerator m of its neighbour on axis t.
module _ (border : Bool) (t : ℕ) (side : Side) (ms ls is : List ℕ) where
  abbrev answer : Option MarkedPoint
  answer = located (beside border t side (at ms) (at ls) (at is))

  pub stays : (at ms t ≡ 0 → ⊥) → None ≡ answer
  unfolding located
  stays marked = sym (rw (beside_stop border t side (at ms) (at ls) (at is) (move_still border side (at ms t) (at ls t) (at is t) (omega (arith, marked)))))

  module _ (inner : at ms t ≡ 0) (m : ℕ) (e : m ≡ numerator side (at is t)) where
    pub to_parent : is_border (at ls t) m ≡ false → (l i : ℕ) → l ≡ parent_level (at ls t) m → i ≡ parent_index m →
        Some (point_of (update (at ms) t 0) (update (at ls) t l) (update (at is) t i)) ≡ answer
    unfolding located
    to_parent within l i level index =
        sym
        (rw
        (beside_to border t side (at ms) (at ls) (at is) 0 _ _
        (move_inner border side (at ms t) (at ls t) (at is t) inner (rw e at within)))
        (rw (level, index, e) refl))

    module _ (there : is_border (at ls t) m ≡ true) where
      pub to_border : border ≡ false → None ≡ answer
      unfolding located
      to_border off =
          sym
          (rw
          (beside_stop border t side (at ms) (at ls) (at is)
          (move_border border side (at ms t) (at ls t) (at is t) inner (rw e at there) ∙ across_none border side off)))

      pub to_across : border ≡ true → (a : ℕ) → a ≡ mark_of side →
          Some (point_of (update (at ms) t a) (update (at ls) t 0) (update (at is) t 1)) ≡ answer
      unfolding located
      to_across on a mark =
          sym
          (rw
          (beside_to border t side (at ms) (at ls) (at is) (mark_of side) 0 1
          (move_border border side (at ms t) (at ls t) (at is t) inner (rw e at there) ∙ across_some border side on))
          (rw mark refl))
