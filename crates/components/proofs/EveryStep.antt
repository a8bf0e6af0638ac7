-- At every step of the order the half that it meets is whole and every value is within the content limit: a step that is ready reads the values of its stage, and each
-- place holds at any time what the axes done there leave, of which the same is known.
-- Assumes nothing.
use mathlib.Core.Path.{◌≡◌, ap, sym, subst, ◌∙◌}
use mathlib.Core.Bool.{true}
use mathlib.Core.List.{List, ◌∷◌, ◌++◌}
use Prim.Native.Nat.{ℕ, suc, ◌≤◌, ◌<◌}
use native.Mathlib.Omega.{arith}
use lib.IntN.{ℤ, pos}
use lib.ListN.{length}
use Rattle.integers.specs.Half.{is_even, in_limit}
use Rattle.hierarchy.specs.Turns.{value_at, sum_on}
use Rattle.hierarchy.specs.Sets.{scaled}
use Rattle.hierarchy.specs.Work.{put, Item, all_worked, counts_after, Legal}
use Rattle.hierarchy.proofs.Values.{value_zero}
use Rattle.hierarchy.proofs.Work.{Holds, reads, order_of_work, put_same}
use Rattle.splits.specs.Splits.{itself}
use Rattle.splits.proofs.Lists.{counts_append, first_legal, next_legal}
use Rattle.splits.proofs.Once.{counts_rise}
use Rattle.component_grids.specs.Component.{neighbour}
use Rattle.component_boxes.specs.Order.{order_of}
use Rattle.component_boxes.specs.Stages.{stages_of}
use Rattle.component_boxes.proofs.Leaves.{stage_start, stages, none, whole_does, at_most}
use Rattle.components.specs.Components.{tops_in}
use Rattle.components.specs.Accepted.{AcceptedOn}
use Rattle.components.proofs.Checked.{levels_passed, grid_levels}
use Rattle.components.proofs.Stages.{component_halves_whole, component_in_limit}

module _ (d : ℕ) (tops : ℕ → ℕ) (dim : 0 < d) where
  abbrev counts : List Item → ℕ → ℕ
  counts is = counts_after (neighbour d tops) itself is (none d tops)

  module _ (is js : List Item) (e : is ++ js ≡ order_of d tops) where
    legal : Legal (neighbour d tops) itself (is ++ js) (none d tops)
    legal = subst (λ (l : List Item). Legal (neighbour d tops) itself l (none d tops)) (sym e) (whole_does d tops dim).legal

    rest_legal : Legal (neighbour d tops) itself js (counts is)
    rest_legal = next_legal (neighbour d tops) itself is js (none d tops) legal

    -- After the first steps, and after the others.
    counts_end : (p : ℕ) → counts_after (neighbour d tops) itself js (counts is) p ≤ d
    counts_end p =
        omega (
          arith,
          ap (λ (c : ℕ → ℕ). c p) (counts_append (neighbour d tops) itself is js (none d tops)),
          ap (λ (l : List Item). counts l p) e,
          at_most d tops dim p,
        )

    counts_le : (p : ℕ) → counts is p ≤ d
    counts_le p = omega (arith, counts_rise (neighbour d tops) itself js (counts is) rest_legal p, counts_end p)

    -- Each place holds what the axes done there leave.
    holds : (r : ℕ → ℤ) → r 0 ≡ pos 0 →
        Holds (neighbour d tops) itself (stages_of d tops r) (counts is) (all_worked (neighbour d tops) itself is (scaled d r))
    holds r border =
        order_of_work (neighbour d tops) itself (stages_of d tops r) (stages d tops r border) is (none d tops) (scaled d r)
        (first_legal (neighbour d tops) itself is js (none d tops) legal)
        (λ q. ap (λ (f : ℕ → ℤ). f q) (sym (stage_start d tops r)))

  -- A step is that of one of the axes.
  stage_lt : (is js : List Item) (i : Item) → is ++ (i ∷ js) ≡ order_of d tops → i.stage < d
  unfolding counts_after
  stage_lt is js i e =
      let c = put (counts is) i.point (suc i.stage) in
      omega (
        arith,
        put_same (counts is) i.point (suc i.stage),
        counts_rise (neighbour d tops) itself js c (rest_legal is (i ∷ js) e).1 i.point,
        counts_end is (i ∷ js) e i.point,
      )

module _ (ls : List ℕ) (rs : List ℤ) (a : AcceptedOn ls rs) where
  some : 0 < length ls
  some = (levels_passed ls (grid_levels ls a.grid)).low

  -- After any of the first steps of the order every value is within the content limit.
  pub component_steps_in_limit : (is js : List Item) → is ++ js ≡ order_of (length ls) (tops_in ls) → (p : ℕ) →
      in_limit (all_worked (neighbour (length ls) (tops_in ls)) itself is (scaled (length ls) (value_at rs)) p) ≡ true
  component_steps_in_limit is js e p =
      let d = length ls in
      let tops = tops_in ls in
      ap in_limit (holds d tops some is js e (value_at rs) (value_zero rs) p)
      ∙ component_in_limit ls rs a (counts d tops some is p) (counts_le d tops some is js e p) p

  -- And the sum that the next step meets is even.
  pub component_steps_whole : (is js : List Item) (i : Item) → is ++ (i ∷ js) ≡ order_of (length ls) (tops_in ls) →
      is_even
      (sum_on (neighbour (length ls) (tops_in ls)) i.stage
      (all_worked (neighbour (length ls) (tops_in ls)) itself is (scaled (length ls) (value_at rs))) i.point)
      ≡ true
  component_steps_whole is js i e =
      let d = length ls in
      let tops = tops_in ls in
      let border = value_zero rs in
      ap is_even
      (reads (neighbour d tops) itself (stages_of d tops (value_at rs)) (stages d tops (value_at rs) border) i (counts d tops some is) _
      (rest_legal d tops some is (i ∷ js) e).0 (holds d tops some is (i ∷ js) e (value_at rs) border))
      ∙ component_halves_whole ls rs i.stage (stage_lt d tops some is js i e) i.point
