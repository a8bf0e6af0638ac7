-- A legal list of steps takes a table part of the way further: each place then holds what the sweeps of as many axes as its new count says leave there, by the theorem
-- on orders of work; and two lists in a row are one.
-- Assumes nothing.
use mathlib.Core.Path.{◌≡◌, ap, sym, ◌∙◌}
use mathlib.Core.List.{List, ◌++◌}
use Prim.Native.Nat.{ℕ, ◌≤◌, ◌<◌}
use native.Mathlib.Omega.{arith}
use lib.IntN.{ℤ, pos}
use lib.ListN.{length}
use Rattle.hierarchy.specs.Turns.{value_at, values_of}
use Rattle.hierarchy.specs.Work.{Item, all_worked, counts_after, Legal}
use Rattle.hierarchy.proofs.Values.{value_past, values_length, value_of_values}
use Rattle.hierarchy.proofs.Work.{order_of_work}
use Rattle.splits.specs.Splits.{itself, Done}
use Rattle.splits.proofs.Lists.{worked_append}
use Rattle.component_grids.specs.Component.{points_to, neighbour}
use Rattle.component_boxes.specs.Stages.{stages_of}
use Rattle.component_boxes.specs.Boxes.{Box}
use Rattle.component_boxes.proofs.Leaves.{stages, stage_border, stage_past}
use Rattle.component_boxes.proofs.Halves.{dec_box}
use Rattle.component_order.specs.InOrder.{worked_in}
use Rattle.component_order.specs.Steps.{Standing}

module _ (d : ℕ) (tops : ℕ → ℕ) where
  pub worked_long : (is : List Item) (xs : List ℤ) → length (worked_in d tops is xs) ≡ points_to tops d
  unfolding worked_in
  worked_long is xs = values_length (points_to tops d) (all_worked (neighbour d tops) itself is (value_at xs))

  module _ (xs : List ℤ) (standing : Standing d tops xs) (is : List Item) (legal : Legal (neighbour d tops) itself is standing.count) where
    abbrev pub after : ℕ → ℕ
    after = counts_after (neighbour d tops) itself is standing.count

    -- What each place holds after them.
    pub holds_after : (p : ℕ) → all_worked (neighbour d tops) itself is (value_at xs) p ≡ stages_of d tops standing.rates (after p) p
    holds_after =
        order_of_work (neighbour d tops) itself (stages_of d tops standing.rates) (stages d tops standing.rates standing.border) is
        standing.count (value_at xs) legal standing.holds

    -- Nothing at the border and past the points.
    nothing_past : (p : ℕ) → points_to tops d < p → all_worked (neighbour d tops) itself is (value_at xs) p ≡ pos 0
    nothing_past p past =
        let still = stage_past d tops standing.rates standing.border p past in
        holds_after p
        ∙ still (after p)
        ∙ sym (still (standing.count p))
        ∙ sym (standing.holds p)
        ∙ value_past xs p (omega (arith, standing.long))

    pub worked_is : value_at (worked_in d tops is xs) ≡ all_worked (neighbour d tops) itself is (value_at xs)
    unfolding worked_in
    worked_is =
        value_of_values (points_to tops d) (all_worked (neighbour d tops) itself is (value_at xs))
        (holds_after 0 ∙ stage_border d tops standing.rates standing.border (after 0))
        nothing_past

    -- The table after them, part of the way.
    unfoldable pub standing_after : ((p : ℕ) → counts_after (neighbour d tops) itself is standing.count p ≤ d) → Standing d tops (worked_in d tops is xs)
    standing_after most =
        record {
          long = worked_long is xs;
          rates = standing.rates;
          border = standing.border;
          small = standing.small;
          count = counts_after (neighbour d tops) itself is standing.count;
          most = most;
          holds = λ p. ap (λ (f : ℕ → ℤ). f p) worked_is ∙ holds_after p;
        }

    -- More steps after them.
    pub worked_then : (js : List Item) → worked_in d tops (is ++ js) xs ≡ worked_in d tops js (worked_in d tops is xs)
    worked_then js =
        unfold worked_in in
        ap (values_of (points_to tops d))
        (worked_append (neighbour d tops) itself is js (value_at xs)
        ∙ ap (all_worked (neighbour d tops) itself js) (sym worked_is))

  -- Where a box is done no count is above the number of axes.
  pub done_most : (k : ℕ → ℕ) (c t : ℕ) → t ≤ d → (count after : ℕ → ℕ) → ((p : ℕ) → count p ≤ d) → Done (neighbour d tops) d t (Box d tops k c) count after →
      (p : ℕ) → after p ≤ d
  done_most k c t le count after most done p = at_code (dec_box d tops k c p)
    where
      at_code : Dec (Box d tops k c p) → after p ≤ d
      at_code (yes inside) = omega (arith, done.own p inside)
      at_code (no outside) = omega (arith, done.rest p outside, most p)
