-- What each of the four calls on the parts of a box finds, and that the four together are the order of the box: the laws of a split say which axes are due, and each call
-- leaves a table part of the way.
-- Assumes nothing.
use mathlib.Core.Path.{◌≡◌, ap, ◌∙◌}
use mathlib.Core.List.{List, ◌++◌}
use Prim.Native.Nat.{ℕ, ◌+◌, ◌-◌, ◌<◌}
use native.Mathlib.Omega.{arith}
use lib.IntN.{ℤ}
use Rattle.hierarchy.specs.Work.{Item, counts_after}
use Rattle.splits.specs.Splits.{itself, cut, Split}
use Rattle.splits.proofs.Parts.{Does, cut_low, cut_high, middle_due, left_due, right_due, rest_due}
use Rattle.component_grids.specs.Component.{across, neighbour}
use Rattle.component_boxes.specs.Order.{widest, middle_of, half_of, away, order_in}
use Rattle.component_boxes.specs.Boxes.{Box}
use Rattle.component_boxes.proofs.Halves.{dec_box, middle_fits, left_fits, right_fits, halves}
use Rattle.component_boxes.proofs.Widest.{widest_lt}
use Rattle.component_boxes.proofs.Falling.{level_left, in_split}
use Rattle.component_boxes.proofs.Legal.{in_order_does}
use Rattle.component_order.specs.InOrder.{worked_in}
use Rattle.component_order.specs.Steps.{Standing, Mixed}
use Rattle.component_order.proofs.Stands.{standing_after, worked_then, done_most}

module _ (d : ℕ) (tops : ℕ → ℕ) (dim : 0 < d) where
  -- The steps on a box that is due, and the table after them.
  module _ (k : ℕ → ℕ) (c s t : ℕ) (xs : List ℤ) (mixed : Mixed d tops k c s t xs) where
    pub does : Does (neighbour d tops) d t (Box d tops k c) mixed.standing.count (order_in d tops s t k c)
    does = in_order_does d tops dim s t k c mixed.order mixed.axes mixed.fits mixed.standing.count mixed.due

    pub next : Standing d tops (worked_in d tops (order_in d tops s t k c) xs)
    next =
        standing_after d tops xs mixed.standing (order_in d tops s t k c) does.legal
        (done_most d tops k c t mixed.axes mixed.standing.count
        (counts_after (neighbour d tops) itself (order_in d tops s t k c) mixed.standing.count)
        mixed.standing.most
        does.done)

    pub then_worked : (js : List Item) →
        worked_in d tops (order_in d tops s t k c ++ js) xs ≡ worked_in d tops js (worked_in d tops (order_in d tops s t k c) xs)
    then_worked js = worked_then d tops xs mixed.standing (order_in d tops s t k c) does.legal js

  -- The parts of a box with more than one point.
  module _ (k : ℕ → ℕ) (c s t : ℕ) (xs : List ℤ) (mixed : Mixed d tops k c s t xs) (more : 1 < across (k (widest k d))) where
    abbrev r : ℕ
    r = widest k d

    axis : r < d
    axis = widest_lt k d dim

    some : 0 < k r
    some = level_left d tops (k r) more

    abbrev Whole : ℕ → Type 0
    Whole = Box d tops k c

    abbrev Middle : ℕ → Type 0
    Middle = Box d tops (middle_of k r) c

    abbrev LeftHalf : ℕ → Type 0
    LeftHalf = Box d tops (half_of k r) (c - away tops k r)

    abbrev RightHalf : ℕ → Type 0
    RightHalf = Box d tops (half_of k r) (c + away tops k r)

    split : Split (neighbour d tops) d r Whole Middle LeftHalf RightHalf
    split = halves d tops k c mixed.fits r axis some

    dec_middle : (p : ℕ) → Dec (Middle p)
    dec_middle = dec_box d tops (middle_of k r) c

    -- The four lists of steps, and the tables after the first three.
    abbrev pub first : List Item
    first = order_in d tops s (cut s t r) (middle_of k r) c

    abbrev pub second : List Item
    second = order_in d tops s t (half_of k r) (c - away tops k r)

    abbrev pub third : List Item
    third = order_in d tops s t (half_of k r) (c + away tops k r)

    abbrev pub fourth : List Item
    fourth = order_in d tops (cut s t r) t (middle_of k r) c

    abbrev pub one : List ℤ
    one = worked_in d tops first xs

    abbrev pub two : List ℤ
    two = worked_in d tops second one

    abbrev pub three : List ℤ
    three = worked_in d tops third two

    pub middle_mixed : Mixed d tops (middle_of k r) c s (cut s t r) xs
    middle_mixed =
        record {
          order = cut_low s t r mixed.order;
          axes = omega (arith, cut_high s t r, mixed.axes);
          fits = middle_fits d tops k c mixed.fits r axis some;
          standing = mixed.standing;
          due = middle_due (neighbour d tops) d r Whole Middle LeftHalf RightHalf split dec_middle s t mixed.order mixed.axes mixed.standing.count mixed.due;
        }

    after_one : Does (neighbour d tops) d (cut s t r) Middle mixed.standing.count first
    unfolding middle_mixed
    after_one = does (middle_of k r) c s (cut s t r) xs middle_mixed

    pub left_mixed : Mixed d tops (half_of k r) (c - away tops k r) s t one
    unfolding middle_mixed next standing_after
    left_mixed =
        record {
          order = mixed.order;
          axes = mixed.axes;
          fits = left_fits d tops k c mixed.fits r axis some;
          standing = next (middle_of k r) c s (cut s t r) xs middle_mixed;
          due =
              left_due (neighbour d tops) d r Whole Middle LeftHalf RightHalf split dec_middle s t mixed.order mixed.axes
              mixed.standing.count
              mixed.due
              (counts_after (neighbour d tops) itself first mixed.standing.count)
              after_one.done;
        }

    after_two : Does (neighbour d tops) d t LeftHalf (counts_after (neighbour d tops) itself first mixed.standing.count) second
    unfolding left_mixed middle_mixed next standing_after
    after_two = does (half_of k r) (c - away tops k r) s t one left_mixed

    pub right_mixed : Mixed d tops (half_of k r) (c + away tops k r) s t two
    unfolding left_mixed middle_mixed next standing_after
    right_mixed =
        record {
          order = mixed.order;
          axes = mixed.axes;
          fits = right_fits d tops k c mixed.fits r axis some;
          standing = next (half_of k r) (c - away tops k r) s t one left_mixed;
          due =
              right_due (neighbour d tops) d r Whole Middle LeftHalf RightHalf split dec_middle s t mixed.order mixed.axes
              mixed.standing.count
              mixed.due
              (counts_after (neighbour d tops) itself first mixed.standing.count)
              after_one.done
              (counts_after (neighbour d tops) itself second (counts_after (neighbour d tops) itself first mixed.standing.count))
              after_two.done;
        }

    after_three :
        Does (neighbour d tops) d t RightHalf
        (counts_after (neighbour d tops) itself second (counts_after (neighbour d tops) itself first mixed.standing.count)) third
    unfolding right_mixed left_mixed middle_mixed next standing_after
    after_three = does (half_of k r) (c + away tops k r) s t two right_mixed

    pub rest_mixed : Mixed d tops (middle_of k r) c (cut s t r) t three
    unfolding right_mixed left_mixed middle_mixed next standing_after
    rest_mixed =
        record {
          order = cut_high s t r;
          axes = mixed.axes;
          fits = middle_fits d tops k c mixed.fits r axis some;
          standing = next (half_of k r) (c + away tops k r) s t two right_mixed;
          due =
              rest_due (neighbour d tops) d r Whole Middle LeftHalf RightHalf split dec_middle s t mixed.order mixed.axes
              mixed.standing.count
              mixed.due
              (counts_after (neighbour d tops) itself first mixed.standing.count)
              after_one.done
              (counts_after (neighbour d tops) itself second (counts_after (neighbour d tops) itself first mixed.standing.count))
              after_two.done
              (counts_after (neighbour d tops) itself third
              (counts_after (neighbour d tops) itself second (counts_after (neighbour d tops) itself first mixed.standing.count)))
              after_three.done;
        }

    -- The four together.
    pub all_four : worked_in d tops (order_in d tops s t k c) xs ≡ worked_in d tops fourth three
    all_four =
        ap (λ (is : List Item). worked_in d tops is xs) (in_split d tops dim s t k c more)
        ∙ then_worked (middle_of k r) c s (cut s t r) xs middle_mixed (second ++ (third ++ fourth))
        ∙ then_worked (half_of k r) (c - away tops k r) s t one left_mixed (third ++ fourth)
        ∙ then_worked (half_of k r) (c + away tops k r) s t two right_mixed fourth
