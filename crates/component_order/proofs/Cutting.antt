-- The parts of a box as the code makes them: one level of the list is written anew, and the middle points of the halves lie in the grid.
-- Assumes nothing.
use mathlib.Core.Path.{◌≡◌, ap, sym, ◌∙◌, fun_ext}
use mathlib.Core.List.{List}
use Prim.Native.Nat.{ℕ, ◌+◌, ◌-◌, ◌*◌, ◌%◌, ◌^◌, ◌≤◌, ◌<◌}
use native.Mathlib.Omega.{arith}
use lib.ListN.{length, take, set}
use lib.Seq.{get_or-set_same, get_or-set_other}
use Rattle.naturals.proofs.Cases.{eq_or_not}
use Rattle.naturals.proofs.Shifts.{one_shifted}
use Rattle.numbering.specs.Point.{at}
use Rattle.numbering.specs.Parent.{update}
use Rattle.numbering.proofs.Parents.{update_same, update_other}
use Rattle.shapes.specs.Shapes.{most_points}
use Rattle.component_grids.specs.Component.{across}
use Rattle.component_boxes.specs.Order.{widest, middle_of, half_of, away}
use Rattle.component_boxes.specs.Boxes.{Fits}
use Rattle.component_boxes.proofs.Halves.{left_shift, right_shift, middle_fits, left_fits, right_fits}
use Rattle.component_boxes.proofs.Widest.{widest_lt}
use Rattle.component_boxes.proofs.Seeking.{widest_taken}
use Rattle.component_boxes.proofs.Falling.{level_left}
use Rattle.component_sweeps.specs.declared.grid.Layout.{Layout}
use Rattle.component_sweeps.specs.declared.grid.GridBox.{GridBox}
use Rattle.component_sweeps.specs.Steps.{tops_of}

-- A list with one number written anew.
at_set : (ls : List ℕ) (r v : ℕ) → r < length ls → at (set ls r v) ≡ update (at ls) r v
at_set ls r v inside =
    fun_ext
    (λ t.
    eq_or_not t r
    (λ same. rw same (get_or-set_same ls r v 0 inside ∙ sym (update_same (at ls) r v)))
    (λ other. get_or-set_other ls r t v 0 other ∙ sym (update_other (at ls) r v t other)))

module _ (b : GridBox) (more : 1 < across (at b.levels (widest (at b.levels) b.grid.now.axes))) (r : ℕ) (found : r ≡ widest (at (take b.grid.now.axes b.levels)) (length (take b.grid.now.axes b.levels))) where
  abbrev g : Layout
  g = b.grid.now

  abbrev ls : List ℕ
  ls = b.levels

  abbrev c : ℕ
  c = b.centre

  pub is : r ≡ widest (at ls) g.axes
  is = found ∙ widest_taken ls g.axes

  more_here : 1 < across (at ls r)
  more_here = rw is more

  pub axis : r < g.axes
  axis = rw is (widest_lt (at ls) g.axes g.some)

  pub small : r < 8
  small = omega (arith, axis, g.few)

  pub some : 0 < at ls r
  some = level_left g.axes (tops_of g) (at ls r) more_here

  pub low : at ls r ≤ 8
  low = omega (arith, b.fits.within r axis, g.low r)

  -- How far the halves' middle points lie away.
  pub away_is : 1 * 2 ^ (at ls r - 1) % 2 ^ 64 * at g.strides r ≡ away (tops_of g) (at ls) r
  unfolding away
  away_is =
      ap (λ (x : ℕ). x * at g.strides r) (one_shifted 64 (at ls r - 1) (omega (arith, low)))
      ∙ ap (λ (x : ℕ). 2 ^ (at ls r - 1) * x) (g.laid r axis)

  pub away_left : 1 * 2 ^ (at ls r - 1) % 2 ^ 64 * at g.strides r ≤ c
  away_left = rw away_is (left_shift g.axes (tops_of g) (at ls) c b.fits r axis some).0

  pub away_right : c + 1 * 2 ^ (at ls r - 1) % 2 ^ 64 * at g.strides r < most_points
  away_right = rw away_is (omega (arith, (right_shift g.axes (tops_of g) (at ls) c b.fits r axis some).inside, g.small))

  -- The levels.
  module _ (long : length ls ≡ 8) where
    pub middle_set : at (set ls r 0) ≡ middle_of (at ls) r
    unfolding middle_of
    middle_set = at_set ls r 0 (omega (arith, small))

    pub half_set : at (set ls r (at ls r - 1)) ≡ half_of (at ls) r
    unfolding half_of
    half_set = at_set ls r (at ls r - 1) (omega (arith, small))

    -- The parts lie in the grid.
    pub middle_in : Fits g.axes (tops_of g) (at (set ls r 0)) c
    middle_in = rw middle_set (middle_fits g.axes (tops_of g) (at ls) c b.fits r axis some)

    pub left_in : Fits g.axes (tops_of g) (at (set ls r (at ls r - 1))) (c - 1 * 2 ^ (at ls r - 1) % 2 ^ 64 * at g.strides r)
    left_in = rw (half_set, away_is) (left_fits g.axes (tops_of g) (at ls) c b.fits r axis some)

    pub right_in : Fits g.axes (tops_of g) (at (set ls r (at ls r - 1))) (c + 1 * 2 ^ (at ls r - 1) % 2 ^ 64 * at g.strides r)
    right_in = rw (half_set, away_is) (right_fits g.axes (tops_of g) (at ls) c b.fits r axis some)

    pub middle_is : at (set ls r 0) ≡ middle_of (at ls) (widest (at ls) g.axes)
    middle_is = middle_set ∙ ap (middle_of (at ls)) is

    pub half_is : at (set ls r (at ls r - 1)) ≡ half_of (at ls) (widest (at ls) g.axes)
    half_is = half_set ∙ ap (half_of (at ls)) is

  pub away_widest : 1 * 2 ^ (at ls r - 1) % 2 ^ 64 * at g.strides r ≡ away (tops_of g) (at ls) (widest (at ls) g.axes)
  away_widest = away_is ∙ ap (away (tops_of g) (at ls)) is
