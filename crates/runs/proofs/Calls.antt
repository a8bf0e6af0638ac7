-- One call on a table that agrees with the model: it is refused exactly where the model refuses it, with that number and place, and leaves a table and a
-- state that agree with the model's next set. From the laws of one turn on the table of a set.
-- Assumes nothing.
use Rattle.std.specs.Prelude.{Ok, Err}
use mathlib.Core.Path.{◌≡◌, ap, sym, ◌∙◌}
use mathlib.Core.Bool.{true, false, ◌&&◌}
use mathlib.Core.List.{List}
use Prim.Native.Nat.{ℕ, ◌+◌, ◌-◌, ◌^◌, ◌≤◌, ◌<◌}
use native.Mathlib.Omega.{arith}
use lib.Dec.{leb}
use lib.IntN.{ℤ, pos, nat_abs}
use lib.ListN.{length}
use borrow.Author.Tests.{leb-true}
use Rattle.naturals.proofs.Cases.{eq_or_not, true_or_false}
use Rattle.naturals.proofs.Tests.{and_left, and_right}
use Rattle.refusals.specs.declared.Refusal.{Refusal}
use Rattle.refusals.specs.declared.Refusal.TheVariants.{Axis, AlreadyForward, NotForward}
use Rattle.refusals.specs.Checks.{unless}
use Rattle.hierarchy.specs.declared.Turn.{Turn}
use Rattle.hierarchy.specs.declared.Turn.TheVariants.{Forward, Back}
use Rattle.hierarchy.specs.Turns.{value_at, values_of, forward, accepted, backward}
use Rattle.hierarchy.specs.Sets.{table_of}
use Rattle.hierarchy.specs.Work.{put}
use Rattle.hierarchy.proofs.Closed.{With}
use Rattle.hierarchy.proofs.Values.{values_length, value_of_values}
use Rattle.hierarchy.proofs.Steps.{table_zero, table_past, forward_table, forward_accepted, back_table}
use Rattle.hierarchy.proofs.Work.{put_same, put_other}
use Rattle.shapes.specs.declared.Shape.{Shape}
use Rattle.shapes.specs.Shapes.{points_of, check_axis}
use Rattle.shapes.proofs.Checked.{InRange}
use Rattle.grids.proofs.Instance.{grid, shallow}
use Rattle.grids.specs.Grids.{neighbour, depth, height}
use Rattle.states.specs.declared.State.{State}
use Rattle.states.specs.States.{has}
use Rattle.states.proofs.Bits.{has_marked_same, has_marked_other, has_cleared_same, has_cleared_other, marked_small, cleared_small}
use Rattle.states.proofs.Checked.{state_passes}
use Rattle.states.specs.After.{After, after, kept}
use Rattle.grids.specs.Turned.{turned_table, former_table}
use Rattle.turns.specs.Turns.{is_accepted, check_turn, forward_turn, back_turn}
use Rattle.runs.specs.Model.{Axes, model_answer, changed, model_set}
use Rattle.runs.specs.Runs.{carried_out, handed_on, verdict_of}
use Rattle.runs.proofs.Model.{model_refused, model_passed}

-- The state of a shape with this byte of forward axes.
abbrev pub state_of : Shape → ℕ → State
state_of s byte = record { shape = s; forward = byte }

-- Rates as a table: nothing at the border and past the points, each at most 2^31 on either side.
pub record Rates (m : ℕ) (r : ℕ → ℤ) : Type 0 where
  pub border : r 0 ≡ pos 0
  pub past : (p : ℕ) → m < p → r p ≡ pos 0
  pub small : (p : ℕ) → nat_abs (r p) ≤ 2 ^ 31

module _ (s : Shape) (range : InRange s) (r : ℕ → ℤ) (rates : Rates (points_of s) r) where
  -- The bits are the set, and the table is the table of the set.
  pub record Agrees (set : Axes) (byte : ℕ) (xs : List ℤ) : Type 0 where
    pub few : byte < 2 ^ s.axes
    pub bits : (t : ℕ) → has byte t ≡ set t
    pub table : xs ≡ values_of (points_of s) (table_of (neighbour s) s.axes set r)

  -- What one call leaves, beside the model.
  pub record Step (call : Turn) (set : Axes) (byte : ℕ) (xs : List ℤ) : Type 0 where
    pub next : ℕ
    pub says : verdict_of (carried_out call (state_of s byte) xs).answer ≡ model_answer s.axes set call
    pub hands : handed_on (state_of s byte) (carried_out call (state_of s byte) xs).answer ≡ state_of s next
    pub agrees : Agrees (model_set s.axes set call) next (carried_out call (state_of s byte) xs).table

  refused_step : (call : Turn) (set : Axes) (byte : ℕ) (xs : List ℤ) (why : Refusal) → Agrees set byte xs →
      carried_out call (state_of s byte) xs ≡ kept xs why → model_answer s.axes set call ≡ Err why → Step call set byte xs
  refused_step call set byte xs why a e m =
      record {
        next = byte;
        says = ap (λ (x : After). verdict_of x.answer) e ∙ sym m;
        hands = ap (λ (x : After). handed_on (state_of s byte) x.answer) e;
        agrees = rw (model_refused s.axes set call why m, e) a;
      }

  done_step : (call : Turn) (set : Axes) (byte next : ℕ) (xs ys : List ℤ) →
      carried_out call (state_of s byte) xs ≡ after (Ok (state_of s next)) ys → model_answer s.axes set call ≡ Ok tt →
      Agrees (changed set call) next ys → Step call set byte xs
  done_step call set byte next xs ys e m a =
      record {
        next = next;
        says = ap (λ (x : After). verdict_of x.answer) e ∙ sym m;
        hands = ap (λ (x : After). handed_on (state_of s byte) x.answer) e;
        agrees = rw (model_passed s.axes set call m, e) a;
      }

  -- The checks of the state and the table pass.
  checks_pass : (set : Axes) (byte : ℕ) (xs : List ℤ) (axis : ℕ) → Agrees set byte xs →
      check_turn (state_of s byte) (length xs) axis ≡ unless (leb 1 axis && leb axis s.axes) (Axis axis)
  unfolding check_turn check_axis
  checks_pass set byte xs axis a =
      rw
      (state_passes (state_of s byte) (length xs)
      (record { range = range; few = a.few; long = ap length a.table ∙ values_length (points_of s) _ }))

  -- The table as a function of codes.
  holds : (set : Axes) (byte : ℕ) (xs : List ℤ) → Agrees set byte xs → value_at xs ≡ table_of (neighbour s) s.axes set r
  holds set byte xs a =
      ap value_at a.table
      ∙ value_of_values (points_of s) (table_of (neighbour s) s.axes set r)
      (table_zero (points_of s) (neighbour s) (depth s) (grid s) s.axes set r rates.border)
      (λ p h. table_past (points_of s) (neighbour s) (depth s) (grid s) s.axes set r rates.border p h (rates.past p h))

  -- A set with axis t, and the set without it.
  joined : (set : Axes) (t : ℕ) → set t ≡ false → With (neighbour s) t set (put set t true)
  joined set t e =
      record { out = e; inside = put_same set t true; same = λ u ne. sym (put_other set t true u ne) }

  parted : (set : Axes) (t : ℕ) → set t ≡ true → With (neighbour s) t (put set t false) set
  parted set t e =
      record { out = put_same set t false; inside = e; same = λ u ne. put_other set t false u ne }

  place_in : (axis : ℕ) → leb 1 axis && leb axis s.axes ≡ true → axis - 1 < s.axes
  place_in axis e =
      omega (
        arith,
        leb-true 1 axis (and_left (leb 1 axis) (leb axis s.axes) e),
        leb-true axis s.axes (and_right (leb 1 axis) (leb axis s.axes) e),
      )

  -- ---- forward

  forward_table_of : (set : Axes) (byte : ℕ) (xs : List ℤ) (t : ℕ) → Agrees set byte xs → t < s.axes → set t ≡ false →
      turned_table s t xs ≡ values_of (points_of s) (table_of (neighbour s) s.axes (put set t true) r)
  unfolding turned_table
  forward_table_of set byte xs t a h e =
      ap (λ (f : ℕ → ℤ). values_of (points_of s) (forward (neighbour s) t f)) (holds set byte xs a)
      ∙ ap (values_of (points_of s))
      (forward_table (points_of s) (neighbour s) (depth s) (grid s) s.axes t r h set (put set t true) (joined set t e))

  forward_passes : (set : Axes) (byte : ℕ) (xs : List ℤ) (t : ℕ) → Agrees set byte xs → t < s.axes → set t ≡ false → is_accepted s t xs ≡ true
  unfolding is_accepted
  forward_passes set byte xs t a h e =
      ap (accepted (neighbour s) (points_of s) t) (holds set byte xs a)
      ∙ forward_accepted (points_of s) (neighbour s) (depth s) (grid s) s.axes t r h set (put set t true) (joined set t e) range.high rates.small

  marked_agrees : (set : Axes) (byte : ℕ) (xs : List ℤ) (t : ℕ) → Agrees set byte xs → t < s.axes → set t ≡ false →
      Agrees (put set t true) (byte + 2 ^ t) (turned_table s t xs)
  marked_agrees set byte xs t a h e =
      let clear : has byte t ≡ false = a.bits t ∙ e in
      record {
        few = marked_small byte t s.axes a.few h clear;
        bits =
            λ u.
            eq_or_not u t
            (λ same. rw same (has_marked_same byte t clear ∙ sym (put_same set t true)))
            (λ other. has_marked_other byte t u clear other ∙ a.bits u ∙ sym (put_other set t true u other));
        table = forward_table_of set byte xs t a h e;
      }

  forward_step : (axis : ℕ) (set : Axes) (byte : ℕ) (xs : List ℤ) → Agrees set byte xs → Step (Forward axis) set byte xs
  unfolding forward_turn model_answer
  forward_step axis set byte xs a =
      true_or_false (leb 1 axis && leb axis s.axes)
      (λ inside.
      true_or_false (set (axis - 1))
      (λ there.
      refused_step (Forward axis) set byte xs (AlreadyForward axis) a
      (rw (checks_pass set byte xs axis a, inside, a.bits (axis - 1), there))
      (rw (inside, there)))
      (λ gone.
      done_step (Forward axis) set byte (byte + 2 ^ (axis - 1)) xs (turned_table s (axis - 1) xs)
      (rw (
        checks_pass set byte xs axis a,
        inside,
        a.bits (axis - 1),
        gone,
        forward_passes set byte xs (axis - 1) a (place_in axis inside) gone,
      ))
      (rw (inside, gone))
      (marked_agrees set byte xs (axis - 1) a (place_in axis inside) gone)))
      (λ outside.
      refused_step (Forward axis) set byte xs (Axis axis) a
      (rw (checks_pass set byte xs axis a, outside))
      (rw outside))

  -- ---- back

  back_table_of : (set : Axes) (byte : ℕ) (xs : List ℤ) (t : ℕ) → Agrees set byte xs → t < s.axes → set t ≡ true →
      former_table s t xs ≡ values_of (points_of s) (table_of (neighbour s) s.axes (put set t false) r)
  unfolding former_table
  back_table_of set byte xs t a h e =
      ap (λ (f : ℕ → ℤ). values_of (points_of s) (backward (neighbour s) (height s) t f)) (holds set byte xs a)
      ∙ ap (values_of (points_of s))
      (back_table (points_of s) (neighbour s) (depth s) (grid s) s.axes t r h (put set t false) set (parted set t e) (height s) rates.border
      (shallow s t))

  cleared_agrees : (set : Axes) (byte : ℕ) (xs : List ℤ) (t : ℕ) → Agrees set byte xs → t < s.axes → set t ≡ true →
      Agrees (put set t false) (byte - 2 ^ t) (former_table s t xs)
  cleared_agrees set byte xs t a h e =
      let there : has byte t ≡ true = a.bits t ∙ e in
      record {
        few = cleared_small byte t s.axes a.few;
        bits =
            λ u.
            eq_or_not u t
            (λ same. rw same (has_cleared_same byte t there ∙ sym (put_same set t false)))
            (λ other. has_cleared_other byte t u there other ∙ a.bits u ∙ sym (put_other set t false u other));
        table = back_table_of set byte xs t a h e;
      }

  -- The former table agrees with the set without the axis, so its forward turn is accepted.
  back_passes : (set : Axes) (byte : ℕ) (xs : List ℤ) (t : ℕ) → Agrees set byte xs → t < s.axes → set t ≡ true →
      is_accepted s t (former_table s t xs) ≡ true
  back_passes set byte xs t a h e =
      forward_passes (put set t false) (byte - 2 ^ t) (former_table s t xs) t (cleared_agrees set byte xs t a h e) h (put_same set t false)

  back_step : (axis : ℕ) (set : Axes) (byte : ℕ) (xs : List ℤ) → Agrees set byte xs → Step (Back axis) set byte xs
  unfolding back_turn model_answer
  back_step axis set byte xs a =
      true_or_false (leb 1 axis && leb axis s.axes)
      (λ inside.
      true_or_false (set (axis - 1))
      (λ there.
      done_step (Back axis) set byte (byte - 2 ^ (axis - 1)) xs (former_table s (axis - 1) xs)
      (rw (
        checks_pass set byte xs axis a,
        inside,
        a.bits (axis - 1),
        there,
        back_passes set byte xs (axis - 1) a (place_in axis inside) there,
      ))
      (rw (inside, there))
      (cleared_agrees set byte xs (axis - 1) a (place_in axis inside) there))
      (λ gone.
      refused_step (Back axis) set byte xs (NotForward axis) a
      (rw (checks_pass set byte xs axis a, inside, a.bits (axis - 1), gone))
      (rw (inside, gone))))
      (λ outside.
      refused_step (Back axis) set byte xs (Axis axis) a
      (rw (checks_pass set byte xs axis a, outside))
      (rw outside))

  -- Either call.
  pub one_call : (call : Turn) (set : Axes) (byte : ℕ) (xs : List ℤ) → Agrees set byte xs → Step call set byte xs
  one_call (Forward axis) set byte xs a = forward_step axis set byte xs a
  one_call (Back axis) set byte xs a = back_step axis set byte xs a
