-- What a turn answers, by the first check that refuses: that of the state, the table and the axis, that of the axis's bit, and that of the contents.
-- Each case is the definition with its tests decided.
-- Assumes nothing.
use mathlib.Core.Path.{◌≡◌, ap, ap₂, sym, ◌∙◌}
use mathlib.Core.Bool.{Bool, true, false}
use mathlib.Core.List.{List}
use Prim.Native.Nat.{ℕ, ◌-◌, ◌<◌}
use lib.IntN.{ℤ}
use lib.ListN.{length}
use Rattle.std.specs.Prelude.{Ok, Err}
use Rattle.naturals.proofs.Cases.{true_or_false}
use Rattle.refusals.specs.declared.Refusal.{Refusal}
use Rattle.refusals.specs.declared.Refusal.TheVariants.{Contents, AlreadyForward, NotForward}
use Rattle.states.specs.declared.State.{State}
use Rattle.states.specs.States.{has, marked, cleared, toggled}
use Rattle.states.specs.After.{after, kept}
use Rattle.shapes.specs.Shapes.{points_of}
use Rattle.grids.specs.Turned.{turned_table, former_table}
use Rattle.turns.specs.Turns.{is_accepted, check_turn, forward_turn, back_turn}
use Rattle.turns.specs.Steps.{tried, tried_on, marked_as, turn_on}
use Rattle.grids.proofs.Turned.{former_length}
use Rattle.lists.specs.Steps.{OnAxis}
use Rattle.turns.proofs.Checking.{MayTurn}
use Rattle.turns.proofs.Accepting.{in_limits, before_refuses, after_refuses}
use Rattle.turns.proofs.Trying.{forward_was_done, forward_was_refused, back_was_done, back_was_refused}
use Rattle.turns.proofs.Undoing.{turned_of_former}

module _ (s : State) (xs : List ℤ) (axis : ℕ) where
  pub forward_unchecked : (r : Refusal) → check_turn s (length xs) axis ≡ Err r → forward_turn s xs axis ≡ kept xs r
  unfolding forward_turn
  forward_unchecked r e = rw e

  pub back_unchecked : (r : Refusal) → check_turn s (length xs) axis ≡ Err r → back_turn s xs axis ≡ kept xs r
  unfolding back_turn
  back_unchecked r e = rw e

  module _ (e : check_turn s (length xs) axis ≡ Ok tt) where
    pub forward_already : has s.forward (axis - 1) ≡ true → forward_turn s xs axis ≡ kept xs (AlreadyForward axis)
    unfolding forward_turn
    forward_already h = rw (e, h)

    pub forward_refused : has s.forward (axis - 1) ≡ false → is_accepted s.shape (axis - 1) xs ≡ false →
        forward_turn s xs axis ≡ kept xs Contents
    unfolding forward_turn
    forward_refused h a = rw (e, h, a)

    pub forward_done : has s.forward (axis - 1) ≡ false → is_accepted s.shape (axis - 1) xs ≡ true →
        forward_turn s xs axis ≡ after (Ok (marked s (axis - 1))) (turned_table s.shape (axis - 1) xs)
    unfolding forward_turn
    forward_done h a = rw (e, h, a)

    pub back_not_forward : has s.forward (axis - 1) ≡ false → back_turn s xs axis ≡ kept xs (NotForward axis)
    unfolding back_turn
    back_not_forward h = rw (e, h)

    pub back_refused : has s.forward (axis - 1) ≡ true → is_accepted s.shape (axis - 1) (former_table s.shape (axis - 1) xs) ≡ false →
        back_turn s xs axis ≡ kept xs Contents
    unfolding back_turn
    back_refused h a = rw (e, h, a)

    pub back_done : has s.forward (axis - 1) ≡ true → is_accepted s.shape (axis - 1) (former_table s.shape (axis - 1) xs) ≡ true →
        back_turn s xs axis ≡ after (Ok (cleared s (axis - 1))) (former_table s.shape (axis - 1) xs)
    unfolding back_turn
    back_done h a = rw (e, h, a)

-- What the passed checks tell the steps of a turn, on any axis of the shape.
pub on_axis : {s : State} {xs : List ℤ} {axis t : ℕ} → MayTurn s (length xs) axis → t < s.shape.axes → OnAxis s.shape t xs
on_axis m place = record { few = m.range.high; low = m.range.top; place = place; long = m.long }

-- ---- in either direction

module _ (s : State) (xs : List ℤ) (axis : ℕ) where
  pub turn_unchecked : (ahead : Bool) (r : Refusal) → check_turn s (length xs) axis ≡ Err r → turn_on ahead s xs axis ≡ kept xs r
  turn_unchecked true = forward_unchecked s xs axis
  turn_unchecked false = back_unchecked s xs axis

  -- What the state that it leaves tells of the axis.
  forward_free : (next : State) → Ok next ≡ marked_as true s axis → (has s.forward (axis - 1) ≡ false) × (next ≡ marked s (axis - 1))
  unfolding marked_as toggled
  forward_free next e =
      true_or_false (has s.forward (axis - 1))
      (λ set. let never = rw set at e in absurd cc)
      (λ clear. let same = rw clear at e in (clear, cc))

  back_there : (next : State) → Ok next ≡ marked_as false s axis → (has s.forward (axis - 1) ≡ true) × (next ≡ cleared s (axis - 1))
  unfolding marked_as toggled
  back_there next e =
      true_or_false (has s.forward (axis - 1))
      (λ set. let same = rw set at e in (set, cc))
      (λ clear. let never = rw clear at e in absurd cc)

  module _ (e : check_turn s (length xs) axis ≡ Ok tt) where
    pub turn_unmarked : (ahead : Bool) (r : Refusal) → Err r ≡ marked_as ahead s axis → turn_on ahead s xs axis ≡ kept xs r
    unfolding marked_as
    turn_unmarked true r f =
        true_or_false (has s.forward (axis - 1))
        (λ set. let same = rw set at f in let why : r ≡ AlreadyForward axis = cc in rw why (forward_already s xs axis e set))
        (λ clear. let never = rw clear at f in absurd cc)
    turn_unmarked false r f =
        true_or_false (has s.forward (axis - 1))
        (λ set. let never = rw set at f in absurd cc)
        (λ clear. let same = rw clear at f in let why : r ≡ NotForward axis = cc in rw why (back_not_forward s xs axis e clear))

    module _ (long : length xs ≡ points_of s.shape) {next : State} where
      -- Past the limit before it, it is not accepted: back, the forward turn of the former table leads to this one.
      pub turn_past : (ahead : Bool) → Ok next ≡ marked_as ahead s axis → in_limits xs ≡ false → turn_on ahead s xs axis ≡ kept xs Contents
      turn_past true f past = forward_refused s xs axis e (forward_free next f).0 (before_refuses s.shape (axis - 1) xs long past)
      turn_past false f past =
          back_refused s xs axis e (back_there next f).0
          (after_refuses s.shape (axis - 1) (former_table s.shape (axis - 1) xs) (former_length s.shape (axis - 1) xs)
          (ap in_limits (turned_of_former s.shape (axis - 1) xs long) ∙ past))

      module _ {ys : List ℤ} where
        pub turn_refused : (ahead : Bool) → Ok next ≡ marked_as ahead s axis → tried false ys ≡ tried_on ahead s.shape (axis - 1) xs →
            after (Err Contents) ys ≡ turn_on ahead s xs axis
        turn_refused true f was =
            let w = forward_was_refused s.shape (axis - 1) xs ys was in
            ap (after (Err Contents)) w.1 ∙ sym (forward_refused s xs axis e (forward_free next f).0 w.0)
        turn_refused false f was =
            let w = back_was_refused s.shape (axis - 1) xs ys was in
            ap (after (Err Contents)) w.1 ∙ sym (back_refused s xs axis e (back_there next f).0 w.0)

        pub turn_done : (ahead : Bool) → Ok next ≡ marked_as ahead s axis → tried true ys ≡ tried_on ahead s.shape (axis - 1) xs →
            after (Ok next) ys ≡ turn_on ahead s xs axis
        turn_done true f was =
            let w = forward_was_done s.shape (axis - 1) xs ys was in
            let free = forward_free next f in
            ap₂ (λ (n : State) (zs : List ℤ). after (Ok n) zs) free.1 w.1 ∙ sym (forward_done s xs axis e free.0 w.0)
        turn_done false f was =
            let w = back_was_done s.shape (axis - 1) xs ys was in
            let there = back_there next f in
            ap₂ (λ (n : State) (zs : List ℤ). after (Ok n) zs) there.1 w.1 ∙ sym (back_done s xs axis e there.0 w.0)
