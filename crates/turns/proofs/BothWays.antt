-- Forward then back, and back then forward, give the table and the state that stood before, wherever the first turn was not refused. True since
-- on lists of values forward and back undo each other, and the bit of the axis is set by the one and cleared by the other. So back leaves the one table that an
-- accepted forward turn takes to the present one, and is refused with 10 where there is none.
-- Assumes nothing.
use Rattle.std.specs.Prelude.{Ok, Err}
use mathlib.Core.Path.{◌≡◌, refl, ap, sym, ◌∙◌}
use mathlib.Core.Bool.{true, false, not}
use mathlib.Core.List.{List}
use Prim.Native.Nat.{ℕ, ◌-◌, ◌^◌}
use native.Mathlib.Nat.{add-sub_cancel, sub-add_cancel}
use lib.IntN.{ℤ}
use lib.ListN.{length}
use borrow.Author.Tests.{not-true}
use Rattle.naturals.proofs.Cases.{true_or_false}
use Rattle.refusals.specs.declared.Refusal.TheVariants.{Contents, AlreadyForward, NotForward}
use Rattle.refusals.proofs.Results.{refused_done, same_result}
use Rattle.refusals.specs.Checks.{unless, ◌and_then◌, answer, Verdict}
use Rattle.refusals.proofs.Passing.{first_passed, next_passed, test_passed}
use Rattle.states.specs.declared.State.{State}
use Rattle.states.specs.States.{has, marked, cleared}
use Rattle.states.proofs.Bits.{has_marked_same, has_cleared_same, marked_small, cleared_small, bit_le}
use Rattle.states.specs.After.{After, after, kept}
use Rattle.grids.specs.Turned.{turned_table, former_table}
use Rattle.grids.proofs.Turned.{turned_length, former_length}
use Rattle.turns.specs.Turns.{is_accepted, check_turn, forward_turn, back_turn}
use Rattle.turns.proofs.Checking.{MayTurn, place_of, turn_passed, may_turn}
use Rattle.turns.proofs.Undoing.{turned_of_former, former_of_turned, LeadsTo, only_former, leads_former, none_leads, refused_where_none}
use Rattle.turns.proofs.Answering.{back_done, back_refused}

-- A call that was done passed its checks, and left what its definition says.
done_passed : (v : Verdict) (xs ys : List ℤ) (next given : State) (zs : List ℤ) →
    answer (kept xs) v (after (Ok given) zs) ≡ after (Ok next) ys → (v ≡ Ok tt) × (given ≡ next) × (zs ≡ ys)
done_passed (Ok _) xs ys next given zs e =
    (refl, same_result given next (ap (λ (a : After). a.answer) e), ap (λ (a : After). a.table) e)
done_passed (Err r) xs ys next given zs e = refused_done r next (ap (λ (a : After). a.answer) e)

-- What a forward turn that was done tells.
pub record WentForward (s : State) (xs : List ℤ) (axis : ℕ) : Type 0 where
  pub may : MayTurn s (length xs) axis
  pub clear : has s.forward (axis - 1) ≡ false
  pub accepted : is_accepted s.shape (axis - 1) xs ≡ true

pub went_forward : (s next : State) (xs ys : List ℤ) (axis : ℕ) → forward_turn s xs axis ≡ after (Ok next) ys →
    WentForward s xs axis × (marked s (axis - 1) ≡ next) × (turned_table s.shape (axis - 1) xs ≡ ys)
unfolding forward_turn
went_forward s next xs ys axis e =
    let turn = check_turn s (length xs) axis in
    let fresh = unless (not (has s.forward (axis - 1))) (AlreadyForward axis) in
    let good = unless (is_accepted s.shape (axis - 1) xs) Contents in
    let d = done_passed (turn and_then fresh and_then good) xs ys next (marked s (axis - 1)) (turned_table s.shape (axis - 1) xs) e in
    let rest = next_passed turn (fresh and_then good) d.0 in (
      record {
        may = turn_passed s (length xs) axis (first_passed turn (fresh and_then good) d.0);
        clear =
            not-true (has s.forward (axis - 1))
            (test_passed (not (has s.forward (axis - 1))) (AlreadyForward axis) (first_passed fresh good rest));
        accepted = test_passed (is_accepted s.shape (axis - 1) xs) Contents (next_passed fresh good rest);
      },
      d.1,
      d.2,
    )

-- What a back turn that was done tells.
pub record WentBack (s : State) (xs : List ℤ) (axis : ℕ) : Type 0 where
  pub may : MayTurn s (length xs) axis
  pub marked : has s.forward (axis - 1) ≡ true
  pub accepted : is_accepted s.shape (axis - 1) (former_table s.shape (axis - 1) xs) ≡ true

pub went_back : (s next : State) (xs ys : List ℤ) (axis : ℕ) → back_turn s xs axis ≡ after (Ok next) ys →
    WentBack s xs axis × (cleared s (axis - 1) ≡ next) × (former_table s.shape (axis - 1) xs ≡ ys)
unfolding back_turn
went_back s next xs ys axis e =
    let turn = check_turn s (length xs) axis in
    let there = unless (has s.forward (axis - 1)) (NotForward axis) in
    let good = unless (is_accepted s.shape (axis - 1) (former_table s.shape (axis - 1) xs)) Contents in
    let d = done_passed (turn and_then there and_then good) xs ys next (cleared s (axis - 1)) (former_table s.shape (axis - 1) xs) e in
    let rest = next_passed turn (there and_then good) d.0 in (
      record {
        may = turn_passed s (length xs) axis (first_passed turn (there and_then good) d.0);
        marked = test_passed (has s.forward (axis - 1)) (NotForward axis) (first_passed there good rest);
        accepted =
            test_passed (is_accepted s.shape (axis - 1) (former_table s.shape (axis - 1) xs)) Contents (next_passed there good rest);
      },
      d.1,
      d.2,
    )

-- Forward, then back.
pub forward_then_back : (s next : State) (xs ys : List ℤ) (axis : ℕ) → forward_turn s xs axis ≡ after (Ok next) ys →
    back_turn next ys axis ≡ after (Ok s) xs
unfolding back_turn
forward_then_back s next xs ys axis e =
    let w = went_forward s next xs ys axis e in
    let t = axis - 1 in
    let m = w.0.may in
    let again : former_table s.shape t (turned_table s.shape t xs) ≡ xs = former_of_turned s.shape t xs m.long in
    rw (← w.1, ← w.2)
    (rw (
      may_turn (marked s t) (length (turned_table s.shape t xs)) axis
          (record {
            range = m.range;
            few = marked_small s.forward t s.shape.axes m.few (place_of m) w.0.clear;
            long = turned_length s.shape t xs;
            first = m.first;
            last = m.last;
          }),
      has_marked_same s.forward t w.0.clear,
      again,
      w.0.accepted,
      add-sub_cancel s.forward (2 ^ t),
    ))

-- Back, then forward.
pub back_then_forward : (s next : State) (xs ys : List ℤ) (axis : ℕ) → back_turn s xs axis ≡ after (Ok next) ys →
    forward_turn next ys axis ≡ after (Ok s) xs
unfolding forward_turn
back_then_forward s next xs ys axis e =
    let w = went_back s next xs ys axis e in
    let t = axis - 1 in
    let m = w.0.may in
    rw (← w.1, ← w.2)
    (rw (
      may_turn (cleared s t) (length (former_table s.shape t xs)) axis
          (record {
            range = m.range;
            few = cleared_small s.forward t s.shape.axes m.few;
            long = former_length s.shape t xs;
            first = m.first;
            last = m.last;
          }),
      has_cleared_same s.forward t w.0.marked,
      w.0.accepted,
      turned_of_former s.shape t xs m.long,
      sub-add_cancel (bit_le s.forward t w.0.marked),
    ))

-- Refusal 10 on back, as the call answers it: where the checks before it pass, if and only if no table with an accepted forward turn leads to the present one.
pub refused_none_leads : (s : State) (xs : List ℤ) (axis : ℕ) → check_turn s (length xs) axis ≡ Ok tt → has s.forward (axis - 1) ≡ true →
    back_turn s xs axis ≡ kept xs Contents → (ys : List ℤ) → LeadsTo s.shape (axis - 1) ys xs → ⊥
refused_none_leads s xs axis passed there e =
    none_leads s.shape (axis - 1) xs
    (true_or_false (is_accepted s.shape (axis - 1) (former_table s.shape (axis - 1) xs))
    (λ good. refused_done Contents (cleared s (axis - 1)) (ap (λ (a : After). a.answer) (sym e ∙ back_done s xs axis passed there good)))
    (λ bad. bad))

pub none_leads_refused : (s : State) (xs : List ℤ) (axis : ℕ) → check_turn s (length xs) axis ≡ Ok tt → has s.forward (axis - 1) ≡ true →
    ((ys : List ℤ) → LeadsTo s.shape (axis - 1) ys xs → ⊥) → back_turn s xs axis ≡ kept xs Contents
none_leads_refused s xs axis passed there none =
    back_refused s xs axis passed there
    (refused_where_none s.shape (axis - 1) xs (turn_passed s (length xs) axis passed).long none)

-- Where there is such a table, back leaves it, with the axis cleared.
pub back_gives : (s : State) (xs ys : List ℤ) (axis : ℕ) → check_turn s (length xs) axis ≡ Ok tt → has s.forward (axis - 1) ≡ true →
    LeadsTo s.shape (axis - 1) ys xs → back_turn s xs axis ≡ after (Ok (cleared s (axis - 1))) ys
back_gives s xs ys axis passed there l =
    back_done s xs axis passed there (leads_former s.shape (axis - 1) ys xs l)
    ∙ ap (after (Ok (cleared s (axis - 1)))) (sym (only_former s.shape (axis - 1) ys xs l))
