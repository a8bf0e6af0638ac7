use Rattle.std.specs.Prelude.{Result, Ok}
use Rattle.states.specs.declared.State.{State}
use Rattle.refusals.specs.declared.Refusal.{Refusal}
use mathlib.Core.Logic.{⊎_elim}
use mathlib.Core.Path.{◌≡◌, ap, sym, ◌∙◌}
use lib.ListN.{length}
use Rattle.states.specs.States.{check_state}
use Rattle.runs.proofs.Appending.{matched_or_refused}
use Rattle.runs.specs.Runs.{handed_on, verdict_of}
use Rattle.runs.specs.Calls.{number_in, place_in}
use Rattle.runs.proofs.Reporting.{reporting_starts, reporting_steps, reporting_ends}
use Rattle.runs.proofs.run.Goals.{In_ok-check, in-Ok, in-Err}
use Rattle.runs.proofs.run.Goals as goal

-- the check of the state and the table passed
checked : (c : In_ok-check) → let a = c.args in check_state a.state (length a.table.now) ≡ Ok tt
checked c = sym c.in_ok-check.ensures.verdict

pub returns-then-axes-count : goal.returns-then-axes-count
returns-then-axes-count c =
    let seen = goal.at.returns-then-axes-count c in
    let a = c.args in
    matched_or_refused a.state a.table.now a.directions.now a.axes.now a.numbers.now a.places.now (checked seen.In_ok-check)
    (λ m.
    absurd (⊎_elim (λ w. w m.axes_long) (⊎_elim (λ w. w.1 m.numbers_long) (λ w. w.2 m.places_long)) c.then-axes-count.either))
    (λ h. sym h)

pub loop-i-init : goal.loop-i-init
loop-i-init c =
    reporting_starts _ _ _ _ _ _ (checked (goal.at.loop-i-init c).In_ok-check)
    (record {
      axes_long = c.if-axes-count.false;
      numbers_long = c.if-numbers-count.false;
      places_long = c.if-places-count.false;
    })

pub loop-i-preserved : goal.loop-i-preserved
loop-i-preserved c =
    let called = c.carry_out in
    let reached = c.loop-i.reached in
    let did = rw c.turn_of.ensures at called.ensures in
    elim c.match-carry_out.branch [
      | in-Ok w ↦
          rw (w.numbers-is, w.places-is, w.reached-is)
          (reporting_steps _ _ _ _ _ _ _ _ _ _ _ c.loop-i.invariant c.loop-i-test.true called.result called.new.table called.auto.table did _ _ _
          (ap (λ (a : Result State Refusal). number_in (verdict_of a)) (sym w.in-Ok.is))
          (ap (λ (a : Result State Refusal). place_in (verdict_of a)) (sym w.in-Ok.is))
          (ap (λ (a : Result State Refusal). handed_on reached a) (sym w.in-Ok.is)))
      | in-Err w ↦
          rw (w.numbers-is, w.places-is, w.reached-is)
          (reporting_steps _ _ _ _ _ _ _ _ _ _ _ c.loop-i.invariant c.loop-i-test.true called.result called.new.table called.auto.table did _ _ _
          (w.number.ensures ∙ ap (λ (a : Result State Refusal). number_in (verdict_of a)) (sym w.in-Err.is))
          (w.place.ensures ∙ ap (λ (a : Result State Refusal). place_in (verdict_of a)) (sym w.in-Err.is))
          (ap (λ (a : Result State Refusal). handed_on reached a) (sym w.in-Err.is)))
    ]

pub returns : goal.returns
returns c = reporting_ends _ _ _ _ _ _ _ _ _ _ _ c.loop-i.invariant c.loop-i-test.false
