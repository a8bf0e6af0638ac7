-- Demand 3 of a load and of the call that runs a list: after a load that was not refused, every list of calls is answered as the model answers it, and leaves the
-- state and the table of the model's set. From demand 3 of the definitions, since a loaded table is the table of the empty set. An axis is then forward if and only
-- if its last unrefused call went forward, since that holds of the model's set.
-- Assumes nothing.
use Rattle.std.specs.Prelude.{Ok}
use mathlib.Core.Path.{◌≡◌, ap, sym, ◌∙◌}
use mathlib.Core.Bool.{true}
use mathlib.Core.List.{List, [], map}
use Prim.Native.Nat.{ℕ, ◌-◌, ◌≤◌}
use lib.IntN.{ℤ}
use lib.ListN.{length}
use Rattle.hierarchy.specs.declared.Turn.{Turn}
use Rattle.hierarchy.specs.Turns.{value_at}
use Rattle.hierarchy.specs.Sets.{no_axis}
use Rattle.hierarchy.proofs.Values.{values_length}
use Rattle.shapes.specs.declared.Shape.{Shape}
use Rattle.shapes.specs.Shapes.{points_of}
use Rattle.shapes.proofs.Checked.{InRange}
use Rattle.states.specs.declared.State.{State}
use Rattle.states.specs.After.{after}
use Rattle.states.specs.States.{has, check_state}
use Rattle.states.proofs.Checked.{state_passes}
use Rattle.tables.specs.Tables.{times, load}
use Rattle.runs.specs.Model.{model_answers}
use Rattle.runs.specs.Runs.{Ran, run}
use Rattle.runs.specs.Calls.{calls_of, number_in, place_in, Report, run_calls}
use Rattle.runs.specs.LastCall.{answered, LastForward}
use Rattle.runs.proofs.Demand3.{AsModel, run_from}
use Rattle.runs.proofs.LastCall.{in_set_last, last_in_set}
use Rattle.runs.proofs.Appending.{Matched, matched_runs}
use Rattle.whole.proofs.Inverse.{AreRates}
use Rattle.whole.proofs.Loading.{rates_of_list, loaded_agrees}
use Rattle.whole.proofs.AnswersUp.{load_done}

-- What document 01 says after a load of the rates xs and a list of calls.
pub record AfterLoad (s : Shape) (xs : List ℤ) (calls : List Turn) (ran : Ran) : Type 0 where
  pub range : InRange s
  pub rates : AreRates s xs
  pub model : AsModel s range (value_at xs) (rates_of_list s xs rates) calls no_axis ran

pub demand_3_of_load : (s : Shape) (xs ys : List ℤ) (st : State) → load s xs ≡ after (Ok st) ys → (calls : List Turn) → AfterLoad s xs calls (run calls st ys)
demand_3_of_load s xs ys st e calls =
    let l = load_done s xs ys st (sym e) in
    rw (l.state, l.table)
    (record {
      range = l.range;
      rates = l.rates;
      model =
          run_from s l.range (value_at xs) (rates_of_list s xs l.rates) calls no_axis 0 (map (times s.axes) xs)
          (loaded_agrees s l.range xs l.rates);
    })

-- The axes forward are those whose last unrefused call went forward, by the answers of the calls themselves.
pub forward_means : (s : Shape) (xs ys : List ℤ) (st : State) → load s xs ≡ after (Ok st) ys → (calls : List Turn) (axis : ℕ) → 1 ≤ axis →
    let ran = run calls st ys in
    has ran.state.forward (axis - 1) ≡ true → LastForward axis (answered calls ran.answers)
forward_means s xs ys st e calls axis low there =
    let model = (demand_3_of_load s xs ys st e calls).model in
    rw model.answers (in_set_last s.axes axis calls low (sym (model.bits (axis - 1)) ∙ there))

pub forward_where : (s : Shape) (xs ys : List ℤ) (st : State) → load s xs ≡ after (Ok st) ys → (calls : List Turn) (axis : ℕ) →
    let ran = run calls st ys in
    LastForward axis (answered calls ran.answers) → has ran.state.forward (axis - 1) ≡ true
forward_where s xs ys st e calls axis l =
    let model = (demand_3_of_load s xs ys st e calls).model in
    model.bits (axis - 1) ∙ last_in_set s.axes axis calls (rw model.answers at l)

-- A loaded state and table pass the checks of every call.
loaded_passes : (s : Shape) (xs ys : List ℤ) (st : State) → load s xs ≡ after (Ok st) ys → check_state st (length ys) ≡ Ok tt
unfolding run
loaded_passes s xs ys st e =
    let here = demand_3_of_load s xs ys st e [] in
    let m = here.model in
    state_passes st (length ys)
    (record {
      range = rw m.shape here.range;
      few = rw m.shape m.few;
      long = rw m.shape (ap length m.table ∙ values_length (points_of s) _);
    })

-- The call that runs a list reports exactly the model's answers.
pub record Reported (s : Shape) (calls : List Turn) (r : Report) (ran : Ran) : Type 0 where
  pub answer : r.answer ≡ Ok ran.state
  pub table : r.table ≡ ran.table
  pub numbers : r.numbers ≡ map number_in (model_answers s.axes no_axis calls)
  pub places : r.places ≡ map place_in (model_answers s.axes no_axis calls)

pub demand_3_of_run : (s : Shape) (xs ys : List ℤ) (st : State) → load s xs ≡ after (Ok st) ys →
    (directions axes ns ps : List ℕ) → Matched directions axes ns ps →
    Reported s (calls_of directions axes) (run_calls st ys directions axes ns ps) (run (calls_of directions axes) st ys)
demand_3_of_run s xs ys st e directions axes ns ps m =
    let same = matched_runs st ys directions axes ns ps (loaded_passes s xs ys st e) m in
    let model = (demand_3_of_load s xs ys st e (calls_of directions axes)).model in
    record {
      answer = ap (λ (r : Report). r.answer) same;
      table = ap (λ (r : Report). r.table) same;
      numbers = ap (λ (r : Report). r.numbers) same ∙ ap (map number_in) model.answers;
      places = ap (λ (r : Report). r.places) same ∙ ap (map place_in) model.answers;
    }
