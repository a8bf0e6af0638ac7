-- Demand 3, whole: after every list of forward and back calls on a loaded table, each call was refused exactly where the model refuses it, with that number and
-- place; the state is the shape with exactly the bits of the model's set; the table is the table of that set in all N places. By induction over the list.
-- Assumes nothing.
use mathlib.Core.Path.{◌≡◌, refl, ap₂}
use mathlib.Core.List.{List, [], ◌∷◌}
use Prim.Native.Nat.{ℕ, ◌^◌, ◌<◌}
use lib.IntN.{ℤ}
use lib.Pow.{pow_pos}
use Rattle.hierarchy.specs.declared.Turn.{Turn}
use Rattle.hierarchy.specs.Turns.{values_of}
use Rattle.hierarchy.specs.Sets.{table_of, no_axis}
use Rattle.shapes.specs.declared.Shape.{Shape}
use Rattle.shapes.specs.Shapes.{points_of}
use Rattle.shapes.proofs.Checked.{InRange}
use Rattle.grids.specs.Grids.{neighbour}
use Rattle.states.specs.States.{has}
use Rattle.states.proofs.Bits.{no_bits}
use Rattle.runs.specs.Model.{Axes, model_set, model_answers, model_after}
use Rattle.runs.specs.Runs.{carried_out, Ran, run}
use Rattle.runs.proofs.Calls.{state_of, Rates, Agrees, one_call}

module _ (s : Shape) (range : InRange s) (r : ℕ → ℤ) (rates : Rates (points_of s) r) where
  -- What document 01 says of a run from a state and a table that agree with a set.
  pub record AsModel (calls : List Turn) (set : Axes) (ran : Ran) : Type 0 where
    pub answers : ran.answers ≡ model_answers s.axes set calls
    pub shape : ran.state.shape ≡ s
    pub few : ran.state.forward < 2 ^ s.axes
    pub bits : (t : ℕ) → has ran.state.forward t ≡ model_after s.axes set calls t
    pub table :
        ran.table ≡ values_of (points_of s) (table_of (neighbour s) s.axes (model_after s.axes set calls) r)

  pub run_from : (calls : List Turn) (set : Axes) (byte : ℕ) (xs : List ℤ) → Agrees s range r rates set byte xs → AsModel calls set (run calls (state_of s byte) xs)
  unfolding run model_answers model_after
  run_from [] set byte xs a =
      record { answers = refl; shape = refl; few = a.few; bits = a.bits; table = a.table }
  run_from (call ∷ calls) set byte xs a =
      let one = one_call s range r rates call set byte xs a in
      let rest = run_from calls (model_set s.axes set call) one.next (carried_out call (state_of s byte) xs).table one.agrees in
      rw one.hands
      (record {
        answers = ap₂ ◌∷◌ one.says rest.answers;
        shape = rest.shape;
        few = rest.few;
        bits = rest.bits;
        table = rest.table;
      })

  -- From the state and the table that a load leaves: no axis forward, and the table of the empty set.
  pub demand_3 : (calls : List Turn) →
      AsModel calls no_axis
      (run calls (state_of s 0) (values_of (points_of s) (table_of (neighbour s) s.axes no_axis r)))
  demand_3 calls = run_from calls no_axis 0 _ (record { few = pow_pos s.axes; bits = no_bits; table = refl })
