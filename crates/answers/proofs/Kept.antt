-- A function that answers a number other than 0 leaves every output and buffer as it was: each definition hands a refusal out beside what was held.
-- Assumes nothing.
use Rattle.std.specs.Prelude.{Option, Some, None, Result, Ok, Err}
use Rattle.refusals.specs.declared.Refusal.{Refusal}
use mathlib.Core.Bool.{true, false}
use mathlib.Core.List.{List}
use mathlib.Core.Path.{◌≡◌, refl}
use Prim.Native.Nat.{ℕ, ◌-◌}
use lib.IntN.{ℤ}
use lib.ListN.{length}
use Rattle.naturals.specs.Test.{all}
use Rattle.refusals.specs.declared.Refusal.TheVariants as refusal
use Rattle.refusals.specs.Checks.{unless, ◌and_then◌, answer, Verdict}
use Rattle.shapes.specs.declared.Shape.{Shape}
use Rattle.shapes.specs.Shapes.{sparse}
use Rattle.points.specs.declared.MarkedPoint.{MarkedPoint}
use Rattle.states.specs.declared.State.{State}
use Rattle.states.specs.After.{After, after, kept, Left, left_by}
use Rattle.states.specs.States.{check_state}
use Rattle.tables.specs.Tables.{check_table, check_rated, load, scaled_at, check_sampled, unload}
use Rattle.grids.specs.Turned.{former_table}
use Rattle.turns.specs.Turns.{is_accepted, check_turn, check_waits, forward_turn, back_turn}
use Rattle.runs.specs.Runs.{Ran, run}
use Rattle.runs.specs.Calls.{Report, calls_of, report_of, unrun, check_lengths, run_calls}
use Rattle.whole.specs.Whole.{rates_to_coefficients, has_rates, coefficients_to_rates}
use Rattle.components.specs.Components.{check_component, component_coefficients}
use Rattle.estimates.specs.declared.Estimated.{Estimated}
use Rattle.accounts.specs.declared.Account.{Account}
use Rattle.accounts.specs.declared.Usage.{Usage}
use Rattle.accounts.specs.Calls as accounts
use Rattle.house_numbers.specs.Reading.{Read, got, refused}
use Rattle.house_file.specs.Files.{Contents, filled_with, read_contents, read_file}
use Rattle.house_file.specs.Written.{written_file}
use Rattle.house_writer.specs.Writing.{kept_out, check_room, filled_out, put_file, write_file}
use Rattle.house_writer.specs.Rewriting.{form_of, written_again, rewrite_file}
use Rattle.answers.specs.Returned.{Returned}
use Rattle.answers.specs.Answers.{of_value, of_point, of_located, of_estimated, of_answer, of_after, of_left, of_report, of_reading, of_named, of_writing, of_answered, of_usage, of_table}

-- The function answered a number other than 0, and the outputs are these.
abbrev pub Keeps : {A : Type 0} → A → Returned A → Type 0
Keeps held r = (r.told.number ≡ 0 → ⊥) → r.outputs ≡ held

-- ---- where the outputs follow the answer alone

-- A count, a point's number and an estimate.
pub value_keeps : {A : Type 0} (held : A) (a : Result A Refusal) → Keeps held (of_value held a)
value_keeps held (Ok x) e = absurd (e refl)
value_keeps held (Err r) e = refl

-- The three that are values, each by its name.
pub count_keeps : (held : ℕ) (a : Result ℕ Refusal) → Keeps held (of_value held a)
count_keeps held a = value_keeps held a

pub number_of_point_keeps : (held : ℕ) (a : Result ℕ Refusal) → Keeps held (of_value held a)
number_of_point_keeps held a = value_keeps held a

pub estimate_keeps : (held : ℤ) (a : Result ℤ Refusal) → Keeps held (of_value held a)
estimate_keeps held a = value_keeps held a

pub adopt_keeps : (held : ℕ) (a : Result State Refusal) → Keeps held (of_answer held a)
adopt_keeps held (Ok s) e = absurd (e refl)
adopt_keeps held (Err r) e = refl

pub estimate_with_margin_keeps : (held : ℤ × ℕ × ℕ) (a : Result Estimated Refusal) → Keeps held (of_estimated held a)
estimate_with_margin_keeps held (Ok x) e = absurd (e refl)
estimate_with_margin_keeps held (Err r) e = refl

-- The successor and the parent.
pub located_keeps : (held : List ℕ × List ℕ × List ℕ × ℕ) (a : Result (Option MarkedPoint) Refusal) → Keeps held (of_located held a)
located_keeps held (Ok (Some p)) e = absurd (e refl)
located_keeps held (Ok None) e = absurd (e refl)
located_keeps held (Err r) e = refl

pub point_of_number_keeps : (held : List ℕ × List ℕ × List ℕ) (a : Result MarkedPoint Refusal) → Keeps held (of_point held a)
point_of_number_keeps held (Ok p) e = absurd (e refl)
point_of_number_keeps held (Err r) e = refl

pub account_usage_keeps : (held : List ℕ × ℕ × ℕ × ℕ) (a : Result Usage Refusal) → Keeps held (of_usage held a)
account_usage_keeps held (Ok u) e = absurd (e refl)
account_usage_keeps held (Err r) e = refl

pub table_under_keeps : (held : ℕ × ℕ × ℕ) (a : Result (Option Shape) Refusal) → Keeps held (of_table held a)
table_under_keeps held (Ok (Some s)) e = absurd (e refl)
table_under_keeps held (Ok None) e = absurd (e refl)
table_under_keeps held (Err r) e = refl

-- ---- where the call works in an account

answered_keeps : (a b : Account) (v : Verdict) → Keeps a.slots (of_answered (answer (accounts.refused a) v (accounts.done b)))
answered_keeps a b (Ok _) e = absurd (e refl)
answered_keeps a b (Err r) e = refl

pub open_table_keeps : (a : Account) (office tag axes level : ℕ) → Keeps a.slots (of_answered (accounts.open_table a office tag axes level))
unfolding accounts.open_table
open_table_keeps a office tag axes level = answered_keeps a _ _

pub close_table_keeps : (a : Account) (office tag : ℕ) → Keeps a.slots (of_answered (accounts.close_table a office tag))
unfolding accounts.close_table
close_table_keeps a office tag = answered_keeps a _ _

-- ---- where the call works in a table

module _ (held : ℕ) (xs : List ℤ) where
  after_keeps : (l : After) (v : Verdict) (s : State) (ys : List ℤ) → l ≡ answer (kept xs) v (after (Ok s) ys) → Keeps (held, xs) (of_after held l)
  after_keeps l (Ok _) s ys h = rw h (λ e. absurd (e refl))
  after_keeps l (Err r) s ys h = rw h (λ e. refl)

  report_keeps : (l : Report) (v : Verdict) (r : Ran) (ns ps : List ℕ) → l ≡ answer (unrun xs ns ps) v (report_of r) → Keeps (held, xs, ns, ps) (of_report held l)
  report_keeps l (Ok _) r ns ps h = rw h (λ e. absurd (e refl))
  report_keeps l (Err why) r ns ps h = rw h (λ e. refl)

  pub load_keeps : (s : Shape) → Keeps (held, xs) (of_after held (load s xs))
  unfolding load
  load_keeps s = after_keeps (load s xs) (check_rated s xs) _ _ refl

table_keeps : (xs : List ℤ) (l : Left) (v : Verdict) (ys : List ℤ) → l ≡ left_by xs v ys → Keeps xs (of_left l)
table_keeps xs l (Ok _) ys h = rw h (λ e. absurd (e refl))
table_keeps xs l (Err r) ys h = rw h (λ e. refl)

module _ (s : Shape) (xs : List ℤ) where
  pub rates_to_coefficients_keeps : Keeps xs (of_left (rates_to_coefficients s xs))
  unfolding rates_to_coefficients
  rates_to_coefficients_keeps = table_keeps xs (rates_to_coefficients s xs) (check_rated s xs) _ refl

  pub coefficients_to_rates_keeps : Keeps xs (of_left (coefficients_to_rates s xs))
  unfolding coefficients_to_rates
  coefficients_to_rates_keeps = table_keeps xs (coefficients_to_rates s xs) (check_table s xs and_then unless (has_rates s xs) refusal.Contents) _ refl

pub component_coefficients_keeps : (ls : List ℕ) (xs : List ℤ) → Keeps xs (of_left (component_coefficients ls xs))
unfolding component_coefficients
component_coefficients_keeps ls xs = table_keeps xs (component_coefficients ls xs) (check_component ls xs) _ refl

module _ (s : State) (xs : List ℤ) where
  pub forward_keeps : (axis : ℕ) → Keeps (s.forward, xs) (of_after s.forward (forward_turn s xs axis))
  unfolding forward_turn
  forward_keeps axis = after_keeps s.forward xs (forward_turn s xs axis)
      (check_turn s (length xs) axis
      and_then check_waits true s axis
      and_then unless (is_accepted s.shape (axis - 1) xs) refusal.Contents) _ _ refl

  pub back_keeps : (axis : ℕ) → Keeps (s.forward, xs) (of_after s.forward (back_turn s xs axis))
  unfolding back_turn
  back_keeps axis = after_keeps s.forward xs (back_turn s xs axis)
      (check_turn s (length xs) axis
      and_then check_waits false s axis
      and_then unless (is_accepted s.shape (axis - 1) (former_table s.shape (axis - 1) xs)) refusal.Contents) _ _ refl

  pub run_keeps : (directions axes ns ps : List ℕ) → Keeps (s.forward, xs, ns, ps) (of_report s.forward (run_calls s xs directions axes ns ps))
  unfolding run_calls
  run_keeps directions axes ns ps =
      report_keeps s.forward xs (run_calls s xs directions axes ns ps)
      (check_state s (length xs) and_then check_lengths directions axes ns ps)
      (run (calls_of directions axes) s xs) ns ps refl

  pub unload_keeps : Keeps xs (of_left (unload s xs))
  unfolding unload
  unload_keeps = table_keeps xs (unload s xs)
      (check_state s (length xs)
      and_then check_sampled s
      and_then unless (all (scaled_at s.shape.axes xs) (length xs)) refusal.Contents) _ refl

filled_keeps : (axes level : ℕ) (xs : List ℤ) (contents : Read Contents) → Keeps (axes, level, xs) (of_reading (axes, level) (filled_with xs contents))
filled_keeps axes level xs (got c rest) e = absurd (e refl)
filled_keeps axes level xs (refused r) e = refl

pub read_house_file_keeps : (axes level : ℕ) (bytes : List ℕ) (xs : List ℤ) → Keeps (axes, level, xs) (of_reading (axes, level) (read_file bytes xs))
unfolding read_file
read_house_file_keeps axes level bytes xs = filled_keeps axes level xs (read_contents (length xs) bytes)

pub house_file_shape_keeps : (held : ℕ × ℕ × ℕ) (a : Result Shape Refusal) → Keeps held (of_named held a)
house_file_shape_keeps held (Ok s) e = absurd (e refl)
house_file_shape_keeps held (Err r) e = refl

-- ---- where the call writes into an output buffer

module _ (held : ℕ) (out : List ℕ) where
  room_keeps : (file : List ℕ) (v : Verdict) → Keeps (held, out) (of_writing held (answer (kept_out out) v (filled_out file out)))
  room_keeps file (Ok _) e = absurd (e refl)
  room_keeps file (Err r) e = refl

  put_keeps : (file : List ℕ) → Keeps (held, out) (of_writing held (put_file file out))
  unfolding put_file
  put_keeps file = room_keeps file (check_room file out)

  pub write_house_file_keeps : (d n : ℕ) (rates : List ℤ) → Keeps (held, out) (of_writing held (write_file d n rates out))
  unfolding write_file
  write_house_file_keeps d n rates =
      let s = sparse d n in let file = written_file s rates in room_keeps file (check_rated s rates and_then check_room file out)

  again_keeps : (contents : Read Contents) → Keeps (held, out) (of_writing held (written_again out contents))
  again_keeps (got c rest) e = put_keeps (form_of c) e
  again_keeps (refused r) e = refl

  pub rewrite_house_file_keeps : (places : ℕ) (bytes : List ℕ) → Keeps (held, out) (of_writing held (rewrite_file places bytes out))
  unfolding rewrite_file
  rewrite_house_file_keeps places bytes = again_keeps (read_contents places bytes)
