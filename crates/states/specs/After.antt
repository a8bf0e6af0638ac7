-- What a call leaves that works in a table: its answer, and the contents of the table.
-- Assumes nothing.
use Rattle.refusals.specs.Checks.{Verdict}
use Rattle.states.specs.declared.State.{State}
use Rattle.std.specs.Prelude.{List, ℤ, Result, Ok, Err}
use Rattle.refusals.specs.declared.Refusal.{Refusal}

pub record After : Type 0 where
  pub answer : Result State Refusal
  pub table : List ℤ

abbrev pub after : Result State Refusal → List ℤ → After
after a xs = record { answer = a; table = xs }

-- Refused: the table holds what it held.
abbrev pub kept : List ℤ → Refusal → After
kept xs r = after (Err r) xs

-- What a call leaves that works in a table and yields no state: its verdict, and the contents of the table.
pub record Left : Type 0 where
  pub verdict : Verdict
  pub table : List ℤ

abbrev pub left : Verdict → List ℤ → Left
left v xs = record { verdict = v; table = xs }

-- Refused, the table holds what it held; else it holds the new contents.
abbrev pub left_by : List ℤ → Verdict → List ℤ → Left
left_by xs (Ok _) ys = left (Ok tt) ys
left_by xs (Err r) ys = left (Err r) xs
