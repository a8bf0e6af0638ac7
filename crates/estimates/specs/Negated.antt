-- A table with every value negated, and an answer with its estimate negated.
-- Assumes nothing.
use Rattle.refusals.specs.declared.Refusal.{Refusal}
use Rattle.std.specs.Prelude.{List, map, ℤ, neg_ℤ, Result, Ok, Err}

unfoldable pub negated : List ℤ → List ℤ
negated table = map neg_ℤ table

-- A refusal stays.
abbrev pub negated_answer : Result ℤ Refusal → Result ℤ Refusal
negated_answer (Ok z) = Ok (neg_ℤ z)
negated_answer (Err r) = Err r
