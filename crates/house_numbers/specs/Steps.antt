-- What the reader of numbers answers, in terms of the definitions.
-- Assumes nothing.
use Rattle.std.specs.Prelude.{◌≡◌, List, ℕ, Result, Ok, Err}
use Rattle.std.specs.Borrow.{Bor}
use Rattle.refusals.specs.declared.Refusal.{Refusal}
use Rattle.house_numbers.specs.Reading.{Read, got, refused}

-- Something is read.
pub record Reads {A : Type 0} (x : Read A) : Type 0 where
  pub value : A
  pub rest : List ℕ
  pub is : x ≡ got value rest

-- What the code answers, as what is read: a value and the bytes after it, or why it is refused.
abbrev pub read_in : {A : Type 0} → Result (A × Bor (List ℕ)) Refusal → Read A
read_in (Ok (value, rest)) = got value rest.now
read_in (Err r) = refused r
