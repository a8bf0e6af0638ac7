-- Reading from the front of some bytes: what was read and the bytes after it, or why it is refused.
-- Assumes nothing.
use Rattle.refusals.specs.Checks.{Verdict}
use Rattle.std.specs.Prelude.{List, ℕ, Ok, Err}
use Rattle.refusals.specs.declared.Refusal.{Refusal}

pub data Read (A : Type 0) : Type 0 where
  got : A → List ℕ → Read A
  refused : Refusal → Read A

infixl 10 ◌next◌
-- What is read next, from the bytes that are left.
abbrev pub ◌next◌ : {A B : Type 0} → Read A → (A → List ℕ → Read B) → Read B
got a rest next more = more a rest
refused r next more = refused r

infixr 8 ◌then_read◌
-- Read on, where a check passes.
abbrev pub ◌then_read◌ : {A : Type 0} → Verdict → Read A → Read A
(Ok _) then_read read = read
Err r then_read read = refused r
