-- Checks in a row: the first that refuses decides (document 01, "First match wins").
-- Assumes nothing.
use Rattle.std.specs.Prelude.{Bool, true, false, Result, Ok, Err, ⊤}
use Rattle.refusals.specs.declared.Refusal.{Refusal}

-- What a check says: passed, which is `Ok tt`, or the first refusal that matches.
abbrev pub Verdict : Type 0
Verdict = Result ⊤ Refusal

-- The verdict of a call that also answers something.
abbrev pub verdict : {A : Type 0} → Result A Refusal → Verdict
verdict (Ok _) = Ok tt
verdict (Err r) = Err r

-- Refused, unless the test holds.
abbrev pub unless : Bool → Refusal → Verdict
unless true r = Ok tt
unless false r = Err r

-- The check does not refuse.
abbrev pub passes : Verdict → Bool
passes (Ok _) = true
passes (Err r) = false

infixr 10 ◌and_then◌
-- The first check, and where it passes the second.
abbrev pub ◌and_then◌ : Verdict → Verdict → Verdict
Ok _ and_then next = next
Err r and_then next = Err r

-- What a call answers: its refusal, or where the checks pass its result.
abbrev pub answer : {A : Type 0} → (Refusal → A) → Verdict → A → A
answer refused (Ok _) result = result
answer refused (Err r) result = refused r
