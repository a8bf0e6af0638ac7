-- What a function of the boundary leaves: the number that it answers, the place that it writes, and what its outputs and buffers hold.
-- Assumes nothing.
use Rattle.std.specs.Prelude.{ℕ, Result, Ok, Err}
use Rattle.refusals.specs.declared.Refusal.{Refusal}
use Rattle.refusals.specs.Refusals.{number_of, place_of}

-- The two numbers that say how a call went.
pub record Told : Type 0 where
  pub number : ℕ
  pub place : ℕ

abbrev pub told : ℕ → ℕ → Told
told n p = record { number = n; place = p }

-- 0 and 0 where the call succeeded, else the refusal's number and place.
abbrev pub success : Told
success = told 0 0

abbrev pub refusal : Refusal → Told
refusal r = told (number_of r) (place_of r)

abbrev pub told_of : {A : Type 0} → Result A Refusal → Told
told_of (Ok _) = success
told_of (Err r) = refusal r

-- The two numbers with what the outputs and buffers hold.
pub record Returned (A : Type 0) : Type 0 where
  pub told : Told
  pub outputs : A

abbrev pub leaving : {A : Type 0} → Told → A → Returned A
leaving t x = record { told = t; outputs = x }

abbrev pub returned : {A : Type 0} → ℕ → ℕ → A → Returned A
returned n p x = leaving (told n p) x

-- The call succeeded, and the outputs are new; it was refused, and they are as they were.
abbrev pub done : {A : Type 0} → A → Returned A
done x = leaving success x

abbrev pub refused : {A : Type 0} → A → Refusal → Returned A
refused held r = leaving (refusal r) held
