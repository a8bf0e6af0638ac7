-- What a check tells that passed or refused: a check does one of the two; checks in a row pass where each does, a test that refuses unless it holds passes where
-- it holds, and a call that answers a result has passed its checks.
-- Assumes nothing.
use Rattle.std.specs.Prelude.{Result, Ok, Err}
use mathlib.Core.Path.{◌≡◌, refl}
use mathlib.Core.Bool.{Bool, true, false}
use Rattle.refusals.specs.declared.Refusal.{Refusal}
use Rattle.refusals.specs.Checks.{unless, passes, ◌and_then◌, answer, Verdict}

pub passed_or_refused : {A : Type 0} (v : Verdict) → (v ≡ Ok tt → A) → ((r : Refusal) → v ≡ Err r → A) → A
passed_or_refused (Ok _) passed refusal = passed refl
passed_or_refused (Err r) passed refusal = refusal r refl

pub passes_passed : (v : Verdict) → passes v ≡ true → v ≡ Ok tt
passes_passed (Ok _) e = refl
passes_passed (Err r) e = cc

pub first_passed : (a b : Verdict) → a and_then b ≡ Ok tt → a ≡ Ok tt
first_passed (Ok _) b e = refl
first_passed (Err r) b e = cc

pub next_passed : (a b : Verdict) → a and_then b ≡ Ok tt → b ≡ Ok tt
next_passed (Ok _) b e = e
next_passed (Err r) b e = cc

pub test_passed : (t : Bool) (r : Refusal) → unless t r ≡ Ok tt → t ≡ true
test_passed true r e = refl
test_passed false r e = cc

pub result_passed : {A : Type 0} (v : Verdict) (x y : A) → answer {A = Result A Refusal} Err v (Ok x) ≡ Ok y → (v ≡ Ok tt) × (x ≡ y)
result_passed (Ok _) x y e = (refl, cc)
result_passed (Err r) x y e = (cc, cc)

pub result_refused : {A : Type 0} (v : Verdict) (x : A) (r : Refusal) → answer {A = Result A Refusal} Err v (Ok x) ≡ Err r → v ≡ Err r
result_refused (Ok _) x r e = cc
result_refused (Err q) x r e = cc
