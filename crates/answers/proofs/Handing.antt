-- An answer handed out beside what the call left is what the boundary's definition says: number, place and outputs follow the answer, and the rest is the call's own.
-- Assumes nothing.
use Rattle.std.specs.Prelude.{Result}
use mathlib.Core.List.{List}
use mathlib.Core.Path.{◌≡◌, refl, ap, ◌∙◌}
use Prim.Native.Nat.{ℕ, zero, suc}
use lib.IntN.{ℤ}
use Rattle.refusals.specs.declared.Refusal.{Refusal}
use Rattle.refusals.specs.Checks.{Verdict}
use Rattle.numbering.specs.declared.Side.TheVariants.{Right}
use Rattle.states.specs.declared.State.{State}
use Rattle.states.specs.After.{After, after, Left, left}
use Rattle.runs.specs.Calls.{Report, report}
use Rattle.house_writer.specs.Writing.{AfterWriting, after_writing}
use Rattle.answers.specs.Returned.{Told, told, told_of, Returned, leaving, returned}
use Rattle.answers.specs.Answers.{side_of, of_value, of_answer, of_after, of_left, of_report, of_writing}

-- A number other than 0 names the right side.
pub right : (s : ℕ) → (s ≡ 0 → ⊥) → Right ≡ side_of s
right zero ne = absurd (ne refl)
right (suc s) ne = refl

module _ {n p : ℕ} where
  -- Two numbers beside outputs.
  pub beside : {A : Type 0} {t : Told} (outputs : A) → told n p ≡ t → returned n p outputs ≡ leaving t outputs
  beside outputs e = ap (λ (t : Told). leaving t outputs) e

  -- A verdict and a table.
  pub telling : {v : Verdict} {xs : List ℤ} {l : Left} → told n p ≡ told_of v → left v xs ≡ l → returned n p xs ≡ of_left l
  telling {v} {xs} {l} e h = ap (λ (t : Told). leaving t xs) e ∙ ap of_left h

  -- A state and a table.
  pub handing : (held : ℕ) {f : ℕ} {a : Result State Refusal} {xs : List ℤ} {l : After} → returned n p f ≡ of_answer held a → after a xs ≡ l → returned n p (f, xs) ≡ of_after held l
  handing held {f} {a} {xs} {l} e h = ap (λ (x : Returned ℕ). leaving x.told (x.outputs, xs)) e ∙ ap (of_after held) h

  -- A state, a table, and the two lists of answers.
  pub reporting : (held : ℕ) {f : ℕ} {a : Result State Refusal} {xs : List ℤ} {ns ps : List ℕ} {l : Report} → returned n p f ≡ of_answer held a → report a xs ns ps ≡ l →
      returned n p (f, xs, ns, ps) ≡ of_report held l
  reporting held {f} {a} {xs} {ns} {ps} {l} e h =
      ap (λ (x : Returned ℕ). leaving x.told (x.outputs, xs, ns, ps)) e ∙ ap (of_report held) h

  -- A length and an output buffer.
  pub filing : (held : ℕ) {f : ℕ} {a : Result ℕ Refusal} {out : List ℕ} {l : AfterWriting} → returned n p f ≡ of_value held a → after_writing a out ≡ l →
      returned n p (f, out) ≡ of_writing held l
  filing held {f} {a} {out} {l} e h = ap (λ (x : Returned ℕ). leaving x.told (x.outputs, out)) e ∙ ap (of_writing held) h
