-- Two answers are equal only where both are refused for the same, or both hold the same.
-- Assumes nothing.
use Rattle.std.specs.Prelude.{Result, Ok, Err}
use mathlib.Core.Path.{◌≡◌}
use Prim.Native.Nat.{ℕ}
use native.Mathlib.Omega.{arith}
use Rattle.refusals.specs.declared.Refusal.{Refusal}

module _ {X : Type 0} where
  pub refused_done : {B : Type 0} (r : Refusal) (x : X) → ◌≡◌ {A = Result X Refusal} (Err r) (Ok x) → B
  refused_done r x e = let z : ◌≡◌ {A = ℕ} 0 1 = cc in absurd (omega arith)

  pub same_refusal : (r w : Refusal) → ◌≡◌ {A = Result X Refusal} (Err r) (Err w) → r ≡ w
  same_refusal r w e = cc

  pub same_result : (x y : X) → ◌≡◌ {A = Result X Refusal} (Ok x) (Ok y) → x ≡ y
  same_result x y e = cc
