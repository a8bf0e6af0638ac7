-- Arrays made by a closure.
-- Assumes nothing.
use mathlib.Core.List.{List}
use mathlib.Core.Path.{◌≡◌, sym, subst}
use Prim.Native.Nat.{ℕ, zero, suc, ◌+◌, ◌≤◌, ◌<◌}
use native.Mathlib.Omega.{arith}
use lib.ListN.{get_or}
use Rattle.std.specs.Array.{IsFromFnResultFrom, IsFromFnResult}
use Rattle.std.specs.Fn.{Called, Mut}
use Rattle.naturals.proofs.Cases.{eq_or_not}

-- An array made by a closure that calls leave as it is: each element is what its call answers.
module _ {F B : Type 0} (g : Mut F (ℕ × Unit {0}) B) (P : ℕ → B → Type 0) (f : F) (call : (i : ℕ) (y : B) (f' : F) → Called g f (i, tt) y f' → P i y × (f' ≡ f)) where
  made_from : (ys : List B) (d : B) (i n : ℕ) → IsFromFnResultFrom g f ys i n → (k : ℕ) → i ≤ k → k < i + n → P k (get_or ys k d)
  made_from ys d i zero made k low high = absurd (omega arith)
  made_from ys d i (suc n) (q, y, is, called, rest) k low high =
      let here = call i y q called in
      eq_or_not i k
      (λ same. subst (λ m. P m (get_or ys m d)) same (subst (P i) (sym (is.1 d)) here.0))
      (λ other. made_from ys d (i + 1) n (subst (λ f'. IsFromFnResultFrom g f' ys (i + 1) n) here.1 rest) k (omega arith) (omega arith))

  pub made : (ys : List B) (n : ℕ) → IsFromFnResult g f ys n → (d : B) (k : ℕ) → k < n → P k (get_or ys k d)
  made ys n all d k h = made_from ys d 0 n all.each k (omega arith) (omega arith)
