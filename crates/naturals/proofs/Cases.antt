-- Cases: two numbers compare one way or the other, a number is another or not, and a test passes or not. Each of these is decided by computing.
-- Assumes nothing.
use mathlib.Core.Path.{◌≡◌, refl}
use mathlib.Core.Bool.{Bool, true, false}
use Prim.Native.Nat.{ℕ, ◌≤◌, ◌<◌}
use native.Mathlib.Decide.{dec_le, ℕ_discrete}
use native.Mathlib.Omega.{arith}

module _ {A : Type 0} where
  pub le_or_lt : (a b : ℕ) → (a ≤ b → A) → (b < a → A) → A
  le_or_lt a b low high = go (dec_le a b)
    where
      go : Dec (a ≤ b) → A
      go (yes h) = low h
      go (no h) = high (omega arith)

  pub eq_or_not : (a b : ℕ) → (a ≡ b → A) → ((a ≡ b → ⊥) → A) → A
  eq_or_not a b same other = go (ℕ_discrete a b)
    where
      go : Dec (a ≡ b) → A
      go (yes e) = same e
      go (no e) = other e

  pub true_or_false : (t : Bool) → (t ≡ true → A) → (t ≡ false → A) → A
  true_or_false true pass fail = pass refl
  true_or_false false pass fail = fail refl
