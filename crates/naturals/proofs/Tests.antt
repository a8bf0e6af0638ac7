-- A test of every place below a bound passes exactly where it passes at each such place.
-- Assumes nothing.
use mathlib.Core.Path.{◌≡◌, refl, sym, ◌∙◌, ap, ap₂}
use mathlib.Core.Bool.{Bool, true, false, ◌&&◌, false≢true}
use mathlib.Core.Logic.{⊎_elim}
use Prim.Native.Nat.{ℕ, zero, suc, ◌<◌}
use native.Mathlib.Nat.{eq-or-lt_of_le, le_of_suc-le-suc, not-suc-le-zero}
use native.Mathlib.Omega.{arith}
use Rattle.naturals.specs.Test.{all}
use Rattle.naturals.proofs.Cases.{true_or_false}

pub and_left : (a b : Bool) → a && b ≡ true → a ≡ true
and_left true b e = refl
and_left false b e = e

pub and_right : (a b : Bool) → a && b ≡ true → b ≡ true
and_right true b e = e
and_right false b e = cc

pub all_zero : (f : ℕ → Bool) → all f 0 ≡ true
unfolding all
all_zero f = refl

pub all_suc : (f : ℕ → Bool) (m : ℕ) → all f (suc m) ≡ all f m && f m
unfolding all
all_suc f m = refl

-- Tests that say the same at each place say the same of the whole.
pub all_cong : (f g : ℕ → Bool) (m : ℕ) → ((k : ℕ) → k < m → f k ≡ g k) → all f m ≡ all g m
all_cong f g zero same = all_zero f ∙ sym (all_zero g)
all_cong f g (suc m) same =
    all_suc f m ∙ ap₂ ◌&&◌ (all_cong f g m (λ k h. same k (omega arith))) (same m (omega arith)) ∙ sym (all_suc g m)

-- Where the whole test passes, it passes at each place.
pub all_at : (f : ℕ → Bool) (m : ℕ) → all f m ≡ true → (k : ℕ) → k < m → f k ≡ true
all_at f zero e k h = absurd (not-suc-le-zero h)
all_at f (suc m) e k h =
    let both : all f m && f m ≡ true = sym (all_suc f m) ∙ e in
    ⊎_elim
    (λ last. ap f last ∙ and_right (all f m) (f m) both)
    (λ below. all_at f m (and_left (all f m) (f m) both) k below)
    (eq-or-lt_of_le (le_of_suc-le-suc h))

-- Where it passes at each place, the whole test passes.
pub all_from : (f : ℕ → Bool) (m : ℕ) → ((k : ℕ) → k < m → f k ≡ true) → all f m ≡ true
all_from f zero each = all_zero f
all_from f (suc m) each = rw (all_suc, all_from f m (λ k h. each k (omega arith)), each m (omega arith))

-- One place that fails decides.
pub all_fails : (f : ℕ → Bool) (m k : ℕ) → k < m → f k ≡ false → all f m ≡ false
all_fails f m k h e = true_or_false (all f m) (λ pass. absurd (false≢true (sym e ∙ all_at f m pass k h))) (λ fail. fail)

-- Where not all places pass, one fails.
pub one_fails : {A : Type 0} (f : ℕ → Bool) (m : ℕ) → all f m ≡ false → ((k : ℕ) → k < m → f k ≡ false → A) → A
unfolding all
one_fails f zero e found = absurd (false≢true (sym e))
one_fails f (suc m) e found =
    true_or_false (f m)
    (λ passes. one_fails f m (and_fails (all f m) (f m) e passes) (λ k h fails. found k (omega arith) fails))
    (λ fails. found m (omega arith) fails)
  where
    and_true : (a : Bool) → a && true ≡ a
    and_true true = refl
    and_true false = refl

    and_fails : (a b : Bool) → a && b ≡ false → b ≡ true → a ≡ false
    and_fails a true e p = sym (and_true a) ∙ e
    and_fails a false e p = absurd (false≢true p)
