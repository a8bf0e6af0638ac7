-- The first place that fails a test: where the places before one pass and it fails, it is that one, and where all pass it is the bound. True since a
-- bound one larger changes the answer only where all below it pass.
-- Assumes nothing.
use mathlib.Core.Path.{◌≡◌, refl, ap, ◌∙◌}
use mathlib.Core.Bool.{Bool, true, false}
use Prim.Native.Nat.{ℕ, zero, suc, ◌≤◌, ◌<◌}
use native.Mathlib.Omega.{arith}
use lib.Dec.{ltb}
use borrow.Author.Tests.{lt-ltb, le-ltb}
use Rattle.std.specs.Prelude.{if◌then◌else◌}
use Rattle.naturals.proofs.Cases.{le_or_lt, true_or_false}
use Rattle.naturals.specs.FirstFailing.{Passes, first_failing}

module _ (f : ℕ → Bool) where
  first_suc : (m : ℕ) →
      first_failing f (suc m) ≡ if ltb (first_failing f m) m then first_failing f m else if f m then suc m else m
  unfolding first_failing
  first_suc m = refl

  pub first_none : (m : ℕ) → Passes f m → first_failing f m ≡ m
  unfolding first_failing
  first_none zero each = refl
  first_none (suc m) each =
      let none : first_failing f m ≡ m = first_none m (λ k h. each k (omega arith)) in
      rw (none, le-ltb m m (omega arith), each m (omega arith))

  pub first_at_lem : (m k : ℕ) → Passes f k → f k ≡ false → k < m → first_failing f m ≡ k
  first_at_lem zero k each fails h = absurd (omega arith)
  first_at_lem (suc m) k each fails h =
      le_or_lt m k
      (λ le.
      let last : k ≡ m = omega arith in
      rw (first_suc m, first_none m (rw last at each), le-ltb m m (omega arith), rw last at fails, last))
      (λ lt. let first : first_failing f m ≡ k = first_at_lem m k each fails lt in rw (first_suc m, first, lt-ltb k m lt))

  -- Where none fails, all pass.
  pub none_first : (m : ℕ) → m ≤ first_failing f m → Passes f m
  none_first zero le k h = absurd (omega arith)
  none_first (suc m) le k h =
      let none : m ≤ first_failing f m =
      le_or_lt m (first_failing f m) (λ yes. yes)
      (λ lt. absurd (omega (arith, rw (lt-ltb (first_failing f m) m lt) at (first_suc m)))) in
      let last : f m ≡ true =
      true_or_false (f m) (λ yes. yes)
      (λ no. absurd (omega (arith, rw (le-ltb (first_failing f m) m none, no) at (first_suc m)))) in
      le_or_lt m k
      (λ ge. let same : k ≡ m = omega arith in ap f same ∙ last)
      (λ lt. none_first m none k lt)
