-- Sums of terms that are no larger, and sums that differ in one term: what they differ by is what that term differs by.
-- Assumes nothing.
use mathlib.Core.Path.{◌≡◌, ap}
use Prim.Native.Nat.{ℕ, zero, suc, ◌+◌, ◌≤◌, ◌<◌}
use native.Mathlib.Omega.{arith}
use Rattle.naturals.specs.Sum.{sum_to}
use Rattle.naturals.proofs.Sums.{sum_to_zero, sum_to_suc, sum_to_cong}
use Rattle.naturals.proofs.Cases.{eq_or_not}

pub sum_le : (f g : ℕ → ℕ) (m : ℕ) → ((t : ℕ) → t < m → f t ≤ g t) → sum_to f m ≤ sum_to g m
sum_le f g zero less = omega (arith, sum_to_zero f)
sum_le f g (suc m) less =
    omega (arith, sum_to_suc f m, sum_to_suc g m, less m (omega arith), sum_le f g m (λ t h. less t (omega arith)))

pub sum_change : (f g : ℕ → ℕ) (m i : ℕ) → i < m → ((t : ℕ) → t < m → (t ≡ i → ⊥) → f t ≡ g t) → sum_to f m + g i ≡ sum_to g m + f i
sum_change f g zero i h same = absurd (omega arith)
sum_change f g (suc m) i h same =
    eq_or_not i m
    (λ e.
    let before = sum_to_cong f g m (λ t l. same t (omega arith) (λ j. omega arith)) in
    omega (arith, sum_to_suc f m, sum_to_suc g m, ap f e, ap g e, before))
    (λ other.
    let before = sum_change f g m i (omega arith) (λ t l ne. same t (omega arith) ne) in
    omega (arith, sum_to_suc f m, sum_to_suc g m, same m (omega arith) (λ j. omega arith), before))
