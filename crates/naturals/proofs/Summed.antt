-- A running sum: after t turns it is the sum of the first t terms, which is at most the whole.
-- Assumes nothing.
use mathlib.Core.Path.{◌≡◌, sym, ap, ◌∙◌}
use Prim.Native.Nat.{ℕ, zero, suc, ◌+◌, ◌*◌, ◌≤◌, ◌<◌}
use native.Mathlib.Numerals.{add-one}
use native.Mathlib.Omega.{arith}
use Rattle.naturals.specs.Sum.{sum_to}
use Rattle.naturals.proofs.Sums.{sum_to_zero, sum_to_suc, sum_to_mono}

pub record Summed (f : ℕ → ℕ) (d t sum : ℕ) : Type 0 where
  pub place : t ≤ d
  pub total : sum ≡ sum_to f t

pub summed_starts : (f : ℕ → ℕ) (d : ℕ) → Summed f d 0 0
summed_starts f d = record { place = omega arith; total = sym (sum_to_zero f) }

module _ {f : ℕ → ℕ} {d t sum : ℕ} (summed : Summed f d t sum) where
  pub summed_steps : t < d → Summed f d (t + 1) (sum + f t)
  summed_steps h =
      record { place = omega arith; total = rw add-one (omega (arith, summed.total, sum_to_suc f t)) }

  -- the sum so far, and with one term more, is at most the whole
  pub summed_so_far : sum ≤ sum_to f d
  summed_so_far = omega (arith, summed.total, sum_to_mono f t d summed.place)

  pub summed_fits : t < d → sum + f t ≤ sum_to f d
  summed_fits h = omega (arith, summed.total, sum_to_suc f t, sum_to_mono f (suc t) d h)

  -- at the end it is the whole
  pub summed_ends : d ≤ t → sum ≡ sum_to f d
  summed_ends h =
      let last : t ≡ d = omega (arith, summed.place) in
      summed.total ∙ ap (sum_to f) last

-- A sum of m terms below b is at most m times b.
pub sum_bound : (f : ℕ → ℕ) (b m : ℕ) → ((t : ℕ) → f t < b) → sum_to f m ≤ b * m
sum_bound f b zero each = omega (arith, sum_to_zero f)
sum_bound f b (suc m) each = omega (arith, sum_to_suc f m, each m, sum_bound f b m each)
