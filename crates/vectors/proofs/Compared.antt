-- The walk that compares two level vectors of the same sum from the last axis down: the axes passed have equal levels, so the first t axes decide.
-- Assumes nothing.
use mathlib.Core.Path.{◌≡◌, refl, ap, ◌∙◌}
use Prim.Native.Nat.{ℕ, suc, ◌-◌, ◌≤◌, ◌<◌}
use native.Mathlib.Omega.{arith}
use Rattle.naturals.specs.Sum.{sum_to}
use Rattle.std.specs.declared.cmp.Ordering.{Ordering}
use Rattle.std.specs.declared.cmp.Ordering.TheVariants.{Less, Equal, Greater}
use Rattle.std.specs.Ordering.{nat_cmp}
use Rattle.std.proofs.lemmas.Cmp.{ranked}
use Rattle.numbering.specs.Order.{by, by_levels, order_of_levels}
use Rattle.numbering.proofs.Ordering.{by_less, by_more, by_equal, levels_zero, levels_suc}

-- Where std's comparison of two numbers does not say equal, it decides; where it does, they are equal.
pub unequal_decides : (a b : ℕ) (next r : Ordering) → r ≡ nat_cmp a b → (r ≡ Equal → ⊥) → by a b next ≡ r
unequal_decides a b next Less e unequal = by_less a b next (ranked a b Less e)
unequal_decides a b next Equal e unequal = absurd (unequal refl)
unequal_decides a b next Greater e unequal = by_more a b next (ranked a b Greater e)

pub record Compared (l m : ℕ → ℕ) (d t : ℕ) : Type 0 where
  pub place : t ≤ d
  pub undecided : order_of_levels d l m Equal ≡ by_levels l m t Equal

module _ (l m : ℕ → ℕ) (d : ℕ) where
  pub sum_decides : (r : Ordering) → r ≡ nat_cmp (sum_to l d) (sum_to m d) → (r ≡ Equal → ⊥) → order_of_levels d l m Equal ≡ r
  unfolding order_of_levels
  sum_decides r e unequal = unequal_decides (sum_to l d) (sum_to m d) (by_levels l m d Equal) r e unequal

  -- So the smaller sum is the smaller vector's.
  pub smaller_sum : sum_to l d < sum_to m d → order_of_levels d l m Equal ≡ Less
  unfolding order_of_levels
  smaller_sum h = by_less (sum_to l d) (sum_to m d) (by_levels l m d Equal) h

  pub larger_sum : sum_to m d < sum_to l d → order_of_levels d l m Equal ≡ Greater
  unfolding order_of_levels
  larger_sum h = by_more (sum_to l d) (sum_to m d) (by_levels l m d Equal) h

  pub compared_starts : sum_to l d ≡ sum_to m d → Compared l m d d
  unfolding order_of_levels
  compared_starts e =
      record { place = omega arith; undecided = by_equal (sum_to l d) (sum_to m d) (by_levels l m d Equal) e }

module _ {l m : ℕ → ℕ} {d t : ℕ} (state : Compared l m d t) (more : 0 < t) where
  turned : order_of_levels d l m Equal ≡ by (l (t - 1)) (m (t - 1)) (by_levels l m (t - 1) Equal)
  turned =
      let same : t ≡ suc (t - 1) = omega arith in
      state.undecided ∙ ap (λ (k : ℕ). by_levels l m k Equal) same ∙ levels_suc l m (t - 1) Equal

  pub level_decides : (r : Ordering) → r ≡ nat_cmp (l (t - 1)) (m (t - 1)) → (r ≡ Equal → ⊥) → order_of_levels d l m Equal ≡ r
  level_decides r e unequal = turned ∙ unequal_decides (l (t - 1)) (m (t - 1)) (by_levels l m (t - 1) Equal) r e unequal

  -- So the smaller level on the last axis that decides is the smaller vector's.
  pub smaller_level : l (t - 1) < m (t - 1) → order_of_levels d l m Equal ≡ Less
  smaller_level h = turned ∙ by_less (l (t - 1)) (m (t - 1)) (by_levels l m (t - 1) Equal) h

  pub larger_level : m (t - 1) < l (t - 1) → order_of_levels d l m Equal ≡ Greater
  larger_level h = turned ∙ by_more (l (t - 1)) (m (t - 1)) (by_levels l m (t - 1) Equal) h

  pub compared_steps : l (t - 1) ≡ m (t - 1) → Compared l m d (t - 1)
  compared_steps e =
      record {
        place = omega (arith, state.place);
        undecided = turned ∙ by_equal (l (t - 1)) (m (t - 1)) (by_levels l m (t - 1) Equal) e;
      }

pub compared_ends : {l m : ℕ → ℕ} {d t : ℕ} → Compared l m d t → t ≤ 0 → order_of_levels d l m Equal ≡ Equal
compared_ends {l} {m} {d} {t} state h =
    let none : t ≡ 0 = omega arith in
    rw none at state.undecided ∙ levels_zero l m Equal
