-- The points from number lo to hi − 1 hold one table and the others another: which a place holds is decided by its code, and the list of such a table
-- holds it.
-- Assumes nothing.
use mathlib.Core.Path.{◌≡◌, ap, ◌∙◌}
use mathlib.Core.List.{List}
use Prim.Native.Nat.{ℕ, ◌≤◌, ◌<◌}
use native.Mathlib.Omega.{arith}
use lib.IntN.{ℤ}
use lib.ListN.{length}
use Rattle.naturals.proofs.Cases.{le_or_lt}
use Rattle.hierarchy.specs.Turns.{value_at, values_of}
use Rattle.hierarchy.specs.Work.{mixed}
use Rattle.hierarchy.proofs.Values.{value_zero, value_past, value_of_values}
use Rattle.hierarchy.proofs.Sweeps.{mixed_low, mixed_high}
use Rattle.lists.specs.Lists.{between}

module _ (lo hi : ℕ) (f g : ℕ → ℤ) where
  pub between_low : (q : ℕ) → q ≤ lo → between lo hi f g q ≡ g q
  unfolding between
  between_low q h = mixed_low lo g (mixed hi f g) q h

  pub between_inside : (q : ℕ) → lo < q → q ≤ hi → between lo hi f g q ≡ f q
  unfolding between
  between_inside q from to = mixed_high lo g (mixed hi f g) q from ∙ mixed_low hi f g q to

  pub between_high : (q : ℕ) → lo < q → hi < q → between lo hi f g q ≡ g q
  unfolding between
  between_high q from past = mixed_high lo g (mixed hi f g) q from ∙ mixed_high hi f g q past

-- The list of such a table, within a list of m values.
pub between_held : (m lo hi : ℕ) (f : ℕ → ℤ) (ys zs : List ℤ) → length ys ≡ m → hi ≤ m → zs ≡ values_of m (between lo hi f (value_at ys)) →
    (q : ℕ) → value_at zs q ≡ between lo hi f (value_at ys) q
between_held m lo hi f ys zs long inside holds q =
    ap (λ (ws : List ℤ). value_at ws q) holds
    ∙ ap (λ (h : ℕ → ℤ). h q)
    (value_of_values m (between lo hi f (value_at ys))
    (between_low lo hi f (value_at ys) 0 (omega arith) ∙ value_zero ys)
    (λ r past.
    le_or_lt r lo (λ low. between_low lo hi f (value_at ys) r low) (λ high. between_high lo hi f (value_at ys) r high (omega arith))
    ∙ value_past ys r (omega arith)))
