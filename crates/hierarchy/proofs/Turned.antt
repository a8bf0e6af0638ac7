-- The forward turn without halves: on a table of doubled values f + f it gives 2·f less the two parents' values. This form is linear, and
-- two axes commute, by the commuting neighbours.
-- Assumes nothing.
use mathlib.Core.Path.{◌≡◌, ap, ◌∙◌, fun_ext}
use mathlib.Core.Bool.{true}
use Prim.Native.Nat.{ℕ}
use native.Mathlib.Omega.{arith}
use Rattle.std.proofs.lemmas.Int.{ints}
use lib.IntN.{ℤ, neg_ℤ, ◌+ℤ◌, ◌-ℤ◌}
use Rattle.numbering.specs.declared.Side.TheVariants.{Left, Right}
use Rattle.integers.specs.Half.{half, is_even}
use Rattle.integers.proofs.Halves.{half_double, even_double}
use Rattle.hierarchy.specs.Grid.{Neighbours, Grid}
use Rattle.hierarchy.specs.Turns.{sum_on, forward}

-- Twice a table, and the sum of two.
unfoldable pub twice : (ℕ → ℤ) → ℕ → ℤ
twice f p = f p +ℤ f p

unfoldable pub plus : (ℕ → ℤ) → (ℕ → ℤ) → ℕ → ℤ
plus f g p = f p +ℤ g p

module _ (nb : Neighbours) where
  -- The forward turn of twice a table.
  unfoldable pub turned : ℕ → (ℕ → ℤ) → ℕ → ℤ
  turned t f p = f p +ℤ f p +ℤ neg_ℤ (f (nb t Left p)) +ℤ neg_ℤ (f (nb t Right p))

  sum_twice : (t : ℕ) (f : ℕ → ℤ) (p : ℕ) → sum_on nb t (twice f) p ≡ sum_on nb t f p +ℤ sum_on nb t f p
  unfolding sum_on twice
  sum_twice t f p = omega (arith, ints)

  -- Every sum that it meets is even.
  pub twice_even : (t : ℕ) (f : ℕ → ℤ) (p : ℕ) → is_even (sum_on nb t (twice f) p) ≡ true
  twice_even t f p = ap is_even (sum_twice t f p) ∙ even_double (sum_on nb t f p)

  twice_at : (t : ℕ) (f : ℕ → ℤ) (p : ℕ) → forward nb t (twice f) p ≡ turned t f p
  unfolding forward turned twice sum_on
  twice_at t f p =
      ap (λ (z : ℤ). f p +ℤ f p -ℤ z) (ap half (sum_twice t f p) ∙ half_double (sum_on nb t f p))
      ∙ omega (arith, ints)

  pub forward_twice : (t : ℕ) (f : ℕ → ℤ) → forward nb t (twice f) ≡ turned t f
  forward_twice t f = fun_ext (twice_at t f)

  turned_twice_at : (t : ℕ) (f : ℕ → ℤ) (p : ℕ) → turned t (twice f) p ≡ twice (turned t f) p
  unfolding turned twice
  turned_twice_at t f p = omega (arith, ints)

  pub turned_twice : (t : ℕ) (f : ℕ → ℤ) → turned t (twice f) ≡ twice (turned t f)
  turned_twice t f = fun_ext (turned_twice_at t f)

  turned_plus_at : (t : ℕ) (f g : ℕ → ℤ) (p : ℕ) → turned t (plus f g) p ≡ plus (turned t f) (turned t g) p
  unfolding turned plus
  turned_plus_at t f g p = omega (arith, ints)

  -- The turn of a sum is the sum of the turns.
  pub turned_plus : (t : ℕ) (f g : ℕ → ℤ) → turned t (plus f g) ≡ plus (turned t f) (turned t g)
  turned_plus t f g = fun_ext (turned_plus_at t f g)

  module _ (m : ℕ) (depth : ℕ → ℕ → ℕ) (grid : Grid m nb depth) where
    turned_swap_at : (t s : ℕ) (f : ℕ → ℤ) (p : ℕ) → (t ≡ s → ⊥) → turned t (turned s f) p ≡ turned s (turned t f) p
    unfolding turned
    turned_swap_at t s f p ne =
        rw (
          grid.commute t s Left Left p ne,
          grid.commute t s Left Right p ne,
          grid.commute t s Right Left p ne,
          grid.commute t s Right Right p ne,
        )
        (omega (arith, ints))

    -- Turns of two axes commute.
    pub turned_swap : (t s : ℕ) (f : ℕ → ℤ) → (t ≡ s → ⊥) → turned t (turned s f) ≡ turned s (turned t f)
    turned_swap t s f ne = fun_ext λ p. turned_swap_at t s f p ne
