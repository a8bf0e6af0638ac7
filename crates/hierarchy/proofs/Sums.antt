-- Tables of a sum of rates are the sums of their tables: coefficients among them. By the closed form, each factor of which is linear.
-- Assumes nothing.
use mathlib.Core.Path.{◌≡◌, refl, ap, ap₂, sym, ◌∙◌, fun_ext}
use mathlib.Core.Bool.{Bool}
use Prim.Native.Nat.{ℕ, zero, suc}
use native.Mathlib.Omega.{arith}
use Rattle.std.proofs.lemmas.Int.{ints}
use lib.IntN.{ℤ}
use Rattle.naturals.proofs.Cases.{true_or_false}
use Rattle.hierarchy.specs.Grid.{Neighbours}
use Rattle.hierarchy.specs.Sets.{table_of}
use Rattle.hierarchy.proofs.Turned.{twice, plus, turned, turned_plus}
use Rattle.hierarchy.proofs.Closed.{closed, table_closed}

twice_plus_at : (f g : ℕ → ℤ) (p : ℕ) → twice (plus f g) p ≡ plus (twice f) (twice g) p
unfolding twice plus
twice_plus_at f g p = omega (arith, ints)

module _ (nb : Neighbours) where
  closed_plus : (set : ℕ → Bool) (k : ℕ) (r s : ℕ → ℤ) → closed nb set k (plus r s) ≡ plus (closed nb set k r) (closed nb set k s)
  unfolding closed
  closed_plus set zero r s = refl
  closed_plus set (suc k) r s =
      true_or_false (set k)
      (λ e. rw e (ap (turned nb k) (closed_plus set k r s) ∙ turned_plus nb k (closed nb set k r) (closed nb set k s)))
      (λ e. rw e (ap twice (closed_plus set k r s) ∙ fun_ext (twice_plus_at (closed nb set k r) (closed nb set k s))))

  pub table_plus : (d : ℕ) (set : ℕ → Bool) (r s : ℕ → ℤ) → table_of nb d set (plus r s) ≡ plus (table_of nb d set r) (table_of nb d set s)
  table_plus d set r s =
      table_closed nb d set (plus r s)
      ∙ closed_plus set d r s
      ∙ ap₂ plus (sym (table_closed nb d set r)) (sym (table_closed nb d set s))
