-- No table of a set passes the content limit: each axis makes a value at most four times as large, so eight axes take a rate, at most 2^31,
-- to at most 2^47, which is the limit.
-- Assumes nothing.
use mathlib.Core.Path.{◌≡◌, ap, ◌∙◌}
use mathlib.Core.Bool.{Bool, true}
use Prim.Native.Nat.{ℕ, zero, suc, ◌*◌, ◌^◌, ◌≤◌}
use native.Mathlib.Nat.{le_of_eq}
use native.Mathlib.Omega.{arith}
use Rattle.std.proofs.lemmas.Int.{ints}
use lib.IntN.{ℤ, nat_abs}
use borrow.Author.Tests.{le-leb}
use Rattle.naturals.proofs.Cases.{le_or_lt, true_or_false}
use Rattle.numbering.specs.declared.Side.TheVariants.{Left, Right}
use Rattle.integers.specs.Half.{limit, in_limit}
use Rattle.hierarchy.specs.Grid.{Neighbours}
use Rattle.hierarchy.proofs.Turned.{twice, turned}
use Rattle.hierarchy.specs.Sets.{table_of}
use Rattle.hierarchy.proofs.Closed.{closed, table_closed}

grow : ℕ → ℕ → ℕ
grow zero b = b
grow (suc k) b = 4 * grow k b

grow_up : (k b : ℕ) → grow k b ≤ grow (suc k) b
unfolding grow
grow_up k b = omega arith

grow_mono : (k j b : ℕ) → k ≤ j → grow k b ≤ grow j b
grow_mono k zero b h = le_of_eq (ap (λ (n : ℕ). grow n b) (omega arith))
grow_mono k (suc j) b h = le_or_lt k j (λ le. omega (arith, grow_mono k j b le, grow_up j b)) (λ lt. le_of_eq (ap (λ (n : ℕ). grow n b) (omega arith)))

eight_axes : (d : ℕ) → d ≤ 8 → grow d (2 ^ 31) ≤ limit
unfolding grow
eight_axes d h = omega (arith, grow_mono d 8 (2 ^ 31) h)

module _ (nb : Neighbours) where
  turned_size : (t b : ℕ) (f : ℕ → ℤ) → ((p : ℕ) → nat_abs (f p) ≤ b) → (p : ℕ) → nat_abs (turned nb t f p) ≤ 4 * b
  unfolding turned
  turned_size t b f small p = omega (arith, ints, small p, small (nb t Left p), small (nb t Right p))

  twice_size : (b : ℕ) (f : ℕ → ℤ) → ((p : ℕ) → nat_abs (f p) ≤ b) → (p : ℕ) → nat_abs (twice f p) ≤ 4 * b
  unfolding twice
  twice_size b f small p = omega (arith, ints, small p)

  closed_size : (set : ℕ → Bool) (k b : ℕ) (r : ℕ → ℤ) → ((p : ℕ) → nat_abs (r p) ≤ b) → (p : ℕ) → nat_abs (closed nb set k r p) ≤ grow k b
  unfolding closed grow
  closed_size set zero b r small p = small p
  closed_size set (suc k) b r small p =
      true_or_false (set k)
      (λ e. rw e (turned_size k (grow k b) (closed nb set k r) (closed_size set k b r small) p))
      (λ e. rw e (twice_size (grow k b) (closed nb set k r) (closed_size set k b r small) p))

  -- Within the content limit, for accepted rates and up to eight axes.
  pub in_limit_lem : (set : ℕ → Bool) (d : ℕ) (r : ℕ → ℤ) → d ≤ 8 → ((p : ℕ) → nat_abs (r p) ≤ 2 ^ 31) → (p : ℕ) → in_limit (closed nb set d r p) ≡ true
  unfolding in_limit
  in_limit_lem set d r h small p = le-leb (nat_abs (closed nb set d r p)) limit (omega (arith, closed_size set d (2 ^ 31) r small p, eight_axes d h))

  -- So is the table of a set.
  pub table_in_limit : (set : ℕ → Bool) (d : ℕ) (r : ℕ → ℤ) → d ≤ 8 → ((p : ℕ) → nat_abs (r p) ≤ 2 ^ 31) → (p : ℕ) →
      in_limit (table_of nb d set r p) ≡ true
  table_in_limit set d r h small p = ap (λ (f : ℕ → ℤ). in_limit (f p)) (table_closed nb d set r) ∙ in_limit_lem set d r h small p
