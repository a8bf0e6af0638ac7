-- The turn of a weighted sum on one axis: where the weights of some axes have become agreements, a turn on one more axis makes that axis's weight
-- an agreement too, twice the unit larger. True since the other axes' factors are the same at the two neighbours, and a hat function is linear
-- between them but at its own point.
-- Assumes nothing.
use mathlib.Core.Path.{◌≡◌, refl, ap, ap₂, sym, ◌∙◌}
use mathlib.Core.Bool.{Bool, true, false, ◌&&◌}
use Prim.Native.Nat.{ℕ, zero, suc, ◌+◌, ◌*◌, ◌<◌}
use native.Mathlib.Nat.{zero-mul}
use native.Mathlib.Omega.{arith}
use Rattle.std.proofs.lemmas.Int.{ints}
use lib.IntN.{ℤ, pos, ◌+ℤ◌, ◌*ℤ◌}
use Rattle.naturals.specs.Sum.{prod_to}
use Rattle.std.specs.Prelude.{if◌then◌else◌}
use Rattle.naturals.specs.Test.{all}
use Rattle.naturals.proofs.Cases.{eq_or_not, true_or_false}
use Rattle.naturals.proofs.Tests.{all_zero, all_suc, all_at, all_from}
use Rattle.numbering.specs.declared.Side.{Side}
use Rattle.numbering.specs.declared.Side.TheVariants.{Left, Right}
use Rattle.hierarchy.specs.Grid.{Neighbours}
use Rattle.hierarchy.specs.Work.{put}
use Rattle.hierarchy.proofs.Work.{put_same, put_other}
use Rattle.hierarchy.proofs.Turned.{turned}
use Rattle.hierarchy.proofs.Closed.{With}
use Rattle.interpolation.specs.Weighted.{weighted_sum}
use Rattle.interpolation.specs.Hats.{indicator, Weights, Agreement, Hats}
use Rattle.interpolation.proofs.Products.{prod_to_zero, prod_to_suc, prod_to_cong, prod_to_split, prod_to_none}
use Rattle.integers.proofs.Products.{times_one}
use Rattle.interpolation.proofs.Weighted.{
  weighted_sum_cong,
  weighted_sum_none,
  weighted_sum_plus,
  weighted_sum_times,
  weighted_sum_one,
}

-- A product of agreements is the agreement of all.
pub prod_to_indicator : (b : ℕ → Bool) (d : ℕ) → prod_to (λ t. indicator (b t)) d ≡ indicator (all b d)
prod_to_indicator b zero = prod_to_zero (λ t. indicator (b t)) ∙ sym (ap indicator (all_zero b))
prod_to_indicator b (suc d) =
    prod_to_suc (λ t. indicator (b t)) d
    ∙ ap (λ (x : ℕ). x * indicator (b d)) (prod_to_indicator b d)
    ∙ both (all b d) (b d)
    ∙ sym (ap indicator (all_suc b d))
  where
    both : (x y : Bool) → indicator x * indicator y ≡ indicator (x && y)
    both true true = refl
    both true false = refl
    both false true = refl
    both false false = refl

module _ (w : Weights) (same : Agreement) where
  -- What axis t contributes for point p at a code: agreement, 1 or 0, on an axis of the set, and the weight on every other.
  unfoldable pub factor : (ℕ → Bool) → ℕ → ℕ → ℕ → ℕ
  factor set p q t = if set t then indicator (same t p q) else w t p q

  -- The product over d axes.
  unfoldable pub factors : ℕ → (ℕ → Bool) → ℕ → ℕ → ℕ
  factors d set q p = prod_to (factor set p q) d

module _ (m d : ℕ) (w : Weights) (same : Agreement) where
  -- The weighted sum at a code, with agreement for the weight on each axis of the set.
  unfoldable pub partly : (ℕ → Bool) → (ℕ → ℤ) → ℕ → ℤ
  partly set c q = weighted_sum m c (factors w same d set q)

  -- The factors of all axes but t.
  unfoldable beside : ℕ → (ℕ → Bool) → ℕ → ℕ → ℕ
  beside t set q p = prod_to (put (factor w same set p q) t 1) d

  factor_in : (set : ℕ → Bool) (p q t : ℕ) → set t ≡ true → factor w same set p q t ≡ indicator (same t p q)
  unfolding factor
  factor_in set p q t e = rw e

  factor_out : (set : ℕ → Bool) (p q t : ℕ) → set t ≡ false → factor w same set p q t ≡ w t p q
  unfolding factor
  factor_out set p q t e = rw e

  factor_cong : (set other : ℕ → Bool) (p q t : ℕ) → set t ≡ other t → factor w same set p q t ≡ factor w same other p q t
  unfolding factor
  factor_cong set other p q t e = ap (λ (b : Bool). if b then indicator (same t p q) else w t p q) e

  split_in : (set : ℕ → Bool) (t p q : ℕ) → t < d → set t ≡ true → factors w same d set q p ≡ indicator (same t p q) * beside t set q p
  unfolding factors beside
  split_in set t p q h e =
      prod_to_split (factor w same set p q) d t h ∙ ap (λ (x : ℕ). x * beside t set q p) (factor_in set p q t e)

  split_out : (set : ℕ → Bool) (t p q : ℕ) → t < d → set t ≡ false → factors w same d set q p ≡ w t p q * beside t set q p
  unfolding factors beside
  split_out set t p q h e =
      prod_to_split (factor w same set p q) d t h ∙ ap (λ (x : ℕ). x * beside t set q p) (factor_out set p q t e)

  -- They are equal where each of them is.
  beside_cong : (t : ℕ) (set other : ℕ → Bool) (q r p : ℕ) →
      ((s : ℕ) → s < d → (s ≡ t → ⊥) → factor w same set p q s ≡ factor w same other p r s) → beside t set q p ≡ beside t other r p
  unfolding beside
  beside_cong t set other q r p each =
      prod_to_cong (put (factor w same set p q) t 1) (put (factor w same other p r) t 1) d
      (λ s h.
      eq_or_not s t
      (λ e. rw e (put_same (factor w same set p q) t 1 ∙ sym (put_same (factor w same other p r) t 1)))
      (λ ne.
      put_other (factor w same set p q) t 1 s ne ∙ each s h ne ∙ sym (put_other (factor w same other p r) t 1 s ne)))

  module _ (u : ℕ) (nb : Neighbours) (hats : Hats m d u nb w same) where
    -- Where some axis is not in the set, the sum is 0 at the border.
    pub partly_zero : (set : ℕ → Bool) (c : ℕ → ℤ) (t : ℕ) → t < d → set t ≡ false → partly set c 0 ≡ pos 0
    unfolding partly factors
    partly_zero set c t h e =
        weighted_sum_none m c (factors w same d set 0)
        (λ p lt. prod_to_none (factor w same set p 0) d t h (factor_out set p 0 t e ∙ hats.none t p))

    -- Where every axis is in the set, one term of the sum is left.
    pub partly_all : (set : ℕ → Bool) (c : ℕ → ℤ) (q : ℕ) → q < m → ((t : ℕ) → t < d → set t ≡ true) → partly set c (suc q) ≡ c (suc q)
    unfolding partly factors
    partly_all set c q h every =
        let is : (p : ℕ) → factors w same d set (suc q) p ≡ indicator (all (λ t. same t p (suc q)) d) =
        λ p.
        prod_to_cong (factor w same set p (suc q)) (λ t. indicator (same t p (suc q))) d
        (λ t lt. factor_in set p (suc q) t (every t lt))
        ∙ prod_to_indicator (λ t. same t p (suc q)) d in
        weighted_sum_one m c (factors w same d set (suc q)) q h
        (λ p lt ne.
        is p
        ∙ true_or_false (all (λ t. same t p (suc q)) d)
        (λ e. absurd (ne (hats.one_point p q lt h (all_at (λ t. same t p (suc q)) d e))))
        (λ e. ap indicator e))
        ∙ ap (λ (x : ℕ). c (suc q) *ℤ pos x)
        (is q ∙ ap indicator (all_from (λ t. same t q (suc q)) d (λ t lt. hats.itself t q lt h)))
        ∙ times_one (c (suc q))

    module _ (t : ℕ) (axis : t < d) (q : ℕ) (point : q < m) where
      -- At a neighbour on axis t the other axes' factors are the same, unless it is the border, where the weight is 0.
      at_neighbour : (b : Side) (set : ℕ → Bool) (p : ℕ) → p < m → set t ≡ false →
          factors w same d set (nb t b (suc q)) p ≡ w t p (nb t b (suc q)) * beside t set (suc q) p
      at_neighbour b set p h e =
          split_out set t p (nb t b (suc q)) axis e
          ∙ eq_or_not (nb t b (suc q)) 0
          (λ border.
          let none : w t p (nb t b (suc q)) ≡ 0 = ap (w t p) border ∙ hats.none t p in
          rw none (zero-mul (beside t set (nb t b (suc q)) p) ∙ sym (zero-mul (beside t set (suc q) p))))
          (λ inside.
          ap (λ (x : ℕ). w t p (nb t b (suc q)) * x)
          (beside_cong t set set (nb t b (suc q)) (suc q) p (still inside)))
        where
          still : (nb t b (suc q) ≡ 0 → ⊥) → (s : ℕ) → s < d → (s ≡ t → ⊥) →
              factor w same set p (nb t b (suc q)) s ≡ factor w same set p (suc q) s
          still inside s lt ne =
              true_or_false (set s)
              (λ e.
              factor_in set p (nb t b (suc q)) s e
              ∙ ap indicator (hats.still_same s t b p q lt axis ne h point inside)
              ∙ sym (factor_in set p (suc q) s e))
              (λ e.
              factor_out set p (nb t b (suc q)) s e
              ∙ hats.still s t b p q lt axis ne h point inside
              ∙ sym (factor_out set p (suc q) s e))

      -- The hat identity, times the other axes' factors.
      factors_turn : (set other : ℕ → Bool) (p : ℕ) → p < m → With nb t set other →
          factors w same d set (suc q) p + factors w same d set (suc q) p
          ≡ factors w same d set (nb t Left (suc q)) p + factors w same d set (nb t Right (suc q)) p
          + factors w same d other (suc q) p * (u + u)
      factors_turn set other p h change =
          let rest : ℕ = beside t set (suc q) p in
          let agreed : factors w same d other (suc q) p ≡ indicator (same t p (suc q)) * rest =
          split_in other t p (suc q) axis change.inside
          ∙ ap (λ (x : ℕ). indicator (same t p (suc q)) * x) (beside_cong t other set (suc q) (suc q) p
          (λ s lt ne. factor_cong other set p (suc q) s (sym (change.same s ne)))) in
          omega (
            arith,
            split_out set t p (suc q) axis change.out,
            at_neighbour Left set p h change.out,
            at_neighbour Right set p h change.out,
            ap (λ (x : ℕ). x * (u + u)) agreed,
            ap (λ (x : ℕ). x * rest) (hats.hat t p q axis h point),
          )

      -- The turn on axis t, which is not in the set, gives the sum for the set with t.
      pub partly_turn : (set other : ℕ → Bool) (c : ℕ → ℤ) → With nb t set other →
          turned nb t (partly set c) (suc q) ≡ partly other c (suc q) *ℤ pos (u + u)
      unfolding turned partly
      partly_turn set other c change =
          let here : ℕ → ℕ = factors w same d set (suc q) in
          let left : ℕ → ℕ = factors w same d set (nb t Left (suc q)) in
          let right : ℕ → ℕ = factors w same d set (nb t Right (suc q)) in
          let after : ℕ → ℕ = factors w same d other (suc q) in
          let sums : weighted_sum m c here +ℤ weighted_sum m c here
          ≡ weighted_sum m c left +ℤ weighted_sum m c right +ℤ weighted_sum m c after *ℤ pos (u + u) =
          sym (weighted_sum_plus m c here here)
          ∙ weighted_sum_cong m c (λ p. here p + here p) (λ p. left p + right p + after p * (u + u))
          (λ p h. factors_turn set other p h change)
          ∙ weighted_sum_plus m c (λ p. left p + right p) (λ p. after p * (u + u))
          ∙ ap₂ ◌+ℤ◌ (weighted_sum_plus m c left right) (weighted_sum_times m c after (u + u)) in
          omega (arith, ints, sums)
