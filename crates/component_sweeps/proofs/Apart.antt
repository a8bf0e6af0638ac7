-- Sets of points turned one after the other. Where no point of the second set is in the first, and no parent of one, the second turn reads what stood before the
-- first: so the two are the turn of both sets, and each value on the way is one of before or after the turn.
-- Assumes nothing.
use mathlib.Core.Bool.{true, false≢true}
use mathlib.Core.List.{List}
use mathlib.Core.Logic.{◌⊎◌, ⊎_elim}
use mathlib.Core.Path.{◌≡◌, refl, ap, ap₂, sym, ◌∙◌}
use Prim.Native.Nat.{ℕ, zero, suc}
use lib.IntN.{ℤ, ◌+ℤ◌, ◌-ℤ◌}
use Rattle.naturals.proofs.Cases.{true_or_false}
use Rattle.integers.specs.Half.{half, in_limit}
use Rattle.numbering.specs.declared.Side.{Side}
use Rattle.numbering.specs.declared.Side.TheVariants.{Left, Right}
use Rattle.hierarchy.specs.Turns.{value_at, sum_on, forward}
use Rattle.hierarchy.proofs.Values.{value_zero}
use Rattle.component_grids.specs.Component.{neighbour}
use Rattle.component_sweeps.specs.Steps.{Limited, TurnedOn}

-- All points of one set are in another.
abbrev pub Contained : (ℕ → Type 0) → (ℕ → Type 0) → Type 0
Contained part whole = (p : ℕ) → part p → whole p

module _ (d : ℕ) (tops : ℕ → ℕ) (t : ℕ) where
  pub record Apart (first next : ℕ → Type 0) : Type 0 where
    pub points : (p : ℕ) → next p → first p → ⊥
    pub parents : (p : ℕ) → next p → (b : Side) (q : ℕ) → neighbour d tops t b (suc p) ≡ suc q → first q → ⊥

  -- The turn of no points, of the same points, and of a part of them.
  pub turned_none : {none : ℕ → Type 0} (xs : List ℤ) → ((p : ℕ) → none p → ⊥) → TurnedOn d tops t none xs xs
  turned_none xs empty = record { long = refl; on = λ p h. absurd (empty p h); off = λ p out. refl }

  pub turned_same : {one other : ℕ → Type 0} {xs ys : List ℤ} → Contained one other → Contained other one → TurnedOn d tops t one xs ys → TurnedOn d tops t other xs ys
  turned_same to from s =
      record {
        long = s.long;
        on = λ p h. s.on p (from p h);
        off = λ p out. s.off p (λ h. out (to p h));
      }

  pub limited_part : {part whole : ℕ → Type 0} {xs : List ℤ} → Contained part whole → Limited d tops t whole xs → Limited d tops t part xs
  limited_part within l = record { long = l.long; before = l.before; after = λ p h. l.after p (within p h) }

  module _ {first next : ℕ → Type 0} (apart : Apart first next) {xs ys : List ℤ} (s : TurnedOn d tops t first xs ys) where
    parent_kept : (p : ℕ) → next p → (b : Side) → value_at ys (neighbour d tops t b (suc p)) ≡ value_at xs (neighbour d tops t b (suc p))
    parent_kept p h b = at_code (neighbour d tops t b (suc p)) refl
      where
        at_code : (n : ℕ) → neighbour d tops t b (suc p) ≡ n → value_at ys n ≡ value_at xs n
        at_code zero e = value_zero ys ∙ sym (value_zero xs)
        at_code (suc q) e = s.off q (apart.parents p h b q e)

    forward_kept : (p : ℕ) → next p → forward (neighbour d tops) t (value_at ys) (suc p) ≡ forward (neighbour d tops) t (value_at xs) (suc p)
    unfolding forward sum_on
    forward_kept p h =
        ap₂ (λ (v w : ℤ). v -ℤ half w) (s.off p (apart.points p h)) (ap₂ ◌+ℤ◌ (parent_kept p h Left) (parent_kept p h Right))

    pub limited_next : {whole : ℕ → Type 0} → Contained first whole → Contained next whole → Limited d tops t whole xs → Limited d tops t next ys
    limited_next {whole} one two l =
        record {
          long = s.long ∙ l.long;
          before = before;
          after = λ p h. ap in_limit (forward_kept p h) ∙ l.after p (two p h);
        }
      where
        before : (p : ℕ) → in_limit (value_at ys p) ≡ true
        before zero = ap in_limit (value_zero ys ∙ sym (value_zero xs)) ∙ l.before 0
        before (suc p) =
            true_or_false (in_limit (value_at ys (suc p)))
            (λ e. e)
            (λ e. ap in_limit (s.off p (λ h. false≢true (sym e ∙ ap in_limit (s.on p h) ∙ l.after p (one p h)))) ∙ l.before (suc p))

    pub turned_both : {whole : ℕ → Type 0} {zs : List ℤ} → Contained first whole → Contained next whole → ((p : ℕ) → whole p → first p ⊎ next p) →
        TurnedOn d tops t next ys zs → TurnedOn d tops t whole xs zs
    turned_both one two either u =
        record {
          long = u.long ∙ s.long;
          on =
              λ p h.
              ⊎_elim (λ f. u.off p (λ n. apart.points p n f) ∙ s.on p f) (λ n. u.on p n ∙ forward_kept p n) (either p h);
          off = λ p out. u.off p (λ n. out (two p n)) ∙ s.off p (λ f. out (one p f));
        }
