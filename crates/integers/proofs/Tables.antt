-- A test of all values of a table, one after another, is the test of every place.
-- Assumes nothing.
use Rattle.std.proofs.Common.{◌≡◌, ℕ, zero, suc, Bool, true, false, ◌&&◌, List, [], ◌∷◌, length, get_or, refl, sym, ap, ◌∙◌}
use Rattle.std.specs.List.{list_all}
use Rattle.naturals.specs.Test.{all}
use Rattle.naturals.proofs.Tests.{all_zero, all_suc}

and_true : (a : Bool) → true && a ≡ a && true
and_true true = refl
and_true false = refl

and_assoc : (a b c : Bool) → (a && b) && c ≡ a && (b && c)
and_assoc true b c = refl
and_assoc false b c = refl

-- the first place taken off
all_front : (f : ℕ → Bool) (m : ℕ) → all f (suc m) ≡ f 0 && all (λ k. f (suc k)) m
all_front f zero = rw (all_suc, all_zero, all_zero) (and_true (f 0))
all_front f (suc m) = rw (all_suc f (suc m), all_front f m, all_suc (λ k. f (suc k)) m) (and_assoc (f 0) (all (λ k. f (suc k)) m) (f (suc m)))

pub all_list : {A : Type 0} (test : A → Bool) (d : A) (xs : List A) → list_all test xs ≡ all (λ p. test (get_or xs p d)) (length xs)
all_list test d [] = sym (all_zero (λ p. test (get_or [] p d)))
all_list test d (x ∷ xs) = ap (λ (b : Bool). test x && b) (all_list test d xs) ∙ sym (all_front (λ p. test (get_or (x ∷ xs) p d)) (length xs))
