-- The loop that fills the table: its first places hold the rates taken so far, and the others what they held.
-- Assumes nothing.
use mathlib.Core.Path.{◌≡◌, sym, ap, ◌∙◌}
use mathlib.Core.List.{List, [], ◌∷◌, ◌++◌, append-nil}
use Prim.Native.Nat.{ℕ, suc, ◌+◌, ◌≤◌, ◌<◌}
use native.Mathlib.Numerals.{add-one}
use native.Mathlib.Omega.{arith}
use lib.IntN.{ℤ, pos}
use lib.ListN.{length, get_or, drop, set, length-append, drop_of_length-le}
use lib.Seq.{append_snoc, drop-cons, set_at}
use Rattle.std.proofs.lemmas.List.{nil_from_length}

-- Of the rates `all` so many were taken, and `left` are left.
pub record Filled (all left xs ys : List ℤ) (p : ℕ) : Type 0 where
  pub done : List ℤ
  pub many : length done ≡ p
  pub split : all ≡ done ++ left
  pub holds : ys ≡ done ++ drop p xs

module _ {all left xs ys : List ℤ} {p : ℕ} (f : Filled all left xs ys p) where
  pub left_many : length all ≡ p + length left
  left_many = ap length f.split ∙ length-append f.done left ∙ ap (λ (n : ℕ). n + length left) f.many

  pub filled_steps : p < length xs → (rate : ℤ) (more : List ℤ) → left ≡ rate ∷ more → Filled all more xs (set ys p rate) (p + 1)
  filled_steps room rate more is =
      record {
        done = f.done ++ rate ∷ [];
        many = length-append f.done (rate ∷ []) ∙ ap (λ (n : ℕ). n + 1) f.many;
        split = f.split ∙ ap (λ (l : List ℤ). f.done ++ l) is ∙ sym (append_snoc f.done rate more);
        holds =
            ap (λ (l : List ℤ). set l p rate) (f.holds ∙ ap (λ (l : List ℤ). f.done ++ l) (drop-cons xs p (pos 0) room))
            ∙ set_at f.done (get_or xs p (pos 0)) (drop (suc p) xs) rate p f.many
            ∙ rw (add-one p) (sym (append_snoc f.done rate (drop (suc p) xs)));
      }

  pub filled_over : length all ≤ p → ys ≡ all ++ drop (length all) xs
  filled_over few =
      let none : left ≡ [] = nil_from_length left (omega (arith, left_many)) in
      let many : p ≡ length all = omega (arith, left_many) in
      f.holds
      ∙ ap (λ (l : List ℤ). l ++ drop p xs) (sym (f.split ∙ ap (λ (l : List ℤ). f.done ++ l) none ∙ append-nil f.done))
      ∙ ap (λ (n : ℕ). all ++ drop n xs) many

  pub filled_all : length all ≤ p → length xs ≤ p → ys ≡ all
  filled_all few room = filled_over few ∙ ap (λ (l : List ℤ). all ++ l) (drop_of_length-le xs (omega (arith, left_many))) ∙ append-nil all
