-- What is left of a walk while a turn goes through it: the lists of the present level sum that are still to come, then those of the other sums. It is worked
-- list by list, each from the table that the lists before it left.
-- Assumes nothing.
use mathlib.Core.Path.{◌≡◌, refl, ap, sym, ◌∙◌}
use mathlib.Core.Bool.{Bool}
use mathlib.Core.List.{List, [], ◌∷◌, ◌++◌}
use Prim.Native.Nat.{ℕ, suc, ◌-◌, ◌<◌}
use native.Mathlib.Nat.{sub-zero}
use native.Mathlib.Omega.{arith}
use lib.IntN.{ℤ}
use lib.ListN.{length}
use Rattle.numbering.specs.Count.{vectors}
use Rattle.numbering.specs.Inverse.{level_of}
use Rattle.hierarchy.proofs.Values.{values_length}
use Rattle.shapes.specs.Shapes.{points_of}
use Rattle.shapes.specs.declared.Shape.{Shape}
use Rattle.walks.specs.Walks.{Levels, rising, rising_sums, walk_up, falling, falling_sums, walk_down}
use Rattle.walks.proofs.Parts.{rising_zero, rising_suc, rising_sums_zero, rising_sums_suc, walk_up_is, falling_zero, falling_suc, falling_sums_zero, falling_sums_suc, walk_down_is}
use Rattle.lists.specs.Lists.{stepped_between, list_worked}
use Rattle.sweeps.specs.Sweeps.{lists_worked}

-- ---- work

module _ (ahead : Bool) (s : Shape) (t base k : ℕ) where
  pub worked_long : (l : Levels) (xs : List ℤ) → length (list_worked ahead s t base k l xs) ≡ points_of s
  unfolding list_worked stepped_between
  worked_long l xs = values_length (points_of s) _

  no_lists : (xs : List ℤ) → lists_worked ahead s t base k [] xs ≡ xs
  unfolding lists_worked
  no_lists xs = refl

  lists_worked_lem : (l : Levels) (ls : List Levels) (xs : List ℤ) → lists_worked ahead s t base k (l ∷ ls) xs ≡ lists_worked ahead s t base k ls (list_worked ahead s t base k l xs)
  unfolding lists_worked
  lists_worked_lem l ls xs = refl

  pub same_walk : {ls ms : List Levels} (xs : List ℤ) → ls ≡ ms → lists_worked ahead s t base k ls xs ≡ lists_worked ahead s t base k ms xs
  same_walk xs e = ap (λ (ls : List Levels). lists_worked ahead s t base k ls xs) e

  -- The walk ls with its first list done.
  pub first_worked : {l : Levels} {ls ms : List Levels} (xs ys : List ℤ) → ls ≡ l ∷ ms → ys ≡ list_worked ahead s t base k l xs →
      lists_worked ahead s t base k ms ys ≡ lists_worked ahead s t base k ls xs
  first_worked {l} {ls} {ms} xs ys e worked = ap (lists_worked ahead s t base k ms) worked ∙ sym (lists_worked_lem l ms xs) ∙ same_walk xs (sym e)

  pub none_worked : {ls : List Levels} (xs : List ℤ) → ls ≡ [] → xs ≡ lists_worked ahead s t base k ls xs
  none_worked xs e = sym (same_walk xs e ∙ no_lists xs)

-- ---- down

module _ (d : ℕ) where
  -- The first b lists of sum s, the last of them first, then all of the sums below.
  unfoldable pub left_down : ℕ → ℕ → List Levels
  left_down s b = falling d s b ++ falling_sums d s

  pub down_all : (n : ℕ) → left_down n (vectors d n) ≡ walk_down d n
  unfolding left_down
  down_all n = sym (walk_down_is d n ∙ falling_sums_suc d n)

  pub down_first : (s b : ℕ) → left_down s (suc b) ≡ level_of d s b ∷ left_down s b
  unfolding left_down
  down_first s b = ap (λ (ls : List Levels). ls ++ falling_sums d s) (falling_suc d s b)

  none_falling : (s : ℕ) → left_down s 0 ≡ falling_sums d s
  unfolding left_down
  none_falling s = ap (λ (ls : List Levels). ls ++ falling_sums d s) (falling_zero d s)

  pub down_sum : (s : ℕ) → left_down (suc s) 0 ≡ left_down s (vectors d s)
  down_sum s = none_falling (suc s) ∙ sym (walk_down_is d s) ∙ sym (down_all s)

  pub down_none : left_down 0 0 ≡ []
  down_none = none_falling 0 ∙ falling_sums_zero d

-- ---- up

module _ (d n : ℕ) where
  -- The lists of sum s but the first b, then all of the sums above.
  unfoldable pub left_up : ℕ → ℕ → List Levels
  left_up s b = rising d s b (vectors d s - b) ++ rising_sums d (suc s) (n - s)

  all_rising : (s : ℕ) → left_up s 0 ≡ rising d s 0 (vectors d s) ++ rising_sums d (suc s) (n - s)
  unfolding left_up
  all_rising s = ap (λ (m : ℕ). rising d s 0 m ++ rising_sums d (suc s) (n - s)) (sub-zero (vectors d s))

  pub up_all : left_up 0 0 ≡ walk_up d n
  up_all =
      all_rising 0
      ∙ ap (λ (k : ℕ). rising d 0 0 (vectors d 0) ++ rising_sums d 1 k) (sub-zero n)
      ∙ sym (walk_up_is d n ∙ rising_sums_suc d 0 n)

  pub up_first : (s b : ℕ) → b < vectors d s → left_up s b ≡ level_of d s b ∷ left_up s (suc b)
  unfolding left_up
  up_first s b h =
      let more : vectors d s - b ≡ suc (vectors d s - suc b) = omega arith in
      ap (λ (ls : List Levels). ls ++ rising_sums d (suc s) (n - s))
      (ap (rising d s b) more ∙ rising_suc d s b (vectors d s - suc b))

  none_rising : (s : ℕ) → left_up s (vectors d s) ≡ rising_sums d (suc s) (n - s)
  unfolding left_up
  none_rising s =
      let none : vectors d s - vectors d s ≡ 0 = omega arith in
      ap (λ (ls : List Levels). ls ++ rising_sums d (suc s) (n - s))
      (ap (rising d s (vectors d s)) none ∙ rising_zero d s (vectors d s))

  pub up_sum : (s : ℕ) → s < n → left_up s (vectors d s) ≡ left_up (suc s) 0
  up_sum s h =
      let more : n - s ≡ suc (n - suc s) = omega arith in
      none_rising s ∙ ap (rising_sums d (suc s)) more ∙ rising_sums_suc d (suc s) (n - suc s) ∙ sym (all_rising (suc s))

  pub up_none : left_up n (vectors d n) ≡ []
  up_none =
      let none : n - n ≡ 0 = omega arith in
      none_rising n ∙ ap (rising_sums d (suc n)) none ∙ rising_sums_zero d (suc n)
