-- The two ways through the level lists, one list and one level sum at a time. By definition.
-- Assumes nothing.
use mathlib.Core.Path.{◌≡◌, refl}
use mathlib.Core.List.{[], ◌∷◌, ◌++◌}
use Prim.Native.Nat.{ℕ, suc}
use Rattle.numbering.specs.Count.{vectors}
use Rattle.numbering.specs.Inverse.{level_of}
use Rattle.walks.specs.Walks.{rising, rising_sums, walk_up, falling, falling_sums, walk_down}

module _ (d : ℕ) where
  pub rising_zero : (s r : ℕ) → rising d s r 0 ≡ []
  unfolding rising
  rising_zero s r = refl

  pub rising_suc : (s r m : ℕ) → rising d s r (suc m) ≡ level_of d s r ∷ rising d s (suc r) m
  unfolding rising
  rising_suc s r m = refl

  pub rising_sums_zero : (s : ℕ) → rising_sums d s 0 ≡ []
  unfolding rising_sums
  rising_sums_zero s = refl

  pub rising_sums_suc : (s k : ℕ) → rising_sums d s (suc k) ≡ rising d s 0 (vectors d s) ++ rising_sums d (suc s) k
  unfolding rising_sums
  rising_sums_suc s k = refl

  pub walk_up_is : (n : ℕ) → walk_up d n ≡ rising_sums d 0 (suc n)
  unfolding walk_up
  walk_up_is n = refl

  pub falling_zero : (s : ℕ) → falling d s 0 ≡ []
  unfolding falling
  falling_zero s = refl

  pub falling_suc : (s r : ℕ) → falling d s (suc r) ≡ level_of d s r ∷ falling d s r
  unfolding falling
  falling_suc s r = refl

  pub falling_sums_zero : falling_sums d 0 ≡ []
  unfolding falling_sums
  falling_sums_zero = refl

  pub falling_sums_suc : (s : ℕ) → falling_sums d (suc s) ≡ falling d s (vectors d s) ++ falling_sums d s
  unfolding falling_sums
  falling_sums_suc s = refl

  pub walk_down_is : (n : ℕ) → walk_down d n ≡ falling_sums d (suc n)
  unfolding walk_down
  walk_down_is n = refl
