-- On a forward turn the level sum never rises. True since the walk goes from sum to sum down, and the level lists of one sum have that sum.
-- Assumes nothing.
use mathlib.Core.Path.{◌≡◌}
use mathlib.Core.List.{List, [], ◌∷◌, ◌++◌}
use Prim.Native.Nat.{ℕ, zero, suc, ◌≤◌}
use native.Mathlib.Omega.{arith}
use Rattle.naturals.specs.Sum.{sum_to}
use Rattle.numbering.specs.Count.{vectors}
use Rattle.numbering.specs.Inverse.{level_of}
use Rattle.numbering.proofs.Unrank.{sum_of_level}
use Rattle.walks.specs.Walks.{Levels, falling, falling_sums, walk_down, NeverRises}

module _ (d : ℕ) where
  -- The first level sum is at most s, and from one to the next it never rises. So a list of the sum s can stand before it.
  abbrev FallsFrom : ℕ → List Levels → Type 0
  FallsFrom s [] = Unit {0}
  FallsFrom s (l ∷ ls) = (sum_to l d ≤ s) × FallsFrom (sum_to l d) ls

  falls_from_more : (s u : ℕ) (ls : List Levels) → s ≤ u → FallsFrom s ls → FallsFrom u ls
  falls_from_more s u [] h falls = tt
  falls_from_more s u (l ∷ ls) h falls = (omega (arith, falls.0), falls.1)

  never_rises : (s : ℕ) (ls : List Levels) → FallsFrom s ls → NeverRises d ls
  never_rises s [] falls = tt
  never_rises s (l ∷ []) falls = tt
  never_rises s (l ∷ m ∷ ms) falls = (falls.1.0, never_rises (sum_to l d) (m ∷ ms) falls.1)

  -- The level lists of the sum s can stand before a walk that falls from s.
  sum_before : (s r : ℕ) (ls : List Levels) → r ≤ vectors d s → FallsFrom s ls → FallsFrom s (falling d s r ++ ls)
  unfolding falling
  sum_before s zero ls h falls = falls
  sum_before s (suc r) ls h falls =
      let sum : sum_to (level_of d s r) d ≡ s = sum_of_level d s r (omega arith) in
      (omega arith, rw sum (sum_before s r ls (omega arith) falls))

  sums_fall : (s : ℕ) → FallsFrom s (falling_sums d s)
  unfolding falling_sums
  sums_fall zero = tt
  sums_fall (suc s) =
      falls_from_more s (suc s) (falling d s (vectors d s) ++ falling_sums d s) (omega arith)
      (sum_before s (vectors d s) (falling_sums d s) (omega arith) (sums_fall s))

pub sums_down : (d n : ℕ) → NeverRises d (walk_down d n)
unfolding walk_down
sums_down d n = never_rises d (suc n) (falling_sums d (suc n)) (sums_fall d (suc n))
