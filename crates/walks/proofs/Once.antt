-- A forward turn meets every level list of the shape exactly once, and no other. True since a level list has one level sum and one rank among those of
-- its sum, and a list of the walk is known by its sum and rank: each sum up to the top level is there once, and of it each rank below the count once.
-- Assumes nothing.
use mathlib.Core.Path.{◌≡◌, refl, ap, ap₂, sym, ◌∙◌}
use mathlib.Core.Bool.{true, false}
use mathlib.Core.List.{List, [], ◌∷◌, ◌++◌}
use Prim.Native.Nat.{ℕ, zero, suc, ◌+◌, ◌≤◌, ◌<◌}
use native.Mathlib.Omega.{arith}
use lib.Dec.{leb}
use borrow.Author.Tests.{eq-eqb, eqb-true, le-leb, lt-leb}
use Rattle.std.specs.Prelude.{if◌then◌else◌}
use Rattle.naturals.specs.Sum.{sum_to}
use Rattle.naturals.proofs.Cases.{le_or_lt, eq_or_not, true_or_false}
use Rattle.naturals.proofs.Sums.{sum_to_cong}
use Rattle.naturals.proofs.Tests.{all_at, all_from}
use Rattle.numbering.specs.Count.{vectors}
use Rattle.numbering.specs.Number.{rank}
use Rattle.numbering.specs.Inverse.{level_of}
use Rattle.numbering.proofs.Rank.{rank_lt, rank_cong}
use Rattle.numbering.proofs.Unrank.{level_of_rank, sum_of_level, rank_of_level}
use Rattle.walks.specs.Walks.{Levels, falling, falling_sums, walk_down, same_level, same_levels, met}

-- Walks one after the other meet a level list as often as each of them does.
pub met_append : (d : ℕ) (l : Levels) (xs ys : List Levels) → met d l (xs ++ ys) ≡ met d l xs + met d l ys
unfolding met
met_append d l [] ys = omega arith
met_append d l (m ∷ ms) ys = omega (arith, met_append d l ms ys)

module _ (d : ℕ) (l : Levels) where
  each_level : (m : Levels) → same_levels d l m ≡ true → (t : ℕ) → t < d → l t ≡ m t
  unfolding same_levels same_level
  each_level m same t axis = eqb-true (l t) (m t) (all_at (same_level l m) d same t axis)

  -- The level list of a sum and a rank is l where l has that sum and that rank, and only there.
  own : (s r : ℕ) → sum_to l d ≡ s → rank l d ≡ r → same_levels d l (level_of d s r) ≡ true
  unfolding same_levels same_level
  own s r sum place =
      let m : Levels = level_of d s r in
      all_from (same_level l m) d
      (λ t axis. eq-eqb (l t) (m t) (sym (level_of_rank l d t axis) ∙ ap₂ (λ (i j : ℕ). level_of d i j t) sum place))

  other : (s r : ℕ) → r < vectors d s → (sum_to l d ≡ s → rank l d ≡ r → ⊥) → same_levels d l (level_of d s r) ≡ false
  other s r h differ =
      let m : Levels = level_of d s r in
      true_or_false (same_levels d l m)
      (λ same.
      let sum : sum_to l d ≡ s = sum_to_cong l m d (each_level m same) ∙ sum_of_level d s r h in
      let place : rank l d ≡ r = rank_cong l m d (each_level m same) ∙ rank_of_level d s r h in
      absurd (differ sum place))
      (λ no. no)

  -- Of the first r level lists of the sum s one is l where l has that sum and a rank below r, and else none.
  not_of_sum : (s r : ℕ) → r ≤ vectors d s → (sum_to l d ≡ s → r ≤ rank l d) → met d l (falling d s r) ≡ 0
  unfolding falling met
  not_of_sum s zero h later = refl
  not_of_sum s (suc r) h later =
      rw (other s r (omega arith) (λ sum place. omega (arith, later sum)))
      (omega (arith, not_of_sum s r (omega arith) (λ sum. omega (arith, later sum))))

  once_of_sum : (s r : ℕ) → r ≤ vectors d s → sum_to l d ≡ s → rank l d < r → met d l (falling d s r) ≡ 1
  unfolding falling met
  once_of_sum s zero h sum earlier = absurd (omega arith)
  once_of_sum s (suc r) h sum earlier =
      eq_or_not (rank l d) r
      (λ place. rw (own s r sum place) (omega (arith, not_of_sum s r (omega arith) (λ e. omega arith))))
      (λ ne. rw (other s r (omega arith) (λ e place. ne place)) (omega (arith, once_of_sum s r (omega arith) sum (omega arith))))

  -- Of all level lists of the sums below s one is l where l has such a sum, and else none.
  not_below : (s : ℕ) → s ≤ sum_to l d → met d l (falling_sums d s) ≡ 0
  unfolding falling_sums met
  not_below zero h = refl
  not_below (suc s) h =
      rw met_append (omega (arith, not_of_sum s (vectors d s) (omega arith) (λ e. omega arith), not_below s (omega arith)))

  once_below : (s : ℕ) → sum_to l d < s → met d l (falling_sums d s) ≡ 1
  unfolding falling_sums
  once_below zero h = absurd (omega arith)
  once_below (suc s) h =
      eq_or_not (sum_to l d) s
      (λ e.
      let earlier : rank l d < vectors d s = omega (arith, rank_lt l d, ap (vectors d) e) in
      rw met_append (omega (arith, once_of_sum s (vectors d s) (omega arith) e earlier, not_below s (omega arith))))
      (λ ne.
      rw met_append
      (omega (arith, not_of_sum s (vectors d s) (omega arith) (λ e. absurd (ne e)), once_below s (omega arith))))

pub met_once_down : (d n : ℕ) (l : Levels) → met d l (walk_down d n) ≡ (if leb (sum_to l d) n then 1 else 0)
unfolding walk_down
met_once_down d n l =
    le_or_lt (sum_to l d) n
    (λ h. rw (le-leb (sum_to l d) n h) (once_below d l (suc n) (omega arith)))
    (λ h. rw (lt-leb (sum_to l d) n h) (not_below d l (suc n) (omega arith)))
