-- The level lists of a walk join: they have the sums and ranks one after the other, so forward each list ends at the number where the one before it in the walk
-- begins, and back each begins where the one before it ends.
-- Assumes nothing.
use mathlib.Core.Path.{◌≡◌, ap, sym, ◌∙◌}
use mathlib.Core.List.{List, [], ◌∷◌, ◌++◌}
use Prim.Native.Nat.{ℕ, zero, suc, ◌+◌, ◌^◌, ◌≤◌, ◌<◌}
use native.Mathlib.Nat.{mul-suc, mul-zero}
use native.Mathlib.Omega.{arith}
use Rattle.naturals.specs.Sum.{sum_to}
use Rattle.numbering.specs.Count.{vectors, start, points}
use Rattle.numbering.specs.Number.{rank}
use Rattle.numbering.specs.Inverse.{level_of}
use Rattle.numbering.proofs.Numbering.{points_is, start_suc}
use Rattle.numbering.proofs.Subspaces.{first_is}
use Rattle.numbering.proofs.Unrank.{level_past, sum_of_level, rank_of_level}
use Rattle.shapes.proofs.Totals.{start_zero}
use Rattle.walks.specs.Walks.{Levels, rising, rising_sums, walk_up, falling, falling_sums, walk_down}
use Rattle.walks.proofs.Parts.{rising_zero, rising_suc, rising_sums_zero, rising_sums_suc, walk_up_is, falling_zero, falling_suc, falling_sums_zero, falling_sums_suc, walk_down_is}
use Rattle.lists.specs.Lists.{first_in, end_of}
use Rattle.sweeps.proofs.Ranks.{first_at}

module _ (base d n : ℕ) where
  -- A level list of the face of d inner axes, and top level n.
  pub record OfFace (l : Levels) : Type 0 where
    pub rest : (t : ℕ) → d ≤ t → l t ≡ 0
    pub low : sum_to l d ≤ n

  -- Lists of the face, each from the number where the one before it stops; the first from number k.
  abbrev pub Joined : (Levels → ℕ) → (Levels → ℕ) → ℕ → List Levels → Type 0
  Joined from to k [] = Unit {0}
  Joined from to k (l ∷ ls) = (k ≡ from l) × OfFace l × Joined from to (to l) ls

  abbrev pub JoinedDown : ℕ → List Levels → Type 0
  JoinedDown = Joined (end_of base d) (first_in base d)

  abbrev pub JoinedUp : ℕ → List Levels → Type 0
  JoinedUp = Joined (first_in base d) (end_of base d)

  -- ---- the list of sum s and rank r

  module _ (s r : ℕ) (low : s ≤ n) (in_sum : r < vectors d s) where
    ranked : OfFace (level_of d s r)
    ranked = record { rest = level_past d s r; low = omega (arith, low, sum_of_level d s r in_sum) }

    ranked_first : first_in base d (level_of d s r) ≡ base + first_at d s r
    ranked_first =
        ap (λ (p : ℕ). base + p)
        (first_is d (level_of d s r)
        ∙ ap (λ (u : ℕ). first_at d u (rank (level_of d s r) d)) (sum_of_level d s r in_sum)
        ∙ ap (first_at d s) (rank_of_level d s r in_sum))

    ranked_end : end_of base d (level_of d s r) ≡ base + first_at d s (suc r)
    ranked_end =
        omega (arith, ranked_first, ap (λ (u : ℕ). 2 ^ u) (sum_of_level d s r in_sum), mul-suc (2 ^ s) r)

  start_of : (s : ℕ) → first_at d s 0 ≡ start d s
  start_of s = omega (arith, mul-zero (2 ^ s))

  end_of_lem : (s : ℕ) → first_at d s (vectors d s) ≡ start d (suc s)
  end_of_lem s = omega (arith, start_suc d s)

  -- ---- down

  sum_joins_down : (s b : ℕ) → s ≤ n → b ≤ vectors d s → (ls : List Levels) → JoinedDown (base + first_at d s 0) ls →
      JoinedDown (base + first_at d s b) (falling d s b ++ ls)
  sum_joins_down s zero low h ls joined = rw (falling_zero d s) joined
  sum_joins_down s (suc r) low h ls joined =
      rw (falling_suc d s r) (
        sym (ranked_end s r low h),
        ranked s r low h,
        rw (ranked_first s r low h) (sum_joins_down s r low (omega arith) ls joined),
      )

  sums_join_down : (s : ℕ) → s ≤ suc n → JoinedDown (base + start d s) (falling_sums d s)
  sums_join_down zero low = rw (falling_sums_zero d) tt
  sums_join_down (suc s) low =
      rw (falling_sums_suc d s, sym (end_of_lem s))
      (sum_joins_down s (vectors d s) (omega arith) (omega arith) (falling_sums d s) (rw (start_of s) (sums_join_down s (omega arith))))

  pub joined_down : JoinedDown (base + points d n) (walk_down d n)
  joined_down = rw (walk_down_is d n, points_is d n) (sums_join_down (suc n) (omega arith))

  -- ---- up

  sum_joins_up : (s r m : ℕ) → s ≤ n → r + m ≤ vectors d s → (ls : List Levels) → JoinedUp (base + first_at d s (r + m)) ls →
      JoinedUp (base + first_at d s r) (rising d s r m ++ ls)
  sum_joins_up s r zero low h ls joined =
      let none : r + 0 ≡ r = omega arith in
      rw (rising_zero d s r) (rw none at joined)
  sum_joins_up s r (suc m) low h ls joined =
      let here : r < vectors d s = omega arith in
      let more : r + suc m ≡ suc r + m = omega arith in
      rw (rising_suc d s r m) (
        sym (ranked_first s r low here),
        ranked s r low here,
        rw (ranked_end s r low here) (sum_joins_up s (suc r) m low (omega arith) ls (rw more at joined)),
      )

  sums_join_up : (s k : ℕ) → s + k ≤ suc n → JoinedUp (base + start d s) (rising_sums d s k)
  sums_join_up s zero low = rw (rising_sums_zero d s) tt
  sums_join_up s (suc k) low =
      let all : 0 + vectors d s ≡ vectors d s = omega arith in
      rw (rising_sums_suc d s k, sym (start_of s))
      (sum_joins_up s 0 (vectors d s) (omega arith) (omega arith) (rising_sums d (suc s) k)
      (rw (all, end_of_lem s) (sums_join_up (suc s) k (omega arith))))

  pub joined_up : JoinedUp base (walk_up d n)
  joined_up =
      let first : base + start d 0 ≡ base = omega (arith, start_zero d) in
      rw (walk_up_is d n) (rw first at (sums_join_up 0 (suc n) (omega arith)))
