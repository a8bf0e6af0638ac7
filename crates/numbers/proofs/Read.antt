-- The level vector of a number, read off what the search for its level sum finds: the rank and the position are the high and the low bits of what is
-- left, and the levels of this rank are those of the point. The point of a number, read off its level vector and the position there.
-- Assumes nothing.
use mathlib.Core.Path.{◌≡◌, sym, ap, ap₂, ◌∙◌}
use mathlib.Core.List.{List}
use Prim.Native.Nat.{ℕ, ◌/◌, ◌%◌, ◌^◌, ◌≤◌, ◌<◌}
use native.Mathlib.Omega.{arith}
use lib.ListN.{length}
use Rattle.naturals.specs.Sum.{sum_to}
use Rattle.naturals.proofs.Cases.{le_or_lt}
use Rattle.naturals.proofs.Sums.{sum_to_cong}
use Rattle.numbering.specs.Count.{vectors, shell, points}
use Rattle.numbering.specs.Point.{at}
use Rattle.numbering.specs.Inverse.{sum_at, within, level_of, level_at, index_of, index_at}
use Rattle.numbering.proofs.Block.{block_le}
use Rattle.numbering.proofs.Unrank.{level_past, sum_of_level}
use Rattle.numbering.proofs.Numbering.{rank_within, index_in, index_cong, index_zero, point_of_number_lem}
use Rattle.points.specs.Points.{eight, bare_point}
use Rattle.points.proofs.Eight.{eight_length, eight_at, eight_whole, eight_cong}
use Rattle.vectors.specs.Steps.{VectorIn}
use Rattle.numbers.specs.Steps.{Lies, indices_of}
use Rattle.numbers.proofs.Places.{sum_found, within_found}
use Rattle.numbers.proofs.Unpacked.{indices_before, indices_past}

module _ (d n p : ℕ) {s left : ℕ} (lt : p < points d n) (lies : Lies (shell d) n p s left) where
  rank_found : within d n p / 2 ^ sum_at d n p ≡ left / 2 ^ s
  rank_found = ap₂ (λ (w k : ℕ). w / 2 ^ k) (within_found d n p lies) (sum_found d n p lies)

  pub position_found : within d n p % 2 ^ sum_at d n p ≡ left % 2 ^ s
  position_found = ap₂ (λ (w k : ℕ). w % 2 ^ k) (within_found d n p lies) (sum_found d n p lies)

  pub rank_below : left / 2 ^ s < vectors d s
  rank_below = rw (← rank_found, ← sum_found d n p lies) (rank_within d n p lt)

  level_found : (t : ℕ) → level_of d s (left / 2 ^ s) t ≡ level_at d n p t
  unfolding level_at
  level_found t = sym (ap₂ (λ (k r : ℕ). level_of d k r t) (sum_found d n p lies) rank_found)

  pub levels_found : eight (level_of d s (left / 2 ^ s)) ≡ eight (level_at d n p)
  levels_found = eight_cong (level_of d s (left / 2 ^ s)) (level_at d n p) (λ t h. level_found t)

-- The levels of a rank and a sum in a list of eight places are a level vector of that sum.
pub vector_read : (d s r : ℕ) {levels : List ℕ} → d ≤ 8 → r < vectors d s → levels ≡ eight (level_of d s r) → VectorIn d s levels
vector_read d s r {levels} high lt made =
    let whole : at levels ≡ level_of d s r = ap at made ∙ eight_whole (level_of d s r) (λ t past. level_past d s r t (omega arith)) in
    record {
      long = ap length made ∙ eight_length (level_of d s r);
      total = ap (λ (l : ℕ → ℕ). sum_to l d) whole ∙ sum_of_level d s r lt;
      rest = λ t past. ap (λ (l : ℕ → ℕ). l t) whole ∙ level_past d s r t past;
    }

-- The level sum of a point is at most the top level.
pub sum_few : (d n p : ℕ) → sum_at d n p ≤ n
unfolding sum_at
sum_few d n p = block_le (shell d) n p

module _ (d n p : ℕ) (high : d ≤ 8) (lt : p < points d n) {levels : List ℕ} (made : levels ≡ eight (level_at d n p)) where
  level_at_lem : (t : ℕ) → t < 8 → at levels t ≡ level_at d n p t
  level_at_lem t h = rw made (eight_at (level_at d n p) t h)

  -- The levels add up to at most the top level.
  pub levels_few : sum_to (at levels) d ≤ n
  levels_few =
      omega (arith, sum_to_cong (at levels) (level_at d n p) d (λ t h. level_at_lem t (omega arith)), (point_of_number_lem d n p lt).sum)

  module _ (q : ℕ) (low : q ≡ within d n p % 2 ^ sum_at d n p) where
    index_found : (t : ℕ) → t < 8 → indices_of d (at levels) q t ≡ index_at d n p t
    index_found t h =
        le_or_lt d t
        (λ past. indices_past d (at levels) q t past ∙ sym (index_zero d n p t past))
        (λ before.
        indices_before d (at levels) q t before
        ∙ index_cong (at levels) (level_at d n p) q t (λ u le. level_at_lem u (omega arith))
        ∙ ap (λ (x : ℕ). index_of (level_at d n p) x t) low
        ∙ sym (index_in d n p t before))

    pub point_found : {indices : List ℕ} → indices ≡ eight (indices_of d (at levels) q) →
        record { levels = levels; indices = indices } ≡ bare_point (level_at d n p) (index_at d n p)
    point_found written =
        ap₂ (λ (ls is : List ℕ). record { levels = ls; indices = is }) made
        (written ∙ eight_cong (indices_of d (at levels) q) (index_at d n p) index_found)
