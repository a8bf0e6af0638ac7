-- The walk that reads the levels of a level vector off its rank, from the last axis down: k axes are left, with a level sum and a rank of their own,
-- and the levels after them stand in their places. True since the level vector of a rank is made so, axis by axis.
-- Assumes nothing.
use mathlib.Core.Path.{◌≡◌, refl, sym, ap, ap₂, ◌∙◌}
use mathlib.Core.List.{List}
use Prim.Native.Nat.{ℕ, suc, ◌-◌, ◌≤◌, ◌<◌}
use native.Mathlib.Omega.{arith}
use lib.ListN.{length, set, replicate, length-set, get_or-replicate}
use lib.Seq.{get_or-set_same, get_or-set_other}
use Rattle.naturals.specs.Sum.{sum_to}
use Rattle.naturals.proofs.Cases.{eq_or_not}
use Rattle.naturals.proofs.Sums.{sum_to_zero, sum_to_suc}
use Rattle.numbering.specs.Count.{vectors}
use Rattle.numbering.specs.Point.{at}
use Rattle.numbering.specs.Number.{ending}
use Rattle.numbering.specs.Inverse.{last_level, level_of}
use Rattle.numbering.proofs.Unrank.{level_last, level_before, level_past, rest_lt, sum_of_level}
use Rattle.points.specs.Points.{eight}
use Rattle.points.proofs.Eight.{eight_ext}
use Rattle.numbers.specs.Steps.{Lies}
use Rattle.numbers.proofs.Places.{last_found, rest_found}

pub record Unranked (d s r : ℕ) (levels : List ℕ) (k left rest : ℕ) : Type 0 where
  pub low : 1 ≤ k
  pub high : k ≤ d
  pub places : length levels ≡ 8
  pub small : left ≤ s
  pub below : rest < vectors k left
  pub done : (t : ℕ) → k ≤ t → t < 8 → at levels t ≡ level_of d s r t
  pub todo : (t : ℕ) → t < k → level_of d s r t ≡ level_of k left rest t

pub unranked_starts : (d s r : ℕ) → 1 ≤ d → r < vectors d s → Unranked d s r (replicate 8 0) d s r
unranked_starts d s r low lt =
    record {
      low = low;
      high = omega arith;
      places = refl;
      small = omega arith;
      below = lt;
      done = λ t past h. get_or-replicate 8 t 0 0 h ∙ sym (level_past d s r t past);
      todo = λ t h. refl;
    }

module _ {d s r : ℕ} {levels : List ℕ} {k left rest : ℕ} (state : Unranked d s r levels (suc k) left rest) where
  turned : {j more : ℕ} → 1 ≤ k → k < 8 → Lies (ending k left) left rest j more →
      Unranked d s r (set levels k j) k (left - j) more
  turned {j} {more} low short lies =
      let last : last_level k left rest ≡ j = last_found k left rest lies in
      let others : rest - sum_to (ending k left) (last_level k left rest) ≡ more = rest_found k left rest lies in
      record {
        low = low;
        high = omega (arith, state.high);
        places = length-set levels k j ∙ state.places;
        small = omega (arith, state.small);
        below = rw last at (rw others at (rest_lt k left rest state.below));
        done = λ t past h.
            eq_or_not t k
            (λ e.
            rw e
            (get_or-set_same levels k j 0 (omega (arith, state.places))
            ∙ sym (state.todo k (omega arith) ∙ level_last k left rest ∙ last)))
            (λ e. get_or-set_other levels k t j 0 e ∙ state.done t (omega arith) h);
        todo = λ t h.
            state.todo t (omega arith)
            ∙ level_before k left rest t h
            ∙ ap₂ (λ (a b : ℕ). level_of k a b t) (ap (λ (m : ℕ). left - m) last) others;
      }

module _ {d s r : ℕ} {levels : List ℕ} {k left rest : ℕ} (state : Unranked d s r levels k left rest) (many : 1 < k) where
  again : Unranked d s r levels (suc (k - 1)) left rest
  again = let same : k ≡ suc (k - 1) = omega arith in rw same at state

  pub unranked_below : rest < vectors (suc (k - 1)) left
  unranked_below = again.below

  pub unranked_steps : {j more : ℕ} → k ≤ 8 → Lies (ending (k - 1) left) left rest j more →
      Unranked d s r (set levels (k - 1) j) (k - 1) (left - j) more
  unranked_steps short lies = turned again (omega arith) (omega arith) lies

-- What is left to the first axis is its level.
ended : {d s r : ℕ} {levels : List ℕ} {left rest : ℕ} → Unranked d s r levels 1 left rest →
    set levels 0 left ≡ eight (level_of d s r)
ended {d} {s} {r} {levels} {left} {rest} state =
    let first : level_of d s r 0 ≡ left =
    omega (
      arith,
      state.todo 0 (omega arith),
      sum_of_level 1 left rest state.below,
      sum_to_suc (level_of 1 left rest) 0,
      sum_to_zero (level_of 1 left rest),
    ) in
    eight_ext (level_of d s r) (set levels 0 left) (length-set levels 0 left ∙ state.places)
    (λ t h.
    eq_or_not t 0
    (λ e. rw e (get_or-set_same levels 0 left 0 (omega (arith, state.places)) ∙ sym first))
    (λ e. get_or-set_other levels 0 t left 0 e ∙ state.done t (omega arith) h))

pub unranked_ends : {d s r : ℕ} {levels : List ℕ} {k left rest : ℕ} → Unranked d s r levels k left rest → k ≤ 1 →
    set levels 0 left ≡ eight (level_of d s r)
unranked_ends {k = k} state h =
    let one : k ≡ 1 = omega (arith, state.low) in
    ended (rw one at state)
