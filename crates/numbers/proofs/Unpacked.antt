-- The walk that reads the indices of a point off its position: after t axes their indices stand in their places, and what is left of the position
-- are the digits of the axes after them. True since the digits are read off lowest first, l_t bits for axis t.
-- Assumes nothing.
use mathlib.Core.Path.{◌≡◌, refl, sym, ap, ◌∙◌}
use mathlib.Core.List.{List}
use Prim.Native.Nat.{ℕ, suc, ◌+◌, ◌*◌, ◌/◌, ◌%◌, ◌^◌, ◌≤◌, ◌<◌}
use native.Mathlib.Nat.{div-one}
use native.Mathlib.Numerals.{add-one}
use native.Mathlib.Omega.{arith}
use lib.Pow.{shr-shr}
use lib.ListN.{set, replicate, length-set, get_or-replicate}
use lib.Seq.{get_or-set_same, get_or-set_other}
use borrow.Author.Tests.{lt-ltb, le-ltb}
use Rattle.naturals.specs.Sum.{sum_to}
use Rattle.naturals.proofs.Cases.{le_or_lt, eq_or_not}
use Rattle.naturals.proofs.Sums.{sum_to_zero, sum_to_suc}
use Rattle.numbering.specs.Inverse.{index_of}
use Rattle.points.specs.Points.{eight}
use Rattle.points.proofs.Eight.{eight_length, eight_at, eight_ext}
use Rattle.numbers.specs.Steps.{indices_of}

index_is : (l : ℕ → ℕ) (q t : ℕ) → index_of l q t ≡ 2 * (q / 2 ^ sum_to l t % 2 ^ l t) + 1
unfolding index_of
index_is l q t = refl

pub indices_before : (d : ℕ) (l : ℕ → ℕ) (q t : ℕ) → t < d → indices_of d l q t ≡ index_of l q t
unfolding indices_of
indices_before d l q t h = rw (lt-ltb t d h)

pub indices_past : (d : ℕ) (l : ℕ → ℕ) (q t : ℕ) → d ≤ t → indices_of d l q t ≡ 0
unfolding indices_of
indices_past d l q t h = rw (le-ltb t d h)

-- One axis more changes its own place alone.
indices_step : (k : ℕ) (l : ℕ → ℕ) (q t : ℕ) → (t ≡ k → ⊥) → indices_of k l q t ≡ indices_of (suc k) l q t
indices_step k l q t other =
    le_or_lt (suc t) k
    (λ h. indices_before k l q t h ∙ sym (indices_before (suc k) l q t (omega arith)))
    (λ h. indices_past k l q t (omega arith) ∙ sym (indices_past (suc k) l q t (omega arith)))

pub record Unpacked (l : ℕ → ℕ) (q d : ℕ) (indices : List ℕ) (t rest : ℕ) : Type 0 where
  pub place : t ≤ d
  pub digits : rest ≡ q / 2 ^ sum_to l t
  pub done : indices ≡ eight (indices_of t l q)

pub unpacked_starts : (l : ℕ → ℕ) (q d : ℕ) → Unpacked l q d (replicate 8 0) 0 q
unpacked_starts l q d =
    record {
      place = omega arith;
      digits = sym (ap (λ (s : ℕ). q / 2 ^ s) (sum_to_zero l) ∙ div-one q);
      done = eight_ext (indices_of 0 l q) (replicate 8 0) refl
          (λ t h. get_or-replicate 8 t 0 0 h ∙ sym (indices_past 0 l q t (omega arith)));
    }

module _ {l : ℕ → ℕ} {q d : ℕ} {indices : List ℕ} {t rest : ℕ} (state : Unpacked l q d indices t rest) where
  stored : (v : ℕ) → t < 8 → v ≡ index_of l q t → set indices t v ≡ eight (indices_of (suc t) l q)
  stored v h is =
      rw state.done
      (eight_ext (indices_of (suc t) l q) (set (eight (indices_of t l q)) t v)
      (length-set (eight (indices_of t l q)) t v ∙ eight_length (indices_of t l q))
      (λ u short.
      eq_or_not u t
      (λ e.
      rw e
      (get_or-set_same (eight (indices_of t l q)) t v 0 (omega (arith, eight_length (indices_of t l q)))
      ∙ is
      ∙ sym (indices_before (suc t) l q t (omega arith))))
      (λ e.
      get_or-set_other (eight (indices_of t l q)) t u v 0 e
      ∙ eight_at (indices_of t l q) u short
      ∙ indices_step t l q u e)))

  pub unpacked_steps : (digit : ℕ) → t < d → d ≤ 8 → digit ≡ rest % 2 ^ l t →
      Unpacked l q d (set indices t (2 * digit + 1)) (t + 1) (rest / 2 ^ l t)
  unpacked_steps digit h short low =
      record {
        place = omega arith;
        digits = rw (add-one t, sum_to_suc l t) (ap (λ (x : ℕ). x / 2 ^ l t) state.digits ∙ shr-shr q (sum_to l t) (l t));
        done = rw (add-one t)
            (stored (2 * digit + 1) (omega arith)
            (ap (λ (x : ℕ). 2 * x + 1) (low ∙ ap (λ (x : ℕ). x % 2 ^ l t) state.digits) ∙ sym (index_is l q t)));
      }

  pub unpacked_ends : d ≤ t → indices ≡ eight (indices_of d l q)
  unpacked_ends h =
      let last : t ≡ d = omega (arith, state.place) in
      state.done ∙ ap (λ (k : ℕ). eight (indices_of k l q)) last
