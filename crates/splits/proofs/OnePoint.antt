-- The steps of one point on the axes s to t − 1 are legal and do them: its neighbours are other points, so their counts stay.
-- Assumes nothing.
use mathlib.Core.Path.{◌≡◌, refl, ◌∙◌}
use mathlib.Core.Logic.{◌⊎◌, inl, inr, ⊎_elim}
use Prim.Native.Nat.{ℕ, zero, suc, ◌+◌, ◌-◌, ◌≤◌, ◌<◌}
use native.Mathlib.Omega.{arith}
use Rattle.numbering.specs.declared.Side.{Side}
use Rattle.hierarchy.specs.Grid.{Neighbours}
use Rattle.hierarchy.specs.Work.{put, counts_after, Legal}
use Rattle.hierarchy.proofs.Work.{put_same, put_other}
use Rattle.splits.specs.Splits.{itself, steps_at, Due}
use Rattle.splits.proofs.Parts.{Does}

module _ (nb : Neighbours) (d p : ℕ) (apart : (a : ℕ) (b : Side) → nb a b p ≡ p → ⊥) where
  -- What n steps from axis s on leave.
  record Stepped (n s : ℕ) (count : ℕ → ℕ) : Type 0 where
    legal : Legal nb itself (steps_at n s p) count
    own : counts_after nb itself (steps_at n s p) count p ≡ s + n
    rest : (q : ℕ) → (q ≡ p → ⊥) → counts_after nb itself (steps_at n s p) count q ≡ count q

  steps_done : (n s : ℕ) (count : ℕ → ℕ) → count p ≡ s →
      ((a : ℕ) (b : Side) → s ≤ a → a < s + n → (nb a b p ≡ 0) ⊎ (count (nb a b p) ≡ a)) → Stepped n s count
  unfolding steps_at counts_after
  steps_done zero s count e edge = record { legal = tt; own = omega arith; rest = λ q other. refl }
  steps_done (suc n) s count e edge =
      let next : ℕ → ℕ = put count p (suc s) in
      let so_far =
      steps_done n (suc s) next (put_same count p (suc s))
      (λ a b low high.
      ⊎_elim
      (λ none. inl none)
      (λ there. inr (put_other count p (suc s) (nb a b p) (apart a b) ∙ there))
      (edge a b (omega arith) (omega arith))) in
      record {
        legal = (
          record {
            point = e;
            parents = λ b. ⊎_elim (λ none. inl none) (λ there. inr (inl there)) (edge s b (omega arith) (omega arith));
          },
          so_far.legal,
        );
        own = omega (arith, so_far.own);
        rest = λ q other. so_far.rest q other ∙ put_other count p (suc s) q other;
      }

  -- A set that has this one point.
  pub point_does : (box : ℕ → Type 0) → ((q : ℕ) → box q → q ≡ p) → box p → (s t : ℕ) → s ≤ t → (count : ℕ → ℕ) → Due nb d s t box count →
      Does nb d t box count (steps_at (t - s) s p)
  point_does box only here s t order count due =
      let steps =
      steps_done (t - s) s count (due.own p here)
      (λ a b low high. due.edge a b p low (omega arith) here (λ there. apart a b (only (nb a b p) there))) in
      record {
        legal = steps.legal;
        done =
            record {
              own = λ q h. rw (only q h) (omega (arith, steps.own));
              rest = λ q out. steps.rest q (λ e. out (rw e here));
            };
      }
