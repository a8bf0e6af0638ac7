-- Working in the order leaves what the sweeps of the whole axes leave, smallest axis first: the order is legal and does every axis at every point, so the theorem on
-- orders of work says what each place holds. In it stands each step of an axis at a point exactly once, and nothing else.
-- Assumes nothing.
use mathlib.Core.Path.{◌≡◌, refl, ap, sym, ◌∙◌, fun_ext}
use mathlib.Core.Logic.{◌⊎◌, inl, inr, ⊎_elim}
use Prim.Native.Nat.{ℕ, zero, suc, ◌≤◌, ◌<◌}
use native.Mathlib.Omega.{arith}
use lib.IntN.{ℤ, pos}
use borrow.Author.Tests.{le-leb, lt-ltb, le-ltb}
use Rattle.naturals.proofs.Cases.{le_or_lt}
use Rattle.hierarchy.specs.Turns.{forward}
use Rattle.hierarchy.specs.Sets.{every_axis, scaled, swept, table_of}
use Rattle.hierarchy.specs.Work.{all_worked, counts_after}
use Rattle.hierarchy.proofs.Closed.{scaled_border}
use Rattle.hierarchy.proofs.Inverse.{forward_zero, forward_past}
use Rattle.hierarchy.proofs.Work.{Stages, order_of_work}
use Rattle.splits.specs.Splits.{itself, occurrences, Due}
use Rattle.splits.proofs.Parts.{Does}
use Rattle.splits.proofs.Once.{stands}
use Rattle.component_grids.specs.Component.{points_to, neighbour, depth}
use Rattle.component_grids.proofs.Instance.{grid}
use Rattle.component_boxes.specs.Order.{centre, order_of}
use Rattle.component_boxes.specs.Boxes.{Box}
use Rattle.component_boxes.specs.Stages.{stages_of}
use Rattle.component_boxes.proofs.WholeGrid.{whole_fits, whole_near}
use Rattle.component_boxes.proofs.Legal.{in_order_does}

module _ (d : ℕ) (tops : ℕ → ℕ) where
  -- Before the first it is the loaded table, after the last the table of all axes.
  pub stage_start : (r : ℕ → ℤ) → stages_of d tops r 0 ≡ scaled d r
  unfolding stages_of swept
  stage_start r = refl

  pub stage_next : (r : ℕ → ℤ) (k : ℕ) → stages_of d tops r (suc k) ≡ forward (neighbour d tops) k (stages_of d tops r k)
  unfolding stages_of swept
  stage_next r k = refl

  pub stage_end : (r : ℕ → ℤ) → stages_of d tops r d ≡ table_of (neighbour d tops) d every_axis r
  unfolding stages_of table_of
  stage_end r = refl

  pub stage_border : (r : ℕ → ℤ) → r 0 ≡ pos 0 → (k : ℕ) → stages_of d tops r k 0 ≡ pos 0
  stage_border r border zero = ap (λ (f : ℕ → ℤ). f 0) (stage_start r) ∙ scaled_border d r border
  stage_border r border (suc k) =
      ap (λ (f : ℕ → ℤ). f 0) (stage_next r k)
      ∙ forward_zero (points_to tops d) (neighbour d tops) (depth d tops) (grid d tops) k (stages_of d tops r k) (stage_border r border k)

  pub stages : (r : ℕ → ℤ) → r 0 ≡ pos 0 → Stages (neighbour d tops) itself (stages_of d tops r)
  stages r border = record { next = λ k p. ap (λ (f : ℕ → ℤ). f p) (stage_next r k); border = stage_border r border }

  -- Past the points nothing moves.
  pub stage_past : (r : ℕ → ℤ) → r 0 ≡ pos 0 → (p : ℕ) → points_to tops d < p → (k : ℕ) → stages_of d tops r k p ≡ stages_of d tops r 0 p
  stage_past r border p past zero = refl
  stage_past r border p past (suc k) =
      ap (λ (f : ℕ → ℤ). f p) (stage_next r k)
      ∙ forward_past (points_to tops d) (neighbour d tops) (depth d tops) (grid d tops) k (stages_of d tops r k) (stage_border r border k) p past
      ∙ stage_past r border p past k

  -- No axis is done anywhere.
  abbrev pub none : ℕ → ℕ
  none p = 0

  abbrev pub All : ℕ → Type 0
  All = Box d tops tops (centre d tops)

  -- At the start every axis is due: a neighbour is a point or none.
  pub whole_due : Due (neighbour d tops) d 0 d All none
  whole_due =
      record {
        own = λ p h. refl;
        edge = λ a b p low high h out. at_code (neighbour d tops a b p) ((grid d tops).within a b p) out;
      }
    where
      at_code : (n : ℕ) → n ≤ points_to tops d → (All n → ⊥) → {a : ℕ} → (n ≡ 0) ⊎ (none n ≡ a)
      at_code zero le out = inl refl
      at_code (suc q) le out = absurd (out (whole_near tops d q le))

  module _ (dim : 0 < d) where
    pub whole_does : Does (neighbour d tops) d d All none (order_of d tops)
    unfolding order_of
    whole_does = in_order_does d tops dim 0 d tops (centre d tops) (omega arith) (omega arith) (whole_fits tops d) none whole_due

    abbrev pub after : ℕ → ℕ
    after = counts_after (neighbour d tops) itself (order_of d tops) none

    done_inside : (p : ℕ) → p < points_to tops d → after (suc p) ≡ d
    done_inside p h = whole_does.done.own (suc p) (whole_near tops d p h)

    done_outside : (p : ℕ) → (p ≡ 0) ⊎ (points_to tops d < p) → after p ≡ 0
    done_outside zero out = whole_does.done.rest 0 (λ none. none)
    done_outside (suc p) out = whole_does.done.rest (suc p) (λ near. ⊎_elim (λ e. omega arith) (λ past. omega (arith, near.inside)) out)

    -- No point does more than all axes.
    pub at_most : (p : ℕ) → after p ≤ d
    at_most zero = omega (arith, done_outside 0 (inl refl))
    at_most (suc p) =
        le_or_lt (points_to tops d) p
        (λ past. omega (arith, done_outside (suc p) (inr (omega arith))))
        (λ h. omega (arith, done_inside p h))

    -- The order leaves what the sweeps leave.
    pub order_leaves : (r : ℕ → ℤ) → r 0 ≡ pos 0 →
        all_worked (neighbour d tops) itself (order_of d tops) (scaled d r) ≡ table_of (neighbour d tops) d every_axis r
    order_leaves r border =
        fun_ext
        (λ p.
        order_of_work (neighbour d tops) itself (stages_of d tops r) (stages r border) (order_of d tops) none (scaled d r) whole_does.legal
        (λ q. ap (λ (f : ℕ → ℤ). f q) (sym (stage_start r))) p
        ∙ at_code p
        ∙ ap (λ (f : ℕ → ℤ). f p) (stage_end r))
      where
        outside : (p : ℕ) → after p ≡ 0 → stages_of d tops r d p ≡ stages_of d tops r 0 p → stages_of d tops r (after p) p ≡ stages_of d tops r d p
        outside p e same = ap (λ (k : ℕ). stages_of d tops r k p) e ∙ sym same

        at_code : (p : ℕ) → stages_of d tops r (after p) p ≡ stages_of d tops r d p
        at_code zero = outside 0 (done_outside 0 (inl refl)) (stage_border r border d ∙ sym (stage_border r border 0))
        at_code (suc p) =
            le_or_lt (points_to tops d) p
            (λ past. outside (suc p) (done_outside (suc p) (inr (omega arith))) (stage_past r border (suc p) (omega arith) d))
            (λ h. ap (λ (k : ℕ). stages_of d tops r k (suc p)) (done_inside p h))

    -- Each step of an axis at a point stands once in the order.
    pub each_step_once : (t p : ℕ) → t < d → p < points_to tops d → occurrences t (suc p) (order_of d tops) ≡ 1
    each_step_once t p axis h =
        stands (neighbour d tops) itself (order_of d tops) none whole_does.legal t (suc p)
        ∙ rw (done_inside p h, le-leb 0 t (omega arith), lt-ltb t d axis)

    -- No other step does.
    pub no_other_step : (t p : ℕ) → (d ≤ t) ⊎ (p ≡ 0) ⊎ (points_to tops d < p) → occurrences t p (order_of d tops) ≡ 0
    no_other_step t p out =
        stands (neighbour d tops) itself (order_of d tops) none whole_does.legal t p
        ∙ rw (le-leb 0 t (omega arith), le-ltb t (after p) (enough out))
      where
        enough : (d ≤ t) ⊎ (p ≡ 0) ⊎ (points_to tops d < p) → after p ≤ t
        enough (inl past) = omega (arith, at_most p)
        enough (inr none) = omega (arith, done_outside p none)
