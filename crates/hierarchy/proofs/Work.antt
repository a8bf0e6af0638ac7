-- One theorem about orders of work: in whatever legal order the steps are done, each place holds what the whole stages leave there after as
-- many stages as its count says. True since a ready step reads exactly the values that the whole stage reads.
-- Assumes nothing.
use mathlib.Core.Path.{◌≡◌, refl, ap, ap₂, sym, ◌∙◌}
use mathlib.Core.Logic.{⊎_elim}
use mathlib.Core.List.{List, [], ◌∷◌}
use Prim.Native.Nat.{ℕ, suc}
use lib.IntN.{ℤ, pos, ◌+ℤ◌, ◌-ℤ◌}
use borrow.Author.Tests.{eq-eqb, ne_eqb}
use Rattle.naturals.proofs.Cases.{eq_or_not}
use Rattle.integers.specs.Half.{half}
use Rattle.numbering.specs.declared.Side.{Side}
use Rattle.numbering.specs.declared.Side.TheVariants.{Left, Right}
use Rattle.hierarchy.specs.Grid.{Neighbours, Still}
use Rattle.hierarchy.specs.Turns.{sum_on, forward}
use Rattle.hierarchy.specs.Work.{put, Item, worked, Ready, all_worked, counts_after, Legal}
use Rattle.hierarchy.proofs.Still.{forward_still}

pub put_same : {A : Type 0} (f : ℕ → A) (p : ℕ) (v : A) → put f p v p ≡ v
unfolding put
put_same f p v = rw (eq-eqb p p refl)

pub put_other : {A : Type 0} (f : ℕ → A) (p : ℕ) (v : A) (q : ℕ) → (q ≡ p → ⊥) → put f p v q ≡ f q
unfolding put
put_other f p v q ne = rw (ne_eqb q p ne)

module _ (nb : Neighbours) (axis : ℕ → ℕ) where
  -- The tables after each whole stage, 0 at the border.
  pub record Stages (after : ℕ → ℕ → ℤ) : Type 0 where
    pub next : (k p : ℕ) → after (suc k) p ≡ forward nb (axis k) (after k) p
    pub border : (k : ℕ) → after k 0 ≡ pos 0

  -- Each place holds what the stages that it has done leave there.
  abbrev pub Holds : (ℕ → ℕ → ℤ) → (ℕ → ℕ) → (ℕ → ℤ) → Type 0
  Holds after count f = (p : ℕ) → f p ≡ after (count p) p

  module _ (after : ℕ → ℕ → ℤ) (stages : Stages after) where
    -- A stage leaves alone what it does not move.
    unmoved : (k p : ℕ) → Still nb (axis k) p → after (suc k) p ≡ after k p
    unmoved k p still = stages.next k p ∙ forward_still nb (axis k) (after k) (stages.border k) p still

    -- What a ready step reads are the values of the whole stage.
    pub reads : (i : Item) (count : ℕ → ℕ) (f : ℕ → ℤ) → Ready nb axis i count → Holds after count f →
        sum_on nb (axis i.stage) f i.point ≡ sum_on nb (axis i.stage) (after i.stage) i.point
    unfolding sum_on
    reads i count f ready holds = ap₂ ◌+ℤ◌ (parent Left) (parent Right)
      where
        parent : (b : Side) → f (nb (axis i.stage) b i.point) ≡ after i.stage (nb (axis i.stage) b i.point)
        parent b =
            let q : ℕ = nb (axis i.stage) b i.point in
            holds q
            ∙ ⊎_elim
            (λ e. rw e (stages.border (count 0) ∙ sym (stages.border i.stage)))
            (⊎_elim
            (λ e. ap (λ (k : ℕ). after k q) e)
            (λ e. ap (λ (k : ℕ). after k q) e.0 ∙ unmoved i.stage q e.1))
            (ready.parents b)

    put_holds : (count : ℕ → ℕ) (f : ℕ → ℤ) (p k : ℕ) (v : ℤ) → v ≡ after k p → Holds after count f → Holds after (put count p k) (put f p v)
    put_holds count f p k v e holds q =
        eq_or_not q p
        (λ same. rw same (put_same f p v ∙ e ∙ ap (λ (j : ℕ). after j p) (sym (put_same count p k))))
        (λ other. put_other f p v q other ∙ holds q ∙ ap (λ (j : ℕ). after j q) (sym (put_other count p k q other)))

    pub step_holds : (i : Item) (count : ℕ → ℕ) (f : ℕ → ℤ) → Ready nb axis i count → Holds after count f →
        Holds after (put count i.point (suc i.stage)) (worked nb axis i f)
    unfolding worked
    step_holds i count f ready holds =
        put_holds count f i.point (suc i.stage) (f i.point -ℤ half (sum_on nb (axis i.stage) f i.point))
        (ap₂ (λ (v w : ℤ). v -ℤ half w) (holds i.point ∙ ap (λ (k : ℕ). after k i.point) ready.point) (reads i count f ready holds)
        ∙ sym (stages.next i.stage i.point ∙ forward_at i.stage))
        holds
      where
        forward_at : (k : ℕ) → forward nb (axis k) (after k) i.point ≡ after k i.point -ℤ half (sum_on nb (axis k) (after k) i.point)
        forward_at k = unfold forward in refl

    -- The theorem.
    pub order_of_work : (is : List Item) (count : ℕ → ℕ) (f : ℕ → ℤ) → Legal nb axis is count → Holds after count f →
        Holds after (counts_after nb axis is count) (all_worked nb axis is f)
    unfolding all_worked counts_after
    order_of_work [] count f legal holds = holds
    order_of_work (i ∷ is) count f legal holds =
        order_of_work is (put count i.point (suc i.stage)) (worked nb axis i f) legal.1 (step_holds i count f legal.0 holds)
