-- In a legal list each step of a point stands exactly once if its axis is one of those that the list does there, and not at all else: a ready step is that of the
-- first axis not yet done at its point, and makes it done.
-- Assumes nothing.
use mathlib.Core.Path.{◌≡◌, refl, ap, sym, ◌∙◌}
use mathlib.Core.Bool.{Bool, true, false, ◌&&◌}
use mathlib.Core.List.{List, [], ◌∷◌}
use Prim.Native.Nat.{ℕ, suc, ◌+◌, ◌≤◌}
use native.Mathlib.Omega.{arith}
use lib.Dec.{leb, ltb, eqb}
use borrow.Author.Tests.{eq-eqb, ne_eqb, le-leb, lt-leb, lt-ltb, le-ltb}
use Rattle.std.specs.Prelude.{if◌then◌else◌}
use Rattle.naturals.proofs.Cases.{eq_or_not, le_or_lt}
use Rattle.hierarchy.specs.Grid.{Neighbours}
use Rattle.hierarchy.specs.Work.{put, Item, counts_after, Legal}
use Rattle.hierarchy.proofs.Work.{put_same, put_other}
use Rattle.splits.specs.Splits.{occurs, occurrences}

-- How often a step stands at the head of a list.
here : (a p : ℕ) (i : Item) → i.stage ≡ a → i.point ≡ p → occurs a p i ≡ 1
unfolding occurs
here a p i stage point = rw (eq-eqb i.stage a stage, eq-eqb i.point p point)

elsewhere : (a p : ℕ) (i : Item) → (i.point ≡ p → ⊥) → occurs a p i ≡ 0
unfolding occurs
elsewhere a p i other = rw (ne_eqb i.point p other) (neither (eqb i.stage a))
  where
    neither : (b : Bool) → ◌≡◌ {A = ℕ} (if b && false then 1 else 0) 0
    neither true = refl
    neither false = refl

other_axis : (a p : ℕ) (i : Item) → (i.stage ≡ a → ⊥) → occurs a p i ≡ 0
unfolding occurs
other_axis a p i other = rw (ne_eqb i.stage a other)

nowhere : (a p : ℕ) → occurrences a p [] ≡ 0
unfolding occurrences
nowhere a p = refl

first_then : (a p : ℕ) (i : Item) (is : List Item) → occurrences a p (i ∷ is) ≡ occurs a p i + occurrences a p is
unfolding occurrences
first_then a p i is = refl

module _ (nb : Neighbours) (axis : ℕ → ℕ) where
  after_cons : (i : Item) (is : List Item) (c : ℕ → ℕ) → counts_after nb axis (i ∷ is) c ≡ counts_after nb axis is (put c i.point (suc i.stage))
  unfolding counts_after
  after_cons i is c = refl

  after_none : (c : ℕ → ℕ) → counts_after nb axis [] c ≡ c
  unfolding counts_after
  after_none c = refl

  -- A point's count never falls.
  pub counts_rise : (is : List Item) (c : ℕ → ℕ) → Legal nb axis is c → (p : ℕ) → c p ≤ counts_after nb axis is c p
  counts_rise [] c legal p = rw (after_none c) (omega arith)
  counts_rise (i ∷ is) c legal p =
      let next : ℕ → ℕ = put c i.point (suc i.stage) in
      let later = counts_rise is next legal.1 p in
      rw (after_cons i is c)
      (eq_or_not p i.point
      (λ same.
      let own : next p ≡ suc i.stage = ap next same ∙ put_same c i.point (suc i.stage) in
      omega (arith, legal.0.point, ap c same))
      (λ other. omega (arith, put_other c i.point (suc i.stage) p other)))

  -- One step: what it adds to how often a step stands, and what it does to the count there.
  pub stands : (is : List Item) (c : ℕ → ℕ) → Legal nb axis is c → (a p : ℕ) →
      occurrences a p is ≡ (if leb (c p) a && ltb a (counts_after nb axis is c p) then 1 else 0)
  stands [] c legal a p =
      nowhere a p
      ∙ le_or_lt (c p) a
      (λ le. rw (after_none c, le-leb (c p) a le, le-ltb a (c p) le))
      (λ lt. rw (lt-leb (c p) a lt))
  stands (i ∷ is) c legal a p =
      let next : ℕ → ℕ = put c i.point (suc i.stage) in
      let later = stands is next legal.1 a p in
      let rise = counts_rise is next legal.1 p in
      rw (after_cons i is c)
      (first_then a p i is
      ∙ eq_or_not p i.point
      (λ same.
      let own : next p ≡ suc (c p) = ap next same ∙ put_same c i.point (suc i.stage) ∙ ap suc (sym legal.0.point ∙ ap c (sym same)) in
      let stage : i.stage ≡ c p = sym legal.0.point ∙ ap c (sym same) in
      le_or_lt (c p) a
      (λ le.
      eq_or_not (c p) a
      (λ now.
      rw (
        here a p i (stage ∙ now) (sym same),
        later,
        own,
        le-leb (c p) a le,
        lt-leb (suc (c p)) a (omega arith),
        lt-ltb a (counts_after nb axis is next p) (omega arith),
      ))
      (λ after.
      rw (other_axis a p i (λ e. after (sym stage ∙ e)), later, own, le-leb (c p) a le, le-leb (suc (c p)) a (omega arith))
      (omega arith)))
      (λ lt.
      rw (other_axis a p i (λ e. omega arith), later, own, lt-leb (c p) a lt, lt-leb (suc (c p)) a (omega arith))))
      (λ other.
      let own : next p ≡ c p = put_other c i.point (suc i.stage) p other in
      rw (elsewhere a p i (λ e. other (sym e)), later, own)
      (omega arith)))
