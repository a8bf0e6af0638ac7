-- Moves, case by case: a border mark stops, a neighbour at the border goes across, any other to the parent. The moves of two axes commute, since each looks at its
-- own axis alone and changes that alone.
-- Assumes nothing.
use mathlib.Core.Path.{◌≡◌, refl, ap, ap₂, sym, ◌∙◌}
use mathlib.Core.Bool.{Bool, true, false}
use Prim.Native.Nat.{ℕ, suc, ◌≤◌, ◌<◌}
use native.Mathlib.Omega.{arith}
use borrow.Author.Tests.{eq-eqb, ne_eqb}
use Rattle.naturals.proofs.Cases.{eq_or_not}
use Rattle.numbering.specs.declared.Side.{Side}
use Rattle.numbering.specs.declared.Side.TheVariants.{Left, Right}
use Rattle.numbering.specs.Parent.{numerator, is_border, parent_level, parent_index, update}
use Rattle.numbering.proofs.Parents.{update_other, update_swap}
use Rattle.numbered.specs.Numbered.{mark_of}
use Rattle.numbered.specs.Neighbours.{Move, stop, to, across, move, Place, nowhere, somewhere, moved, beside, beyond, deep}

-- ---- one axis

module _ (border : Bool) (b : Side) (a l i : ℕ) where
  pub move_still : 0 < a → move border b a l i ≡ stop
  unfolding move
  move_still h = rw (ne_eqb a 0 (λ e. omega arith))

  pub move_border : a ≡ 0 → is_border l (numerator b i) ≡ true → move border b a l i ≡ across border b
  unfolding move
  move_border e f = rw (eq-eqb a 0 e, f)

  pub move_inner : a ≡ 0 → is_border l (numerator b i) ≡ false →
      move border b a l i ≡ to 0 (parent_level l (numerator b i)) (parent_index (numerator b i))
  unfolding move
  move_inner e f = rw (eq-eqb a 0 e, f)

pub across_some : (border : Bool) (b : Side) → border ≡ true → across border b ≡ to (mark_of b) 0 1
unfolding across
across_some border b on = rw on

pub across_none : (border : Bool) (b : Side) → border ≡ false → across border b ≡ stop
unfolding across
across_none border b off = rw off

pub mark_pos : (b : Side) → 0 < mark_of b
mark_pos Left = omega arith
mark_pos Right = omega arith

pub deep_inner : (a l : ℕ) → a ≡ 0 → deep a l ≡ suc l
unfolding deep
deep_inner a l e = rw (eq-eqb a 0 e)

pub deep_border : (a l : ℕ) → 0 < a → deep a l ≡ 0
unfolding deep
deep_border a l h = rw (ne_eqb a 0 (λ e. omega arith))

pub deep_le : (a l : ℕ) → deep a l ≤ suc l
deep_le a l =
    eq_or_not a 0 (λ inner. omega (arith, deep_inner a l inner)) (λ marked. omega (arith, deep_border a l (omega arith)))

-- ---- a point moved

module _ (border : Bool) (t : ℕ) (b : Side) (m l i : ℕ → ℕ) where
  pub beside_stop : move border b (m t) (l t) (i t) ≡ stop → beside border t b m l i ≡ nowhere
  unfolding beside moved
  beside_stop e = rw e

  pub beside_to : (a v w : ℕ) → move border b (m t) (l t) (i t) ≡ to a v w →
      beside border t b m l i ≡ somewhere (update m t a) (update l t v) (update i t w)
  unfolding beside moved
  beside_to a v w e = rw e

pub beyond_nowhere : (border : Bool) (t : ℕ) (b : Side) → beyond border t b nowhere ≡ nowhere
unfolding beyond
beyond_nowhere border t b = refl

pub beyond_somewhere : (border : Bool) (t : ℕ) (b : Side) (m l i : ℕ → ℕ) → beyond border t b (somewhere m l i) ≡ beside border t b m l i
unfolding beyond
beyond_somewhere border t b m l i = refl

-- ---- two axes

same_place : {m l i o k j : ℕ → ℕ} → m ≡ o → l ≡ k → i ≡ j → somewhere m l i ≡ somewhere o k j
same_place {m} {l} {i} {o} {k} {j} a b c = ap₂ (λ (x y : ℕ → ℕ). somewhere x y i) a b ∙ ap (somewhere o k) c

-- Two moves on different axes, one after the other.
both : (t s : ℕ) (m l i : ℕ → ℕ) (x y : Move) → Place
both t s m l i stop y = nowhere
both t s m l i (to a v w) stop = nowhere
both t s m l i (to a v w) (to c e f) = somewhere (update (update m s c) t a) (update (update l s e) t v) (update (update i s f) t w)

both_swap : (t s : ℕ) (m l i : ℕ → ℕ) (x y : Move) → (t ≡ s → ⊥) → both t s m l i x y ≡ both s t m l i y x
unfolding both
both_swap t s m l i stop stop ne = refl
both_swap t s m l i stop (to c e f) ne = refl
both_swap t s m l i (to a v w) stop ne = refl
both_swap t s m l i (to a v w) (to c e f) ne =
    same_place (update_swap m s t c a (λ h. ne (sym h))) (update_swap l s t e v (λ h. ne (sym h))) (update_swap i s t f w (λ h. ne (sym h)))

beyond_moved : (border : Bool) (t s : ℕ) (b : Side) (m l i : ℕ → ℕ) (y : Move) → (t ≡ s → ⊥) →
    beyond border t b (moved s m l i y) ≡ both t s m l i (move border b (m t) (l t) (i t)) y
unfolding beyond moved beside both
beyond_moved border t s b m l i stop ne = nothing (move border b (m t) (l t) (i t))
  where
    nothing : (x : Move) → nowhere ≡ both t s m l i x stop
    nothing stop = unfold both in refl
    nothing (to a v w) = unfold both in refl
beyond_moved border t s b m l i (to c e f) ne =
    rw (update_other m s c t ne, update_other l s e t ne, update_other i s f t ne) (moves (move border b (m t) (l t) (i t)))
  where
    moves : (x : Move) → moved t (update m s c) (update l s e) (update i s f) x ≡ both t s m l i x (to c e f)
    moves stop = unfold moved both in refl
    moves (to a v w) = unfold moved both in refl

pub moves_commute : (border : Bool) (t s : ℕ) (b c : Side) (m l i : ℕ → ℕ) → (t ≡ s → ⊥) →
    beyond border t b (beside border s c m l i) ≡ beyond border s c (beside border t b m l i)
unfolding beside
moves_commute border t s b c m l i ne =
    beyond_moved border t s b m l i (move border c (m s) (l s) (i s)) ne
    ∙ both_swap t s m l i (move border b (m t) (l t) (i t)) (move border c (m s) (l s) (i s)) ne
    ∙ sym (beyond_moved border s t c m l i (move border b (m t) (l t) (i t)) (λ h. ne (sym h)))
