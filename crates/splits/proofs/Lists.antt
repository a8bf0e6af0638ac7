-- Two lists of steps, one after the other: the table and the counts are those of the second after the first, and they are legal where each is when its turn comes.
-- Step by step.
-- Assumes nothing.
use mathlib.Core.Path.{◌≡◌, refl}
use mathlib.Core.List.{List, [], ◌∷◌, ◌++◌}
use Prim.Native.Nat.{ℕ, suc}
use lib.IntN.{ℤ}
use Rattle.hierarchy.specs.Grid.{Neighbours}
use Rattle.hierarchy.specs.Work.{put, Item, worked, all_worked, counts_after, Legal}

module _ (nb : Neighbours) (axis : ℕ → ℕ) where
  pub worked_append : (is js : List Item) (f : ℕ → ℤ) → all_worked nb axis (is ++ js) f ≡ all_worked nb axis js (all_worked nb axis is f)
  unfolding all_worked
  worked_append [] js f = refl
  worked_append (i ∷ is) js f = worked_append is js (worked nb axis i f)

  pub counts_append : (is js : List Item) (c : ℕ → ℕ) → counts_after nb axis (is ++ js) c ≡ counts_after nb axis js (counts_after nb axis is c)
  unfolding counts_after
  counts_append [] js c = refl
  counts_append (i ∷ is) js c = counts_append is js (put c i.point (suc i.stage))

  pub legal_append : (is js : List Item) (c : ℕ → ℕ) → Legal nb axis is c → Legal nb axis js (counts_after nb axis is c) →
      Legal nb axis (is ++ js) c
  unfolding counts_after
  legal_append [] js c first second = second
  legal_append (i ∷ is) js c first second = (first.0, legal_append is js (put c i.point (suc i.stage)) first.1 second)

  -- A legal list in two parts: either is legal where it stands.
  pub first_legal : (is js : List Item) (c : ℕ → ℕ) → Legal nb axis (is ++ js) c → Legal nb axis is c
  first_legal [] js c legal = tt
  first_legal (i ∷ is) js c legal = (legal.0, first_legal is js (put c i.point (suc i.stage)) legal.1)

  pub next_legal : (is js : List Item) (c : ℕ → ℕ) → Legal nb axis (is ++ js) c → Legal nb axis js (counts_after nb axis is c)
  unfolding counts_after
  next_legal [] js c legal = legal
  next_legal (i ∷ is) js c legal = next_legal is js (put c i.point (suc i.stage)) legal.1
