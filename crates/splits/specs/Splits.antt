-- The order of work by splitting (source document 003, section 4). Axes count from 0: a set of points on which the axes s to t − 1 are still to be done is cut along an axis into a
-- middle and two halves; the middle is done for the axes before the cut, then the halves for all, then the middle for the rest.
-- Assumes nothing.
use Rattle.std.specs.Prelude.{List, [], ◌∷◌, ◌⊎◌, ◌&&◌, ◌≡◌, ℕ, zero, suc, ◌+◌, ◌≤◌, ◌<◌, min, max, eqb, if◌then◌else◌}
use Rattle.numbering.specs.declared.Side.{Side}
use Rattle.hierarchy.specs.Grid.{Neighbours}
use Rattle.hierarchy.specs.Work.{Item}

-- Stage k turns axis k (from 0).
abbrev pub itself : ℕ → ℕ
itself k = k

-- The next n steps of one point, from axis s on.
unfoldable pub steps_at : ℕ → ℕ → ℕ → List Item
steps_at zero s p = []
steps_at (suc n) s p = record { stage = s; point = p } ∷ steps_at n (suc s) p

-- Where the axes s to t − 1 are cut by a split along axis r: those below r come before it, held within s and t.
unfoldable pub cut : ℕ → ℕ → ℕ → ℕ
cut s t r = min (max s r) t

-- How often the step of axis a at a point stands in a list.
unfoldable pub occurs : ℕ → ℕ → Item → ℕ
occurs a p i = if eqb i.stage a && eqb i.point p then 1 else 0

unfoldable pub occurrences : ℕ → ℕ → List Item → ℕ
occurrences a p [] = 0
occurrences a p (i ∷ is) = occurs a p i + occurrences a p is

module _ (nb : Neighbours) (d : ℕ) where
  -- What is needed of the parts of a split along axis r: they are the whole and have no point in common; no neighbour of a point of one half lies in the other, none of
  -- the middle in a half, and of a half in the middle only along axis r.
  pub record Split (r : ℕ) (whole middle left right : ℕ → Type 0) : Type 0 where
    pub parts : (p : ℕ) → whole p → middle p ⊎ left p ⊎ right p
    pub middle_in : (p : ℕ) → middle p → whole p
    pub left_in : (p : ℕ) → left p → whole p
    pub right_in : (p : ℕ) → right p → whole p
    pub middle_left : (p : ℕ) → middle p → left p → ⊥
    pub middle_right : (p : ℕ) → middle p → right p → ⊥
    pub left_right : (p : ℕ) → left p → right p → ⊥
    pub into_left : (a : ℕ) (b : Side) (p : ℕ) → a < d → middle p → left (nb a b p) → ⊥
    pub into_right : (a : ℕ) (b : Side) (p : ℕ) → a < d → middle p → right (nb a b p) → ⊥
    pub left_to_right : (a : ℕ) (b : Side) (p : ℕ) → a < d → left p → right (nb a b p) → ⊥
    pub right_to_left : (a : ℕ) (b : Side) (p : ℕ) → a < d → right p → left (nb a b p) → ⊥
    pub left_along : (a : ℕ) (b : Side) (p : ℕ) → a < d → left p → middle (nb a b p) → a ≡ r
    pub right_along : (a : ℕ) (b : Side) (p : ℕ) → a < d → right p → middle (nb a b p) → a ≡ r

  -- The axes s to t − 1 are due on a set of points: on each of them exactly the axes before s are done, and a neighbour on one of these axes that lies outside is none, or
  -- has exactly the axes before that one done.
  pub record Due (s t : ℕ) (box : ℕ → Type 0) (count : ℕ → ℕ) : Type 0 where
    pub own : (p : ℕ) → box p → count p ≡ s
    pub edge : (a : ℕ) (b : Side) (p : ℕ) → s ≤ a → a < t → box p → (box (nb a b p) → ⊥) → (nb a b p ≡ 0) ⊎ (count (nb a b p) ≡ a)

  -- They are done, and nothing else is.
  pub record Done (t : ℕ) (box : ℕ → Type 0) (count after : ℕ → ℕ) : Type 0 where
    pub own : (p : ℕ) → box p → after p ≡ t
    pub rest : (p : ℕ) → (box p → ⊥) → after p ≡ count p
