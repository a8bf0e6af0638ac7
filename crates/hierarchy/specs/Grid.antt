-- What a turn needs of a grid: neighbours on each axis. Code 0 is none, as beside a zero border; code p + 1 is point number p.
-- Assumes nothing.
use Rattle.std.specs.Prelude.{◌≡◌, ◌⊎◌, ℕ, ◌≤◌, ◌<◌}
use Rattle.numbering.specs.declared.Side.{Side}

-- The neighbour of a code on an axis, on either side.
abbrev pub Neighbours : Type 0
Neighbours = ℕ → Side → ℕ → ℕ

-- A code that does not move on an axis: it has no neighbours there.
abbrev pub Still : Neighbours → ℕ → ℕ → Type 0
Still nb t p = (b : Side) → nb t b p ≡ 0

-- On an axis each neighbour has a smaller number than its point, or does not move.
abbrev pub Late : Neighbours → ℕ → Type 0
Late nb t = (b : Side) (p : ℕ) → (nb t b p ≡ 0 → ⊥) → (nb t b p < p) ⊎ Still nb t (nb t b p)

-- A grid of m points: beyond none, and past the last point, there is none; neighbours are points or none; a depth on each axis falls from a
-- point to its neighbours; the neighbour maps of two axes commute.
pub record Grid (m : ℕ) (nb : Neighbours) (depth : ℕ → ℕ → ℕ) : Type 0 where
  pub border : (t : ℕ) (b : Side) → nb t b 0 ≡ 0
  pub past : (t : ℕ) (b : Side) (p : ℕ) → m < p → nb t b p ≡ 0
  pub within : (t : ℕ) (b : Side) (p : ℕ) → nb t b p ≤ m
  pub falls : (t : ℕ) (b : Side) (p : ℕ) → (nb t b p ≡ 0 → ⊥) → depth t (nb t b p) < depth t p
  pub commute : (t s : ℕ) (b c : Side) (p : ℕ) → (t ≡ s → ⊥) → nb t b (nb s c p) ≡ nb s c (nb t b p)
