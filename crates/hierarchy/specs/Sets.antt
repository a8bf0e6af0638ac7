-- The table of a set of axes (document 01, "A run of turns").
-- Assumes nothing.
use Rattle.std.specs.Prelude.{Bool, true, false, ℕ, zero, suc, ◌^◌, ℤ, pos, ◌*ℤ◌, if◌then◌else◌}
use Rattle.hierarchy.specs.Grid.{Neighbours}
use Rattle.hierarchy.specs.Turns.{forward}

-- The set of all axes, and the empty set.
abbrev pub every_axis : ℕ → Bool
every_axis t = true

abbrev pub no_axis : ℕ → Bool
no_axis t = false

-- Each rate times 2^d.
unfoldable pub scaled : ℕ → (ℕ → ℤ) → ℕ → ℤ
scaled d r p = r p *ℤ pos (2 ^ d)

module _ (nb : Neighbours) where
  -- A table changed by the rule of the forward turn for each of the first k axes that is in the set, smallest axis first.
  unfoldable pub swept : (ℕ → Bool) → ℕ → (ℕ → ℤ) → ℕ → ℤ
  swept set zero f = f
  swept set (suc k) f = if set k then forward nb k (swept set k f) else swept set k f

  -- The table of a set of d axes: each rate times 2^d, then turned forward on each axis of the set.
  unfoldable pub table_of : ℕ → (ℕ → Bool) → (ℕ → ℤ) → ℕ → ℤ
  table_of d set r = swept set d (scaled d r)
