-- The inner axes of a face, one after the other: the axes that its sparse table is over (document 02, g).
-- Assumes nothing.
use Rattle.std.specs.Prelude.{◌&&◌, ℕ, zero, suc, ◌-◌, eqb, ltb, if◌then◌else◌}
use Rattle.naturals.specs.Sum.{sum_to}
use Rattle.faces.specs.Faces.{bit}

-- 1 for an inner axis, 0 for a border axis.
unfoldable pub inner_on : (ℕ → ℕ) → ℕ → ℕ
inner_on m t = 1 - bit (m t)

-- How many inner axes come before axis t: the place of an inner axis among them.
unfoldable pub before : (ℕ → ℕ) → ℕ → ℕ
before m t = sum_to (inner_on m) t

-- The inner axis of the first d that j others come before.
unfoldable pub axis_of : (ℕ → ℕ) → ℕ → ℕ → ℕ
axis_of m zero j = zero
axis_of m (suc d) j = if eqb (m d) 0 && eqb j (before m d) then d else axis_of m d j

-- What the inner axes have, levels or indices, one after the other: that of the inner axis that j others come before.
unfoldable pub packed : (ℕ → ℕ) → ℕ → (ℕ → ℕ) → ℕ → ℕ
packed m d f j = f (axis_of m d j)

-- The places but place k, in their order: what is left where one inner axis becomes a border axis.
unfoldable pub skip : ℕ → ℕ → ℕ
skip k j = if ltb j k then j else suc j
