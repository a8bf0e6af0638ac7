-- What the steps of the two calls answer: a search along blocks, the indices of a position, and what the inner axes of a face have, taken together and put back.
-- Assumes nothing.
use Rattle.std.specs.Prelude.{◌≡◌, ℕ, zero, ◌+◌, ◌<◌, eqb, ltb, if◌then◌else◌}
use Rattle.naturals.specs.Sum.{sum_to}
use Rattle.numbering.specs.Inverse.{block, index_of}
use Rattle.faces.specs.Packing.{before, packed}

-- Place r lies in block j of those up to m, where block 0 has the first f 0 places and so on, and `left` places of the block come before it.
pub record Lies (f : ℕ → ℕ) (m r j left : ℕ) : Type 0 where
  pub here : block f m r ≡ j
  pub rest : left + sum_to f j ≡ r

-- The sizes that a code answers for blocks 0 to last − 1 are f 0, f 1 and so on.
abbrev pub Sizes : (ℕ → ℕ → Type 0) → ℕ → (ℕ → ℕ) → Type 0
Sizes answers last f = (j size : ℕ) → j < last → answers j size → size ≡ f j

-- The index on axis t of the first d axes, of a point of the levels l that stands at position q; 0 past axis d.
unfoldable pub indices_of : ℕ → (ℕ → ℕ) → ℕ → ℕ → ℕ
indices_of d l q t = if ltb t d then index_of l q t else zero

-- Of d axes with the marks m, what the inner ones have, one after the other, and 0 past the last of them.
unfoldable pub gathered : ℕ → (ℕ → ℕ) → (ℕ → ℕ) → ℕ → ℕ
gathered d m f j = if ltb j (before m d) then packed m d f j else 0

-- Put back: on axis t what stands at its place among the inner ones, c on a border axis, and 0 past axis d.
unfoldable pub spread : ℕ → (ℕ → ℕ) → (ℕ → ℕ) → ℕ → ℕ → ℕ
spread d m f c t = if ltb t d then (if eqb (m t) 0 then f (before m t) else c) else 0
