-- The point of a number, read off the number from the level sum down.
-- Assumes nothing.
use Rattle.std.specs.Prelude.{ℕ, zero, suc, ◌+◌, ◌-◌, ◌*◌, ◌/◌, ◌%◌, ◌^◌, leb, ltb, eqb, if◌then◌else◌}
use Rattle.naturals.specs.Sum.{sum_to}
use Rattle.numbering.specs.Count.{shell, start}
use Rattle.numbering.specs.Number.{ending}

-- In which block place r lies, where block 0 has the first f 0 places, block 1 the next f 1 and so on: the largest j up to m whose first place
-- f 0 + … + f (j − 1) is not past r.
unfoldable pub block : (ℕ → ℕ) → ℕ → ℕ → ℕ
block f zero r = zero
block f (suc m) r = if leb (sum_to f (suc m)) r then suc m else block f m r

-- The last level of the level vector of k + 1 axes with the level sum s that r others come before.
unfoldable pub last_level : ℕ → ℕ → ℕ → ℕ
last_level k s r = block (ending k s) s r

-- The level on axis t of the level vector of k axes with the level sum s that r others come before.
unfoldable pub level_of : ℕ → ℕ → ℕ → ℕ → ℕ
level_of zero s r t = zero
level_of (suc k) s r t =
    if eqb t k
    then last_level k s r
    else level_of k (s - last_level k s r) (r - sum_to (ending k s) (last_level k s r)) t

-- The level sum of point number p of a shape of d axes and top level n.
unfoldable pub sum_at : ℕ → ℕ → ℕ → ℕ
sum_at d n p = block (shell d) n p

-- How many points of that level sum come before it.
unfoldable pub within : ℕ → ℕ → ℕ → ℕ
within d n p = p - start d (sum_at d n p)

-- The level on axis t of point number p; 0 past axis d.
unfoldable pub level_at : ℕ → ℕ → ℕ → ℕ → ℕ
level_at d n p t = level_of d (sum_at d n p) (within d n p / 2 ^ sum_at d n p) t

-- The index on axis t of a point of the levels l that stands at a position: the digits of the position, axis 1 lowest, each with l_t bits.
unfoldable pub index_of : (ℕ → ℕ) → ℕ → ℕ → ℕ
index_of l q t = 2 * (q / 2 ^ sum_to l t % 2 ^ l t) + 1

-- The index on axis t of point number p; 0 past axis d.
unfoldable pub index_at : ℕ → ℕ → ℕ → ℕ → ℕ
index_at d n p t = if ltb t d then index_of (level_at d n p) (within d n p % 2 ^ sum_at d n p) t else zero
