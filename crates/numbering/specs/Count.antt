-- How many points a shape has (document 01, "Terms and limits").
-- Axis t of the papers is place t − 1 here, as in a list.
-- Assumes nothing.
use Rattle.std.specs.Prelude.{ℕ, zero, suc, ◌+◌, ◌*◌, ◌^◌}
use Rattle.naturals.specs.Sum.{sum_to}
use Rattle.numbering.specs.Binomial.{choose}

-- How many level vectors (the paper's level lists) of d axes have the level sum j: C(d − 1 + j, j); of no axes, the empty one, whose sum is 0.
unfoldable pub vectors : ℕ → ℕ → ℕ
vectors zero zero = 1
vectors zero (suc j) = 0
vectors (suc k) j = choose (k + j) j

-- How many points of d axes have the level sum j: each level vector has 2^j, since an axis of level l has 2^l odd indices.
unfoldable pub shell : ℕ → ℕ → ℕ
shell d j = 2 ^ j * vectors d j

-- How many points of d axes have a level sum below s: the number of the first point whose level sum is s.
unfoldable pub start : ℕ → ℕ → ℕ
start d s = sum_to (shell d) s

-- N, the number of points of d axes whose levels sum to at most n: the sum over j = 0..n of 2^j × C(d − 1 + j, j).
unfoldable pub points : ℕ → ℕ → ℕ
points d n = start d (suc n)
