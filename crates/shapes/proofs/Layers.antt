-- The points of faces, as the code counts them: C(d, b) stands in the table, in the row of d − b + 1 axes, and neither the faces of a layer nor its points come near
-- the width, since 4 axes have no more than 32 faces with as many border axes, by one test that antt computes.
-- Assumes nothing.
use mathlib.Core.Path.{◌≡◌, refl, ap, ◌∙◌}
use mathlib.Core.Bool.{Bool, true, false}
use Prim.Native.Nat.{ℕ, zero, suc, ◌+◌, ◌-◌, ◌*◌, ◌^◌, ◌%◌, ◌≤◌, ◌<◌}
use native.Mathlib.Nat.{mul_comm, mul-le-mul, mod-eq_of_lt}
use native.Mathlib.Omega.{arith}
use lib.Dec.{ltb}
use borrow.Author.Tests.{ltb-true}
use Rattle.naturals.specs.Sum.{sum_to}
use Rattle.naturals.specs.Test.{all}
use Rattle.naturals.proofs.Sums.{sum_to_zero, sum_to_suc}
use Rattle.naturals.proofs.Tests.{all_at}
use Rattle.numbering.specs.Binomial.{choose}
use Rattle.numbering.specs.Count.{vectors, shell, start, points}
use Rattle.numbering.proofs.Vectors.{vectors_zero, no_axes}
use Rattle.numbering.proofs.Numbering.{points_is, start_is, start_suc}
use Rattle.faces.specs.Faces.{faces}
use Rattle.faces.specs.Marked.{layer, border_points}
use Rattle.faces.proofs.Numbering.{layer_is}
use Rattle.shapes.specs.declared.Shape.{Shape}
use Rattle.shapes.specs.Shapes.{most_axes, points_of}
use Rattle.shapes.proofs.Checked.{InRange}
use Rattle.shapes.proofs.Totals.{start_small}

-- Without axes there is one point.
pub points_none : (n : ℕ) → points 0 n ≡ 1
points_none zero =
    omega (arith, points_is 0 0, start_suc 0 0, start_is 0 0, sum_to_zero (shell 0), vectors_zero 0)
points_none (suc n) =
    omega (
      arith,
      points_is 0 (suc n),
      start_suc 0 (suc n),
      points_is 0 n,
      points_none n,
      ap (λ (v : ℕ). 2 ^ suc n * v) (no_axes n),
    )

pub points_at_most : (d n : ℕ) → d ≤ 8 → n ≤ 8 → points d n < 4294967296
points_at_most zero n few top = omega (arith, points_none n)
points_at_most (suc d) n few top = omega (arith, points_is (suc d) n, start_small (suc d) (omega arith) few (suc n) (omega arith))

-- No more than 32 faces have as many border axes.
few_faces : ℕ → ℕ → Bool
few_faces d b = ltb (faces d b) 128

every_few : ℕ → Bool
every_few d = all (few_faces d) 5

all_few : all every_few 5 ≡ true
unfolding all every_few few_faces faces choose
all_few = refl

pub faces_few : (d b : ℕ) → d ≤ 4 → b ≤ d → faces d b < 128
unfolding every_few few_faces
faces_few d b few le =
    ltb-true (faces d b) 128 (all_at (few_faces d) 5 (all_at every_few 5 all_few d (omega arith)) b (omega arith))

-- C(d, b) in the table, and the shift by b.
faces_is : (d b : ℕ) → b ≤ d → vectors (d - b + 1) b * 2 ^ b ≡ faces d b
unfolding faces vectors
faces_is d b le =
    let row : d - b + 1 ≡ suc (d - b) = omega arith in
    let all : d - b + b ≡ d = omega arith in
    rw (row, all) (mul_comm (choose d b) (2 ^ b))

pub faces_read : (d b : ℕ) → d ≤ 4 → b ≤ d → vectors (d - b + 1) b * 2 ^ b % 2 ^ 64 ≡ faces d b
faces_read d b few le = ap (λ (x : ℕ). x % 2 ^ 64) (faces_is d b le) ∙ mod-eq_of_lt (omega (arith, faces_few d b few le))

-- The points of a layer, and of those before it.
pub layer_small : (d n b : ℕ) → d ≤ 4 → n ≤ 8 → b ≤ d → layer d n b < 549755813888
layer_small d n b few top le =
    omega (
      arith,
      layer_is d n b,
      mul-le-mul {n₁ = faces d b} {m₁ = points (d - b) n} {n₂ = 127} {m₂ = 4294967296}
          (omega (arith, faces_few d b few le))
          (omega (arith, points_at_most (d - b) n (omega arith) top)),
    )

pub layers_small : (d n b : ℕ) → d ≤ 4 → n ≤ 8 → b ≤ suc d → sum_to (layer d n) b ≤ b * 549755813888
layers_small d n zero few top le = omega (arith, sum_to_zero (layer d n))
layers_small d n (suc b) few top le =
    omega (
      arith,
      sum_to_suc (layer d n) b,
      layers_small d n b few top (omega arith),
      layer_small d n b few top (omega arith),
    )

-- N of a table with values on the border is far below the width too: one test for every shape there is.
few_points : ℕ → ℕ → Bool
few_points d n = ltb (border_points d n) 4294967296

every_table : ℕ → Bool
every_table d = all (few_points d) 9

all_tables : all every_table 5 ≡ true
unfolding all every_table few_points border_points layer faces points start shell vectors sum_to choose
all_tables = refl

pub border_points_small : (d n : ℕ) → d ≤ 4 → n ≤ 8 → border_points d n < 4294967296
unfolding every_table few_points
border_points_small d n few top =
    ltb-true (border_points d n) 4294967296 (all_at (few_points d) 9 (all_at every_table 5 all_tables d (omega arith)) n (omega arith))

-- ---- N of a shape, by its sort

module _ (s : Shape) where
  pub points_plain : s.border ≡ false → points_of s ≡ points s.axes s.level
  unfolding points_of
  points_plain plain = rw plain refl

  pub points_bordered : s.border ≡ true → points_of s ≡ border_points s.axes s.level
  unfolding points_of
  points_bordered on = rw on refl

-- Tables with values on the border have at most 4 axes.
pub most_bordered : {s : Shape} → InRange s → s.border ≡ true → s.axes ≤ 4
most_bordered {s} r on = omega (arith, r.most, ap most_axes on)
