-- How large the numbers of a turn are: a grid has at most 32,768 points and top levels of at most 8, so strides, places and reaches are small.
-- Assumes nothing.
use mathlib.Core.Path.{◌≡◌, ap, ◌∙◌}
use Prim.Native.Nat.{ℕ, suc, ◌*◌, ◌^◌, ◌≤◌, ◌<◌}
use native.Mathlib.Nat.{mul-le-mul, mul-le-mul_right}
use native.Mathlib.Omega.{arith}
use lib.Pow.{pow_mono}
use Rattle.numbering.specs.Point.{at}
use Rattle.shapes.specs.Shapes.{most_points}
use Rattle.component_grids.specs.Component.{points_to}
use Rattle.component_boxes.proofs.Falling.{points_before}
use Rattle.component_sweeps.specs.declared.grid.GridBox.{GridBox}
use Rattle.component_sweeps.specs.declared.axis.Spread.{Spread}
use Rattle.component_sweeps.specs.declared.axis.Sweep.{Sweep}
use Rattle.component_sweeps.specs.Steps.{Turn, Ground, turn_of, Covers}
use Rattle.component_sweeps.specs.SweepSteps.{turn}

-- A product of two such numbers: the kit's law, with its numbers written out.
pub times_most : (a b m n : ℕ) → a ≤ m → b ≤ n → a * b ≤ m * n
times_most a b m n one two = mul-le-mul one two

module _ (g : Turn) (ground : Ground g) where
  pub stride_most : (u : ℕ) → u < g.axes → points_to g.tops u ≤ most_points
  stride_most u axis = omega (arith, points_before g.tops u g.axes (omega arith), ground.small)

  pub half_most : (u : ℕ) → u < g.axes → 2 ^ g.levels u ≤ 256
  half_most u axis = pow_mono {i = g.levels u} {j = 8} (omega (arith, ground.fits.within u axis, ground.low u))

  pub end_most : (u : ℕ) → 2 ^ suc (g.tops u) ≤ 512
  end_most u = pow_mono {i = suc (g.tops u)} {j = 9} (omega (arith, ground.low u))

-- What the types of a box and its grid say.
pub ground : (b : GridBox) (t : ℕ) → t < b.grid.now.axes → Ground (turn_of b t)
ground b t axis =
    record {
      axis = axis;
      fits = b.fits;
      low = b.grid.now.low;
      few = b.grid.now.few;
      small = b.grid.now.small;
    }

pub known : (w : Sweep) → Ground (turn w)
known w = ground w.on.of w.on.axis w.on.inside

pub half_is : (w : Sweep) → w.half ≡ 2 ^ at w.on.of.levels w.on.axis
half_is w = w.half_is ∙ ap (λ (k : ℕ). 2 ^ k) w.level_is

pub unit_near : (box : GridBox) (t : ℕ) (b : Spread) → Covers box t b → b.unit ≤ most_points
unit_near box t b so =
    omega (
      arith,
      so.short,
      mul-le-mul_right {m = 1} {n = b.width} b.unit so.banded.some,
      points_before (at box.grid.now.tops) b.from box.grid.now.axes so.few,
      box.grid.now.small,
    )
