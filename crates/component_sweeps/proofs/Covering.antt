-- The band that the code makes has the box's points on the axes passed: each step of it is one of those of `Widths`, by the strides and sizes that the code reads.
-- The points of an axis lie within those of the next stride, so no number outgrows the grid.
-- Assumes nothing.
use mathlib.Core.Path.{◌≡◌, ap, sym, ◌∙◌}
use Prim.Native.Nat.{ℕ, suc, ◌+◌, ◌*◌, ◌≤◌, ◌<◌}
use native.Mathlib.Nat.{mul_comm, mul_assoc, mul-pos, mul-le-mul_right}
use native.Mathlib.Numerals.{add-one}
use native.Mathlib.Omega.{arith}
use lib.Pow.{pow_mono}
use Rattle.naturals.proofs.Cases.{eq_or_not}
use Rattle.numbering.specs.Point.{at}
use Rattle.shapes.specs.Shapes.{most_points}
use Rattle.component_grids.specs.Component.{across, points_to}
use Rattle.component_grids.proofs.Places.{across_is, across_pos, points_to_zero, points_to_suc, points_to_pos}
use Rattle.component_sweeps.specs.declared.grid.GridBox.{GridBox}
use Rattle.component_sweeps.specs.declared.axis.BoxAxis.{BoxAxis}
use Rattle.component_sweeps.specs.declared.axis.Spread.{Spread}
use Rattle.component_sweeps.specs.Steps.{tops_of, Ground, Banded, turn_of, Covers}
use Rattle.component_boxes.proofs.Falling.{points_before}
use Rattle.component_sweeps.proofs.Bounds.{times_most, ground}
use Rattle.component_sweeps.proofs.Widths.{no_axis_lem, turned_axis, single_axis, more_lines, next_lines, wider_run, next_run}

module _ (on : BoxAxis) where
  abbrev box : GridBox
  box = on.of

  abbrev axis : ℕ
  axis = on.axis

  known : Ground (turn_of box axis)
  known = ground box axis on.inside

  abbrev tops : ℕ → ℕ
  tops = tops_of box.grid.now

  pub covers_none : Covers box axis (record { from = 0; width = 1; lines = 1; apart = 1; unit = 1 })
  covers_none =
      record {
        few = omega arith;
        many = omega arith;
        far = omega arith;
        step = omega arith;
        short = omega (arith, points_to_zero tops);
        low = omega (arith, points_to_zero tops);
        banded = no_axis_lem _ known;
      }

  pub left_over : (b : Spread) → Covers box axis b → (b.from ≡ box.grid.now.axes → ⊥) → b.from < box.grid.now.axes
  left_over b so some = eq_or_not b.from box.grid.now.axes (λ e. absurd (some e)) (λ ne. omega (arith, so.few))

  module _ (b : Spread) (so : Covers box axis b) (less : b.from < box.grid.now.axes) (size : ℕ) (size_is : size ≡ across (at box.levels b.from)) where
    abbrev u : ℕ
    u = b.from

    abbrev stride : ℕ
    stride = at box.grid.now.strides u

    stride_is : stride ≡ points_to tops u
    stride_is = box.grid.now.laid u less

    grows : points_to tops u ≤ points_to tops (u + 1)
    grows = points_before tops u (u + 1) (omega arith)

    -- The points of the axis lie within the next stride.
    within : stride * size ≤ points_to tops (u + 1)
    within =
        omega (
          arith,
          stride_is,
          size_is,
          ap (λ (y : ℕ). points_to tops y) (add-one u),
          points_to_suc tops u,
          times_most stride size (points_to tops u) (across (tops u)) (omega (arith, stride_is))
              (omega (
                arith,
                size_is,
                across_is (at box.levels u),
                across_is (tops u),
                pow_mono {i = suc (at box.levels u)} {j = suc (tops u)} (omega (arith, box.fits.within u less)),
              )),
        )

    -- ---- how large the numbers are

    small : points_to tops u ≤ most_points
    small = omega (arith, points_before tops u box.grid.now.axes (omega arith), box.grid.now.small)

    size_most : size ≤ most_points
    size_most =
        omega (
          arith,
          within,
          points_before tops (u + 1) box.grid.now.axes (omega arith),
          box.grid.now.small,
          mul-le-mul_right {m = 1} {n = stride} size (omega (arith, stride_is, points_to_pos tops u)),
        )

    pub run_most : b.width * b.unit ≤ most_points
    run_most = omega (arith, so.short, small)

    pub lines_most : b.lines * b.apart ≤ most_points
    lines_most = omega (arith, so.low, small)

    pub lines_product : b.lines * size ≤ 1073741824
    lines_product =
        times_most b.lines size most_points most_points
        (omega (arith, lines_most, mul-le-mul_right {m = 1} {n = b.apart} b.lines so.far, mul_comm b.apart b.lines))
        size_most

    pub width_product : b.width * size ≤ 1073741824
    width_product =
        times_most b.width size most_points most_points
        (omega (arith, run_most, mul-le-mul_right {m = 1} {n = b.unit} b.width so.step, mul_comm b.unit b.width))
        size_most

    -- ---- the steps

    -- The same band, with an axis that adds nothing.
    covers_same : Banded (turn_of box axis) (u + 1) b.width b.lines b.apart b.unit →
        Covers box axis (record { from = u + 1; width = b.width; lines = b.lines; apart = b.apart; unit = b.unit })
    covers_same banded =
        record {
          few = omega arith;
          many = so.many;
          far = so.far;
          step = so.step;
          short = omega (arith, so.short, grows);
          low = omega (arith, so.low, grows);
          banded = banded;
        }

    pub covers_turned : u ≡ axis → Covers box axis (record { from = u + 1; width = b.width; lines = b.lines; apart = b.apart; unit = b.unit })
    covers_turned e = covers_same (turned_axis _ known u _ _ _ _ so.banded e)

    pub covers_single : size ≡ 1 → Covers box axis (record { from = u + 1; width = b.width; lines = b.lines; apart = b.apart; unit = b.unit })
    covers_single e = covers_same (single_axis _ known u _ _ _ _ so.banded less (sym size_is ∙ e))

    module _ (other : u ≡ axis → ⊥) where
      module _ (one : b.lines ≡ 1) where
        banded_one : Banded (turn_of box axis) u b.width 1 b.apart b.unit
        banded_one = rw one at so.banded

        pub covers_run : b.width ≡ 1 → Covers box axis (record { from = u + 1; width = size; lines = b.lines; apart = b.apart; unit = stride })
        covers_run narrow =
            record {
              few = omega arith;
              many = so.many;
              far = so.far;
              step = omega (arith, stride_is, points_to_pos tops u);
              short = omega (arith, within, mul_comm stride size);
              low = omega (arith, so.low, grows);
              banded =
                  rw (one, size_is, stride_is) (next_run _ known u less other _ _ (rw narrow at banded_one));
            }

        pub covers_wider : b.width * b.unit ≡ stride →
            Covers box axis (record { from = u + 1; width = b.width * size; lines = b.lines; apart = b.apart; unit = b.unit })
        covers_wider ends =
            record {
              few = omega arith;
              many = so.many;
              far = so.far;
              step = so.step;
              short =
                  omega (
                    arith,
                    within,
                    mul_comm b.width size,
                    mul_assoc size b.width b.unit,
                    ap (λ (y : ℕ). size * y) ends,
                    mul_comm stride size,
                    ap (λ (y : ℕ). y * b.unit) (mul_comm b.width size),
                  );
              low = omega (arith, so.low, grows);
              banded =
                  rw (one, size_is) (wider_run _ known u less other _ _ _ banded_one (ends ∙ stride_is));
            }

        pub covers_lines : Covers box axis (record { from = u + 1; width = b.width; lines = size; apart = stride; unit = b.unit })
        covers_lines =
            record {
              few = omega arith;
              many = omega (arith, size_is, across_pos (at box.levels u));
              far = omega (arith, stride_is, points_to_pos tops u);
              step = so.step;
              short = omega (arith, so.short, grows);
              low = omega (arith, within, mul_comm stride size);
              banded =
                  rw (size_is, stride_is) (next_lines _ known u less other _ _ _ banded_one so.short);
            }

      pub covers_more : (b.lines ≡ 1 → ⊥) → b.lines * b.apart ≡ stride →
          Covers box axis (record { from = u + 1; width = b.width; lines = b.lines * size; apart = b.apart; unit = b.unit })
      covers_more many ends =
          record {
            few = omega arith;
            many = mul-pos so.many (omega (arith, size_is, across_pos (at box.levels u)));
            far = so.far;
            step = so.step;
            short = omega (arith, so.short, grows);
            low =
                omega (
                  arith,
                  within,
                  mul_assoc size b.lines b.apart,
                  ap (λ (y : ℕ). size * y) ends,
                  mul_comm stride size,
                  ap (λ (y : ℕ). y * b.apart) (mul_comm b.lines size),
                );
            banded =
                rw size_is
                (more_lines _ known u _ _ _ _ so.banded less other (ends ∙ stride_is) so.many
                (so.banded.wide (omega (arith, so.many))));
          }
