-- The lines of a row, place by place on one axis: those of the places passed are turned, and all other points are as they were. True since a line with another place
-- on that axis has other points, and so have the parents on it, whose places on the other axes are those of the points.
-- Assumes nothing.
use mathlib.Core.List.{List}
use mathlib.Core.Logic.{inl, inr}
use mathlib.Core.Path.{◌≡◌, sym, ◌∙◌}
use Prim.Native.Nat.{ℕ, suc, ◌+◌, ◌-◌, ◌*◌, ◌^◌, ◌≤◌, ◌<◌}
use native.Mathlib.Nat.{pow-suc}
use native.Mathlib.Omega.{arith}
use lib.IntN.{ℤ}
use Rattle.naturals.proofs.Cases.{le_or_lt, eq_or_not}
use Rattle.numbering.specs.Point.{at}
use Rattle.shapes.specs.Shapes.{most_points}
use Rattle.component_grids.specs.Component.{across}
use Rattle.component_grids.proofs.Places.{Shifted, across_is, shift_up}
use Rattle.component_grids.proofs.Beside.{beside}
use Rattle.component_sweeps.specs.declared.axis.Sweep.{Sweep}
use Rattle.component_sweeps.specs.Steps.{Turn, place_on, middle, Turned, Row, First}
use Rattle.component_sweeps.specs.SweepSteps.{turn, Line, InLine, Rows, InRows}
use Rattle.component_sweeps.proofs.Apart.{Apart, turned_none, turned_same, limited_part, limited_next, turned_both}
use Rattle.component_sweeps.proofs.Bounds.{known}
use Rattle.component_sweeps.proofs.Lines.{box_high, near_moved}

-- The points of the row before so many places on axis u.
abbrev pub Upto : Turn → ℕ → ℕ → ℕ → ℕ → ℕ → Type 0
Upto g j q u i p = Row g j q p × (place_on g p u < place_on g q u + i)

module _ (w : Sweep) (j q : ℕ) (xs : List ℤ) where
  abbrev g : Turn
  g = turn w

  module _ (of : Rows w j q xs) where
    -- ---- the row is a line

    module _ (all : j ≡ w.spread.from) where
      pub row_line : Line w q xs
      row_line = rw all at of.from

      pub line_row : (ys : List ℤ) → Turned g (InLine w q) xs ys → Turned g (InRows w j q) xs ys
      line_row ys s = rw all s

    -- ---- the axis before j

    module _ (more : j ≡ w.spread.from → ⊥) where
      pub some : 1 ≤ j
      some = eq_or_not j 0 (λ e. absurd (more (omega (arith, of.least)))) (λ ne. omega arith)

      pub before : j ≡ suc (j - 1)
      before = omega (arith, some)

      pub falling : (n : ℕ) → j ≡ n → j - 1 < n
      falling n e = omega (arith, some)

      module _ (u : ℕ) (u_next : j ≡ suc u) where
        pub u_least : w.spread.from ≤ u
        u_least = le_or_lt w.spread.from u (λ le. le) (λ lt. absurd (more (omega (arith, of.least))))

        pub u_axis : u < g.axes
        u_axis = omega (arith, u_next, of.most)

        -- It is the turned one, along which the lines run.
        module _ (same : u ≡ w.on.axis) where
          fewer : (p : ℕ) → Row g u q p → Row g j q p
          fewer p row = record { near = row.near; same = λ v from lt ne. row.same v (omega (arith, u_next)) lt ne }

          more_same : (p : ℕ) → Row g j q p → Row g u q p
          more_same p row =
              record {
                near = row.near;
                same =
                    λ v from lt ne.
                    eq_or_not v u
                    (λ e. absurd (ne (e ∙ same)))
                    (λ other. row.same v (omega (arith, u_next)) lt ne);
              }

          pub turned_rows : Rows w u q xs
          turned_rows =
              record {
                from =
                    record {
                      first =
                          record {
                            near = of.from.first.near;
                            below = λ v less lt. of.from.first.below v (omega (arith, u_next)) lt;
                            own = of.from.first.own;
                          };
                      asked = limited_part g.axes g.tops g.axis fewer of.from.asked;
                    };
                least = u_least;
                most = omega (arith, u_axis);
              }

          pub rows_turned : (ys : List ℤ) → Turned g (Row g u q) xs ys → Turned g (Row g j q) xs ys
          rows_turned ys s = turned_same g.axes g.tops g.axis fewer more_same s

        -- It is another: the row falls into rows, one for each place on it.
        module _ (other : u ≡ w.on.axis → ⊥) where
          low : place_on g q u + 2 ^ g.levels u ≡ middle g u + 1
          low = of.from.first.below u (omega (arith, u_next)) u_axis

          pub rowing_starts : Turned g (Upto g j q u 0) xs xs
          rowing_starts = turned_none g.axes g.tops g.axis xs (λ p l. omega (arith, l.1, l.0.near.low u u_axis, low))

          -- Of so many places.
          module _ (n : ℕ) (size_is : n ≡ across (g.levels u)) (ys : List ℤ) (i : ℕ) (s : Turned g (Upto g j q u i) xs ys) where
            size : n + 1 ≡ 2 ^ g.levels u + 2 ^ g.levels u
            size = omega (arith, size_is, across_is (g.levels u), pow-suc 2 (g.levels u))

            pub rowing_ends : n ≤ i → Turned g (InRows w j q) xs ys
            rowing_ends past =
                turned_same g.axes g.tops g.axis (λ r l. l.0)
                (λ r row. (row, omega (arith, row.near.high u u_axis, low, size)))
                s

            module _ (less : i < n) where
              abbrev p : ℕ
              p = q + i * at w.on.of.grid.now.strides u

              inside : place_on g q u + i < middle g u + 2 ^ g.levels u
              inside = omega (arith, low, size)

              shifted : Shifted g.axes g.tops u q p (place_on g q u + i)
              shifted =
                  rw (w.on.of.grid.now.laid u u_axis)
                  (shift_up g.axes g.tops u q i u_axis of.from.first.near.inside (omega (arith, inside, box_high g (known w) u u_axis)))

              first : First g u p
              first =
                  record {
                    near =
                        near_moved g (known w) u q p _ u_axis of.from.first.near shifted
                        (omega (arith, of.from.first.near.low u u_axis)) inside;
                    below =
                        λ v under lt.
                        omega (arith, shifted.others v lt (λ e. omega arith), of.from.first.below v (omega (arith, u_next)) lt);
                    own = omega (arith, shifted.others g.axis (known w).axis (λ e. other (sym e)), of.from.first.own);
                  }

              into : (r : ℕ) → Row g u p r → Row g j q r
              into r row =
                  record {
                    near = row.near;
                    same =
                        λ v from lt ne.
                        row.same v (omega (arith, u_next)) lt ne ∙ shifted.others v lt (λ e. omega (arith, u_next));
                  }

              here : (r : ℕ) → Row g u p r → place_on g r u ≡ place_on g q u + i
              here r row = row.same u (omega arith) u_axis other ∙ shifted.own

              from_place : (r : ℕ) → Row g j q r → place_on g r u ≡ place_on g q u + i → Row g u p r
              from_place r row e =
                  record {
                    near = row.near;
                    same =
                        λ v from lt ne.
                        eq_or_not v u
                        (λ same. rw same (e ∙ sym shifted.own))
                        (λ no. row.same v (omega (arith, u_next)) lt ne ∙ sym (shifted.others v lt no));
                  }

              separate : Apart g.axes g.tops g.axis (Upto g j q u i) (Row g u p)
              separate =
                  record {
                    points = λ r row passed. omega (arith, here r row, passed.1);
                    parents =
                        λ r row b parent e passed.
                        omega (
                          arith,
                          here r row,
                          passed.1,
                          (beside g.axes g.tops g.axis b r parent (known w).axis row.near.inside e).others u u_axis other,
                        );
                  }

              pub next_rows : Rows w u p ys
              next_rows =
                  record {
                    from =
                        record {
                          first = first;
                          asked = limited_next g.axes g.tops g.axis separate s (λ r l. l.0) into of.from.asked;
                        };
                    least = u_least;
                    most = omega (arith, u_axis);
                  }

              pub next_fits : p < most_points
              next_fits = omega (arith, shifted.inside, (known w).small)

              pub rowing_steps : (zs : List ℤ) → Turned g (InRows w u p) ys zs → Turned g (Upto g j q u (i + 1)) xs zs
              rowing_steps zs turned =
                  turned_both g.axes g.tops g.axis separate s
                  (λ r l. (l.0, omega (arith, l.1)))
                  (λ r row. (into r row, omega (arith, here r row)))
                  (λ r l.
                  le_or_lt (place_on g q u + i) (place_on g r u)
                  (λ le. inr (from_place r l.0 (omega (arith, l.1))))
                  (λ lt. inl (l.0, lt)))
                  turned
