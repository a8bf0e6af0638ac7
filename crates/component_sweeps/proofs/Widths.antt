-- What a band is, axis by axis. With no axis it is the one position. The turned axis and one where the box has a single point add nothing: the places there are given. The
-- points of another axis lie so many strides after those of the axes below; so where the lines so far end one stride on, they go on with the next place. A
-- run is lines of one position. True since a step on an axis changes the place there alone.
-- Assumes nothing.
use mathlib.Core.Path.{◌≡◌, refl, ap, sym, ◌∙◌}
use Prim.Native.Nat.{ℕ, ◌+◌, ◌-◌, ◌*◌, ◌/◌, ◌%◌, ◌^◌, ◌≤◌, ◌<◌}
use native.Mathlib.Nat.{add-mul, one-mul, mul-one, zero-mul, mul_assoc, mul_comm, mod-lt, div-lt_iff_lt-mul, mul-pos, mul-le-mul_right, div-add-mod', pow-suc}
use native.Mathlib.Omega.{arith}
use Rattle.naturals.proofs.Cases.{eq_or_not}
use Rattle.component_grids.specs.Component.{across, points_to}
use Rattle.component_grids.proofs.Places.{across_is, across_pos, points_to_pos, place_low, same_places, shift_up, shift_down}
use Rattle.component_sweeps.specs.Steps.{InBand, Turn, place_on, middle, InBox, Ground, First, Across, Banded}
use Rattle.component_sweeps.proofs.Lines.{box_high, near_moved}

-- ---- the same positions, otherwise counted

-- With one line it is all the same how far the lines are apart.
one_line : (q width apart far unit p : ℕ) → InBand q width 1 apart unit p → InBand q width 1 far unit p
one_line q width apart far unit p b =
    let none : b.line ≡ 0 = omega (arith, b.below) in
    record {
      line = 0;
      index = b.index;
      below = omega arith;
      inside = b.inside;
      is = omega (arith, b.is, ap (λ (y : ℕ). y * apart) none, zero-mul apart, zero-mul far);
    }

-- With one position in a line, so it is how far they are apart.
one_position : (q lines apart unit far p : ℕ) → InBand q 1 lines apart unit p → InBand q 1 lines apart far p
one_position q lines apart unit far p b =
    let none : b.index ≡ 0 = omega (arith, b.inside) in
    record {
      line = b.line;
      index = 0;
      below = b.below;
      inside = omega arith;
      is = omega (arith, b.is, ap (λ (y : ℕ). y * unit) none, zero-mul unit, zero-mul far);
    }

-- A run is lines of one position, and lines of one position are a run.
run_lines : (q width apart unit one p : ℕ) → InBand q width 1 apart unit p → InBand q 1 width unit one p
run_lines q width apart unit one p b =
    let none : b.line ≡ 0 = omega (arith, b.below) in
    record {
      line = b.index;
      index = 0;
      below = b.inside;
      inside = omega arith;
      is = omega (arith, b.is, ap (λ (y : ℕ). y * apart) none, zero-mul apart, zero-mul one);
    }

lines_run : (q width apart unit one p : ℕ) → InBand q 1 width unit one p → InBand q width 1 apart unit p
lines_run q width apart unit one p b =
    let none : b.index ≡ 0 = omega (arith, b.inside) in
    record {
      line = 0;
      index = b.line;
      below = omega arith;
      inside = b.below;
      is = omega (arith, b.is, ap (λ (y : ℕ). y * one) none, zero-mul apart, zero-mul one);
    }

module _ (g : Turn) (ground : Ground g) where
  fewer : (j q : ℕ) → First g (j + 1) q → First g j q
  fewer j q f = record { near = f.near; below = λ u less lt. f.below u (omega arith) lt; own = f.own }

  -- ---- no axis

  pub no_axis_lem : Banded g 0 1 1 1 1
  no_axis_lem =
      record {
        some = omega arith;
        step = omega arith;
        wide = λ many. omega arith;
        into =
            λ q p f b.
            let here : p ≡ q = omega (arith, b.is, b.below, b.inside, mul-one b.line, mul-one b.index) in
            rw here (record { row = record { near = f.near; same = λ u from lt ne. refl }; there = refl });
        from =
            λ q p f l.
            let here : p ≡ q =
            same_places g.axes g.tops p q l.row.near.inside f.near.inside
            (λ u lt. eq_or_not u g.axis (λ e. rw e l.there) (λ ne. l.row.same u (omega arith) lt ne)) in
            record { line = 0; index = 0; below = omega arith; inside = omega arith; is = omega arith };
      }

  module _ (j width lines apart unit : ℕ) (so : Banded g j width lines apart unit) where
    -- ---- an axis that adds nothing

    given : ((q p : ℕ) → First g (j + 1) q → InBox g p → (j ≡ g.axis → ⊥) → place_on g p j ≡ place_on g q j) → Banded g (j + 1) width lines apart unit
    given same =
        record {
          some = so.some;
          step = so.step;
          wide = so.wide;
          into =
              λ q p f b.
              let l = so.into q p (fewer j q f) b in
              record {
                row = record { near = l.row.near; same = λ u from lt ne. l.row.same u (omega arith) lt ne };
                there = l.there;
              };
          from =
              λ q p f l.
              so.from q p (fewer j q f)
              (record {
                row =
                    record {
                      near = l.row.near;
                      same =
                          λ u from lt ne.
                          eq_or_not u j
                          (λ e. rw e (same q p f l.row.near (λ t. ne (e ∙ t))))
                          (λ no. l.row.same u (omega arith) lt ne);
                    };
                there = l.there;
              });
        }

    pub turned_axis : j ≡ g.axis → Banded g (j + 1) width lines apart unit
    turned_axis e = given (λ q p f near other. absurd (other e))

    pub single_axis : j < g.axes → across (g.levels j) ≡ 1 → Banded g (j + 1) width lines apart unit
    single_axis axis one =
        given
        (λ q p f near other.
        let size : 2 ^ g.levels j ≡ 1 = omega (arith, across_is (g.levels j), pow-suc 2 (g.levels j)) in
        omega (arith, near.low j axis, near.high j axis, f.near.low j axis, f.near.high j axis))

    -- ---- more lines

    module _ (axis : j < g.axes) (other : j ≡ g.axis → ⊥) (ends : lines * apart ≡ points_to g.tops j) (some : 1 ≤ lines) (wide : width * unit ≤ apart) where
      abbrev size : ℕ
      size = across (g.levels j)

      abbrev stride : ℕ
      stride = points_to g.tops j

      size_is : size + 1 ≡ 2 ^ g.levels j + 2 ^ g.levels j
      size_is = omega (arith, across_is (g.levels j), pow-suc 2 (g.levels j))

      -- So many lines on, times the places on the axis.
      on_next : (k i : ℕ) → (k + i * lines) * apart ≡ k * apart + i * stride
      on_next k i =
          add-mul k (i * lines) apart
          ∙ ap (λ (y : ℕ). k * apart + y) (mul_assoc i lines apart ∙ ap (λ (y : ℕ). i * y) ends)

      module _ (q p : ℕ) (f : First g (j + 1) q) where
        lowest : place_on g q j + 2 ^ g.levels j ≡ middle g j + 1
        lowest = f.below j (omega arith) axis

        next_into : InBand q width (lines * size) apart unit p → Across g (j + 1) q p
        next_into b =
            let k = b.line % lines in
            let i = b.line / lines in
            let parts : b.line ≡ k + i * lines = omega (arith, div-add-mod' b.line lines) in
            let less : i < size = (div-lt_iff_lt-mul {k = lines} {x = b.line} {y = size} some).1 (omega (arith, b.below, mul_comm lines size)) in
            let r = q + k * apart + b.index * unit in
            let base =
            so.into q r (fewer j q f)
            (record { line = k; index = b.index; below = mod-lt b.line some; inside = b.inside; is = refl }) in
            let here : place_on g r j ≡ place_on g q j = base.row.same j (omega arith) axis other in
            let s =
            shift_up g.axes g.tops j r i axis base.row.near.inside
            (omega (arith, here, lowest, size_is, box_high g ground j axis)) in
            let at : p ≡ r + i * stride = omega (arith, b.is, ap (λ (y : ℕ). y * apart) parts, on_next k i) in
            rw at
            record {
              row =
                  record {
                    near =
                        near_moved g ground j r _ _ axis base.row.near s (omega (arith, base.row.near.low j axis))
                        (omega (arith, here, lowest, size_is));
                    same = λ u from lt ne. s.others u lt (λ e. omega arith) ∙ base.row.same u (omega arith) lt ne;
                  };
              there = s.others g.axis ground.axis (λ e. other (sym e)) ∙ base.there;
            }

        next_from : Across g (j + 1) q p → InBand q width (lines * size) apart unit p
        next_from l =
            let i = place_on g p j - place_on g q j in
            let from : place_on g q j ≤ place_on g p j = omega (arith, lowest, l.row.near.low j axis) in
            let back : place_on g p j - i ≡ place_on g q j = omega arith in
            let s = shift_down g.axes g.tops j p i axis l.row.near.inside (omega (arith, place_low g.tops q j)) in
            let base =
            so.from q (p - i * stride) (fewer j q f)
            (record {
              row =
                  record {
                    near =
                        near_moved g ground j p _ _ axis l.row.near s.1 (omega (arith, back, f.near.low j axis))
                        (omega (arith, back, f.near.high j axis));
                    same =
                        λ u from lt ne.
                        eq_or_not u j
                        (λ e. rw e (s.1.own ∙ back))
                        (λ no. s.1.others u lt no ∙ l.row.same u (omega arith) lt ne);
                  };
              there = s.1.others g.axis ground.axis (λ e. other (sym e)) ∙ l.there;
            }) in
            let k = base.line in
            let less : i < size = omega (arith, lowest, size_is, l.row.near.high j axis) in
            record {
              line = k + i * lines;
              index = base.index;
              below =
                  omega (
                    arith,
                    base.below,
                    mul-le-mul_right {m = i + 1} {n = size} lines (omega arith),
                    add-mul i 1 lines,
                    one-mul lines,
                    mul_comm lines size,
                  );
              inside = base.inside;
              is = omega (arith, base.is, s.0, on_next k i);
            }

      pub more_lines : Banded g (j + 1) width (lines * across (g.levels j)) apart unit
      more_lines =
          record {
            some = so.some;
            step = so.step;
            wide = λ many. wide;
            into = next_into;
            from = next_from;
          }

  module _ (j : ℕ) (axis : j < g.axes) (other : j ≡ g.axis → ⊥) (width apart unit : ℕ) (so : Banded g j width 1 apart unit) where
    -- ---- lines where there are none yet

    apart_as : (far : ℕ) → Banded g j width 1 far unit
    apart_as far =
        record {
          some = so.some;
          step = so.step;
          wide = λ many. absurd (omega arith);
          into = λ q p f b. so.into q p f (one_line q width far apart unit p b);
          from = λ q p f l. one_line q width apart far unit p (so.from q p f l);
        }

    pub next_lines : width * unit ≤ points_to g.tops j → Banded g (j + 1) width (across (g.levels j)) (points_to g.tops j) unit
    next_lines wide =
        rw one-mul at
        (more_lines j width 1 (points_to g.tops j) unit (apart_as (points_to g.tops j)) axis other (one-mul _) (omega arith) wide)

    -- ---- a wider run

    pub wider_run : width * unit ≡ points_to g.tops j → Banded g (j + 1) (width * across (g.levels j)) 1 apart unit
    wider_run ends =
        let lines : Banded g j 1 width unit 1 =
        record {
          some = omega arith;
          step = omega arith;
          wide = λ many. omega (arith, so.step);
          into = λ q p f b. so.into q p f (lines_run q width apart unit 1 p b);
          from = λ q p f l. run_lines q width apart unit 1 p (so.from q p f l);
        } in
        let more = more_lines j 1 width unit 1 lines axis other ends so.some (omega (arith, so.step)) in
        let size = width * across (g.levels j) in
        record {
          some = mul-pos so.some (across_pos (g.levels j));
          step = so.step;
          wide = λ many. absurd (omega arith);
          into = λ q p f b. more.into q p f (run_lines q size apart unit 1 p b);
          from = λ q p f l. lines_run q size apart unit 1 p (more.from q p f l);
        }

  -- A run where there is none yet.
  module _ (j : ℕ) (axis : j < g.axes) (other : j ≡ g.axis → ⊥) (apart unit : ℕ) (so : Banded g j 1 1 apart unit) where
    unit_as : (far : ℕ) → 1 ≤ far → Banded g j 1 1 apart far
    unit_as far some =
        record {
          some = so.some;
          step = some;
          wide = λ many. absurd (omega arith);
          into = λ q p f b. so.into q p f (one_position q 1 apart far unit p b);
          from = λ q p f l. one_position q 1 apart unit far p (so.from q p f l);
        }

    pub next_run : Banded g (j + 1) (across (g.levels j)) 1 apart (points_to g.tops j)
    next_run =
        rw one-mul at (wider_run j axis other 1 apart (points_to g.tops j) (unit_as _ (points_to_pos g.tops j)) (one-mul _))
