-- A band's lines, the finest places first: the places that reach less than so far are turned, and all others are as they were; last comes the middle, which stays where it has no
-- parents. True since between the
-- ends of the box only its middle reaches as far as the box does, and a neighbour reaches further than the w.place itself.
-- Assumes nothing.
use mathlib.Core.List.{List}
use mathlib.Core.Logic.{inl, inr}
use mathlib.Core.Path.{◌≡◌, ap, sym, ◌∙◌}
use Prim.Native.Nat.{ℕ, ◌+◌, ◌-◌, ◌*◌, ◌^◌, ◌≤◌, ◌<◌}
use native.Mathlib.Nat.{pow-suc}
use native.Mathlib.Numerals.{add-one}
use native.Mathlib.Omega.{arith}
use lib.IntN.{ℤ}
use lib.Pow.{pow_pos, pow_mono}
use Rattle.naturals.proofs.Cases.{le_or_lt, eq_or_not}
use Rattle.numbering.specs.Parent.{twos}
use Rattle.shapes.specs.Shapes.{most_points}
use Rattle.component_grids.proofs.Places.{place_low, place_high}
use Rattle.component_grids.proofs.Beside.{reach_le}
use Rattle.component_boxes.proofs.Reach.{reach_multiple}
use Rattle.component_boxes.proofs.Fitting.{times_on, on_multiple}
use Rattle.component_sweeps.specs.declared.Parents.{Parents}
use Rattle.component_sweeps.specs.declared.axis.Sweep.{Sweep}
use Rattle.component_sweeps.specs.Steps.{Band, CanBand, LoweredOn, Turn, place_on, middle, Turned, Along, ParentsAt}
use Rattle.component_sweeps.specs.SweepSteps.{turn, Class, InClass, Line, InLine}
use Rattle.component_sweeps.proofs.Apart.{Apart, turned_none, limited_next, turned_both}
use Rattle.component_sweeps.proofs.Reaching.{reach_grows, reach_less, middle_only}
use Rattle.component_sweeps.proofs.Lines.{box_low, kinds_apart, band_can, band_turned, band_still}
use Rattle.component_sweeps.proofs.Bounds.{known, half_is, times_most, stride_most, half_most, end_most}

-- A w.place that reaches less far.
abbrev pub Finer : ℕ → ℕ → Type 0
Finer r y = 2 ^ twos y < r

module _ (w : Sweep) (q : ℕ) (xs : List ℤ) where
  abbrev g : Turn
  g = turn w

  pub record Refining (ys : List ℤ) (level : ℕ) : Type 0 where
    pub most : level ≤ g.levels g.axis
    pub turned : Turned g (Along g w.spread.from q (Finer (2 ^ level))) xs ys

  module _ (of : Line w q xs) where
    abbrev t : ℕ
    t = g.axis

    axis : g.axis < g.axes
    axis = w.on.inside

    -- ---- how large the numbers are

    pub half_fits : (w.half ≤ w.place) × (w.half ≤ 256) × (w.place ≤ 512)
    half_fits = (
      omega (arith, half_is w, w.place_is, box_low g (known w) t axis),
      omega (arith, half_is w, half_most g (known w) t axis),
      omega (arith, w.place_is, place_high g.tops g.centre t, end_most g (known w) t),
    )

    pub half_some : 1 ≤ w.half
    half_some = omega (arith, half_is w, pow_pos (g.levels t))

    pub own_most : w.reach ≤ w.place
    own_most =
        omega (
          arith,
          w.reach_is,
          reach_le w.place (omega (arith, w.place_is, place_low g.tops g.centre t)),
        )

    pub stride_small : w.stride ≤ most_points
    stride_small = omega (arith, w.stride_is, stride_most g (known w) t axis)

    pub far_most : w.stride * w.reach ≤ 16777216
    far_most = times_most w.stride w.reach most_points 512 stride_small (omega (arith, own_most, half_fits))

    pub middle_most : (w.half - 1) * w.stride ≤ 8388608
    middle_most = times_most (w.half - 1) w.stride 256 most_points (omega (arith, half_fits)) stride_small

    pub first_most : q < most_points
    first_most = omega (arith, of.first.near.inside, (known w).small)

    -- ---- the loop

    pub refining_starts : Refining xs 0
    refining_starts =
        record {
          most = omega arith;
          turned = turned_none g.axes g.tops t xs (λ p l. omega (arith, l.there, pow_pos (twos (place_on g p t))));
        }

    module _ (ys : List ℤ) (level : ℕ) (s : Refining ys level) where
      abbrev r : ℕ
      r = 2 ^ level

      refining_most : r ≤ w.half
      refining_most = omega (arith, half_is w, pow_mono {i = level} {j = g.levels t} s.most)

      double : 2 ^ (level + 1) ≡ r + r
      double = rw (add-one level) (omega (arith, pow-suc 2 level))

      -- One reach more.
      module _ (finer : level < g.levels t) where
        separate : Apart g.axes g.tops t (Along g w.spread.from q (Finer r)) (InClass w q level)
        separate =
            kinds_apart g (known w) w.spread.from q
            (λ y same less. omega arith)
            (λ b y some there same less. omega (arith, reach_grows b y some there))

        pub refining_class : Class w q level ys
        refining_class =
            record {
              from =
                  record {
                    first = of.first;
                    asked = limited_next g.axes g.tops t separate s.turned (λ p l. l.row) (λ p l. l.row) of.asked;
                  };
              finer = finer;
            }

        pub refining_steps : (zs : List ℤ) → Turned g (InClass w q level) ys zs → Refining zs (level + 1)
        refining_steps zs u =
            record {
              most = omega arith;
              turned =
                  turned_both g.axes g.tops t separate s.turned
                  (λ p l. record { row = l.row; there = omega (arith, l.there, double) })
                  (λ p l. record { row = l.row; there = omega (arith, l.there, double, pow_pos level) })
                  (λ p l.
                  let y = place_on g p t in
                  eq_or_not (2 ^ twos y) r
                  (λ e. inr (record { row = l.row; there = e }))
                  (λ ne.
                  inl
                  (record {
                    row = l.row;
                    there =
                        reach_less level y (omega (arith, l.there, double)) ne;
                  })))
                  u;
            }

      -- The middle.
      module _ (all : g.levels t ≤ level) where
        whole : w.half ≤ r
        whole = omega (arith, half_is w, pow_mono {i = g.levels t} {j = level} all)

        h_is : w.place ≡ place_on g q t + (w.half - 1)
        h_is = omega (arith, of.first.own, half_is w, w.place_is, half_some)

        inside : w.place < middle g t + 2 ^ g.levels t
        inside = omega (arith, w.place_is, pow_pos (g.levels t))

        far : w.half ≤ 2 ^ twos w.place
        far =
            omega (
              arith,
              half_is w,
              reach_multiple (g.levels t) (times_on g.axes g.tops g.levels g.centre t) w.place
                  (omega (arith, w.place_is, place_low g.tops g.centre t))
                  (w.place_is ∙ on_multiple g.axes g.tops g.levels g.centre (known w).fits t axis),
            )

        last_apart : Apart g.axes g.tops t (Along g w.spread.from q (Finer r)) (Along g w.spread.from q (λ y. y ≡ w.place))
        last_apart =
            kinds_apart g (known w) w.spread.from q
            (λ y same less. omega (arith, far, refining_most, ap (λ (n : ℕ). 2 ^ twos n) same))
            (λ b y some there same less.
            omega (arith, reach_grows b y some there, far, refining_most, ap (λ (n : ℕ). 2 ^ twos n) same))

        pub last_can : (a : Parents) → ParentsAt w.stride w.end w.place w.reach a → CanBand w.spread (q + (w.half - 1) * w.stride) a ys
        last_can a parents =
            band_can w q of.first (w.half - 1) w.place h_is inside w.reach (sym w.reach_is) a parents ys
            (limited_next g.axes g.tops t last_apart s.turned (λ p l. l.row) (λ p l. l.row) of.asked)

        with_middle : (zs : List ℤ) → Turned g (Along g w.spread.from q (λ y. y ≡ w.place)) ys zs → Turned g (InLine w q) xs zs
        with_middle zs turned =
            turned_both g.axes g.tops t last_apart s.turned (λ p l. l.row) (λ p l. l.row)
            (λ p row.
            let y = place_on g p t in
            le_or_lt w.half (2 ^ twos y)
            (λ far.
            inr
            (record {
              row = row;
              there =
                  middle_only (g.levels t) (times_on g.axes g.tops g.levels g.centre t) y (place_low g.tops p t)
                  (omega (arith, row.near.low t axis, on_multiple g.axes g.tops g.levels g.centre (known w).fits t axis))
                  (omega (arith, row.near.high t axis, on_multiple g.axes g.tops g.levels g.centre (known w).fits t axis))
                  (omega (arith, half_is w))
                  ∙ sym (on_multiple g.axes g.tops g.levels g.centre (known w).fits t axis)
                  ∙ sym w.place_is;
            }))
            (λ less. inl (record { row = row; there = omega (arith, whole) })))
            turned

        pub line_ends : (a : Parents) → ParentsAt w.stride w.end w.place w.reach a → (zs : List ℤ) →
            LoweredOn a (Band w.spread (q + (w.half - 1) * w.stride)) ys zs → Turned g (InLine w q) xs zs
        line_ends a parents zs s =
            with_middle zs
            (band_turned w q of.first (w.half - 1) w.place h_is inside w.reach (sym w.reach_is) a
            parents ys zs s)

        pub line_still : w.place ≡ w.reach → w.place + w.reach ≡ w.end → Turned g (InLine w q) xs ys
        line_still left right =
            with_middle ys
            (band_still w q of.first (w.half - 1) w.place h_is inside w.reach (sym w.reach_is) left right ys)
