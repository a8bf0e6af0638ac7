-- The places of one reach on a band's lines, one after the other: those passed are turned, and all others are as they were. True since the places of one reach lie twice that
-- reach apart, the first of them one reach after the box's low end, and no place has a neighbour of its own reach.
-- Assumes nothing.
use mathlib.Core.List.{List}
use mathlib.Core.Logic.{inl, inr}
use mathlib.Core.Path.{◌≡◌, ap, sym, ◌∙◌}
use Prim.Native.Nat.{ℕ, suc, ◌+◌, ◌-◌, ◌*◌, ◌%◌, ◌^◌, ◌≤◌, ◌<◌}
use native.Mathlib.Nat.{add-mul, one-mul, zero-mul}
use native.Mathlib.Omega.{arith}
use lib.IntN.{ℤ}
use lib.Pow.{pow_pos, pow_mono}
use Rattle.naturals.proofs.Cases.{le_or_lt, eq_or_not}
use Rattle.naturals.proofs.Shifts.{one_shifted}
use Rattle.numbering.specs.Parent.{twos}
use Rattle.shapes.specs.Shapes.{most_points}
use Rattle.component_grids.proofs.Places.{place_low}
use Rattle.component_boxes.proofs.Fitting.{times_on, on_multiple}
use Rattle.component_sweeps.specs.declared.Parents.{Parents}
use Rattle.component_sweeps.specs.declared.axis.Sweep.{Sweep}
use Rattle.component_sweeps.specs.Steps.{Band, CanBand, LoweredOn, Turn, place_on, middle, Asked, Turned, Along, Reaches, ParentsAt}
use Rattle.component_sweeps.specs.SweepSteps.{turn, Class, InClass}
use Rattle.component_sweeps.proofs.Apart.{Apart, turned_none, turned_same, limited_next, turned_both}
use Rattle.component_sweeps.proofs.Reaching.{OddTimes, odd_times, reach_odd, odd_near, odd_next, even_times, odd_first, odd_after, reach_grows}
use Rattle.component_sweeps.proofs.Lines.{box_low, box_high, kinds_apart, band_can, band_turned}
use Rattle.component_sweeps.proofs.Bounds.{known, half_is, times_most, stride_most, half_most, end_most}

-- The places of that reach before x.
abbrev pub Passed : ℕ → ℕ → ℕ → Type 0
Passed r x y = Reaches r y × (y < x)

-- A level below the box's own is small, so that one can be shifted by it.
module _ {w : Sweep} {q level : ℕ} {xs : List ℤ} (of : Class w q level xs) where
  pub level_small : level < 8
  level_small = omega (arith, of.finer, w.on.of.fits.within w.on.axis w.on.inside, w.on.of.grid.now.low w.on.axis)

  pub reach_shifted : 1 * 2 ^ level % 2 ^ 64 ≡ 2 ^ level
  reach_shifted = one_shifted 64 level (omega (arith, level_small))

module _ (w : Sweep) (q reach : ℕ) (xs : List ℤ) where
  abbrev g : Turn
  g = turn w

  abbrev low : ℕ
  low = w.place - w.half

  abbrev high : ℕ
  high = w.place + w.half

  pub record Passing (ys : List ℤ) (x : ℕ) : Type 0 where
    pub odd : OddTimes reach x
    pub least : low + reach ≤ x
    pub turned : Turned g (Along g w.spread.from q (Passed reach x)) xs ys

  module _ (level : ℕ) (reach_is : reach ≡ 2 ^ level) (of : Class w q level xs) where
    abbrev t : ℕ
    t = g.axis

    axis : g.axis < g.axes
    axis = w.on.inside

    low_is : low + 2 ^ g.levels t ≡ middle g t
    low_is =
        omega (arith, w.place_is, half_is w, box_low g (known w) t axis)

    high_is : high ≡ middle g t + 2 ^ g.levels t
    high_is = omega (arith, w.place_is, half_is w)

    pub half_fits : w.half ≤ w.place
    half_fits = omega (arith, w.place_is, half_is w, box_low g (known w) t axis)

    pub reach_some : 1 ≤ reach
    reach_some = omega (arith, reach_is, pow_pos level)

    -- ---- how large the numbers are

    pub reach_most : reach ≤ 256
    reach_most =
        omega (
          arith,
          reach_is,
          half_most g (known w) t axis,
          pow_mono {i = level} {j = g.levels t} (omega (arith, of.finer)),
        )

    pub stride_small : w.stride ≤ most_points
    stride_small = omega (arith, w.stride_is, stride_most g (known w) t axis)

    pub high_most : high ≤ 512
    high_most = omega (arith, high_is, box_high g (known w) t axis, end_most g (known w) t)

    pub far_most : w.stride * reach ≤ 8388608
    far_most = times_most w.stride reach most_points 256 stride_small reach_most

    pub first_most : q < most_points
    first_most = omega (arith, of.from.first.near.inside, (known w).small)

    -- ---- the loop

    odd_means : (y : ℕ) → 1 ≤ y → Reaches reach y → OddTimes reach y
    odd_means y some e = rw e at (odd_times y some)

    odd_reaches : (y : ℕ) → OddTimes reach y → Reaches reach y
    odd_reaches y h = reach_odd level y (rw reach_is at h) ∙ sym reach_is

    pairs : ℕ
    pairs = (times_on g.axes g.tops g.levels g.centre t - 1) * 2 ^ (g.levels t - suc level)

    low_even : low ≡ pairs * (reach + reach)
    unfolding pairs
    low_even =
        let n = times_on g.axes g.tops g.levels g.centre t in
        let k = g.levels t in
        let whole = on_multiple g.axes g.tops g.levels g.centre (known w).fits t axis in
        let one : n ≡ n - 1 + 1 =
        eq_or_not n 0
        (λ e. absurd (omega (arith, whole, ap (λ (y : ℕ). y * 2 ^ k) e, zero-mul (2 ^ k), place_low g.tops g.centre t)))
        (λ ne. omega arith) in
        let start : low ≡ (n - 1) * 2 ^ k =
        omega (arith, low_is, whole, ap (λ (y : ℕ). y * 2 ^ k) one, add-mul (n - 1) 1 (2 ^ k), one-mul (2 ^ k)) in
        start
        ∙ even_times level k (n - 1) of.finer
        ∙ ap (λ (y : ℕ). (n - 1) * 2 ^ (k - suc level) * (y + y)) (sym reach_is)

    pub passing_starts : Passing xs (low + reach)
    passing_starts =
        record {
          odd = odd_first reach low pairs reach_some low_even;
          least = omega arith;
          turned =
              turned_none g.axes g.tops t xs
              (λ p l.
              let y = place_on g p t in
              omega (
                arith,
                l.there.1,
                odd_after reach low pairs reach_some low_even y (odd_means y (place_low g.tops p t) l.there.0)
                    (omega (arith, l.row.near.low t axis, low_is)),
              ));
        }

    module _ (ys : List ℤ) (x : ℕ) (s : Passing ys x) where
      pub passing_ends : high ≤ x → Turned g (InClass w q level) xs ys
      passing_ends past =
          turned_same g.axes g.tops t
          (λ p l. record { row = l.row; there = l.there.0 ∙ reach_is })
          (λ p l. record { row = l.row; there = (l.there ∙ sym reach_is, omega (arith, l.row.near.high t axis, high_is)) })
          s.turned

      module _ (less : x < high) where
        h : ℕ
        h = x - low - 1

        h_is : x ≡ place_on g q t + h
        unfolding h
        h_is = omega (arith, of.from.first.own, low_is, s.least, reach_some)

        inside : x < middle g t + 2 ^ g.levels t
        inside = omega (arith, high_is)

        pub passing_most : (x - low - 1) * w.stride ≤ 16777216
        passing_most = times_most (x - low - 1) w.stride 512 most_points (omega (arith, high_most)) stride_small

        separate : Apart g.axes g.tops t (Along g w.spread.from q (Passed reach x)) (Along g w.spread.from q (λ y. y ≡ x))
        separate =
            kinds_apart g (known w) w.spread.from q
            (λ y same passed. omega (arith, passed.1))
            (λ b y some there same passed.
            omega (
              arith,
              reach_grows b y some there,
              passed.0,
              ap (λ (n : ℕ). 2 ^ twos n) same,
              odd_reaches x s.odd,
            ))

        asked : Asked g (Along g w.spread.from q (λ y. y ≡ x)) ys
        asked =
            limited_next g.axes g.tops t separate s.turned
            (λ p l. record { row = l.row; there = l.there.0 ∙ reach_is })
            (λ p l. record { row = l.row; there = ap (λ (n : ℕ). 2 ^ twos n) l.there ∙ odd_reaches x s.odd ∙ reach_is })
            of.from.asked

        module _ (a : Parents) (parents : ParentsAt w.stride w.end x reach a) where
          pub passing_can : CanBand w.spread (q + (x - low - 1) * w.stride) a ys
          unfolding h
          passing_can = band_can w q of.from.first h x h_is inside reach (odd_reaches x s.odd) a parents ys asked

          pub passing_steps : (zs : List ℤ) → LoweredOn a (Band w.spread (q + (x - low - 1) * w.stride)) ys zs → Passing zs (x + 2 * reach)
          unfolding h
          passing_steps zs ran =
              record {
                odd =
                    record {
                      pairs = (odd_next reach x s.odd).pairs;
                      is = omega (arith, (odd_next reach x s.odd).is);
                    };
                least = omega (arith, s.least);
                turned =
                    turned_both g.axes g.tops t separate s.turned
                    (λ p l. record { row = l.row; there = (l.there.0, omega (arith, l.there.1)) })
                    (λ p l. record { row = l.row; there = (ap (λ (n : ℕ). 2 ^ twos n) l.there ∙ odd_reaches x s.odd, omega (arith, l.there, reach_some)) })
                    (λ p l.
                    let y = place_on g p t in
                    le_or_lt x y
                    (λ from.
                    inr
                    (record {
                      row = l.row;
                      there =
                          odd_near reach y x reach_some (odd_means y (place_low g.tops p t) l.there.0) s.odd from
                          (omega (arith, l.there.1));
                    }))
                    (λ before. inl (record { row = l.row; there = (l.there.0, before) })))
                    (band_turned w q of.from.first h x h_is inside reach (odd_reaches x s.odd) a parents ys zs
                    ran);
              }
