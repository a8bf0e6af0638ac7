-- What the walk along the axes of a point has tested and taken at axis t: the levels before it leave `left` of the top level, their indices pass and their marks
-- fit; levels and indices up to there stand in two lists of eight, with zeros after. At the last axis that is the test of the point, and the lists are the point by
-- value; where an axis fails, so does the test of the point, since a sum is no less than one of its terms.
-- Assumes nothing.
use mathlib.Core.Path.{◌≡◌, refl, ap, sym, ◌∙◌}
use mathlib.Core.List.{List}
use mathlib.Core.Bool.{true, false, and-false}
use Prim.Native.Nat.{ℕ, suc, ◌+◌, ◌-◌, ◌≤◌, ◌<◌}
use native.Mathlib.Omega.{arith}
use lib.ListN.{length, set, replicate, length-set, get_or-replicate, get_or-eq_default}
use lib.Seq.{get_or-set_same, get_or-set_other}
use borrow.Author.Tests.{le-leb, lt-leb}
use Rattle.naturals.specs.Sum.{sum_to}
use Rattle.naturals.specs.Test.{all}
use Rattle.naturals.proofs.Cases.{le_or_lt, eq_or_not}
use Rattle.naturals.proofs.Sums.{sum_to_zero, sum_to_suc, sum_to_mono}
use Rattle.naturals.proofs.Tests.{all_zero, all_suc, all_fails}
use Rattle.numbering.specs.Point.{at, is_index, indexed, is_point}
use Rattle.shapes.specs.declared.Shape.{Shape}
use Rattle.points.specs.Points.{mark_fits, fitting, eight}
use Rattle.points.proofs.Eight.{eight_ext}
use Rattle.points.proofs.MarkTest.{fits_on}

pub record Tested (d n : ℕ) (l i : ℕ → ℕ) (t left : ℕ) : Type 0 where
  pub place : t ≤ d
  pub rest : left + sum_to l t ≡ n
  pub passed : all (indexed l i) t ≡ true

pub tested_starts : (d n : ℕ) (l i : ℕ → ℕ) → Tested d n l i 0 n
tested_starts d n l i =
    record { place = omega arith; rest = omega (arith, sum_to_zero l); passed = all_zero (indexed l i) }

module _ {d n : ℕ} {l i : ℕ → ℕ} {t left : ℕ} (tested : Tested d n l i t left) where
  pub tested_steps : t < d → l t ≤ left → is_index (l t) (i t) ≡ true → Tested d n l i (suc t) (left - l t)
  unfolding indexed
  tested_steps h fits index =
      record {
        place = h;
        rest = omega (arith, sum_to_suc l t, tested.rest);
        passed = rw (all_suc, tested.passed, index);
      }

  pub tested_ends : d ≤ t → is_point d n l i ≡ true
  unfolding is_point
  tested_ends h =
      let last : t ≡ d = omega (arith, tested.place) in
      simp (le-leb (sum_to l d) n (omega (arith, tested.rest, ap (sum_to l) last)), rw last at tested.passed)

  pub level_fails : t < d → left < l t → is_point d n l i ≡ false
  unfolding is_point
  level_fails h over =
      simp (lt-leb (sum_to l d) n (omega (arith, sum_to_suc l t, sum_to_mono l (suc t) d h, tested.rest)))

  pub index_fails : t < d → is_index (l t) (i t) ≡ false → is_point d n l i ≡ false
  unfolding is_point indexed
  index_fails h index = simp (all_fails (indexed l i) d t h index, and-false)

-- ---- what is taken

-- The first t numbers of a list in eight places.
pub record Taken (xs : List ℕ) (t : ℕ) (ys : List ℕ) : Type 0 where
  pub long : length ys ≡ 8
  pub done : (u : ℕ) → u < t → at ys u ≡ at xs u
  pub rest : (u : ℕ) → t ≤ u → at ys u ≡ 0

taken_starts : (xs : List ℕ) → Taken xs 0 (replicate 8 0)
taken_starts xs =
    record {
      long = refl;
      done = λ u h. absurd (omega arith);
      rest = λ u h. le_or_lt 8 u (λ past. get_or-eq_default (replicate 8 0) 0 past) (λ in_eight. get_or-replicate 8 u 0 0 in_eight);
    }

taken_steps : {xs ys : List ℕ} {t : ℕ} → Taken xs t ys → t < 8 → (v : ℕ) → v ≡ at xs t → Taken xs (suc t) (set ys t v)
taken_steps {xs} {ys} {t} taken h v e =
    record {
      long = length-set ys t v ∙ taken.long;
      done =
          λ u before.
          eq_or_not u t
          (λ same. rw same (get_or-set_same ys t v 0 (omega (arith, taken.long)) ∙ e))
          (λ ne. get_or-set_other ys t u v 0 ne ∙ taken.done u (omega arith));
      rest = λ u past. get_or-set_other ys t u v 0 (λ same. omega arith) ∙ taken.rest u (omega arith);
    }

taken_ends : {xs ys : List ℕ} {t : ℕ} → Taken xs t ys → length xs ≤ t → ys ≡ eight (at xs)
taken_ends {xs} {ys} {t} taken all =
    eight_ext (at xs) ys taken.long
    (λ u h. le_or_lt t u (λ past. taken.rest u past ∙ sym (get_or-eq_default xs 0 (omega arith))) (λ before. taken.done u before))

-- ---- the walk

pub record Walked (s : Shape) (ms ls is : List ℕ) (t left : ℕ) (taken_levels taken_indices : List ℕ) : Type 0 where
  pub tested : Tested s.axes s.level (at ls) (at is) t left
  pub fits : all (fitting s.border (at ms) (at ls) (at is)) t ≡ true
  pub levels : Taken ls t taken_levels
  pub indices : Taken is t taken_indices

pub walk_starts : (s : Shape) (ms ls is : List ℕ) → Walked s ms ls is 0 s.level (replicate 8 0) (replicate 8 0)
walk_starts s ms ls is =
    record {
      tested = tested_starts s.axes s.level (at ls) (at is);
      fits = all_zero (fitting s.border (at ms) (at ls) (at is));
      levels = taken_starts ls;
      indices = taken_starts is;
    }

module _ {s : Shape} {ms ls is : List ℕ} {t left : ℕ} {levels indices : List ℕ} (walked : Walked s ms ls is t left levels indices) where
  pub walk_steps : t < s.axes → s.axes ≤ 8 → at ls t ≤ left → is_index (at ls t) (at is t) ≡ true →
      mark_fits s.border (at ms t) (at ls t) (at is t) ≡ true → Walked s ms ls is (suc t) (left - at ls t) (set levels t (at ls t)) (set indices t (at is t))
  walk_steps h few low index mark =
      record {
        tested = tested_steps walked.tested h low index;
        fits = fits_on s.border (at ms) (at ls) (at is) t walked.fits mark;
        levels = taken_steps walked.levels (omega arith) (at ls t) refl;
        indices = taken_steps walked.indices (omega arith) (at is t) refl;
      }

  pub mark_fails : t < s.axes → mark_fits s.border (at ms t) (at ls t) (at is t) ≡ false → all (fitting s.border (at ms) (at ls) (at is)) s.axes ≡ false
  unfolding fitting
  mark_fails h e = all_fails (fitting s.border (at ms) (at ls) (at is)) s.axes t h e

  module _ (last : s.axes ≤ t) where
    pub walk_point : is_point s.axes s.level (at ls) (at is) ≡ true
    walk_point = tested_ends walked.tested last

    pub walk_fits : all (fitting s.border (at ms) (at ls) (at is)) s.axes ≡ true
    walk_fits = let same : t ≡ s.axes = omega (arith, walked.tested.place) in rw same at walked.fits

    pub walk_value : length ls ≡ s.axes → length is ≡ s.axes →
        (levels ≡ eight (at ls)) × (indices ≡ eight (at is))
    walk_value el ei = (taken_ends walked.levels (omega arith), taken_ends walked.indices (omega arith))
