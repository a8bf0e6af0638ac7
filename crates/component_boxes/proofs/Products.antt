-- The points of some axes together, as a fold over the levels; and the running product that stops at the largest number of the width.
-- Assumes nothing.
use Rattle.std.proofs.Common.{◌≡◌, refl, ap, sym, ◌∙◌, ℕ, zero, suc, ◌*◌, ◌≤◌, List, length, take, fold, min, add-one, arith}
use Rattle.std.proofs.lemmas.List.{map_push, take_more, take_all}
use Rattle.std.proofs.lemmas.List.Folds.{fold_along}
use Rattle.std.proofs.lemmas.List.Sums.{fold_push}
use mathlib.Core.List.{map}
use lib.ListN.{get_or-eq_default}
use native.Mathlib.Nat.{mul-le-mul_right}
use Rattle.naturals.proofs.Cases.{le_or_lt, eq_or_not}
use Rattle.numbering.specs.Point.{at}
use Rattle.component_grids.specs.Component.{across, points_to}
use Rattle.component_grids.proofs.Places.{across_is, points_to_zero, points_to_suc}

abbrev pub times : List ℕ → ℕ
times = fold (λ a x. a * x) 1

module _ (ls : List ℕ) where
  -- The levels of the first n axes; where there are no more, an axis of level 0 has one point.
  times_to : (n : ℕ) → times (map across (take n ls)) ≡ points_to (at ls) n
  times_to zero = sym (points_to_zero (at ls))
  times_to (suc n) =
      le_or_lt (length ls) n
      (λ past.
      let one : across (at ls n) ≡ 1 = rw (get_or-eq_default ls 0 past) (omega (arith, across_is 0)) in
      ap (λ (xs : List ℕ). times (map across xs)) (take_all (suc n) ls (omega arith) ∙ sym (take_all n ls past))
      ∙ times_to n
      ∙ omega (arith, points_to_suc (at ls) n, ap (λ (y : ℕ). points_to (at ls) n * y) one))
      (λ less.
      ap (λ (xs : List ℕ). times (map across xs)) (rw (add-one n) at (take_more ls n 0 less) ∙ refl)
      ∙ ap times (map_push across (take n ls) (at ls n))
      ∙ fold_push (λ a x. a * x) 1 (map across (take n ls)) (across (at ls n))
      ∙ ap (λ (y : ℕ). y * across (at ls n)) (times_to n)
      ∙ sym (points_to_suc (at ls) n))

  pub times_all : times (map across ls) ≡ points_to (at ls) (length ls)
  times_all = ap (λ (xs : List ℕ). times (map across xs)) (sym (take_all (length ls) ls (omega arith))) ∙ times_to (length ls)

-- The product that stops at the largest number of the width, at each step and at the end.
capped_more : (a b x : ℕ) → a ≡ min b 18446744073709551615 → min (a * x) 18446744073709551615 ≡ min (b * x) 18446744073709551615
capped_more a b x is =
    eq_or_not x 0
    (λ none. rw none (omega arith))
    (λ some.
    le_or_lt b 18446744073709551615
    (λ le. ap (λ (y : ℕ). min (y * x) 18446744073709551615) (omega arith))
    (λ gt.
    let large : a ≡ 18446744073709551615 = omega arith in
    omega (
      arith,
      mul-le-mul_right {m = 18446744073709551615} {n = b} x (omega arith),
      (let e : 18446744073709551615 ≤ 18446744073709551615 * x = omega arith in e),
      ap (λ (y : ℕ). y * x) large,
    )))

pub capped : (xs : List ℕ) → fold (λ a x. min (a * x) 18446744073709551615) 1 xs ≡ min (times xs) 18446744073709551615
capped xs =
    fold_along (λ a x. min (a * x) 18446744073709551615) (λ a x. a * x) (λ a b. a ≡ min b 18446744073709551615) (λ a b x is. capped_more a b x is)
    1 1 xs (omega arith)

-- The levels of the first axes alone.
pub points_taken : (ls : List ℕ) (n : ℕ) → points_to (at (take n ls)) (length (take n ls)) ≡ points_to (at ls) n
points_taken ls n = sym (times_all (take n ls)) ∙ times_to ls n
