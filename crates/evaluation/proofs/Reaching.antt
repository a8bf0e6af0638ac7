-- S along the walk, where it is asked for: after each level list it is the sum over all points passed, since of the points of a list only the one taken can be
-- reached. With at most 1,287 lists and coefficients of at most 2^47 it stays below 2^58, and fits 64 bits.
-- Assumes nothing.
use mathlib.Core.Bool.{Bool, true, false}
use mathlib.Core.List.{List}
use mathlib.Core.Path.{◌≡◌, refl, ap, sym, ◌∙◌}
use Prim.Native.Nat.{ℕ, suc, ◌+◌, ◌*◌, ◌^◌, ◌≤◌, ◌<◌}
use native.Mathlib.Nat.{mul-le-mul_right, suc-mul}
use native.Mathlib.Omega.{arith}
use lib.IntN.{ℤ}
use Rattle.naturals.specs.Sum.{sum_to}
use Rattle.naturals.proofs.Cases.{true_or_false}
use Rattle.naturals.proofs.Sums.{sum_to_zero, sum_block}
use Rattle.integers.specs.Half.{in_limit}
use Rattle.integers.proofs.Sizes.{limit_size}
use Rattle.hierarchy.specs.Turns.{value_at}
use Rattle.shapes.specs.declared.Shape.{Shape}
use Rattle.shapes.specs.Shapes.{most_terms, points_of}
use Rattle.surfaces.specs.Weights.{unit}
use Rattle.surfaces.specs.Surface.{weight_on}
use Rattle.surfaces.specs.Margin.{is_reached, absolute_reached, absolute_sum, absolute_sum_in, absolute_sum_at}
use Rattle.evaluation.specs.Steps.{if_asked}
use Rattle.evaluation.proofs.Blocks.{ListAt, taken_at, taken_below, block_unreached}

module _ (s : Shape) (xs : List ℤ) (x : ℕ → ℕ) where
  -- What point number p adds to S.
  abbrev pub size_at : ℕ → ℕ
  size_at = absolute_reached s.axes (weight_on s x) (value_at xs)

  size_unreached : (p : ℕ) → is_reached s.axes (weight_on s x p) ≡ false → size_at p ≡ 0
  unfolding absolute_reached
  size_unreached p e = rw e

  pub size_small : (p : ℕ) → in_limit (value_at xs (suc p)) ≡ true → size_at p ≤ 2 ^ 47
  unfolding absolute_reached
  size_small p limited =
      true_or_false (is_reached s.axes (weight_on s x p))
      (λ e. rw e (limit_size (value_at xs (suc p)) limited))
      (λ e. rw e (omega arith))

-- Two sums that are asked for, or neither.
asked_plus : (asked : Bool) (i j : ℕ) → if_asked asked i + if_asked asked j ≡ if_asked asked (i + j)
asked_plus true i j = refl
asked_plus false i j = refl

pub asked_small : (asked : Bool) (i j : ℕ) → i ≤ j → if_asked asked i ≤ j
asked_small true i j h = h
asked_small false i j h = omega arith

-- S so far, past so many lists, where it is asked for: over all points before number `first`, and small.
pub record Tallied (asked : Bool) (s : Shape) (xs : List ℤ) (x : ℕ → ℕ) (total first count : ℕ) : Type 0 where
  pub sum : total ≡ if_asked asked (sum_to (size_at s xs x) first)
  pub small : total ≤ count * 2 ^ 47

pub tallied_starts : (asked : Bool) (s : Shape) (xs : List ℤ) (x : ℕ → ℕ) → Tallied asked s xs x 0 0 0
tallied_starts true s xs x = record { sum = sym (sum_to_zero (size_at s xs x)); small = omega arith }
tallied_starts false s xs x = record { sum = refl; small = omega arith }

module _ {asked : Bool} {s : Shape} {xs : List ℤ} {x : ℕ → ℕ} {total first count : ℕ} (r : Tallied asked s xs x total first count) where
  pub tallied_room : count ≤ most_terms → total ≤ most_terms * 2 ^ 47
  tallied_room few = omega (arith, r.small, mul-le-mul_right (2 ^ 47) few)

  pub tallied_more : {count' : ℕ} → count ≤ count' → Tallied asked s xs x total first count'
  tallied_more le = record { sum = r.sum; small = omega (arith, r.small, mul-le-mul_right (2 ^ 47) le) }

  module _ {m l : ℕ → ℕ} (a : ListAt s m l first) (inside : (t : ℕ) → t < s.axes → x t ≤ unit) where
    others_none : (j : ℕ) → j < 2 ^ sum_to l s.axes → (j ≡ taken_at x m l s.axes → ⊥) → size_at s xs x (first + j) ≡ 0
    others_none j lt ne = size_unreached s xs x (first + j) (block_unreached a x inside j lt ne)

    -- One list more.
    pub tallied_steps : in_limit (value_at xs (suc (first + taken_at x m l s.axes))) ≡ true →
        Tallied asked s xs x (total + if_asked asked (size_at s xs x (first + taken_at x m l s.axes))) (first + 2 ^ sum_to l s.axes) (suc count)
    tallied_steps limited =
        let p : ℕ = first + taken_at x m l s.axes in
        record {
          sum =
              ap (λ (k : ℕ). k + if_asked asked (size_at s xs x p)) r.sum
              ∙ asked_plus asked (sum_to (size_at s xs x) first) (size_at s xs x p)
              ∙ ap (if_asked asked) (sym (sum_block (size_at s xs x) first (2 ^ sum_to l s.axes) (taken_at x m l s.axes) (taken_below x m l s.axes) others_none));
          small = omega (arith, r.small, suc-mul count (2 ^ 47), asked_small asked (size_at s xs x p) (2 ^ 47) (size_small s xs x p limited));
        }

  -- Past the last point it is S.
  pub tallied_ends : first ≡ points_of s → total ≡ if_asked asked (absolute_sum_at s (value_at xs) x)
  unfolding absolute_sum_in absolute_sum
  tallied_ends all_points = r.sum ∙ ap (λ (m : ℕ). if_asked asked (sum_to (size_at s xs x) m)) all_points
