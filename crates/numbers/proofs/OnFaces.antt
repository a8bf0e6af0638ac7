-- Points of a table with values on the border by way of their faces: what the inner axes have, taken together, is a point of the sparse table of the face, and
-- its number there is the number within the face; what a number within a face has there, put back, is the point of the number.
-- Assumes nothing.
use mathlib.Core.Path.{◌≡◌, refl, ap, ap₂, sym, ◌∙◌, fun_ext}
use Prim.Native.Nat.{ℕ, ◌+◌, ◌-◌, ◌%◌, ◌≤◌, ◌<◌}
use native.Mathlib.Omega.{arith}
use Rattle.naturals.specs.Sum.{sum_to}
use Rattle.naturals.proofs.Sums.{sum_to_cong}
use Rattle.numbering.specs.Count.{points, start}
use Rattle.numbering.specs.Point.{at, IsPoint}
use Rattle.numbering.specs.Number.{number, first_of, rank, position}
use Rattle.numbering.specs.Inverse.{level_at, index_at}
use Rattle.numbering.proofs.Numbering.{level_zero, index_zero}
use Rattle.faces.specs.Packing.{before, packed}
use Rattle.faces.specs.Marked.{Marked, border_points, face_start, in_face, border_number, borders_at, number_at, mark_at, border_level_at, border_index_at}
use Rattle.faces.proofs.Packing.{inner_axes}
use Rattle.faces.proofs.Numbering.{number_cong, in_face_is, inner_point, border_number_is, border_number_lt, number_in_face}
use Rattle.shapes.proofs.Layers.{border_points_small}
use Rattle.points.specs.Points.{eight, point_of}
use Rattle.points.specs.Steps.{PointIn}
use Rattle.points.proofs.Eight.{eight_length, eight_whole}
use Rattle.numbers.specs.Steps.{gathered, spread}
use Rattle.numbers.proofs.InnerAxes.{before_le, gathered_at, gathered_past}

-- Without axes the one number is 0.
pub no_axes : (l i : ℕ → ℕ) → number 0 l i ≡ 0
unfolding number first_of start rank position sum_to
no_axes l i = refl

-- ---- from point to number

module _ {d n : ℕ} {m l i : ℕ → ℕ} (x : Marked d n m l i) (few : d ≤ 8) where
  abbrev k : ℕ
  k = before m d

  by_value : (f : ℕ → ℕ) → at (eight (gathered d m f)) ≡ gathered d m f
  by_value f = eight_whole (gathered d m f) (λ t h. gathered_past d m f t (omega (arith, before_le m d)))

  inside : IsPoint k n (packed m d l) (packed m d i)
  inside = rw (← inner_axes m d) at (inner_point x)

  taken : IsPoint k n (gathered d m l) (gathered d m i)
  taken =
      record {
        sum = omega (arith, sum_to_cong (gathered d m l) (packed m d l) k (gathered_at d m l), inside.sum);
        odd = λ t h. ap (λ (y : ℕ). y % 2) (gathered_at d m i t h) ∙ inside.odd t h;
        below = λ t h. rw (gathered_at d m i t h, gathered_at d m l t h) (inside.below t h);
      }

  pub face_point : PointIn k n (eight (gathered d m l)) (eight (gathered d m i))
  face_point =
      record {
        long_levels = eight_length (gathered d m l);
        long_indices = eight_length (gathered d m i);
        point = rw (by_value l, by_value i) taken;
        no_level = λ t h. ap (λ (f : ℕ → ℕ). f t) (by_value l) ∙ gathered_past d m l t h;
        no_index = λ t h. ap (λ (f : ℕ → ℕ). f t) (by_value i) ∙ gathered_past d m i t h;
      }

  pub face_number : number k (at (eight (gathered d m l))) (at (eight (gathered d m i))) ≡ in_face d m l i
  face_number =
      ap₂ (number k) (by_value l) (by_value i)
      ∙ number_cong k (gathered d m l) (gathered d m i) (packed m d l) (packed m d i) (gathered_at d m l) (gathered_at d m i)
      ∙ ap (λ (c : ℕ). number c (packed m d l) (packed m d i)) (inner_axes m d)
      ∙ sym (in_face_is d m l i)

-- The number from its two parts, which fit.
module _ {d n : ℕ} {m l i : ℕ → ℕ} (x : Marked d n m l i) {first within : ℕ} (starts : first ≡ face_start d n m) (there : within ≡ in_face d m l i) where
  pub number_made : first + within ≡ border_number d n m l i
  number_made = omega (arith, border_number_is d n m l i, starts, there)

  pub number_fits : d ≤ 4 → n ≤ 8 → first + within < 4294967296
  number_fits few top = omega (arith, number_made, border_number_lt x, border_points_small d n few top)

-- ---- from number to point

module _ (d n p : ℕ) where
  levels_spread : spread d (mark_at d n p) (level_at (d - borders_at d n p) n (number_at d n p)) 0 ≡ border_level_at d n p
  unfolding spread border_level_at
  levels_spread = fun_ext λ t. refl

  indices_spread : spread d (mark_at d n p) (index_at (d - borders_at d n p) n (number_at d n p)) 1 ≡ border_index_at d n p
  unfolding spread border_index_at
  indices_spread = fun_ext λ t. refl

-- The levels and indices of a number by value hold every one.
module _ (k n q : ℕ) (few : k ≤ 8) where
  pub levels_whole : at (eight (level_at k n q)) ≡ level_at k n q
  levels_whole = eight_whole (level_at k n q) (λ t h. level_zero k n q t (omega arith))

  pub indices_whole : at (eight (index_at k n q)) ≡ index_at k n q
  indices_whole = eight_whole (index_at k n q) (λ t h. index_zero k n q t (omega arith))

module _ (d n p : ℕ) (lt : p < border_points d n) {k q : ℕ} (inner : k ≡ d - borders_at d n p) (here : q ≡ number_at d n p) where
  pub in_table : q < points k n
  in_table = rw (inner, here) (number_in_face d n p lt)

  pub point_made : (m : ℕ → ℕ) → m ≡ mark_at d n p → d ≤ 8 →
      point_of m (spread d m (at (eight (level_at k n q))) 0) (spread d m (at (eight (index_at k n q))) 1)
      ≡ point_of (mark_at d n p) (border_level_at d n p) (border_index_at d n p)
  point_made m marks few =
      ap₂ (λ (f g : ℕ → ℕ). point_of m (spread d m f 0) (spread d m g 1)) (levels_whole k n q (omega (arith, inner))) (indices_whole k n q (omega (arith, inner)))
      ∙ rw (marks, inner, here) (ap₂ (point_of (mark_at d n p)) (levels_spread d n p) (indices_spread d n p))
