-- The first number of a face from its parts, and the face of a number. A number lies in the layer that the search ends in, and what is left of it, divided by the points
-- of a face, is the face and the number there. The parts are within the width, since a layer of up to 4 axes has fewer points than 2^39.
-- Assumes nothing.
use mathlib.Core.Path.{◌≡◌, ap, ap₂, sym, ◌∙◌}
use Prim.Native.Nat.{ℕ, ◌+◌, ◌-◌, ◌*◌, ◌/◌, ◌%◌, ◌≤◌, ◌<◌}
use native.Mathlib.Nat.{mul-le-mul_left, mul_comm, div-lt_iff_lt-mul}
use native.Mathlib.Numerals.{add-one}
use native.Mathlib.Omega.{arith}
use Rattle.naturals.specs.Sum.{sum_to}
use Rattle.naturals.proofs.Sums.{sum_to_zero, sum_to_suc}
use Rattle.numbering.specs.Count.{points}
use Rattle.numbering.proofs.Block.{block_is}
use Rattle.faces.specs.Faces.{faces, borders, face_rank, mark_of}
use Rattle.faces.specs.Marked.{layer, border_points, face_start, borders_at, within_layer, number_at, mark_at}
use Rattle.faces.proofs.Ranks.{borders_le, face_rank_lt}
use Rattle.faces.proofs.Numbering.{points_pos, layer_is, all_layers, face_start_is}
use Rattle.shapes.proofs.Layers.{layer_small, layers_small}

-- ---- the first number of a face

pub borders_few : (d : ℕ) (m : ℕ → ℕ) (b : ℕ) → b ≡ borders m d → b ≤ d
borders_few d m b is = omega (arith, is, borders_le m d)

module _ (d n : ℕ) (m : ℕ → ℕ) {b r size : ℕ} (is : b ≡ borders m d) (ranked : r ≡ face_rank m d) (counted : size ≡ points (d - b) n) where
  before_it : size * r ≡ points (d - borders m d) n * face_rank m d
  before_it = ap₂ ◌*◌ (counted ∙ ap (λ (c : ℕ). points (d - c) n) is) ranked

  pub start_made : {before : ℕ} → before ≡ sum_to (layer d n) b → before + size * r ≡ face_start d n m
  start_made layers = omega (arith, face_start_is d n m, before_it, layers, ap (sum_to (layer d n)) is)

  module _ (few : d ≤ 4) (top : n ≤ 8) (marks : (t : ℕ) → t < d → m t ≤ 2) where
    rank_le : face_rank m d ≤ faces d (borders m d)
    rank_le = omega (arith, face_rank_lt m d marks)

    pub product_small : size * r < 549755813888
    product_small =
        omega (
          arith,
          before_it,
          mul-le-mul_left (points (d - borders m d) n) rank_le,
          mul_comm (points (d - borders m d) n) (faces d (borders m d)),
          layer_is d n (borders m d),
          layer_small d n (borders m d) few top (borders_le m d),
        )

    pub start_small : {before : ℕ} → before ≡ sum_to (layer d n) b → before + size * r < 4398046511104
    start_small layers =
        let le : b ≤ d = borders_few d m b is in
        omega (arith, layers, product_small, layers_small d n b few top (omega (arith, le)), le)

-- ---- the face of a number

pub layer_split : (d n b p size : ℕ) → size ≡ points (d - b) n → p < layer d n b → p / size < faces d b
layer_split d n b p size counted lt =
    rw counted ((div-lt_iff_lt-mul (points_pos (d - b) n)).1 (omega (arith, lt, layer_is d n b)))

pub some_points : (k n size : ℕ) → size ≡ points k n → 0 < size
some_points k n size counted = omega (arith, counted, points_pos k n)

-- What is left of a number once the layers before b are taken off.
pub record LeftOf (d n p b rest : ℕ) : Type 0 where
  pub all : rest + sum_to (layer d n) b ≡ p

pub left_start : (d n p : ℕ) → LeftOf d n p 0 p
left_start d n p = record { all = omega (arith, sum_to_zero (layer d n)) }

module _ {d n p b rest : ℕ} (left : LeftOf d n p b rest) where
  pub left_step : {size : ℕ} → size ≡ layer d n b → size ≤ rest → LeftOf d n p (b + 1) (rest - size)
  left_step counted le = record { all = rw add-one (omega (arith, left.all, counted, le, sum_to_suc (layer d n) b)) }

  -- In the last layer there is room for all that is left.
  pub left_all : b ≡ d → LeftOf d n p d rest
  left_all last = record { all = omega (arith, left.all, ap (sum_to (layer d n)) last) }

  pub left_last : p < border_points d n → b ≡ d → rest < layer d n d
  left_last lt last = omega (arith, left.all, lt, all_layers d n, sum_to_suc (layer d n) d, ap (sum_to (layer d n)) last)

  module _ (le : b ≤ d) (lt : rest < layer d n b) where
    found_borders : borders_at d n p ≡ b
    unfolding borders_at
    found_borders =
        block_is (layer d n) d p b le (omega (arith, left.all)) (omega (arith, left.all, lt, sum_to_suc (layer d n) b))

    found_within : within_layer d n p ≡ rest
    unfolding within_layer
    found_within = omega (arith, left.all, ap (sum_to (layer d n)) found_borders)

    found_inner : d - b ≡ d - borders_at d n p
    found_inner = ap (λ (c : ℕ). d - c) (sym found_borders)

    found_marks : mark_of d b (rest / points (d - b) n) ≡ mark_at d n p
    unfolding mark_at
    found_marks = ap₂ (mark_of d) (sym found_borders) (ap₂ ◌/◌ (sym found_within) (ap (λ (k : ℕ). points k n) found_inner))

    found_number : rest % points (d - b) n ≡ number_at d n p
    unfolding number_at
    found_number = ap₂ ◌%◌ (sym found_within) (ap (λ (k : ℕ). points k n) found_inner)

-- So a face read off what is left is that of the number.
pub found : {d n p b rest : ℕ} {m : ℕ → ℕ} {inner number : ℕ} → LeftOf d n p b rest → b ≤ d → rest < layer d n b →
    m ≡ mark_of d b (rest / points (d - b) n) → inner ≡ d - b → number ≡ rest % points (d - b) n →
    (m ≡ mark_at d n p) × (inner ≡ d - borders_at d n p) × (number ≡ number_at d n p)
found left le lt marks inner number =
    (marks ∙ found_marks left le lt, inner ∙ found_inner left le lt, number ∙ found_number left le lt)
