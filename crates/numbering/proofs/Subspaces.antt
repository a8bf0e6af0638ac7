-- The points of one level vector (the paper's level list; a subspace) are 2^(level sum) numbers in a row, from the number of its first point on: a point's
-- place in the row is its position, whose digits are its halved indices.
-- Assumes nothing.
use mathlib.Core.Path.{◌≡◌, refl, ap, sym, ◌∙◌}
use Prim.Native.Nat.{ℕ, ◌+◌, ◌*◌, ◌%◌, ◌^◌, ◌≤◌, ◌<◌}
use lib.Dec.{ltb}
use borrow.Author.Tests.{lt-ltb, le-ltb}
use Rattle.naturals.specs.Sum.{sum_to}
use Rattle.std.specs.Prelude.{if◌then◌else◌}
use Rattle.numbering.specs.Count.{start, points}
use Rattle.numbering.specs.Number.{rank, position, first_of, number}
use Rattle.numbering.specs.Inverse.{sum_at, within, level_at, index_of, index_at}
use Rattle.numbering.proofs.Position.{position_cong, position_of_index, index_odd, index_below}
use Rattle.numbering.proofs.Numbering.{number_lt, indices_position, number_of_point_lem}
use Rattle.numbering.proofs.Named.{Named, levels_again, indices_again}

pub first_is : (d : ℕ) (l : ℕ → ℕ) → first_of d l ≡ start d (sum_to l d) + 2 ^ sum_to l d * rank l d
unfolding first_of
first_is d l = refl

pub number_from_first : (d : ℕ) (l i : ℕ → ℕ) → number d l i ≡ first_of d l + position l i d
unfolding number
number_from_first d l i = refl

-- The indices of a position on the first d axes, and 0 past them.
unfoldable pub indices_to : ℕ → (ℕ → ℕ) → ℕ → ℕ → ℕ
indices_to d l j t = if ltb t d then index_of l j t else 0

pub indices_in : (d : ℕ) (l : ℕ → ℕ) (j t : ℕ) → t < d → indices_to d l j t ≡ index_of l j t
unfolding indices_to
indices_in d l j t h = rw (lt-ltb t d h)

indices_past : (d : ℕ) (l : ℕ → ℕ) (j t : ℕ) → d ≤ t → indices_to d l j t ≡ 0
unfolding indices_to
indices_past d l j t h = rw (le-ltb t d h)

module _ (d n : ℕ) (l : ℕ → ℕ) (rest : (t : ℕ) → d ≤ t → l t ≡ 0) (low : sum_to l d ≤ n) (j : ℕ) (j_in : j < 2 ^ sum_to l d) where
  pub block_point : Named d n l (indices_to d l j)
  block_point =
      record {
        point = record {
          sum = low;
          odd = λ t h. ap (λ (x : ℕ). x % 2) (indices_in d l j t h) ∙ index_odd l j t;
          below = λ t h. rw (indices_in d l j t h) (index_below l j t);
        };
        levels = rest;
        indices = indices_past d l j;
      }

  pub block_position : position l (indices_to d l j) d ≡ j
  block_position =
      position_cong l (indices_to d l j) l (index_of l j) d (λ t h. refl) (indices_in d l j) ∙ position_of_index l j d j_in

  pub block_number : number d l (indices_to d l j) ≡ first_of d l + j
  block_number = number_from_first d l (indices_to d l j) ∙ ap (λ (q : ℕ). first_of d l + q) block_position

  pub block_below : first_of d l + j < points d n
  block_below = rw (sym block_number) (number_lt block_point.point)

  pub block_levels : level_at d n (first_of d l + j) ≡ l
  block_levels = ap (level_at d n) (sym block_number) ∙ levels_again block_point

  pub block_indices : index_at d n (first_of d l + j) ≡ indices_to d l j
  block_indices = ap (index_at d n) (sym block_number) ∙ indices_again block_point

-- A number lies as far behind the first of its level vector as its position says.
pub number_behind_first : (d n p : ℕ) → p < points d n → first_of d (level_at d n p) + within d n p % 2 ^ sum_at d n p ≡ p
number_behind_first d n p lt =
    ap (λ (q : ℕ). first_of d (level_at d n p) + q) (sym (indices_position d n p lt))
    ∙ sym (number_from_first d (level_at d n p) (index_at d n p))
    ∙ number_of_point_lem d n p lt
