-- Values of document 02, g), by computation: the order of the faces of two axes, the points of one axis with top level 1, and counts.
-- Assumes nothing.
use mathlib.Core.Path.{◌≡◌, refl}
use mathlib.Core.List.{List, [], ◌∷◌}
use Prim.Native.Nat.{ℕ, zero, suc}
use Rattle.naturals.specs.Sum.{sum_to}
use Rattle.numbering.specs.Binomial.{choose}
use Rattle.numbering.specs.Count.{vectors, shell, start, points}
use Rattle.numbering.specs.Number.{ending}
use Rattle.numbering.specs.Inverse.{block, last_level, level_of, sum_at, within, level_at, index_of, index_at}
use Rattle.faces.specs.Faces.{faces, bit, having, last_mark, mark_of}
use Rattle.faces.specs.Packing.{inner_on, before}
use Rattle.faces.specs.Marked.{layer, border_points, borders_at, within_layer, number_at, mark_at, border_level_at, border_index_at}

-- What k numbers from p on have.
abbrev each_from : (ℕ → List ℕ) → ℕ → ℕ → List (List ℕ)
each_from f p zero = []
each_from f p (suc k) = f p ∷ each_from f (suc p) k

-- The marks of a point of two axes with top level 0: each face has one point, so these are the faces in order.
abbrev two_marks : ℕ → List ℕ
two_marks p = mark_at 2 0 p 0 ∷ mark_at 2 0 p 1 ∷ []

pub two_axes :
    each_from two_marks 0 9
    ≡ (0 ∷ 0 ∷ [])
    ∷ (1 ∷ 0 ∷ []) ∷ (2 ∷ 0 ∷ []) ∷ (0 ∷ 1 ∷ []) ∷ (0 ∷ 2 ∷ [])
    ∷ (1 ∷ 1 ∷ []) ∷ (2 ∷ 1 ∷ []) ∷ (1 ∷ 2 ∷ []) ∷ (2 ∷ 2 ∷ []) ∷ []
unfolding sum_to choose vectors shell start points block faces bit having last_mark mark_of layer borders_at within_layer mark_at
two_axes = refl

-- Mark, level and index of a point of one axis with top level 1: the inner points as in document 01, then the lower and the upper border.
abbrev one_point : ℕ → List ℕ
one_point p = mark_at 1 1 p 0 ∷ border_level_at 1 1 p 0 ∷ border_index_at 1 1 p 0 ∷ []

pub one_axis :
    each_from one_point 0 5 ≡ (0 ∷ 0 ∷ 1 ∷ []) ∷ (0 ∷ 1 ∷ 1 ∷ []) ∷ (0 ∷ 1 ∷ 3 ∷ []) ∷ (1 ∷ 0 ∷ 1 ∷ []) ∷ (2 ∷ 0 ∷ 1 ∷ []) ∷ []
unfolding sum_to choose vectors shell start points ending block last_level level_of sum_at within level_at index_of index_at faces bit having last_mark mark_of inner_on before layer borders_at within_layer number_at mark_at border_level_at border_index_at
one_axis = refl

-- N.
pub counts : (border_points 1 1 ≡ 5) × (border_points 3 3 ≡ 593) × (border_points 4 5 ≡ 20481) × (border_points 4 6 ≡ 52993)
unfolding sum_to choose vectors shell start points faces layer border_points
counts = (refl, refl, refl, refl)
