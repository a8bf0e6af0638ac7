-- What the steps of an estimate ask and give: one point for each level list of each face, and its weight from a table of axis weights.
-- Assumes nothing.
use Rattle.std.specs.Prelude.{Bool, true, List, [], ◌≡◌, ℕ, suc, ◌+◌, ◌*◌, ◌/◌, ◌^◌, ◌≤◌, ◌<◌, ℤ, ltb, eqb, bit_and, length, get_or, if◌then◌else◌}
use Rattle.naturals.specs.Sum.{sum_to}
use Rattle.naturals.specs.Test.{all}
use Rattle.integers.specs.Half.{in_limit}
use Rattle.numbering.specs.Point.{at}
use Rattle.hierarchy.specs.Turns.{value_at}
use Rattle.faces.specs.Packing.{before}
use Rattle.shapes.specs.declared.Shape.{Shape}
use Rattle.shapes.specs.Shapes.{most_points, points_of}
use Rattle.surfaces.specs.Weights.{unit, axis_weight, joint}
use Rattle.surfaces.specs.Surface.{estimate_at}
use Rattle.surfaces.specs.Margin.{absolute_sum_at}
use Rattle.interpolation.specs.Hats.{indicator}
use Rattle.axis_weights.specs.Steps.{marked_cell, index_of_cell}
use Rattle.evaluation.specs.declared.Evaluated.{Evaluated}
use Rattle.evaluation.specs.declared.Hat.{Hat}
use Rattle.evaluation.specs.declared.Passed.{Passed}
use Rattle.evaluation.specs.declared.Term.{Term}

-- ---- hats

-- On an axis of mark a (0 where the table has no border), the weight of the point of the cell of level l in which the coordinate x lies; and the cell with it, and 1
-- where it is above zero, else 0.
abbrev pub hat_weight : ℕ → ℕ → ℕ → ℕ
hat_weight x a l = axis_weight unit x a l (index_of_cell (marked_cell x a l))

abbrev pub hat_at : ℕ → ℕ → ℕ → Hat
hat_at x a l = record { cell = marked_cell x a l; above = indicator (ltb 0 (hat_weight x a l)); weight = hat_weight x a l }

-- In a table of hats by axis and level, the hat on axis t for level l; and for a level list.
abbrev pub no_hat : Hat
no_hat = record { cell = 0; above = 0; weight = 0 }

abbrev pub hat_of : List (List Hat) → ℕ → ℕ → Hat
hat_of hats t l = get_or (get_or hats t []) l no_hat

abbrev pub hats_of : List (List Hat) → (ℕ → ℕ) → ℕ → Hat
hats_of hats l t = hat_of hats t (l t)

-- The same in a table by axis, mark and level; and for the marks and the level list of a face.
abbrev pub marked_of : List (List (List Hat)) → ℕ → ℕ → ℕ → Hat
marked_of hats t a l = hat_of (get_or hats t []) a l

abbrev pub hats_on : List (List (List Hat)) → (ℕ → ℕ) → (ℕ → ℕ) → ℕ → Hat
hats_on hats m l t = marked_of hats t (m t) (l t)

-- The hats of an axis at the coordinate x, one for each level; and those of the first d axes.
abbrev pub AxisHats : ℕ → List Hat → Type 0
AxisHats x hats = (l : ℕ) → l < 9 → get_or hats l no_hat ≡ hat_at x 0 l

pub record Tabulated (x : ℕ → ℕ) (d : ℕ) (hats : List (List Hat)) : Type 0 where
  pub axis : (t : ℕ) → t < d → AxisHats (x t) (get_or hats t [])

-- The same by mark: inside one for each level, on each border the one of level 0.
pub record MarkedHats (x : ℕ) (hats : List (List Hat)) : Type 0 where
  pub inside : (l : ℕ) → l < 9 → hat_of hats 0 l ≡ hat_at x 0 l
  pub border : (a : ℕ) → 0 < a → a ≤ 2 → hat_of hats a 0 ≡ hat_at x a 0

pub record MarkedTable (x : ℕ → ℕ) (d : ℕ) (hats : List (List (List Hat))) : Type 0 where
  pub axis : (t : ℕ) → t < d → MarkedHats (x t) (get_or hats t [])

-- ---- the point of a level list that they give

-- Where h t is the hat on axis t for the level list l: over the first k axes its joint weight, whether its weight is above zero on each of them, and its position.
abbrev pub weight_at : (ℕ → Hat) → ℕ → ℕ
weight_at h t = (h t).weight

abbrev pub joint_of : (ℕ → Hat) → ℕ → ℕ
joint_of h k = joint unit (weight_at h) k

abbrev pub reached_on : (ℕ → Hat) → ℕ → Bool
reached_on h t = ltb 0 (h t).above

abbrev pub reached_of : (ℕ → Hat) → ℕ → Bool
reached_of h k = all (reached_on h) k

unfoldable pub step_of : (ℕ → Hat) → (ℕ → ℕ) → ℕ → ℕ
step_of h l t = (h t).cell * 2 ^ sum_to l t

unfoldable pub position_of : (ℕ → Hat) → (ℕ → ℕ) → ℕ → ℕ
position_of h l k = sum_to (step_of h l) k

-- What is found of that point over the first d axes.
pub record Found (h : ℕ → Hat) (l : ℕ → ℕ) (d : ℕ) (term : Term) : Type 0 where
  pub position : term.position ≡ position_of h l d
  pub joint : term.joint ≡ joint_of h d
  pub reached : term.reached ≡ reached_of h d

-- Levels of sum 8 at most on the first d axes, and hats there: weights of at most the unit, cells among those of their level, and beside each weight a 0 or a 1.
pub record Bounded (h : ℕ → Hat) (l : ℕ → ℕ) (d : ℕ) : Type 0 where
  pub few : d ≤ 8
  pub levels : sum_to l d ≤ 8
  pub weight : (t : ℕ) → t < d → (h t).weight ≤ unit
  pub cell : (t : ℕ) → t < d → (h t).cell < 2 ^ l t
  pub above : (t : ℕ) → t < d → (h t).above ≤ 1

-- ---- axis by axis

-- On no axis, and on one axis more, of the hat g and the level a, where the numbers stay small.
abbrev pub none_passed : Passed
none_passed = record { position = 0; joint = unit; reached = 1; sum = 0 }

pub record Room (passed : Passed) (g : Hat) (a : ℕ) : Type 0 where
  pub sum : passed.sum + a ≤ 8
  pub cell : g.cell < 2 ^ a
  pub position : passed.position + g.cell * 2 ^ passed.sum < 256
  pub joint : passed.joint * g.weight ≤ unit * unit

abbrev pub passed_with : Passed → Hat → ℕ → Passed
passed_with passed g a =
    record {
      position = passed.position + g.cell * 2 ^ passed.sum;
      joint = passed.joint * g.weight / unit;
      reached = bit_and passed.reached g.above;
      sum = passed.sum + a;
    }

abbrev pub term_passed : Passed → Term
term_passed passed = record { position = passed.position; joint = passed.joint; reached = ltb 0 passed.reached }

-- Marks of the first d axes.
abbrev pub MarksAt : ℕ → List ℕ → Type 0
MarksAt d marks = (t : ℕ) → t < d → at marks t ≤ 2

-- The levels v of the inner axes of a face of marks m, on all d axes: on an inner axis that at its place among them, 0 on a border axis and past the axes.
unfoldable pub whole : ℕ → (ℕ → ℕ) → (ℕ → ℕ) → ℕ → ℕ
whole d m v t = if ltb t d then (if eqb (m t) 0 then v (before m t) else 0) else 0

-- The level list of a face and its hats, for lists of marks and of the levels of the inner axes.
abbrev pub levels_on : ℕ → List ℕ → List ℕ → ℕ → ℕ
levels_on d marks levels = whole d (at marks) (at levels)

abbrev pub face_hats : List (List (List Hat)) → ℕ → List ℕ → List ℕ → ℕ → Hat
face_hats hats d marks levels = hats_on hats (at marks) (levels_on d marks levels)

-- ---- what is asked

-- A coordinate for each of at most eight axes.
pub record Listed (d : ℕ) (cs : List ℕ) : Type 0 where
  pub few : d ≤ 8
  pub long : length cs ≡ d
  pub coordinates : (t : ℕ) → t < d → at cs t ≤ unit

-- A shape within the limits, a table of its points within the content limit, and a coordinate for each axis.
pub record Evaluable (s : Shape) (xs : List ℤ) (cs : List ℕ) : Type 0 where
  pub some : 1 ≤ s.axes
  pub low : s.level ≤ 8
  pub most : s.border ≡ true → s.axes ≤ 4
  pub small : points_of s ≤ most_points
  pub long : length xs ≡ points_of s
  pub contents : (p : ℕ) → p < points_of s → in_limit (value_at xs (suc p)) ≡ true
  pub listed : Listed s.axes cs

-- What the steps come to, for the coefficients c at the coordinates x: the estimate, and S where it is asked for, else 0.
abbrev pub if_asked : Bool → ℕ → ℕ
if_asked asked k = if asked then k else 0

abbrev pub evaluated_at : Bool → Shape → (ℕ → ℤ) → (ℕ → ℕ) → Evaluated
evaluated_at asked s c x = record { estimate = estimate_at s c x; absolute_sum = if_asked asked (absolute_sum_at s c x) }
