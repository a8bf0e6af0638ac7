-- The faces laid one after the other: the walk over the faces with b border axes, b = 0, 1 and so on, has the faces before the one that it comes to, as many as the faces
-- with fewer border axes and those of a smaller rank with as many, and the number of the first point after them. True since that is the order of faces.
-- Assumes nothing.
use mathlib.Core.Path.{◌≡◌, refl, ap, ap₂, sym, ◌∙◌, fun_ext}
use mathlib.Core.Bool.{Bool, true}
use mathlib.Core.List.{List}
use Prim.Native.Nat.{ℕ, suc, ◌+◌, ◌-◌, ◌≤◌, ◌<◌}
use native.Mathlib.Numerals.{add-one}
use native.Mathlib.Omega.{arith}
use lib.Dec.{leb}
use lib.ListN.{length, set, replicate, length-set, get_or-replicate, get_or-eq_default}
use lib.Seq.{get_or-set_same, get_or-set_other}
use borrow.Author.Tests.{eq-eqb, ne_eqb, leb-true}
use Rattle.naturals.specs.Sum.{sum_to}
use Rattle.naturals.specs.Test.{all}
use Rattle.naturals.proofs.Cases.{le_or_lt, eq_or_not}
use Rattle.naturals.proofs.Sums.{sum_to_zero, sum_to_suc, sum_to_mono}
use Rattle.naturals.proofs.Tests.{all_at}
use Rattle.numbering.specs.Binomial.{choose}
use Rattle.numbering.specs.Count.{points}
use Rattle.numbering.specs.Point.{at}
use Rattle.faces.specs.Faces.{faces, mark_of}
use Rattle.faces.specs.Row.{all_faces, borders_of, marks_of, inner_of, row}
use Rattle.faces.proofs.Numbering.{all_layers}
use Rattle.faces.proofs.Row.{all_faces_is, inner_of_is, borders_of_is, row_zero, row_suc, row_mono, row_ends}
use Rattle.shapes.proofs.Layers.{layers_small}
use Rattle.layouts.specs.declared.Face.{Face}
use Rattle.layouts.specs.Layouts.{last_levels, no_face, face_at, IsFace}

-- ---- the last level list

no_level : (t : ℕ) → at (replicate 8 0) t ≡ 0
no_level t = le_or_lt 8 t (λ past. get_or-eq_default (replicate 8 0) 0 past) (λ h. get_or-replicate 8 t 0 0 h)

pub last_here : (k n t : ℕ) → suc t ≡ k → last_levels k n t ≡ n
unfolding last_levels
last_here k n t e = rw (eq-eqb (suc t) k e)

pub last_other : (k n t : ℕ) → (suc t ≡ k → ⊥) → last_levels k n t ≡ 0
unfolding last_levels
last_other k n t e = rw (ne_eqb (suc t) k e)

pub levels_none : (k n : ℕ) → k ≡ 0 → at (replicate 8 0) ≡ last_levels k n
levels_none k n none = fun_ext λ t. no_level t ∙ sym (last_other k n t (λ e. omega arith))

pub levels_set : (k n : ℕ) → 0 < k → k ≤ 8 → at (set (replicate 8 0) (k - 1) n) ≡ last_levels k n
levels_set k n some few =
    fun_ext λ t.
    eq_or_not t (k - 1)
    (λ e. rw e (get_or-set_same (replicate 8 0) (k - 1) n 0 (omega arith) ∙ sym (last_here k n (k - 1) (omega arith))))
    (λ e. get_or-set_other (replicate 8 0) (k - 1) t n 0 e ∙ no_level t ∙ sym (last_other k n t (λ same. e (omega arith))))

-- ---- bounds

-- The faces of up to 4 axes, by one test that antt computes.
faces_at_most : ℕ → Bool
faces_at_most d = leb (all_faces d) 81

all_at_most : all faces_at_most 5 ≡ true
unfolding all faces_at_most all_faces sum_to faces choose
all_at_most = refl

pub all_faces_few : (d : ℕ) → d ≤ 4 → all_faces d ≤ 81
unfolding faces_at_most
all_faces_few d few = leb-true (all_faces d) 81 (all_at faces_at_most 5 all_at_most d (omega arith))

row_small : (d n f : ℕ) → d ≤ 4 → n ≤ 8 → f ≤ all_faces d → row d n f < 4398046511104
row_small d n f few top le =
    omega (arith, row_mono d n f (all_faces d) le, row_ends d n, all_layers d n, layers_small d n (suc d) few top (omega arith))

-- ---- the walk

pub record Laid (d n : ℕ) (list : List Face) (count start b r : ℕ) : Type 0 where
  pub places : length list ≡ 81
  pub counted : count ≡ sum_to (faces d) b + r
  pub reached : start ≡ row d n count
  pub each : (f : ℕ) → f < count → IsFace d n f (face_at list f)

pub laid_start : (d n : ℕ) (list : List Face) → length list ≡ 81 → Laid d n list 0 0 0 0
laid_start d n list long =
    record {
      places = long;
      counted = omega (arith, sum_to_zero (faces d));
      reached = sym (row_zero d n);
      each = λ f h. absurd (omega arith);
    }

-- From the last face with b border axes to the first with b + 1.
pub laid_layer : {d n : ℕ} {list : List Face} {count start b r : ℕ} → Laid d n list count start b r → r ≡ faces d b → Laid d n list count start (b + 1) 0
laid_layer {d} {b = b} laid last =
    record {
      places = laid.places;
      counted = rw add-one (omega (arith, laid.counted, last, sum_to_suc (faces d) b));
      reached = laid.reached;
      each = laid.each;
    }

module _ {d n : ℕ} {list : List Face} {count start b r : ℕ} (laid : Laid d n list count start b r) (le : b ≤ d) (lt : r < faces d b) where
  one_more : count < all_faces d
  one_more =
      omega (
        arith,
        laid.counted,
        sum_to_suc (faces d) b,
        sum_to_mono (faces d) (suc b) (suc d) (omega arith),
        all_faces_is d,
      )

  pub laid_few : d ≤ 4 → count < 81
  laid_few few = omega (arith, one_more, all_faces_few d few)

  borders_here : borders_of d count ≡ b
  borders_here = ap (borders_of d) laid.counted ∙ borders_of_is d b r le lt

  inner_here : d - b ≡ inner_of d count
  inner_here = ap (λ (c : ℕ). d - c) (sym borders_here) ∙ sym (inner_of_is d count)

  marks_here : mark_of d b r ≡ marks_of d count
  unfolding marks_of
  marks_here =
      ap₂ (mark_of d) (sym borders_here) (omega (arith, laid.counted, ap (sum_to (faces d)) borders_here))

  module _ {size : ℕ} (points_are : size ≡ points (d - b) n) where
    next_start : start + size ≡ row d n (suc count)
    next_start = omega (arith, laid.reached, points_are, ap (λ (k : ℕ). points k n) inner_here, row_suc d n count)

    pub laid_small : d ≤ 4 → n ≤ 8 → start + size < 4398046511104
    laid_small few top = omega (arith, next_start, row_small d n (suc count) few top one_more)

    -- The face that is laid.
    pub laid_step : (face : Face) → at face.marks ≡ mark_of d b r → at face.levels ≡ last_levels face.inner n → face.inner ≡ d - b → face.start ≡ start →
        d ≤ 4 → Laid d n (set list count face) (count + 1) (start + size) b (r + 1)
    laid_step face marks levels inner first few =
        let is : IsFace d n count face =
        record {
          marks = marks ∙ marks_here;
          levels = levels ∙ ap (λ (k : ℕ). last_levels k n) (inner ∙ inner_here);
          inner = inner ∙ inner_here;
          start = first ∙ laid.reached;
        } in
        record {
          places = length-set list count face ∙ laid.places;
          counted = omega (arith, laid.counted);
          reached = next_start ∙ ap (row d n) (sym (add-one count));
          each = λ f h.
              eq_or_not f count
              (λ e. rw (e, get_or-set_same list count face no_face (omega (arith, laid.places, laid_few few))) is)
              (λ e. rw (get_or-set_other list count f face no_face e) (laid.each f (omega arith)));
        }

-- Past the faces with d border axes all are laid.
pub laid_end : {d n : ℕ} {list : List Face} {count start b : ℕ} → Laid d n list count start b 0 → b ≡ suc d → count ≡ all_faces d
laid_end {d} laid last = omega (arith, laid.counted, all_faces_is d, ap (sum_to (faces d)) last)
