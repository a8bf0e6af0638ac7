-- `Facet::of_face` meets its contract: the face of the layout is the one that `Faced` speaks of.
-- Assumes nothing.
use mathlib.Core.Path.{◌≡◌, refl, ap, ap₂, sym, ◌∙◌}
use Prim.Native.Nat.{ℕ, ◌+◌, ◌-◌, ◌*◌, ◌≤◌, ◌<◌}
use native.Mathlib.Omega.{arith}
use Rattle.numbering.specs.Point.{at}
use Rattle.naturals.proofs.Cases.{eq_or_not}
use Rattle.numbering.specs.Count.{points}
use Rattle.numbering.specs.Parent.{update}
use Rattle.numbering.proofs.Parents.{update_same, update_other}
use Rattle.faces.specs.Faces.{faces, borders}
use Rattle.faces.specs.Marked.{face_start}
use Rattle.faces.specs.Row.{all_faces, marks_of}
use Rattle.faces.proofs.Packing.{before_borders, place_lt}
use Rattle.faces.proofs.Row.{mark_of_low, inner_of_marks, face_inside}
use Rattle.layouts.proofs.Upper.{upper_start}
use Rattle.shapes.specs.Shapes.{most_axes}
use Rattle.shapes.proofs.Layers.{points_bordered}
use Rattle.layouts.specs.Layouts.{IsFace}
use Rattle.neighbours.proofs.Faced.{faced_by, placed_by, few_inner}
use Rattle.neighbours.proofs.facets.Facet.of_face.Goals.{After-face-face, After-inner_before-place, After-lower_to_upper}
use Rattle.neighbours.proofs.facets.Facet.of_face.Goals as goal

-- it is face number f
is_face : (c : After-face-face) → IsFace c.args.line.shape.axes c.args.line.shape.level c.args.f c.face-face.result
is_face c = rw (c.requires.1, c.requires.2) at c.face-face.ensures

in_row : (c : After-face-face) → c.args.f < all_faces c.args.line.shape.axes
in_row c = omega (arith, c.requires.3, c.args.layout.now.all, ap all_faces c.requires.1)

few : (c : After-face-face) → c.args.line.shape.axes ≤ 4
few c = omega (arith, c.args.line.most, ap most_axes c.requires.0)

low : (c : After-face-face) → (t : ℕ) → at c.face-face.result.marks t ≤ 2
low c t = omega (arith, ap (λ (m : ℕ → ℕ). m t) (is_face c).marks, mark_of_low c.args.line.shape.axes c.args.f t)

-- its mark on the axis
mark_is : (c : After-face-face) → at c.face-face.result.marks c.args.line.place ≡ marks_of c.args.line.shape.axes c.args.f c.args.line.place
mark_is c = ap (λ (m : ℕ → ℕ). m c.args.line.place) (is_face c).marks

pub offset_bounds-face-line : goal.offset_bounds-face-line
offset_bounds-face-line c = omega (arith, c.args.line.axis, c.args.line.few)

pub bounds-face-line : goal.bounds-face-line
bounds-face-line c = omega (arith, c.args.line.axis, c.args.line.few)

pub returns-then-face-line-ne0 : goal.returns-then-face-line-ne0
returns-then-face-line-ne0 c =
    let seen = (goal.at.returns-then-face-line-ne0 c).After-face-face in
    omega (arith, mark_is seen, c.if-face-line-ne0.true)

-- the axis is an inner one
inner_there : (c : After-inner_before-place) → at c.face-face.result.marks c.args.line.place ≡ 0
inner_there c = c.if-face-line-ne0.false

pub lower_rim-lower-requires : goal.lower_rim-lower-requires
lower_rim-lower-requires c =
    let seen = (goal.at.lower_rim-lower-requires c).After-face-face in
    (few seen, λ t h. low seen t)

-- ---- the upper border

-- of the inner axes some come before the axis, and the others before it are border axes
before_axis : (c : After-inner_before-place) → c.inner_before-place.result + borders (at c.face-face.result.marks) c.args.line.place ≡ c.args.line.place
before_axis c = omega (arith, c.inner_before-place.ensures, before_borders (at c.face-face.result.marks) c.args.line.place)

-- it is one of the inner axes
inner_is : (c : After-inner_before-place) → c.face-face.result.inner ≡ c.args.line.shape.axes - borders (at c.face-face.result.marks) c.args.line.shape.axes
inner_is c =
    let seen = (goal.at.After-inner_before-place c).After-face-face in
    let d = c.args.line.shape.axes in
    (is_face seen).inner ∙ sym (inner_of_marks d c.args.line.shape.level c.args.f (in_row seen)) ∙ ap (λ (m : ℕ → ℕ). d - borders m d) (sym (is_face seen).marks)

some_inner : (c : After-inner_before-place) → 1 ≤ c.face-face.result.inner
some_inner c =
    omega (
      arith,
      inner_is c,
      place_lt (at c.face-face.result.marks) c.args.line.shape.axes c.args.line.place c.args.line.axis (inner_there c),
    )

pub overflow_sub-line : goal.overflow_sub-line
overflow_sub-line c = omega (arith, before_axis (goal.at.overflow_sub-line c).After-inner_before-place)

pub overflow_sub-face : goal.overflow_sub-face
overflow_sub-face c = some_inner (goal.at.overflow_sub-face c).After-inner_before-place

pub lower_to_upper-requires : goal.lower_to_upper-requires
lower_to_upper-requires c =
    let seen = goal.at.lower_to_upper-requires c in
    let four = few seen.After-face-face in (
      omega (arith, c.args.line.axis, four),
      omega arith,
      omega (arith, inner_is seen.After-inner_before-place, four),
      c.args.line.top,
    )

upper_is : (c : After-lower_to_upper) →
    c.lower_rim-lower.result + c.lower_to_upper.result
    ≡ face_start c.args.line.shape.axes c.args.line.shape.level (update (at c.face-face.result.marks) c.args.line.place 2)
upper_is c =
    let seen = (goal.at.After-lower_to_upper c).After-inner_before-place in
    let m : ℕ → ℕ = at c.face-face.result.marks in
    let s = c.args.line.shape in
    let t : ℕ = c.args.line.place in
    let between : c.lower_to_upper.result ≡ points (s.axes - borders m s.axes - 1) s.level * faces t (borders m t)
    = c.lower_to_upper.ensures
    ∙ ap₂ (λ (k b : ℕ). points k s.level * faces t b) (ap (λ (k : ℕ). k - 1) (inner_is seen)) (omega (arith, before_axis seen))
    in
    omega (arith, c.lower_rim-lower.ensures, between, upper_start m t s.axes s.level c.args.line.axis (inner_there seen))

pub overflow_add-upper : goal.overflow_add-upper
overflow_add-upper c =
    let seen = goal.at.overflow_add-upper c in
    let s = c.args.line.shape in
    let marks : (t : ℕ) → t < s.axes → update (at c.face-face.result.marks) c.args.line.place 2 t ≤ 2
    = λ t h.
    eq_or_not t c.args.line.place
    (λ e. rw e (omega (arith, update_same (at c.face-face.result.marks) c.args.line.place 2)))
    (λ ne. omega (arith, update_other (at c.face-face.result.marks) c.args.line.place 2 t ne, low seen.After-face-face t))
    in
    record {
      fits = omega (
        arith,
        upper_is seen.After-lower_to_upper,
        face_inside s.axes s.level (update (at c.face-face.result.marks) c.args.line.place 2) marks,
        points_bordered s c.requires.0,
        c.args.line.small,
      );
    }

pub invariant_of-result : goal.invariant_of-result
invariant_of-result c =
    let seen = (goal.at.invariant_of-result c).After-face-face in
    let inside : marks_of c.args.line.shape.axes c.args.f c.args.line.place ≡ 0 = sym (mark_is seen) ∙ c.if-face-line-ne0.false in
    record {
      few = few_inner c.args.line c.requires.0 c.args.f (in_row seen) inside c.face-face.result (is_face seen);
      inner =
          placed_by c.args.line c.requires.0 c.args.f (in_row seen) inside c.face-face.result (is_face seen) c.inner_before-place.result
          c.inner_before-place.ensures;
      sits =
          faced_by c.args.line c.requires.0 c.args.f (in_row seen) inside c.face-face.result (is_face seen)
          c.inner_before-place.result c.lower_rim-lower.result (c.lower_rim-lower.result + c.lower_to_upper.result)
          c.inner_before-place.ensures c.lower_rim-lower.ensures (upper_is (goal.at.invariant_of-result c).After-lower_to_upper);
    }

pub returns : goal.returns
returns c =
    let seen = (goal.at.returns c).After-face-face in
    (sym (mark_is seen) ∙ c.if-face-line-ne0.false, refl, (is_face seen).inner, (is_face seen).start)
