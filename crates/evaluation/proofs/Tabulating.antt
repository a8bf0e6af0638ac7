-- What tables of hats give: for the marks and a level list of a face each axis has the hat of its mark, level and coordinate, inside and on a border; such hats are
-- bounded.
-- Assumes nothing.
use mathlib.Core.List.{List, []}
use mathlib.Core.Path.{◌≡◌, refl, ap, sym, subst, ◌∙◌}
use Prim.Native.Nat.{ℕ, ◌≤◌, ◌<◌}
use native.Mathlib.Omega.{arith}
use lib.Dec.{ltb}
use lib.ListN.{take}
use mir.Val.{bool_byte}
use Rattle.std.proofs.lemmas.List.{get_or-take}
use Rattle.naturals.specs.Sum.{sum_to}
use Rattle.naturals.proofs.Cases.{eq_or_not}
use Rattle.naturals.proofs.Sums.{term_le}
use Rattle.numbered.specs.Numbered.{unmarked}
use Rattle.surfaces.specs.Weights.{unit, weight, axis_weight}
use Rattle.surfaces.proofs.AxisHat.{weight_inside, axis_weight_le}
use Rattle.axis_weights.specs.Steps.{cell_of, marked_cell, index_of_cell}
use Rattle.axis_weights.proofs.Weighing.{marked_cell_inside, marked_cell_border, marked_cell_below}
use Rattle.evaluation.specs.declared.Hat.{Hat}
use Rattle.evaluation.specs.Steps.{hat_weight, hat_at, hats_of, hats_on, AxisHats, Tabulated, MarkedTable, Bounded}
use Rattle.evaluation.proofs.Bits.{bit_byte, bit_small}

-- A hat from its parts: inside, and on a border.
pub hat_inside : (x l : ℕ) {cell above weight' : ℕ} → cell ≡ cell_of x l → weight' ≡ weight unit x l (index_of_cell cell) →
    above ≡ bool_byte (ltb 0 weight') → record { cell = cell; above = above; weight = weight' } ≡ hat_at x 0 l
hat_inside x l {cell} {above} {weight'} ec ew ea =
    let same_cell : cell ≡ marked_cell x 0 l = ec ∙ sym (marked_cell_inside x 0 l refl) in
    let same : weight' ≡ hat_weight x 0 l =
    ew ∙ ap (λ (k : ℕ). weight unit x l (index_of_cell k)) same_cell ∙ sym (weight_inside unit x l (index_of_cell (marked_cell x 0 l)) 0 refl) in
    rw (ea, same, same_cell, bit_byte (ltb 0 (hat_weight x 0 l))) refl

pub hat_on_border : (x a : ℕ) {above weight' : ℕ} → 1 ≤ a → weight' ≡ axis_weight unit x a 0 1 → above ≡ bool_byte (ltb 0 weight') →
    record { cell = 0; above = above; weight = weight' } ≡ hat_at x a 0
hat_on_border x a some ew ea =
    rw (marked_cell_border x a 0 some, ea, ew, bit_byte (ltb 0 (axis_weight unit x a 0 1))) refl

-- Each axis has the hat of its coordinate, mark and level.
abbrev pub HatsAt : (ℕ → ℕ) → (ℕ → ℕ) → (ℕ → ℕ) → ℕ → (ℕ → Hat) → Type 0
HatsAt x m l d h = (t : ℕ) → t < d → h t ≡ hat_at (x t) (m t) (l t)

pub hats_bounded : {x : ℕ → ℕ} (m : ℕ → ℕ) {l : ℕ → ℕ} {d : ℕ} {h : ℕ → Hat} → d ≤ 8 → sum_to l d ≤ 8 → ((t : ℕ) → t < d → x t ≤ unit) →
    HatsAt x m l d h → Bounded h l d
hats_bounded {x} m {l} few low inside hats =
    record {
      few = few;
      levels = low;
      weight = λ t lt.
          rw (ap (λ (g : Hat). g.weight) (hats t lt))
          (axis_weight_le unit (x t) (l t) (index_of_cell (marked_cell (x t) (m t) (l t))) (m t) (λ marked. inside t lt));
      cell = λ t lt. rw (ap (λ (g : Hat). g.cell) (hats t lt)) (marked_cell_below (x t) (m t) (l t));
      above = λ t lt. rw (ap (λ (g : Hat). g.above) (hats t lt)) (bit_small (ltb 0 (hat_weight (x t) (m t) (l t))));
    }

-- ---- inside on every axis

pub tabulated_front : {x : ℕ → ℕ} {d : ℕ} {hats : List (List Hat)} → Tabulated x d hats → Tabulated x d (take d hats)
tabulated_front {x} {d} {hats} table =
    record { axis = λ t h. subst (AxisHats (x t)) (sym (get_or-take d hats t [] h)) (table.axis t h) }

pub tabulated_hats : {x : ℕ → ℕ} {d : ℕ} {hats : List (List Hat)} → Tabulated x d hats → (l : ℕ → ℕ) → sum_to l d ≤ 8 →
    HatsAt x unmarked l d (hats_of hats l)
tabulated_hats {d = d} table l low t h = table.axis t h (l t) (omega (arith, low, term_le l d t h))

-- ---- by mark

pub marked_hats : {x : ℕ → ℕ} {d : ℕ} {hats : List (List (List Hat))} → MarkedTable x d hats → (m l : ℕ → ℕ) → sum_to l d ≤ 8 →
    ((t : ℕ) → t < d → m t ≤ 2) → ((t : ℕ) → t < d → 0 < m t → l t ≡ 0) → HatsAt x m l d (hats_on hats m l)
marked_hats {x} {d} {hats} table m l low marks border t h =
    eq_or_not (m t) 0
    (λ e. rw e ((table.axis t h).inside (l t) (omega (arith, low, term_le l d t h))))
    (λ ne. rw (border t h (omega arith)) ((table.axis t h).border (m t) (omega arith) (marks t h)))
