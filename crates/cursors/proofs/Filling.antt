-- The starts of the level sums, and the cursors before the first and after the last level vector of a sum, as loops fill them in from the first place on.
-- Assumes nothing.
use mathlib.Core.List.{List}
use mathlib.Core.Path.{◌≡◌, ap, ◌∙◌}
use Prim.Native.Nat.{ℕ, suc, ◌+◌, ◌-◌, ◌*◌, ◌^◌, ◌≤◌, ◌<◌}
use native.Mathlib.Nat.{mul-zero}
use native.Mathlib.Omega.{arith}
use lib.ListN.{set, length-set}
use lib.Seq.{get_or-set_same, get_or-set_other}
use Rattle.naturals.proofs.Cases.{eq_or_not}
use Rattle.numbering.specs.Count.{vectors, start}
use Rattle.numbering.specs.Point.{at}
use Rattle.numbering.proofs.Numbering.{start_suc}
use Rattle.neighbours.specs.declared.facets.Facet.{Facet}
use Rattle.cursors.specs.declared.starts.Starts.{Starts}
use Rattle.cursors.specs.Steps.{Filled, passed, Cursors}
use Rattle.cursors.proofs.Lowering.{passed_none, passed_all}

pub fills : {value : ℕ → ℕ} {long a : ℕ} {list : List ℕ} (j v : ℕ) → Filled value long a j list → j < long → v ≡ value j →
    Filled value long a (j + 1) (set list j v)
fills {value} {long} {a} {list} j v filled inside e =
    record { size = length-set list j v ∙ filled.size; holds = holds }
  where
    holds : (i : ℕ) → a ≤ i → i < j + 1 → at (set list j v) i ≡ value i
    holds i from to =
        eq_or_not i j
        (λ same. rw same (get_or-set_same list j v 0 (omega (arith, filled.size)) ∙ e))
        (λ ne. get_or-set_other list j i v 0 ne ∙ filled.holds i from (omega arith))

-- ---- cursors

-- Cursor j where the first b level vectors of sum s are passed.
abbrev pub cursor_at : Facet → ℕ → ℕ → ℕ → ℕ
cursor_at facet s b j = facet.base + start facet.axes (s - j) + 2 ^ (s - j) * passed facet.axes facet.place s j b

-- The place of a sum is where the next list of cursor j is, before the first list; the one after it, after the last.
module _ (starts : Starts) (s j : ℕ) (low : s ≤ starts.facet.line.shape.level) (le : j ≤ s) where
  pub before_first : at starts.places (s + 0 - j) ≡ cursor_at starts.facet s 0 j
  before_first =
      let same : s + 0 - j ≡ s - j = omega arith in
      ap (at starts.places) same
      ∙ omega (
        arith,
        starts.first (s - j) (omega arith),
        ap (λ (r : ℕ). 2 ^ (s - j) * r) (passed_none starts.facet.axes starts.facet.place s j),
        mul-zero (2 ^ (s - j)),
      )

  pub after_last : at starts.places (s + 1 - j) ≡ cursor_at starts.facet s (vectors starts.facet.axes s) j
  after_last =
      let facet = starts.facet in
      let next : s + 1 - j ≡ suc (s - j) = omega arith in
      ap (at starts.places) next
      ∙ starts.first (suc (s - j)) (omega arith)
      ∙ omega (arith, start_suc facet.axes (s - j), ap (λ (r : ℕ). 2 ^ (s - j) * r) (passed_all facet.axes facet.place s j facet.inner le))

-- Cursors that are filled in from the places, each `past` after the start of its sum, are those where b level vectors of the sum are passed, if each is.
pub cursors_filled : (starts : Starts) (s past b : ℕ) {list : List ℕ} → s ≤ starts.facet.line.shape.level →
    ((j : ℕ) → j ≤ s → at starts.places (s + past - j) ≡ cursor_at starts.facet s b j) →
    Filled (λ j. at starts.places (s + past - j)) 9 1 (suc s) list → Cursors starts.facet s b list
cursors_filled starts s past b low is filled =
    record { low = low; long = filled.size; first = λ j from to. filled.holds j from (omega arith) ∙ is j to }
