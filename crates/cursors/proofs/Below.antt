-- Cursors at a level vector are the first numbers of the level vectors below it: as many of the raised ones come before it as level vectors come before the
-- lowered one.
-- Assumes nothing.
use mathlib.Core.List.{List}
use mathlib.Core.Path.{◌≡◌, ap, sym, ◌∙◌}
use Prim.Native.Nat.{ℕ, ◌+◌, ◌-◌, ◌*◌, ◌^◌, ◌≤◌, ◌<◌}
use native.Mathlib.Omega.{arith}
use Rattle.naturals.specs.Sum.{sum_to}
use Rattle.naturals.proofs.Sums.{term_le}
use Rattle.numbering.specs.Count.{start}
use Rattle.numbering.specs.Point.{at}
use Rattle.numbering.specs.Number.{rank, first_of}
use Rattle.numbering.specs.Parent.{update}
use Rattle.numbering.proofs.Subspaces.{first_is}
use Rattle.neighbours.specs.declared.subspaces.Subspace.{Subspace}
use Rattle.neighbours.specs.Steps.{Below}
use Rattle.neighbours.proofs.Seeing.{vector_of}
use Rattle.cursors.specs.Steps.{passed, Cursors}
use Rattle.cursors.proofs.Lowering.{sum_lowered, passed_lower}

-- The first number of a lowered level vector: where its sum starts, and then the points of the raised level vectors that are passed.
first_lowered : (d t s j : ℕ) (l : ℕ → ℕ) → t < d → sum_to l d ≡ s → j ≤ l t →
    start d (s - j) + 2 ^ (s - j) * passed d t s j (rank l d) ≡ first_of d (update l t (l t - j))
first_lowered d t s j l axis sum high =
    let low : j ≤ s = omega (arith, term_le l d t axis) in
    let m : ℕ → ℕ = update l t (l t - j) in
    ap (λ (r : ℕ). start d (s - j) + 2 ^ (s - j) * r) (passed_lower d t s j axis low l sum high)
    ∙ ap (λ (s : ℕ). start d s + 2 ^ s * rank m d) (sym (sum_lowered d t s j axis low l sum high))
    ∙ sym (first_is d m)

pub cursors_below : {v : Subspace} {cs : List ℕ} → Cursors v.facet v.vector.sum (rank (at v.vector.levels) v.facet.axes) cs → Below v cs
cursors_below {v} {cs} cursors =
    record { long = cursors.long; first = first }
  where
    first : (j : ℕ) → 1 ≤ j → j ≤ v.own → at cs j ≡ v.facet.base + first_of v.facet.axes (update (at v.vector.levels) v.facet.place (v.own - j))
    first j from to =
        let own : j ≤ at v.vector.levels v.facet.place = omega (arith, v.there) in
        omega (
          arith,
          cursors.first j from (omega (arith, (vector_of v).total, term_le (at v.vector.levels) v.facet.axes v.facet.place v.facet.inner)),
          first_lowered v.facet.axes v.facet.place v.vector.sum j (at v.vector.levels) v.facet.inner (vector_of v).total own,
          ap (λ (o : ℕ). first_of v.facet.axes (update (at v.vector.levels) v.facet.place (o - j))) (sym v.there),
        )
