-- With a zero border, what lies beside a point inside is document 01's parent, of the same marks: nothing where the parent is the border.
-- Assumes nothing.
use mathlib.Core.Path.{◌≡◌, refl, ap, sym, ◌∙◌}
use mathlib.Core.Bool.{false}
use Prim.Native.Nat.{ℕ}
use Rattle.naturals.proofs.Cases.{true_or_false}
use Rattle.numbering.specs.declared.Side.{Side}
use Rattle.numbering.specs.Parent.{numerator, is_border, parent_level, parent_index, update, Neighbour, border, inner, parent}
use Rattle.numbering.proofs.Parents.{update_none, parent_border, parent_inner}
use Rattle.numbered.specs.Neighbours.{Place, nowhere, somewhere, beside}
use Rattle.numbered.proofs.Moves.{move_border, move_inner, across_none, beside_stop, beside_to}

-- Where a parent lies, of the marks m.
abbrev pub placed : (ℕ → ℕ) → Neighbour → Place
placed m border = nowhere
placed m (inner l i) = somewhere m l i

module _ (t : ℕ) (b : Side) (m l i : ℕ → ℕ) where
  abbrev up : ℕ
  up = numerator b (i t)

  pub beside_parent : m t ≡ 0 → beside false t b m l i ≡ placed m (parent t b l i)
  beside_parent inside =
      true_or_false (is_border (l t) up)
      (λ e.
      beside_stop false t b m l i (move_border false b (m t) (l t) (i t) inside e ∙ across_none false b refl)
      ∙ ap (placed m) (sym (parent_border t b l i e)))
      (λ e.
      beside_to false t b m l i 0 (parent_level (l t) up) (parent_index up) (move_inner false b (m t) (l t) (i t) inside e)
      ∙ ap (λ (a : ℕ → ℕ). somewhere a (update l t (parent_level (l t) up)) (update i t (parent_index up))) (update_none m t 0 inside)
      ∙ ap (placed m) (sym (parent_inner t b l i e)))
