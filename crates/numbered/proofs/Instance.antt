-- Numbered points are a grid, with a zero border or with values on it: their neighbours are points or none, the depth falls, and axes commute. From the laws of
-- moves and parents, since numbers and points undo each other. So numbers of the same marks, levels and indices are one.
-- Assumes nothing.
use mathlib.Core.Path.{◌≡◌, refl, ap, ap₂, sym, ◌∙◌}
use mathlib.Core.Bool.{true, false}
use Prim.Native.Nat.{ℕ, zero, suc, ◌≤◌, ◌<◌}
use native.Mathlib.Omega.{arith}
use Rattle.naturals.proofs.Cases.{le_or_lt, eq_or_not, true_or_false}
use Rattle.numbering.specs.declared.Side.{Side}
use Rattle.numbering.specs.Parent.{numerator, is_border, parent_level, parent_index, update}
use Rattle.numbering.proofs.Parents.{inside, level_falls, update_same, update_none}
use Rattle.hierarchy.specs.Grid.{Still, Grid}
use Rattle.numbered.specs.Numbered.{mark_of, Numbered, Numbering}
use Rattle.numbered.specs.Neighbours.{Place, nowhere, somewhere, beside, beyond, code_of, neighbour, deep, depth}
use Rattle.numbered.proofs.Moves.{move_still, move_border, move_inner, across_some, across_none, mark_pos, deep_inner, deep_border, beside_stop, beside_to, beyond_nowhere, beyond_somewhere, moves_commute}
use Rattle.numbered.proofs.Beside.{code_nowhere, code_somewhere, neighbour_border, neighbour_at, neighbour_past, neighbour_no_axis, numerator_on, across_marks, across_levels, across_indices, still_there, to_parent, to_across, none_or_point, parent_there, across_there}

module _ {g : Numbered} {Point : (ℕ → ℕ) → (ℕ → ℕ) → (ℕ → ℕ) → Type 0} (n : Numbering g Point) where
  -- ---- numbers

  -- Numbers of the same marks, levels and indices are one.
  pub same_point : (p q : ℕ) → p < g.count → q < g.count → ((t : ℕ) → t < g.axes → g.mark p t ≡ g.mark q t) →
      ((t : ℕ) → t < g.axes → g.level p t ≡ g.level q t) → ((t : ℕ) → t < g.axes → g.index p t ≡ g.index q t) → p ≡ q
  same_point p q p_in q_in marks levels indices =
      sym (n.number_at p p_in) ∙ n.one_number (n.point_at p p_in) (n.point_at q q_in) marks levels indices ∙ n.number_at q q_in

  -- The neighbour and the depth of a point's number are those of the point.
  neighbour_number : (t : ℕ) (b : Side) {m l i : ℕ → ℕ} → Point m l i → t < g.axes →
      neighbour g t b (suc (g.number m l i)) ≡ code_of g (beside g.border t b m l i)
  neighbour_number t b {m} {l} {i} x axis =
      neighbour_at g t b (g.number m l i) (n.number_lt x) axis
      ∙ ap (λ (a : ℕ → ℕ). code_of g (beside g.border t b a (g.level (g.number m l i)) (g.index (g.number m l i)))) (n.marks_again x)
      ∙ ap₂ (λ (k j : ℕ → ℕ). code_of g (beside g.border t b m k j)) (n.levels_again x) (n.indices_again x)

  depth_at : (t p : ℕ) → depth g t (suc p) ≡ deep (g.mark p t) (g.level p t)
  unfolding depth
  depth_at t p = refl

  depth_number : (t : ℕ) {m l i : ℕ → ℕ} → Point m l i → depth g t (suc (g.number m l i)) ≡ deep (m t) (l t)
  depth_number t {m} {l} {i} x =
      depth_at t (g.number m l i) ∙ ap₂ (λ (a k : ℕ → ℕ). deep (a t) (k t)) (n.marks_again x) (n.levels_again x)

  -- ---- axes commute

  -- What lies beside a point is nothing or a point.
  data Lies : Place → Type 0 where
    no_lies : Lies nowhere
    point_lies : {m l i : ℕ → ℕ} → Point m l i → Lies (somewhere m l i)

  lies : (t : ℕ) (b : Side) {m l i : ℕ → ℕ} → Point m l i → t < g.axes → Lies (beside g.border t b m l i)
  lies t b {m} {l} {i} x axis =
      eq_or_not (m t) 0
      (λ inner.
      true_or_false (is_border (l t) (numerator b (i t)))
      (λ e.
      true_or_false g.border
      (λ on.
      rw (beside_to g.border t b m l i (mark_of b) 0 1 (move_border g.border b (m t) (l t) (i t) inner e ∙ across_some g.border b on))
      (point_lies (n.across_there x t b axis on inner)))
      (λ off. rw (beside_stop g.border t b m l i (move_border g.border b (m t) (l t) (i t) inner e ∙ across_none g.border b off)) no_lies))
      (λ e.
      rw (
        beside_to g.border t b m l i 0 (parent_level (l t) (numerator b (i t))) (parent_index (numerator b (i t))) (move_inner g.border b (m t) (l t) (i t) inner e),
        update_none m t 0 inner,
      )
      (point_lies (n.parent_there x t b axis inner e))))
      (λ marked. rw (beside_stop g.border t b m l i (move_still g.border b (m t) (l t) (i t) (omega arith))) no_lies)

  -- The neighbour of what lies beside a point.
  beyond_code : (t : ℕ) (b : Side) (x : Place) → Lies x → t < g.axes → neighbour g t b (code_of g x) ≡ code_of g (beyond g.border t b x)
  beyond_code t b nowhere no_lies axis = rw (beyond_nowhere g.border t b, code_nowhere g) (neighbour_border g t b)
  beyond_code t b (somewhere m l i) (point_lies x) axis = rw (beyond_somewhere g.border t b m l i, code_somewhere g) (neighbour_number t b x axis)

  inner_commute : (t s : ℕ) (b c : Side) (p : ℕ) → (t ≡ s → ⊥) → t < g.axes → s < g.axes →
      neighbour g t b (neighbour g s c p) ≡ neighbour g s c (neighbour g t b p)
  inner_commute t s b c zero ne axis other =
      ap (neighbour g t b) (neighbour_border g s c)
      ∙ neighbour_border g t b
      ∙ sym (ap (neighbour g s c) (neighbour_border g t b) ∙ neighbour_border g s c)
  inner_commute t s b c (suc p) ne axis other =
      le_or_lt g.count p
      (λ past.
      ap (neighbour g t b) (neighbour_past g s c p past)
      ∙ neighbour_border g t b
      ∙ sym (ap (neighbour g s c) (neighbour_past g t b p past) ∙ neighbour_border g s c))
      (λ h.
      ap (neighbour g t b) (neighbour_at g s c p h other)
      ∙ beyond_code t b _ (lies s c (n.point_at p h) other) axis
      ∙ ap (code_of g) (moves_commute g.border t s b c (g.mark p) (g.level p) (g.index p) ne)
      ∙ sym (ap (neighbour g s c) (neighbour_at g t b p h axis) ∙ beyond_code s c _ (lies t b (n.point_at p h) axis) other))

  commutes : (t s : ℕ) (b c : Side) (p : ℕ) → (t ≡ s → ⊥) → neighbour g t b (neighbour g s c p) ≡ neighbour g s c (neighbour g t b p)
  commutes t s b c p ne =
      le_or_lt g.axes t
      (λ past.
      neighbour_no_axis g t b (neighbour g s c p) past
      ∙ sym (ap (neighbour g s c) (neighbour_no_axis g t b p past) ∙ neighbour_border g s c))
      (λ axis.
      le_or_lt g.axes s
      (λ past.
      ap (neighbour g t b) (neighbour_no_axis g s c p past)
      ∙ neighbour_border g t b
      ∙ sym (neighbour_no_axis g s c (neighbour g t b p) past))
      (λ other. inner_commute t s b c p ne axis other))

  -- ---- neighbours are points or none, less deep

  past_points : (t : ℕ) (b : Side) (p : ℕ) → g.count < p → neighbour g t b p ≡ 0
  past_points t b zero h = absurd (omega arith)
  past_points t b (suc p) h = neighbour_past g t b p (omega arith)

  in_points : (t : ℕ) (b : Side) (p : ℕ) → neighbour g t b p ≤ g.count
  in_points t b zero = omega (arith, neighbour_border g t b)
  in_points t b (suc p) =
      none_or_point g t b p
      (λ none. omega arith)
      (λ h axis inner e. omega (arith, to_parent g t b p h axis inner e, n.number_lt (parent_there n t b p h axis inner e)))
      (λ h axis inner e on. omega (arith, to_across g t b p h axis inner e on, n.number_lt (across_there n t b p h axis inner on)))

  parent_shallower : (t : ℕ) (b : Side) (p : ℕ) → p < g.count → t < g.axes → g.mark p t ≡ 0 →
      is_border (g.level p t) (numerator_on g t b p) ≡ false → depth g t (neighbour g t b (suc p)) < depth g t (suc p)
  parent_shallower t b p h axis inner e =
      let x = n.point_at p h in
      rw (to_parent g t b p h axis inner e)
      (omega (
        arith,
        depth_number t (parent_there n t b p h axis inner e),
        depth_at t p,
        deep_inner (g.mark p t) (g.level p t) inner,
        deep_inner (g.mark p t) (update (g.level p) t (parent_level (g.level p t) (numerator_on g t b p)) t) inner,
        update_same (g.level p) t (parent_level (g.level p t) (numerator_on g t b p)),
        level_falls (g.level p t) (numerator_on g t b p) (inside b (g.level p t) (g.index p t) (n.odd x t axis) (n.below x t axis) e),
      ))

  across_shallower : (t : ℕ) (b : Side) (p : ℕ) → p < g.count → t < g.axes → g.mark p t ≡ 0 →
      is_border (g.level p t) (numerator_on g t b p) ≡ true → g.border ≡ true → depth g t (neighbour g t b (suc p)) < depth g t (suc p)
  across_shallower t b p h axis inner e on =
      rw (to_across g t b p h axis inner e on)
      (omega (
        arith,
        depth_number t (across_there n t b p h axis inner on),
        depth_at t p,
        deep_inner (g.mark p t) (g.level p t) inner,
        deep_border (update (g.mark p) t (mark_of b) t) (update (g.level p) t 0 t) (omega (arith, update_same (g.mark p) t (mark_of b), mark_pos b)),
      ))

  -- What lies across the border does not move on the axis.
  pub across_still : (t : ℕ) (b : Side) (p : ℕ) → p < g.count → t < g.axes → g.mark p t ≡ 0 → is_border (g.level p t) (numerator_on g t b p) ≡ true →
      g.border ≡ true → Still (neighbour g) t (neighbour g t b (suc p))
  across_still t b p h axis inner e on c =
      let x = across_there n t b p h axis inner on in
      ap (neighbour g t c) (to_across g t b p h axis inner e on)
      ∙ still_there g t c (g.number (across_marks g t b p) (across_levels g t b p) (across_indices g t b p)) (n.number_lt x) axis
      (omega (arith, ap (λ (m : ℕ → ℕ). m t) (n.marks_again x), update_same (g.mark p) t (mark_of b), mark_pos b))

  shallower : (t : ℕ) (b : Side) (p : ℕ) → (neighbour g t b p ≡ 0 → ⊥) → depth g t (neighbour g t b p) < depth g t p
  shallower t b zero some = absurd (some (neighbour_border g t b))
  shallower t b (suc p) some =
      none_or_point g t b p (λ none. absurd (some none)) (parent_shallower t b p) (across_shallower t b p)

  pub numbered_grid : Grid g.count (neighbour g) (depth g)
  numbered_grid =
      record {
        border = neighbour_border g;
        past = past_points;
        within = in_points;
        falls = shallower;
        commute = commutes;
      }
