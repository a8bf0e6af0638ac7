-- The sums on a line determine the values on it. A hat function is linear between the neighbours of a point but at the point itself, so twice the sum at a point
-- less the sums at its two neighbours, which lie on the line or are the border, is its own value times twice the unit.
-- Assumes nothing.
use mathlib.Core.Path.{◌≡◌, refl, ap₂, sym, ◌∙◌}
use mathlib.Core.Logic.{⊎_elim}
use mathlib.Core.Bool.{true, false, true≢false}
use Prim.Native.Nat.{ℕ, zero, suc, ◌+◌, ◌*◌, ◌<◌}
use native.Mathlib.Nat.{one-mul, zero-mul}
use native.Mathlib.Omega.{arith}
use lib.Dec.{eqb}
use Rattle.std.proofs.lemmas.Int.{ints}
use lib.IntN.{ℤ, pos, ◌+ℤ◌, ◌*ℤ◌}
use borrow.Author.Tests.{eq-eqb, ne_eqb}
use Rattle.naturals.proofs.Cases.{eq_or_not, true_or_false}
use Rattle.integers.proofs.Products.{times_cancel}
use Rattle.numbering.specs.declared.Side.{Side}
use Rattle.numbering.specs.declared.Side.TheVariants.{Left, Right}
use Rattle.shapes.specs.declared.Shape.{Shape}
use Rattle.shapes.specs.Shapes.{points_of}
use Rattle.grids.specs.Grids.{numbered, neighbour}
use Rattle.interpolation.specs.Weighted.{weighted_sum}
use Rattle.interpolation.specs.Hats.{indicator}
use Rattle.interpolation.proofs.Weighted.{weighted_sum_cong, weighted_sum_none, weighted_sum_plus, weighted_sum_one}
use Rattle.surfaces.specs.Weights.{unit}
use Rattle.surfaces.specs.Lines.{on_line, line_weight, line_sum}
use Rattle.surfaces.proofs.Unit.{unit_bits, unit_pos}
use Rattle.surfaces.proofs.Instance.{grid_weight, grid_same, hats}
use Rattle.turns.proofs.Lines.{OnLine, itself, other_way, along, neighbour_on_line}
use Rattle.through_rates.proofs.OneLine.{same_on_lem, on_line_means, on_line_where}

module _ (s : Shape) (few : s.level < unit_bits) (t : ℕ) (axis : t < s.axes) where
  -- The weight on a line at a code: 0 at the border.
  unfoldable weight_at : ℕ → ℕ → ℕ
  weight_at zero p = 0
  weight_at (suc q) p = line_weight s t q p

  -- ---- one point and one other

  on_weight : (p q : ℕ) → on_line s t p q ≡ true → weight_at (suc q) p ≡ grid_weight unit (numbered s) t p (suc q)
  unfolding weight_at line_weight grid_weight
  on_weight p q e = rw e

  off_weight : (p q : ℕ) → on_line s t p q ≡ false → weight_at (suc q) p ≡ 0
  unfolding weight_at line_weight
  off_weight p q e = rw e

  border_weight : (p : ℕ) → weight_at 0 p ≡ 0
  unfolding weight_at
  border_weight p = refl

  -- A neighbour's line is the point's.
  neighbour_weight : (b : Side) (p q : ℕ) → q < points_of s → on_line s t p q ≡ true → weight_at (neighbour s t b (suc q)) p ≡ grid_weight unit (numbered s) t p (neighbour s t b (suc q))
  neighbour_weight b p q h e =
      ⊎_elim
      (λ border. rw border (border_weight p ∙ sym ((hats s few).none t p)))
      (λ beside.
      let there = on_line_where s t p beside.point (along s t beside.point q p (other_way s t q beside.point beside.line) (on_line_means s t p q e)) in
      rw beside.coded (on_weight p beside.point there))
      (neighbour_on_line s t axis b q h)

  neighbour_none : (b : Side) (p q : ℕ) → q < points_of s → on_line s t p q ≡ false → weight_at (neighbour s t b (suc q)) p ≡ 0
  neighbour_none b p q h e =
      ⊎_elim
      (λ border. rw border (border_weight p))
      (λ beside.
      let r = beside.point in
      let gone : on_line s t p r ≡ false =
      true_or_false (on_line s t p r)
      (λ there. absurd (true≢false (sym (on_line_where s t p q (along s t q r p beside.line (on_line_means s t p r there))) ∙ e)))
      (λ out. out) in
      rw beside.coded (off_weight p r gone))
      (neighbour_on_line s t axis b q h)

  -- On a line two points that are the same on its axis are one.
  all_same : (p q : ℕ) → on_line s t p q ≡ true → grid_same (numbered s) t p (suc q) ≡ true → (u : ℕ) → u < s.axes → grid_same (numbered s) u p (suc q) ≡ true
  unfolding grid_same
  all_same p q e agree u lt = eq_or_not u t (λ same. rw same agree) (λ ne. same_on_lem s t p q e u lt ne)

  same_is_one : (p q : ℕ) → p < points_of s → q < points_of s → on_line s t p q ≡ true → grid_same (numbered s) t p (suc q) ≡ eqb p q
  same_is_one p q p_in q_in e =
      eq_or_not p q
      (λ same. rw same ((hats s few).itself t q axis q_in ∙ sym (eq-eqb q q refl)))
      (λ other.
      true_or_false (grid_same (numbered s) t p (suc q))
      (λ agree. absurd (other ((hats s few).one_point p q p_in q_in (all_same p q e agree))))
      (λ differ. differ ∙ sym (ne_eqb p q other)))

  hat_on_line : (p q : ℕ) → p < points_of s → q < points_of s →
      weight_at (suc q) p + weight_at (suc q) p
      ≡ weight_at (neighbour s t Left (suc q)) p + weight_at (neighbour s t Right (suc q)) p + indicator (eqb p q) * (unit + unit)
  hat_on_line p q p_in q_in =
      true_or_false (on_line s t p q)
      (λ e.
      rw (on_weight p q e, neighbour_weight Left p q q_in e, neighbour_weight Right p q q_in e, ← same_is_one p q p_in q_in e)
      ((hats s few).hat t p q axis p_in q_in))
      (λ e.
      let other : p ≡ q → ⊥ = λ same. true≢false (sym (on_line_where s t p q (rw same (itself s t q))) ∙ e) in
      rw (off_weight p q e, neighbour_none Left p q q_in e, neighbour_none Right p q q_in e, ne_eqb p q other) (omega (arith, zero-mul (unit + unit))))

  -- ---- sums

  unfoldable sum_at : (ℕ → ℤ) → ℕ → ℤ
  sum_at g code = weighted_sum (points_of s) g (weight_at code)

  sum_there : (g : ℕ → ℤ) (q : ℕ) → sum_at g (suc q) ≡ line_sum s t g q
  unfolding sum_at line_sum weight_at
  sum_there g q = weighted_sum_cong (points_of s) g _ _ (λ p h. refl)

  sum_border : (g : ℕ → ℤ) → sum_at g 0 ≡ pos 0
  unfolding sum_at
  sum_border g = weighted_sum_none (points_of s) g (weight_at 0) (λ p h. border_weight p)

  -- Twice the sum at a point: the sums at its neighbours, and its own value times twice the unit.
  twice_sum : (g : ℕ → ℤ) (q : ℕ) → q < points_of s →
      sum_at g (suc q) +ℤ sum_at g (suc q)
      ≡ sum_at g (neighbour s t Left (suc q)) +ℤ sum_at g (neighbour s t Right (suc q)) +ℤ g (suc q) *ℤ pos (unit + unit)
  unfolding sum_at
  twice_sum g q q_in =
      let m = points_of s in
      let here = weight_at (suc q) in
      let left = weight_at (neighbour s t Left (suc q)) in
      let right = weight_at (neighbour s t Right (suc q)) in
      let own : ℕ → ℕ = λ p. indicator (eqb p q) * (unit + unit) in
      sym (weighted_sum_plus m g here here)
      ∙ weighted_sum_cong m g (λ p. here p + here p) (λ p. left p + right p + own p) (λ p p_in. hat_on_line p q p_in q_in)
      ∙ weighted_sum_plus m g (λ p. left p + right p) own
      ∙ ap₂ ◌+ℤ◌ (weighted_sum_plus m g left right)
      (weighted_sum_one m g own q q_in (λ p p_in other. rw (ne_eqb p q other) (zero-mul (unit + unit)))
      ∙ rw (eq-eqb q q refl, one-mul (unit + unit)))

  -- The value at a point is found from the sums on its line.
  pub line_determines : (g h : ℕ → ℤ) (q : ℕ) → q < points_of s →
      ((r : ℕ) → r < points_of s → OnLine s t q r → line_sum s t g r ≡ line_sum s t h r) → g (suc q) ≡ h (suc q)
  line_determines g h q q_in same =
      let beside : (b : Side) → sum_at g (neighbour s t b (suc q)) ≡ sum_at h (neighbour s t b (suc q)) =
      λ b.
      ⊎_elim
      (λ border. rw border (sum_border g ∙ sym (sum_border h)))
      (λ r. rw r.coded (sum_there g r.point ∙ same r.point r.below r.line ∙ sym (sum_there h r.point)))
      (neighbour_on_line s t axis b q q_in) in
      let here : sum_at g (suc q) ≡ sum_at h (suc q) = sum_there g q ∙ same q q_in (itself s t q) ∙ sym (sum_there h q) in
      times_cancel (g (suc q)) (h (suc q)) (unit + unit) (omega (arith, unit_pos))
      (omega (arith, ints, twice_sum g q q_in, twice_sum h q q_in, here, beside Left, beside Right))
