-- After every sweep the values are within the content limit: the table after the first k axes is the table of that set of axes, of which this is known.
-- Assumes nothing.
use mathlib.Core.Path.{◌≡◌, refl, ap, sym, ◌∙◌}
use mathlib.Core.Bool.{Bool, true}
use Prim.Native.Nat.{ℕ, zero, suc, ◌+◌, ◌-◌, ◌^◌, ◌≤◌}
use native.Mathlib.Omega.{arith}
use lib.Dec.{ltb}
use lib.IntN.{ℤ, nat_abs}
use borrow.Author.Tests.{lt-ltb, le-ltb}
use Rattle.integers.specs.Half.{in_limit}
use Rattle.hierarchy.specs.Grid.{Neighbours}
use Rattle.hierarchy.specs.Turns.{forward}
use Rattle.hierarchy.specs.Sets.{every_axis, scaled, swept, table_of}
use Rattle.hierarchy.proofs.Bounds.{table_in_limit}
use Rattle.component_grids.specs.Component.{neighbour}
use Rattle.component_boxes.specs.Stages.{stages_of}

-- The first k axes.
unfoldable first : ℕ → ℕ → Bool
first k t = ltb t k

module _ (nb : Neighbours) (f : ℕ → ℤ) where
  -- Up to axis k they are swept as all are, and after it nothing is.
  swept_below : (k j : ℕ) → j ≤ k → swept nb (first k) j f ≡ swept nb every_axis j f
  unfolding swept first
  swept_below k zero le = refl
  swept_below k (suc j) le = rw (lt-ltb j k le) (ap (forward nb j) (swept_below k j (omega arith)))

  swept_above : (k i : ℕ) → swept nb (first k) (i + k) f ≡ swept nb every_axis k f
  unfolding swept first
  swept_above k zero = let e : 0 + k ≡ k = omega arith in ap (λ (j : ℕ). swept nb (first k) j f) e ∙ swept_below k k (omega arith)
  swept_above k (suc i) =
      let e : suc i + k ≡ suc (i + k) = omega arith in
      ap (λ (j : ℕ). swept nb (first k) j f) e ∙ rw (le-ltb (i + k) k (omega arith)) (swept_above k i)

module _ (d : ℕ) (tops : ℕ → ℕ) (r : ℕ → ℤ) where
  stage_set : (k : ℕ) → k ≤ d → stages_of d tops r k ≡ table_of (neighbour d tops) d (first k) r
  unfolding stages_of table_of
  stage_set k le =
      let e : d ≡ (d - k) + k = omega arith in
      sym (ap (λ (j : ℕ). swept (neighbour d tops) (first k) j (scaled d r)) e ∙ swept_above (neighbour d tops) (scaled d r) k (d - k))

  pub stage_in_limit : d ≤ 8 → ((p : ℕ) → nat_abs (r p) ≤ 2 ^ 31) → (k : ℕ) → k ≤ d → (p : ℕ) → in_limit (stages_of d tops r k p) ≡ true
  stage_in_limit few small k le p =
      ap (λ (f : ℕ → ℤ). in_limit (f p)) (stage_set k le) ∙ table_in_limit (neighbour d tops) (first k) d r few small p
