-- A loaded table has every axis due on the whole grid, and the order of the whole grid is that of its box.
-- Assumes nothing.
use mathlib.Core.Path.{◌≡◌, refl, ap, sym, ◌∙◌}
use mathlib.Core.List.{List}
use Prim.Native.Nat.{ℕ}
use native.Mathlib.Omega.{arith}
use lib.IntN.{ℤ}
use Rattle.component_boxes.specs.Order.{centre, order_in, order_of}
use Rattle.component_boxes.proofs.WholeGrid.{whole_fits}
use Rattle.component_boxes.proofs.Leaves.{stage_start, none, whole_due}
use Rattle.component_order.specs.InOrder.{Loaded, worked_in, in_order}
use Rattle.component_order.specs.Steps.{Mixed}

module _ (d : ℕ) (tops : ℕ → ℕ) (xs : List ℤ) where
  pub loaded_mixed : Loaded d tops xs → Mixed d tops tops (centre d tops) 0 d xs
  loaded_mixed loaded =
      record {
        order = omega arith;
        axes = omega arith;
        fits = whole_fits tops d;
        standing =
            record {
              long = loaded.long;
              rates = loaded.rates;
              border = loaded.border;
              small = loaded.small;
              count = none d tops;
              most = λ p. omega arith;
              holds = λ p. loaded.holds p ∙ ap (λ (f : ℕ → ℤ). f p) (sym (stage_start d tops loaded.rates));
            };
        due = whole_due d tops;
      }

  pub in_order_is : worked_in d tops (order_in d tops 0 d tops (centre d tops)) xs ≡ in_order d tops xs
  unfolding order_of
  in_order_is = refl
