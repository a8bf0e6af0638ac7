-- A box done axis by axis holds what the steps in order leave there: in the box exactly the axes before the turned one are done, and a neighbour outside that is a point
-- has them done too, so each turned value is that of the whole sweep; and the order of the splits leads to the same counts.
-- Assumes nothing.
use mathlib.Core.Path.{◌≡◌, refl, ap, ap₂, sym, ◌∙◌}
use mathlib.Core.Bool.{true}
use mathlib.Core.List.{List}
use mathlib.Core.Logic.{⊎_elim}
use Prim.Native.Nat.{ℕ, zero, suc, ◌≤◌, ◌<◌}
use native.Mathlib.Omega.{arith}
use lib.IntN.{ℤ, ◌+ℤ◌, ◌-ℤ◌}
use Rattle.integers.specs.Half.{half, in_limit}
use Rattle.numbering.specs.declared.Side.{Side}
use Rattle.numbering.specs.declared.Side.TheVariants.{Left, Right}
use Rattle.hierarchy.specs.Turns.{value_at, sum_on, forward}
use Rattle.hierarchy.specs.Work.{all_worked, counts_after}
use Rattle.hierarchy.proofs.Values.{value_zero}
use Rattle.hierarchy.proofs.Sweeps.{list_of_values}
use Rattle.splits.specs.Splits.{itself}
use Rattle.splits.proofs.Parts.{Does}
use Rattle.component_grids.specs.Component.{points_to, neighbour}
use Rattle.component_boxes.specs.Order.{order_in}
use Rattle.component_boxes.specs.Boxes.{Near, Box}
use Rattle.component_boxes.specs.Stages.{stages_of}
use Rattle.component_boxes.proofs.Halves.{dec_box}
use Rattle.component_boxes.proofs.Leaves.{stage_next, stage_border}
use Rattle.component_boxes.proofs.Limits.{stage_in_limit}
use Rattle.component_sweeps.specs.Steps.{Limited, TurnedOn}
use Rattle.component_order.specs.InOrder.{worked_in}
use Rattle.component_order.specs.Steps.{Mixed, SweptTo}
use Rattle.component_order.proofs.Stands.{holds_after}
use Rattle.component_order.proofs.Mixing.{does}

-- The forward turn at a point, in full.
forward_at : (d : ℕ) (tops : ℕ → ℕ) (a : ℕ) (f : ℕ → ℤ) (p : ℕ) →
    forward (neighbour d tops) a f p ≡ f p -ℤ half (f (neighbour d tops a Left p) +ℤ f (neighbour d tops a Right p))
unfolding forward sum_on
forward_at d tops a f p = refl

module _ (d : ℕ) (tops : ℕ → ℕ) (dim : 0 < d) (few : d ≤ 8) (k : ℕ → ℕ) (c s t : ℕ) (xs : List ℤ) (mixed : Mixed d tops k c s t xs) where
  r : ℕ → ℤ
  r = mixed.standing.rates

  stage_limit : (j : ℕ) → j ≤ d → (p : ℕ) → in_limit (stages_of d tops r j p) ≡ true
  unfolding r
  stage_limit = stage_in_limit d tops mixed.standing.rates few mixed.standing.small

  pub sweep_starts : SweptTo d tops k c s mixed.standing.rates xs xs
  sweep_starts =
      record {
        long = refl;
        inside = λ p h. mixed.standing.holds p ∙ ap (λ (j : ℕ). stages_of d tops mixed.standing.rates j p) (mixed.due.own p h);
        outside = λ p out. refl;
      }

  module _ (a : ℕ) (low : s ≤ a) (high : a < t) (ys : List ℤ) (so_far : SweptTo d tops k c a mixed.standing.rates xs ys) where
    -- What the turn reads at a neighbour.
    reads : (b : Side) (p : ℕ) → Box d tops k c p →
        value_at ys (neighbour d tops a b p) ≡ stages_of d tops mixed.standing.rates a (neighbour d tops a b p)
    reads b p here = at_code (neighbour d tops a b p) refl (dec_box d tops k c (neighbour d tops a b p))
      where
        at_code : (q : ℕ) → neighbour d tops a b p ≡ q → Dec (Box d tops k c q) → value_at ys q ≡ stages_of d tops mixed.standing.rates a q
        at_code q is (yes inside) = so_far.inside q inside
        at_code q is (no outside) =
            so_far.outside q outside
            ∙ ⊎_elim
            (λ none.
            let border : q ≡ 0 = sym is ∙ none in
            rw border (value_zero xs ∙ sym (stage_border d tops mixed.standing.rates mixed.standing.border a)))
            (λ done.
            mixed.standing.holds q
            ∙ ap (λ (j : ℕ). stages_of d tops mixed.standing.rates j q) (ap mixed.standing.count (sym is) ∙ done))
            (mixed.due.edge a b p low high here (λ there. outside (rw is at there)))

    turned_is : (p : ℕ) → Box d tops k c p → forward (neighbour d tops) a (value_at ys) p ≡ stages_of d tops mixed.standing.rates (suc a) p
    turned_is p here =
        forward_at d tops a (value_at ys) p
        ∙ ap₂ (λ (v w : ℤ). v -ℤ half w) (so_far.inside p here) (ap₂ ◌+ℤ◌ (reads Left p here) (reads Right p here))
        ∙ sym (forward_at d tops a (stages_of d tops mixed.standing.rates a) p)
        ∙ sym (ap (λ (f : ℕ → ℤ). f p) (stage_next d tops mixed.standing.rates a))

    pub sweep_asks : Limited d tops a (Near d tops k c) ys
    unfolding r
    sweep_asks =
        record {
          long = so_far.long ∙ mixed.standing.long;
          before = λ p. at_code p (dec_box d tops k c p);
          after = λ p near. ap in_limit (turned_is (suc p) near) ∙ stage_limit (suc a) (omega (arith, mixed.axes)) (suc p);
        }
      where
        at_code : (p : ℕ) → Dec (Box d tops k c p) → in_limit (value_at ys p) ≡ true
        at_code p (yes inside) = ap in_limit (so_far.inside p inside) ∙ stage_limit a (omega (arith, mixed.axes)) p
        at_code p (no outside) =
            ap in_limit (so_far.outside p outside ∙ mixed.standing.holds p)
            ∙ stage_limit (mixed.standing.count p) (mixed.standing.most p) p

    pub sweep_steps : (zs : List ℤ) → TurnedOn d tops a (Near d tops k c) ys zs → SweptTo d tops k c (suc a) mixed.standing.rates xs zs
    sweep_steps zs turned =
        record {
          long = turned.long ∙ so_far.long;
          inside = inside;
          outside = outside;
        }
      where
        inside : (p : ℕ) → Box d tops k c p → value_at zs p ≡ stages_of d tops mixed.standing.rates (suc a) p
        inside zero none = absurd none
        inside (suc p) near = turned.on p near ∙ turned_is (suc p) near

        outside : (p : ℕ) → (Box d tops k c p → ⊥) → value_at zs p ≡ value_at xs p
        outside zero out = value_zero zs ∙ sym (value_zero xs)
        outside (suc p) out = turned.off p out ∙ so_far.outside (suc p) out

  pub sweep_ends : (ys : List ℤ) → SweptTo d tops k c t mixed.standing.rates xs ys → ys ≡ worked_in d tops (order_in d tops s t k c) xs
  unfolding worked_in
  sweep_ends ys swept =
      list_of_values (points_to tops d) ys (all_worked (neighbour d tops) itself (order_in d tops s t k c) (value_at xs))
      (swept.long ∙ mixed.standing.long)
      (λ p. at_code p (dec_box d tops k c p))
    where
      in_order : Does (neighbour d tops) d t (Box d tops k c) mixed.standing.count (order_in d tops s t k c)
      in_order = does d tops dim k c s t xs mixed

      leaves : (p : ℕ) (j : ℕ) → counts_after (neighbour d tops) itself (order_in d tops s t k c) mixed.standing.count p ≡ j →
          all_worked (neighbour d tops) itself (order_in d tops s t k c) (value_at xs) p ≡ stages_of d tops mixed.standing.rates j p
      leaves p j e =
          holds_after d tops xs mixed.standing (order_in d tops s t k c) in_order.legal p
          ∙ ap (λ (i : ℕ). stages_of d tops mixed.standing.rates i p) e

      at_code : (p : ℕ) → Dec (Box d tops k c p) → value_at ys p ≡ all_worked (neighbour d tops) itself (order_in d tops s t k c) (value_at xs) p
      at_code p (yes inside) = swept.inside p inside ∙ sym (leaves p t (in_order.done.own p inside))
      at_code p (no outside) =
          swept.outside p outside
          ∙ mixed.standing.holds p
          ∙ sym (leaves p (mixed.standing.count p) (in_order.done.rest p outside))
