-- Forward and back undo each other on every table of a shape, so a back turn is refused for its contents exactly where no table with an accepted forward turn
-- leads to the present one, and where there is one it is the only one. From the inverse on one axis, carried from functions to lists.
-- Assumes nothing.
use mathlib.Core.Path.{◌≡◌, ap, sym, ◌∙◌, fun_ext}
use mathlib.Core.Bool.{true, false, true≢false}
use mathlib.Core.List.{List}
use Prim.Native.Nat.{ℕ}
use lib.IntN.{ℤ}
use lib.ListN.{length}
use Rattle.naturals.proofs.Cases.{true_or_false}
use Rattle.hierarchy.specs.Turns.{value_at, values_of, forward, backward}
use Rattle.hierarchy.proofs.Inverse.{back_of_forward, forward_of_back}
use Rattle.hierarchy.proofs.Values.{value_zero, values_of_value}
use Rattle.shapes.specs.Shapes.{points_of}
use Rattle.shapes.specs.declared.Shape.{Shape}
use Rattle.grids.specs.Grids.{neighbour, depth, height}
use Rattle.grids.specs.Turned.{turned_table, former_table}
use Rattle.grids.proofs.Instance.{grid, shallow}
use Rattle.grids.proofs.Turned.{former_length, turned_holds, former_holds}
use Rattle.turns.specs.Turns.{is_accepted}

module _ (s : Shape) (t : ℕ) where
  -- Forward of back, and back of forward.
  pub turned_of_former : (xs : List ℤ) → length xs ≡ points_of s → turned_table s t (former_table s t xs) ≡ xs
  unfolding turned_table
  turned_of_former xs len =
      let m = points_of s in
      let nb = neighbour s in
      ap (λ (f : ℕ → ℤ). values_of m (forward nb t f)) (former_holds s t xs len)
      ∙ ap (values_of m)
      (fun_ext λ p.
      forward_of_back m nb (depth s) (grid s) t (height s) (value_at xs) (value_zero xs) p (shallow s t p))
      ∙ values_of_value m xs len

  pub former_of_turned : (xs : List ℤ) → length xs ≡ points_of s → former_table s t (turned_table s t xs) ≡ xs
  unfolding former_table
  former_of_turned xs len =
      let m = points_of s in
      let nb = neighbour s in
      ap (λ (f : ℕ → ℤ). values_of m (backward nb (height s) t f)) (turned_holds s t xs len)
      ∙ ap (values_of m)
      (fun_ext λ p.
      back_of_forward m nb (depth s) (grid s) t (height s) (value_at xs) (value_zero xs) p (shallow s t p))
      ∙ values_of_value m xs len

  -- A table of the shape whose accepted forward turn leads to xs.
  pub record LeadsTo (ys xs : List ℤ) : Type 0 where
    pub long : length ys ≡ points_of s
    pub accepted : is_accepted s t ys ≡ true
    pub leads : turned_table s t ys ≡ xs

  -- Where there is one, it is the only one, and it is the former table.
  pub only_former : (ys xs : List ℤ) → LeadsTo ys xs → ys ≡ former_table s t xs
  only_former ys xs l = sym (former_of_turned ys l.long) ∙ ap (former_table s t) l.leads

  -- The contents of a back turn are accepted if and only if there is one.
  pub former_leads : (xs : List ℤ) → length xs ≡ points_of s → is_accepted s t (former_table s t xs) ≡ true → LeadsTo (former_table s t xs) xs
  former_leads xs len e = record { long = former_length s t xs; accepted = e; leads = turned_of_former xs len }

  pub leads_former : (ys xs : List ℤ) → LeadsTo ys xs → is_accepted s t (former_table s t xs) ≡ true
  leads_former ys xs l = ap (is_accepted s t) (sym (only_former ys xs l)) ∙ l.accepted

  -- Refused if and only if there is none.
  pub none_leads : (xs : List ℤ) → is_accepted s t (former_table s t xs) ≡ false → (ys : List ℤ) → LeadsTo ys xs → ⊥
  none_leads xs e ys l = true≢false (sym (leads_former ys xs l) ∙ e)

  pub refused_where_none : (xs : List ℤ) → length xs ≡ points_of s → ((ys : List ℤ) → LeadsTo ys xs → ⊥) →
      is_accepted s t (former_table s t xs) ≡ false
  refused_where_none xs len none =
      true_or_false (is_accepted s t (former_table s t xs)) (λ e. absurd (none (former_table s t xs) (former_leads xs len e))) (λ e. e)
