-- A turn that is tried is carried out where it is accepted, else undone: forward by back, and back by forward, which give the table that stood before. There is
-- room for both: values within the content limit are at most twice as large after a forward turn, and ten times as large after a back turn.
-- Assumes nothing.
use mathlib.Core.Path.{◌≡◌, refl, ap, sym, ◌∙◌}
use mathlib.Core.Bool.{Bool, true, false, not, false≢true, true≢false}
use mathlib.Core.Logic.{◌⊎◌, ⊎_elim}
use mathlib.Core.List.{List}
use Prim.Native.Nat.{ℕ, ◌^◌}
use native.Mathlib.Omega.{arith}
use lib.IntN.{ℤ}
use lib.ListN.{length}
use Rattle.std.specs.Prelude.{if◌then◌else◌}
use Rattle.shapes.specs.declared.Shape.{Shape}
use Rattle.shapes.specs.Shapes.{points_of}
use Rattle.grids.specs.Grids.{height}
use Rattle.grids.specs.Turned.{turned_table, former_table}
use Rattle.grids.proofs.Turned.{turned_length, former_length}
use Rattle.lists.specs.Lists.{whole_turn, odd_sums}
use Rattle.lists.specs.Steps.{OnAxis, NoLarger}
use Rattle.sweeps.proofs.Room.{turned_within, former_within}
use Rattle.turns.specs.Turns.{is_accepted}
use Rattle.turns.specs.Steps.{Tried, tried, forward_tried, back_tried, tried_on}
use Rattle.turns.proofs.Accepting.{in_limits, contents_within, accepted_where, before_refuses, odd_refuses, after_refuses}
use Rattle.turns.proofs.Undoing.{turned_of_former, former_of_turned}

-- What a test chose tells how it came out.
chose_done : (a : Bool) (zs xs ys : List ℤ) → tried true ys ≡ (if a then tried true zs else tried false xs) → (a ≡ true) × (ys ≡ zs)
chose_done true zs xs ys e = (refl, ap (λ (w : Tried). w.table) e)
chose_done false zs xs ys e = absurd (true≢false (ap (λ (w : Tried). w.done) e))

chose_refused : (a : Bool) (zs xs ys : List ℤ) → tried false ys ≡ (if a then tried true zs else tried false xs) → (a ≡ false) × (ys ≡ xs)
chose_refused true zs xs ys e = absurd (false≢true (ap (λ (w : Tried). w.done) e))
chose_refused false zs xs ys e = (refl, ap (λ (w : Tried). w.table) e)

module _ (s : Shape) (t : ℕ) (xs : List ℤ) where
  -- ---- what is answered

  pub forward_tried_done : is_accepted s t xs ≡ true → forward_tried s t xs ≡ tried true (turned_table s t xs)
  unfolding forward_tried
  forward_tried_done e = rw e

  pub forward_tried_refused : is_accepted s t xs ≡ false → forward_tried s t xs ≡ tried false xs
  unfolding forward_tried
  forward_tried_refused e = rw e

  pub back_tried_done : is_accepted s t (former_table s t xs) ≡ true → back_tried s t xs ≡ tried true (former_table s t xs)
  unfolding back_tried
  back_tried_done e = rw e

  pub back_tried_refused : is_accepted s t (former_table s t xs) ≡ false → back_tried s t xs ≡ tried false xs
  unfolding back_tried
  back_tried_refused e = rw e

  -- ---- what the answer tells

  pub forward_was_done : (ys : List ℤ) → tried true ys ≡ forward_tried s t xs → (is_accepted s t xs ≡ true) × (ys ≡ turned_table s t xs)
  unfolding forward_tried
  forward_was_done ys e = chose_done (is_accepted s t xs) (turned_table s t xs) xs ys e

  pub forward_was_refused : (ys : List ℤ) → tried false ys ≡ forward_tried s t xs → (is_accepted s t xs ≡ false) × (ys ≡ xs)
  unfolding forward_tried
  forward_was_refused ys e = chose_refused (is_accepted s t xs) (turned_table s t xs) xs ys e

  pub back_was_done : (ys : List ℤ) → tried true ys ≡ back_tried s t xs → (is_accepted s t (former_table s t xs) ≡ true) × (ys ≡ former_table s t xs)
  unfolding back_tried
  back_was_done ys e = chose_done (is_accepted s t (former_table s t xs)) (former_table s t xs) xs ys e

  pub back_was_refused : (ys : List ℤ) → tried false ys ≡ back_tried s t xs → (is_accepted s t (former_table s t xs) ≡ false) × (ys ≡ xs)
  unfolding back_tried
  back_was_refused ys e = chose_refused (is_accepted s t (former_table s t xs)) (former_table s t xs) xs ys e

-- ---- a turn and its undoing, in either direction

module _ {s : Shape} {t : ℕ} {xs : List ℤ} (on : OnAxis s t xs) (contents : in_limits xs ≡ true) where
  pub sweep_room : NoLarger (2 ^ 53) xs
  sweep_room code = omega (arith, contents_within xs contents code)

  pub undo_room : (ahead : Bool) → NoLarger (2 ^ 53) (whole_turn ahead s t xs)
  unfolding whole_turn height
  undo_room true code = omega (arith, turned_within s t xs (2 ^ 47) on.long (contents_within xs contents) code)
  undo_room false code = omega (arith, former_within s t xs (2 ^ 47) on.long (omega (arith, on.low)) (contents_within xs contents) code)

  pub turn_long : (ahead : Bool) → length (whole_turn ahead s t xs) ≡ points_of s
  unfolding whole_turn
  turn_long true = turned_length s t xs
  turn_long false = former_length s t xs

  module _ {ys : List ℤ} where
    -- Where no sum is odd and all values after it are within the limit, it is accepted. (A forward turn of the former table leads to the table before.)
    pub try_done : (ahead : Bool) → ys ≡ whole_turn ahead s t xs → odd_sums s t (if ahead then xs else ys) (points_of s) ≡ 0 → in_limits ys ≡ true →
        tried true ys ≡ tried_on ahead s t xs
    unfolding whole_turn
    try_done true e even after =
        ap (tried true) e
        ∙ sym
        (forward_tried_done s t xs
        (accepted_where s t xs on.long (record { before = contents; even = even; after = ap in_limits (sym e) ∙ after })))
    try_done false e even after =
        ap (tried true) e
        ∙ sym
        (back_tried_done s t xs
        (accepted_where s t (former_table s t xs) (former_length s t xs)
        (record {
          before = ap in_limits (sym e) ∙ after;
          even = ap (λ (zs : List ℤ). odd_sums s t zs (points_of s)) (sym e) ∙ even;
          after = ap in_limits (turned_of_former s t xs on.long) ∙ contents;
        })))

    -- Else it is not, and its undoing gives the table before.
    pub try_refused : (ahead : Bool) {zs : List ℤ} → ys ≡ whole_turn ahead s t xs →
        (odd_sums s t (if ahead then xs else ys) (points_of s) ≡ 0 → ⊥) ⊎ (in_limits ys ≡ false) → zs ≡ whole_turn (not ahead) s t ys →
        tried false zs ≡ tried_on ahead s t xs
    unfolding whole_turn
    try_refused true e why undone =
        ap (tried false) (undone ∙ ap (former_table s t) e ∙ former_of_turned s t xs on.long)
        ∙ sym
        (forward_tried_refused s t xs
        (⊎_elim
        (λ odd. odd_refuses s t xs on.long odd)
        (λ past. after_refuses s t xs on.long (ap in_limits (sym e) ∙ past))
        why))
    try_refused false e why undone =
        ap (tried false) (undone ∙ ap (turned_table s t) e ∙ turned_of_former s t xs on.long)
        ∙ sym
        (back_tried_refused s t xs
        (⊎_elim
        (λ odd. odd_refuses s t (former_table s t xs) (former_length s t xs) (rw e at odd))
        (λ past. before_refuses s t (former_table s t xs) (former_length s t xs) (ap in_limits (sym e) ∙ past))
        why))
