-- What a slot's byte stands for: 16 × d + n gives back d and n, since a shape that passes has a top level below 16; and a slot that is free has no points.
-- Assumes nothing.
use Rattle.std.specs.Prelude.{Ok}
use mathlib.Core.Path.{◌≡◌, refl, ap, ap₂}
use mathlib.Core.Bool.{true}
use mathlib.Core.Logic.{◌⊎◌, inl, inr, ⊎_elim}
use Prim.Native.Nat.{ℕ, ◌/◌, ◌%◌}
use native.Mathlib.Nat.{div-add-mod'}
use native.Mathlib.Omega.{arith}
use borrow.Author.Tests.{eqb-true, eq-eqb, ne_eqb}
use Rattle.naturals.proofs.Cases.{true_or_false}
use Rattle.refusals.specs.Checks.{passes}
use Rattle.refusals.proofs.Passing.{passes_passed}
use Rattle.shapes.specs.Shapes.{sparse, points_of, check_shape}
use Rattle.shapes.proofs.Checked.{passed_in_range}
use Rattle.accounts.specs.Accounts.{byte_of, shape_in, is_free, is_slot, points_in}

-- What a slot may hold: nothing, or a shape that passes.
abbrev pub Holds : ℕ → Type 0
Holds byte = (byte ≡ 0) ⊎ (check_shape (shape_in byte) ≡ Ok tt)

pub slot_holds : (byte : ℕ) → is_slot byte ≡ true → Holds byte
unfolding is_slot
slot_holds byte e =
    true_or_false (is_free byte) (λ free. inl (eqb-true byte 0 free))
    (λ taken. inr (passes_passed (check_shape (shape_in byte)) (rw taken at e)))

pub holds_slot : (byte : ℕ) → Holds byte → is_slot byte ≡ true
unfolding is_slot
holds_slot byte h =
    ⊎_elim
    (λ free. rw (eq-eqb byte 0 free))
    (λ shape. true_or_false (is_free byte) (λ free. rw free) (λ taken. rw taken (ap passes shape)))
    h

pub byte_back : (byte : ℕ) → byte_of (byte / 16) (byte % 16) ≡ byte
byte_back byte = omega (arith, div-add-mod' byte 16)

pub free_points : points_in 0 ≡ 0
unfolding points_in
free_points = refl

module _ (axes level : ℕ) (passed : check_shape (sparse axes level) ≡ Ok tt) where
  pub shape_back : shape_in (byte_of axes level) ≡ sparse axes level
  shape_back =
      let range = passed_in_range (sparse axes level) passed in
      let axes_back : byte_of axes level / 16 ≡ axes = omega (arith, range.top) in
      let level_back : byte_of axes level % 16 ≡ level = omega (arith, range.top) in
      ap₂ sparse axes_back level_back

  pub taken : byte_of axes level ≡ 0 → ⊥
  taken e = let range = passed_in_range (sparse axes level) passed in omega (arith, range.low)

  pub shape_points : points_in (byte_of axes level) ≡ points_of (sparse axes level)
  unfolding points_in
  shape_points = rw (ne_eqb (byte_of axes level) 0 taken) (ap points_of shape_back)
