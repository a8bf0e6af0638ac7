-- Coefficients of a sum are the sums of the coefficients, since the table of a set of axes is linear in the rates.
-- Assumes nothing.
use mathlib.Core.Path.{◌≡◌, refl, ap, sym, ◌∙◌, fun_ext}
use mathlib.Core.List.{List, [], ◌∷◌}
use Prim.Native.Nat.{ℕ, zero, suc, ◌<◌}
use native.Mathlib.Omega.{arith}
use lib.IntN.{ℤ, pos, ◌+ℤ◌}
use lib.ListN.{length, get_or}
use lib.Seq.{ext_get_or}
use Rattle.hierarchy.specs.Turns.{value_at, values_of}
use Rattle.hierarchy.specs.Sets.{table_of, every_axis}
use Rattle.hierarchy.proofs.Turned.{plus}
use Rattle.hierarchy.proofs.Sums.{table_plus}
use Rattle.hierarchy.proofs.Values.{values_length, values_at}
use Rattle.shapes.specs.declared.Shape.{Shape}
use Rattle.shapes.specs.Shapes.{points_of}
use Rattle.grids.specs.Grids.{neighbour}
use Rattle.whole.specs.Accepted.{sums}
use Rattle.whole.specs.Whole.{coefficients_of}

sums_length : (xs ys : List ℤ) → length xs ≡ length ys → length (sums xs ys) ≡ length xs
unfolding sums
sums_length [] ys e = refl
sums_length (x ∷ xs) [] e = absurd (omega arith)
sums_length (x ∷ xs) (y ∷ ys) e = ap suc (sums_length xs ys (omega arith))

sums_at : (xs ys : List ℤ) → length xs ≡ length ys → (i : ℕ) → get_or (sums xs ys) i (pos 0) ≡ get_or xs i (pos 0) +ℤ get_or ys i (pos 0)
unfolding sums
sums_at [] [] e i = refl
sums_at [] (y ∷ ys) e i = absurd (omega arith)
sums_at (x ∷ xs) [] e i = absurd (omega arith)
sums_at (x ∷ xs) (y ∷ ys) e zero = refl
sums_at (x ∷ xs) (y ∷ ys) e (suc i) = sums_at xs ys (omega arith) i

-- As tables.
pub sums_held_at : (xs ys : List ℤ) → length xs ≡ length ys → (p : ℕ) → value_at (sums xs ys) p ≡ plus (value_at xs) (value_at ys) p
unfolding value_at plus
sums_held_at xs ys e zero = refl
sums_held_at xs ys e (suc p) = sums_at xs ys e p

pub values_plus : (m : ℕ) (f g : ℕ → ℤ) → values_of m (plus f g) ≡ sums (values_of m f) (values_of m g)
unfolding plus
values_plus m f g =
    let same : length (values_of m f) ≡ length (values_of m g) = values_length m f ∙ sym (values_length m g) in
    let long : length (sums (values_of m f) (values_of m g)) ≡ m = sums_length (values_of m f) (values_of m g) same ∙ values_length m f in
    ext_get_or (pos 0) (values_of m (plus f g)) (sums (values_of m f) (values_of m g)) (values_length m (plus f g) ∙ sym long)
    (λ i h. at_place same i (omega (arith, values_length m (plus f g))))
  where
    at_place : length (values_of m f) ≡ length (values_of m g) → (i : ℕ) → i < m →
        get_or (values_of m (plus f g)) i (pos 0) ≡ get_or (sums (values_of m f) (values_of m g)) i (pos 0)
    at_place same i h =
        values_at m (plus f g) i h ∙ sym (sums_at (values_of m f) (values_of m g) same i ∙ rw (values_at m f i h, values_at m g i h))

-- Coefficients of a sum of two tables of one length are, place by place, the sums of theirs.
pub coefficients_sum : (s : Shape) (xs ys : List ℤ) → length xs ≡ length ys → coefficients_of s (sums xs ys) ≡ sums (coefficients_of s xs) (coefficients_of s ys)
unfolding coefficients_of
coefficients_sum s xs ys e =
    let m = points_of s in
    let nb = neighbour s in
    ap (λ (f : ℕ → ℤ). values_of m (table_of nb s.axes every_axis f)) (fun_ext (sums_held_at xs ys e))
    ∙ ap (values_of m) (table_plus nb s.axes every_axis (value_at xs) (value_at ys))
    ∙ values_plus m (table_of nb s.axes every_axis (value_at xs)) (table_of nb s.axes every_axis (value_at ys))
