-- Tables as lists and as functions: the list of a table's values holds them again, and a list is the list of its values.
-- Assumes nothing.
use mathlib.Core.Path.{◌≡◌, refl, ap, sym, ◌∙◌, fun_ext}
use mathlib.Core.List.{List, [], ◌∷◌, ◌++◌, map}
use Prim.Native.Nat.{ℕ, zero, suc, ◌<◌}
use native.Mathlib.Omega.{arith}
use lib.IntN.{ℤ, pos}
use lib.ListN.{length, get_or, length-append, get_or-append, get_or-eq_default, get_or-map}
use lib.Seq.{ext_get_or, get_or-append_seam}
use Rattle.naturals.proofs.Cases.{le_or_lt}
use Rattle.hierarchy.specs.Turns.{value_at, values_of}

pub value_zero : (xs : List ℤ) → value_at xs 0 ≡ pos 0
unfolding value_at
value_zero xs = refl

pub value_suc : (xs : List ℤ) (p : ℕ) → value_at xs (suc p) ≡ get_or xs p (pos 0)
unfolding value_at
value_suc xs p = refl

pub value_past : (xs : List ℤ) (p : ℕ) → length xs < p → value_at xs p ≡ pos 0
unfolding value_at
value_past xs zero h = refl
value_past xs (suc p) h = get_or-eq_default xs (pos 0) (omega arith)

-- What stands at a place after a step by which 0 stays 0.
pub value_mapped : (g : ℤ → ℤ) (xs : List ℤ) → g (pos 0) ≡ pos 0 → (p : ℕ) → value_at (map g xs) p ≡ g (value_at xs p)
unfolding value_at
value_mapped g xs z zero = sym z
value_mapped g xs z (suc p) = ap (get_or (map g xs) p) (sym z) ∙ get_or-map g xs p (pos 0)

pub values_length : (m : ℕ) (f : ℕ → ℤ) → length (values_of m f) ≡ m
unfolding values_of
values_length zero f = refl
values_length (suc m) f = omega (arith, length-append (values_of m f) (f (suc m) ∷ []), values_length m f)

pub values_at : (m : ℕ) (f : ℕ → ℤ) (p : ℕ) → p < m → get_or (values_of m f) p (pos 0) ≡ f (suc p)
unfolding values_of
values_at zero f p h = absurd (omega arith)
values_at (suc m) f p h =
    le_or_lt m p
    (λ le.
    let e : p ≡ length (values_of m f) = omega (arith, values_length m f) in
    let g : p ≡ m = omega arith in
    ap (λ (n : ℕ). get_or (values_of m f ++ (f (suc m) ∷ [])) n (pos 0)) e
    ∙ get_or-append_seam (values_of m f) (f (suc m)) [] (pos 0)
    ∙ ap (λ (n : ℕ). f (suc n)) (sym g))
    (λ lt.
    get_or-append (values_of m f) (f (suc m) ∷ []) (pos 0) p (omega (arith, values_length m f)) ∙ values_at m f p lt)

-- A table with nothing at the border and past its points is what its list holds.
pub value_of_values : (m : ℕ) (f : ℕ → ℤ) → f 0 ≡ pos 0 → ((p : ℕ) → m < p → f p ≡ pos 0) → value_at (values_of m f) ≡ f
value_of_values m f z past = fun_ext at_code
  where
    at_code : (p : ℕ) → value_at (values_of m f) p ≡ f p
    at_code zero = value_zero (values_of m f) ∙ sym z
    at_code (suc p) =
        le_or_lt m p
        (λ le. value_past (values_of m f) (suc p) (omega (arith, values_length m f)) ∙ sym (past (suc p) (omega arith)))
        (λ lt. value_suc (values_of m f) p ∙ values_at m f p lt)

-- A list is the list of its values.
pub values_of_value : (m : ℕ) (xs : List ℤ) → length xs ≡ m → values_of m (value_at xs) ≡ xs
values_of_value m xs len =
    ext_get_or (pos 0) (values_of m (value_at xs)) xs (values_length m (value_at xs) ∙ sym len)
    (λ i h. values_at m (value_at xs) i (omega (arith, values_length m (value_at xs))) ∙ value_suc xs i)
