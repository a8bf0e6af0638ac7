-- The list of a number for each of eight axes: its length, what it holds at a place, and that a list of eight places is known by what it holds.
-- Assumes nothing.
use mathlib.Core.Path.{◌≡◌, refl, sym, ◌∙◌, fun_ext}
use mathlib.Core.List.{List}
use Prim.Native.Nat.{ℕ, zero, suc, ◌≤◌, ◌<◌}
use native.Mathlib.Omega.{arith}
use lib.ListN.{length, get_or, get_or-eq_default}
use lib.Seq.{ext_get_or}
use Rattle.naturals.proofs.Cases.{le_or_lt}
use Rattle.numbering.specs.Point.{at}
use Rattle.points.specs.Points.{eight}

pub eight_length : (f : ℕ → ℕ) → length (eight f) ≡ 8
unfolding eight
eight_length f = refl

pub eight_at : (f : ℕ → ℕ) (t : ℕ) → t < 8 → get_or (eight f) t 0 ≡ f t
unfolding eight
eight_at f zero h = refl
eight_at f (suc zero) h = refl
eight_at f (suc (suc zero)) h = refl
eight_at f (suc (suc (suc zero))) h = refl
eight_at f (suc (suc (suc (suc zero)))) h = refl
eight_at f (suc (suc (suc (suc (suc zero))))) h = refl
eight_at f (suc (suc (suc (suc (suc (suc zero)))))) h = refl
eight_at f (suc (suc (suc (suc (suc (suc (suc zero))))))) h = refl
eight_at f (suc (suc (suc (suc (suc (suc (suc (suc t)))))))) h = omega arith

-- A list of eight places that holds f at each is the list of f.
pub eight_ext : (f : ℕ → ℕ) (xs : List ℕ) → length xs ≡ 8 → ((t : ℕ) → t < 8 → get_or xs t 0 ≡ f t) → xs ≡ eight f
eight_ext f xs e each =
    ext_get_or 0 xs (eight f) (e ∙ sym (eight_length f)) (λ t h. each t (omega arith) ∙ sym (eight_at f t (omega arith)))

-- Numbers that agree on the eight axes make the same list.
pub eight_cong : (f g : ℕ → ℕ) → ((t : ℕ) → t < 8 → f t ≡ g t) → eight f ≡ eight g
eight_cong f g same = eight_ext g (eight f) (eight_length f) (λ t h. eight_at f t h ∙ same t h)

-- Of numbers that are 0 past the eight axes the list holds every one.
pub eight_whole : (f : ℕ → ℕ) → ((t : ℕ) → 8 ≤ t → f t ≡ 0) → at (eight f) ≡ f
eight_whole f past = fun_ext λ t. le_or_lt 8 t (λ h. beyond t h ∙ sym (past t h)) (λ h. eight_at f t h)
  where
    beyond : (t : ℕ) → 8 ≤ t → at (eight f) t ≡ 0
    beyond t h = get_or-eq_default (eight f) 0 (omega (arith, eight_length f))

-- A list of up to eight numbers is known by its first eight, since past its end it holds 0.
pub padded_at : (xs : List ℕ) → length xs ≤ 8 → at (eight (at xs)) ≡ at xs
padded_at xs short = eight_whole (at xs) (λ t h. get_or-eq_default xs 0 (omega arith))
