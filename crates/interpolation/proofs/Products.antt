-- Laws of finite products, by induction over their length: a product is one of its factors times the product with 1 in that place.
-- Assumes nothing.
use mathlib.Core.Path.{◌≡◌, refl, ap, ap₂, sym, ◌∙◌}
use Prim.Native.Nat.{ℕ, zero, suc, ◌*◌, ◌<◌}
use native.Mathlib.Nat.{mul_assoc, mul-one, zero-mul, mul_comm}
use native.Mathlib.Omega.{arith}
use Rattle.naturals.specs.Sum.{prod_to}
use Rattle.naturals.proofs.Cases.{eq_or_not}
use Rattle.hierarchy.specs.Work.{put}
use Rattle.hierarchy.proofs.Work.{put_same, put_other}

pub prod_to_zero : (f : ℕ → ℕ) → prod_to f 0 ≡ 1
unfolding prod_to
prod_to_zero f = refl

pub prod_to_suc : (f : ℕ → ℕ) (d : ℕ) → prod_to f (suc d) ≡ prod_to f d * f d
unfolding prod_to
prod_to_suc f d = refl

-- Products of the same factors are equal.
pub prod_to_cong : (f g : ℕ → ℕ) (d : ℕ) → ((t : ℕ) → t < d → f t ≡ g t) → prod_to f d ≡ prod_to g d
prod_to_cong f g zero same = prod_to_zero f ∙ sym (prod_to_zero g)
prod_to_cong f g (suc d) same =
    prod_to_suc f d
    ∙ ap₂ ◌*◌ (prod_to_cong f g d (λ t h. same t (omega arith))) (same d (omega arith))
    ∙ sym (prod_to_suc g d)

-- One factor split off.
pub prod_to_split : (f : ℕ → ℕ) (d t : ℕ) → t < d → prod_to f d ≡ f t * prod_to (put f t 1) d
prod_to_split f zero t h = absurd (omega arith)
prod_to_split f (suc d) t h =
    eq_or_not t d
    (λ e.
    prod_to_suc f d
    ∙ ap₂ ◌*◌ (prod_to_cong f (put f t 1) d (λ s lt. sym (put_other f t 1 s (λ i. omega arith)))) (ap f (sym e))
    ∙ mul_comm (prod_to (put f t 1) d) (f t)
    ∙ ap (λ (x : ℕ). f t * x)
    (sym (prod_to_suc (put f t 1) d
    ∙ ap (λ (x : ℕ). prod_to (put f t 1) d * x) (ap (put f t 1) (sym e) ∙ put_same f t 1)
    ∙ mul-one (prod_to (put f t 1) d))))
    (λ e.
    prod_to_suc f d
    ∙ ap₂ ◌*◌ (prod_to_split f d t (omega arith)) (sym (put_other f t 1 d (λ i. e (sym i))))
    ∙ mul_assoc (f t) (prod_to (put f t 1) d) (put f t 1 d)
    ∙ ap (λ (x : ℕ). f t * x) (sym (prod_to_suc (put f t 1) d)))

-- A product with a factor 0 is 0.
pub prod_to_none : (f : ℕ → ℕ) (d t : ℕ) → t < d → f t ≡ 0 → prod_to f d ≡ 0
prod_to_none f d t h e = prod_to_split f d t h ∙ ap (λ (x : ℕ). x * prod_to (put f t 1) d) e ∙ zero-mul (prod_to (put f t 1) d)
