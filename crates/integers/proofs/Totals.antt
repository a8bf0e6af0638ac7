-- Laws of finite sums of whole numbers: they are linear in their terms, and a sum with one term that is not 0 is that term. By induction over the length.
-- Assumes nothing.
use mathlib.Core.Path.{◌≡◌, refl, ap, ap₂, sym, ◌∙◌}
use Prim.Native.Nat.{ℕ, zero, suc, ◌+◌, ◌<◌}
use native.Mathlib.Nat.{zero-add, add-zero, add-suc}
use native.Mathlib.Omega.{arith}
use Rattle.std.proofs.lemmas.Int.{ints}
use lib.IntN.{ℤ, pos, neg_ℤ, ◌+ℤ◌, ◌*ℤ◌, +ℤ_idl, +ℤ_idr, neg_ℤ-+ℤ, zero-*ℤ}
use Rattle.naturals.proofs.Cases.{eq_or_not}
use Rattle.integers.specs.Total.{total}
use Rattle.integers.proofs.Products.{plus_times}

pub total_zero : (f : ℕ → ℤ) → total f 0 ≡ pos 0
unfolding total
total_zero f = refl

pub total_suc : (f : ℕ → ℤ) (m : ℕ) → total f (suc m) ≡ total f m +ℤ f m
unfolding total
total_suc f m = refl

-- Totals of the same terms are equal.
pub total_cong : (f g : ℕ → ℤ) (m : ℕ) → ((p : ℕ) → p < m → f p ≡ g p) → total f m ≡ total g m
total_cong f g zero same = total_zero f ∙ sym (total_zero g)
total_cong f g (suc m) same =
    total_suc f m
    ∙ ap₂ ◌+ℤ◌ (total_cong f g m (λ p h. same p (omega arith))) (same m (omega arith))
    ∙ sym (total_suc g m)

pub total_none : (f : ℕ → ℤ) (m : ℕ) → ((p : ℕ) → p < m → f p ≡ pos 0) → total f m ≡ pos 0
total_none f zero none = total_zero f
total_none f (suc m) none =
    total_suc f m ∙ ap₂ ◌+ℤ◌ (total_none f m (λ p h. none p (omega arith))) (none m (omega arith))

-- A total of sums is the sum of the totals, and a total of multiples is the multiple of the total.
pub total_plus : (f g : ℕ → ℤ) (m : ℕ) → total (λ p. f p +ℤ g p) m ≡ total f m +ℤ total g m
total_plus f g zero = rw (total_zero, total_zero f, total_zero g)
total_plus f g (suc m) =
    omega (arith, ints, total_suc (λ p. f p +ℤ g p) m, total_plus f g m, total_suc f m, total_suc g m)

pub total_times : (f : ℕ → ℤ) (k m : ℕ) → total (λ p. f p *ℤ pos k) m ≡ total f m *ℤ pos k
total_times f k zero =
    total_zero (λ p. f p *ℤ pos k) ∙ sym (ap (λ (z : ℤ). z *ℤ pos k) (total_zero f) ∙ zero-*ℤ (pos k))
total_times f k (suc m) =
    total_suc (λ p. f p *ℤ pos k) m
    ∙ ap (λ (z : ℤ). z +ℤ f m *ℤ pos k) (total_times f k m)
    ∙ sym (plus_times (total f m) (f m) k)
    ∙ ap (λ (z : ℤ). z *ℤ pos k) (sym (total_suc f m))

pub total_negated : (f : ℕ → ℤ) (m : ℕ) → total (λ p. neg_ℤ (f p)) m ≡ neg_ℤ (total f m)
total_negated f zero = total_zero (λ p. neg_ℤ (f p)) ∙ sym (ap neg_ℤ (total_zero f))
total_negated f (suc m) =
    total_suc (λ p. neg_ℤ (f p)) m
    ∙ ap (λ (z : ℤ). z +ℤ neg_ℤ (f m)) (total_negated f m)
    ∙ sym (neg_ℤ-+ℤ (total f m) (f m))
    ∙ ap neg_ℤ (sym (total_suc f m))

-- A total of which one term of the last b is left.
total_none_past : (f : ℕ → ℤ) (a b : ℕ) → ((j : ℕ) → j < b → f (a + j) ≡ pos 0) → total f (a + b) ≡ total f a
total_none_past f a zero none = ap (total f) (add-zero a)
total_none_past f a (suc b) none =
    ap (total f) (add-suc a b)
    ∙ total_suc f (a + b)
    ∙ ap₂ ◌+ℤ◌ (total_none_past f a b (λ j h. none j (omega arith))) (none b (omega arith))
    ∙ +ℤ_idr (total f a)

pub total_block : (f : ℕ → ℤ) (a b q : ℕ) → q < b → ((j : ℕ) → j < b → (j ≡ q → ⊥) → f (a + j) ≡ pos 0) →
    total f (a + b) ≡ total f a +ℤ f (a + q)
total_block f a zero q h others = absurd (omega arith)
total_block f a (suc b) q h others =
    ap (total f) (add-suc a b)
    ∙ total_suc f (a + b)
    ∙ eq_or_not q b
    (λ e. ap₂ ◌+ℤ◌ (total_none_past f a b (λ j lt. others j (omega arith) (λ i. omega arith))) (ap (λ (j : ℕ). f (a + j)) (sym e)))
    (λ e.
    ap₂ ◌+ℤ◌ (total_block f a b q (omega arith) (λ j lt ne. others j (omega arith) ne)) (others b (omega arith) (λ i. e (sym i)))
    ∙ +ℤ_idr (total f a +ℤ f (a + q)))

-- A total of which one term is left.
pub total_one : (f : ℕ → ℤ) (m q : ℕ) → q < m → ((p : ℕ) → p < m → (p ≡ q → ⊥) → f p ≡ pos 0) → total f m ≡ f q
total_one f m q h others =
    ap (total f) (sym (zero-add m))
    ∙ total_block f 0 m q h (λ j lt ne. ap f (zero-add j) ∙ others j lt ne)
    ∙ ap₂ ◌+ℤ◌ (total_zero f) (ap f (zero-add q))
    ∙ +ℤ_idl (f q)
