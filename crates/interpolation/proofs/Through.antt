-- The surface of coefficients passes through every rate, only the coefficients of the rates have such a surface, and one turn does the same on the
-- lines along its axis. True since the turns of all axes leave one term of the weighted sum, and turns determine a table.
-- Assumes nothing.
use mathlib.Core.Path.{◌≡◌, refl, ap, sym, ◌∙◌, fun_ext}
use mathlib.Core.Bool.{Bool, true, false, not}
use Prim.Native.Nat.{ℕ, zero, suc, ◌+◌, ◌%◌, ◌^◌, ◌≤◌, ◌<◌}
use native.Mathlib.Nat.{pow-zero, pow-succ', one-le-pow}
use native.Mathlib.Omega.{arith}
use lib.Dec.{ltb, eqb}
use Rattle.std.proofs.lemmas.Int.{ints}
use lib.IntN.{ℤ, pos, negsuc, ◌+ℤ◌, ◌*ℤ◌}
use borrow.Author.Tests.{lt-ltb, le-ltb, eq-eqb, ne_eqb, eqb-true}
use Rattle.naturals.proofs.Cases.{le_or_lt}
use Rattle.integers.specs.Half.{half, is_even}
use Rattle.numbering.specs.declared.Side.TheVariants.{Left, Right}
use Rattle.hierarchy.specs.Grid.{Neighbours, Grid}
use Rattle.hierarchy.specs.Turns.{sum_on, forward}
use Rattle.hierarchy.specs.Sets.{every_axis, no_axis}
use Rattle.hierarchy.proofs.Turned.{turned}
use Rattle.hierarchy.proofs.Closed.{closed, With}
use Rattle.interpolation.specs.Weighted.{weighted_sum}
use Rattle.interpolation.specs.Hats.{Weights, Agreement, Hats}
use Rattle.integers.proofs.Products.{times_plus, times_one, times_times, plus_times, times_cancel}
use Rattle.interpolation.proofs.Partly.{factors, partly, partly_zero, partly_all, partly_turn}
use Rattle.interpolation.proofs.Injective.{
  Agree,
  agree_from,
  multiple,
  multiple_at,
  multiple_zero,
  turned_multiple,
  turned_cong,
  turned_zero,
  turned_injective,
  closed_start,
  closed_suc,
  closed_zero,
  closed_agree,
  closed_multiple,
  closed_injective,
}

-- ---- sets of axes

-- The first k axes.
unfoldable below : ℕ → ℕ → Bool
below k t = ltb t k

-- Every axis but t.
unfoldable pub others : ℕ → ℕ → Bool
others t s = not (eqb s t)

below_in : (k t : ℕ) → t < k → below k t ≡ true
unfolding below
below_in k t h = lt-ltb t k h

below_out : (k t : ℕ) → k ≤ t → below k t ≡ false
unfolding below
below_out k t h = le-ltb t k h

pub others_out : (t : ℕ) → others t t ≡ false
unfolding others
others_out t = rw (eq-eqb t t refl)

pub others_in : (t s : ℕ) → (s ≡ t → ⊥) → others t s ≡ true
unfolding others
others_in t s ne = rw (ne_eqb s t ne)

module _ (nb : Neighbours) where
  below_next : (k : ℕ) → With nb k (below k) (below (suc k))
  below_next k =
      record {
        out = below_out k k (omega arith);
        inside = below_in (suc k) k (omega arith);
        same =
            λ t ne.
            le_or_lt k t
            (λ le. below_out k t le ∙ sym (below_out (suc k) t (omega arith)))
            (λ lt. below_in k t lt ∙ sym (below_in (suc k) t (omega arith)));
      }

  others_all : (t : ℕ) → With nb t (others t) every_axis
  others_all t = record { out = others_out t; inside = refl; same = λ s ne. others_in t s ne }

-- ---- one forward turn

half_even : (z : ℤ) → is_even z ≡ true → half z +ℤ half z ≡ z
unfolding half is_even
half_even (pos n) e = ap pos (omega (arith, eqb-true (n % 2) 0 e))
half_even (negsuc n) e = ap negsuc (omega (arith, eqb-true (suc n % 2) 0 e))

-- Twice the forward turn is the turn without halves, where the sum is even.
forward_even : (nb : Neighbours) (t : ℕ) (f : ℕ → ℤ) (p : ℕ) → is_even (sum_on nb t f p) ≡ true →
    forward nb t f p +ℤ forward nb t f p ≡ turned nb t f p
unfolding forward turned sum_on
forward_even nb t f p e =
    omega (arith, ints, half_even (f (nb t Left p) +ℤ f (nb t Right p)) e)

module _ (m d u : ℕ) (nb : Neighbours) (depth : ℕ → ℕ → ℕ) (grid : Grid m nb depth) (w : Weights) (same : Agreement)
    (hats : Hats m d u nb w same) where
  surface_zero : (c : ℕ → ℤ) → 1 ≤ d → partly m d w same no_axis c 0 ≡ pos 0
  surface_zero c dim = partly_zero m d w same u nb hats no_axis c 0 dim refl

  -- After the turns of the first k axes the weights on these are agreements.
  turns_below : (c : ℕ → ℤ) (k q : ℕ) → k ≤ d → 1 ≤ d → q < m →
      closed nb every_axis k (partly m d w same no_axis c) (suc q) ≡ partly m d w same (below k) c (suc q) *ℤ pos ((u + u) ^ k)
  turns_below c zero q h dim point =
      rw (closed_start nb (partly m d w same no_axis c), pow-zero (u + u))
      (ap (λ (set : ℕ → Bool). partly m d w same set c (suc q)) (fun_ext λ t. sym (below_out 0 t (omega arith)))
      ∙ sym (times_one (partly m d w same (below 0) c (suc q))))
  turns_below c (suc k) q h dim point =
      let before : ℕ → ℤ = closed nb every_axis k (partly m d w same no_axis c) in
      let so_far : ℕ → ℤ = partly m d w same (below k) c in
      let size : ℕ = (u + u) ^ k in
      let zero_there : multiple size so_far 0 ≡ pos 0 =
      multiple_zero size so_far (partly_zero m d w same u nb hats (below k) c k h (below_out k k (omega arith))) in
      let alike : Agree m before (multiple size so_far) =
      agree_from m before (multiple size so_far)
      (closed_zero nb m depth grid k (partly m d w same no_axis c) (surface_zero c dim) ∙ sym zero_there)
      (λ p lt. turns_below c k p (omega arith) dim lt ∙ sym (multiple_at size so_far (suc p))) in
      rw (closed_suc nb k (partly m d w same no_axis c), pow-succ' (u + u) k)
      (turned_cong nb m depth grid k before (multiple size so_far) alike (suc q) point
      ∙ turned_multiple nb k size so_far (suc q)
      ∙ ap (λ (z : ℤ). z *ℤ pos size) (partly_turn m d w same u nb hats k h q point (below k) (below (suc k)) c (below_next nb k))
      ∙ sym (times_times (partly m d w same (below (suc k)) c (suc q)) (u + u) size))

  -- The turns of all axes leave the coefficient.
  turns_all : (c : ℕ → ℤ) (q : ℕ) → 1 ≤ d → q < m →
      closed nb every_axis d (partly m d w same no_axis c) (suc q) ≡ c (suc q) *ℤ pos ((u + u) ^ d)
  turns_all c q dim point =
      turns_below c d q (omega arith) dim point
      ∙ ap (λ (z : ℤ). z *ℤ pos ((u + u) ^ d))
      (partly_all m d w same u nb hats (below d) c q point (λ t lt. below_in d t lt))

  -- The surface of the coefficients of rates passes through every rate.
  pub passes_through : (c r : ℕ → ℤ) → 1 ≤ d → r 0 ≡ pos 0 → ((q : ℕ) → q < m → c (suc q) ≡ closed nb every_axis d r (suc q)) →
      (q : ℕ) → q < m → weighted_sum m c (factors w same d no_axis (suc q)) ≡ r (suc q) *ℤ pos ((u + u) ^ d)
  unfolding partly
  passes_through c r dim z coefficients q point =
      let surface : ℕ → ℤ = partly m d w same no_axis c in
      let size : ℕ = (u + u) ^ d in
      let zr : multiple size r 0 ≡ pos 0 = multiple_zero size r z in
      closed_injective nb m depth grid d surface (multiple size r) (surface_zero c dim) zr
      (agree_from m (closed nb every_axis d surface) (closed nb every_axis d (multiple size r))
      (closed_zero nb m depth grid d surface (surface_zero c dim) ∙ sym (closed_zero nb m depth grid d (multiple size r) zr))
      (λ p lt.
      turns_all c p dim lt
      ∙ ap (λ (v : ℤ). v *ℤ pos size) (coefficients p lt)
      ∙ sym (closed_multiple nb m depth grid d size r (suc p) lt ∙ multiple_at size (closed nb every_axis d r) (suc p))))
      (suc q) point
      ∙ multiple_at size r (suc q)

  -- Only the coefficients of the rates have a surface that passes through every rate.
  pub only_coefficients : (c r : ℕ → ℤ) → 0 < u → 1 ≤ d → r 0 ≡ pos 0 →
      ((q : ℕ) → q < m → weighted_sum m c (factors w same d no_axis (suc q)) ≡ r (suc q) *ℤ pos ((u + u) ^ d)) →
      (q : ℕ) → q < m → c (suc q) ≡ closed nb every_axis d r (suc q)
  unfolding partly
  only_coefficients c r unit dim z through q point =
      let surface : ℕ → ℤ = partly m d w same no_axis c in
      let size : ℕ = (u + u) ^ d in
      times_cancel (c (suc q)) (closed nb every_axis d r (suc q)) size (one-le-pow d (u + u) (omega arith))
      (sym (turns_all c q dim point)
      ∙ closed_agree nb m depth grid d surface (multiple size r)
      (agree_from m surface (multiple size r) (surface_zero c dim ∙ sym (multiple_zero size r z))
      (λ p lt. through p lt ∙ sym (multiple_at size r (suc p)))) (suc q) point
      ∙ closed_multiple nb m depth grid d size r (suc q) point
      ∙ multiple_at size (closed nb every_axis d r) (suc q))

  -- A forward turn on axis t alone: on each line along that axis, the weighted sums of the turned values are the values.
  pub line_sums : (t : ℕ) (f : ℕ → ℤ) → t < d → f 0 ≡ pos 0 → ((q : ℕ) → q < m → is_even (sum_on nb t f (suc q)) ≡ true) →
      (q : ℕ) → q < m → weighted_sum m (forward nb t f) (factors w same d (others t) (suc q)) ≡ f (suc q) *ℤ pos u
  unfolding partly
  line_sums t f axis z even q point =
      let sums : ℕ → ℤ = partly m d w same (others t) (forward nb t f) in
      let zs : sums 0 ≡ pos 0 = partly_zero m d w same u nb hats (others t) (forward nb t f) t axis (others_out t) in
      let zf : multiple u f 0 ≡ pos 0 = multiple_zero u f z in
      turned_injective nb m depth grid t sums (multiple u f) (zs ∙ sym zf)
      (agree_from m (turned nb t sums) (turned nb t (multiple u f))
      (turned_zero nb m depth grid t sums zs ∙ sym (turned_zero nb m depth grid t (multiple u f) zf))
      (λ p lt.
      let v : ℤ = forward nb t f (suc p) in
      partly_turn m d w same u nb hats t axis p lt (others t) every_axis (forward nb t f) (others_all nb t)
      ∙ ap (λ (x : ℤ). x *ℤ pos (u + u)) (partly_all m d w same u nb hats every_axis (forward nb t f) p lt (λ s h. refl))
      ∙ times_plus v u u
      ∙ sym (plus_times v v u)
      ∙ ap (λ (x : ℤ). x *ℤ pos u) (forward_even nb t f (suc p) (even p lt))
      ∙ sym (turned_multiple nb t u f (suc p))))
      (suc q) point
      ∙ multiple_at u f (suc q)
