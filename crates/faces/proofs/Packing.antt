-- The inner axes of a face and their order. An inner axis and its place among them lead to each other. Where border axes have 0, sums over all axes are sums over the
-- inner ones; so are the level sum and the position of a point, since a border axis has level 0 and index 1. True axis by axis: an inner axis adds one place, and what
-- it has stands there; a border axis adds none.
-- Assumes nothing.
use mathlib.Core.Path.{◌≡◌, refl, ap, ap₂, sym, ◌∙◌}
use Prim.Native.Nat.{ℕ, zero, suc, ◌+◌, ◌-◌, ◌*◌, ◌/◌, ◌^◌, ◌≤◌, ◌<◌}
use native.Mathlib.Nat.{zero-mul}
use native.Mathlib.Omega.{arith}
use borrow.Author.Tests.{eq-eqb, ne_eqb}
use Rattle.naturals.specs.Sum.{sum_to}
use Rattle.naturals.proofs.Cases.{eq_or_not}
use Rattle.naturals.proofs.Sums.{sum_to_zero, sum_to_suc, sum_to_mono, sum_to_cong}
use Rattle.numbering.specs.Number.{digit, position}
use Rattle.faces.specs.Faces.{bit, borders}
use Rattle.faces.specs.Packing.{inner_on, before, axis_of, packed}
use Rattle.faces.specs.Marked.{Marked}
use Rattle.faces.proofs.Ranks.{bit_le, bit_inner, bit_border, borders_zero, borders_suc}

-- ---- how many inner axes

pub before_zero : (m : ℕ → ℕ) → before m 0 ≡ 0
unfolding before
before_zero m = sum_to_zero (inner_on m)

pub before_suc : (m : ℕ → ℕ) (t : ℕ) → before m (suc t) ≡ before m t + (1 - bit (m t))
unfolding before inner_on
before_suc m t = sum_to_suc (inner_on m) t

pub before_mono : (m : ℕ → ℕ) (t u : ℕ) → t ≤ u → before m t ≤ before m u
unfolding before
before_mono m t u h = sum_to_mono (inner_on m) t u h

pub before_cong : (m o : ℕ → ℕ) (k : ℕ) → ((t : ℕ) → t < k → m t ≡ o t) → before m k ≡ before o k
unfolding before inner_on
before_cong m o k same = sum_to_cong _ _ k (λ t h. ap (λ (a : ℕ). 1 - bit a) (same t h))

-- An inner axis adds one place, a border axis none.
pub before_inner : (m : ℕ → ℕ) (t : ℕ) → m t ≡ 0 → before m (suc t) ≡ suc (before m t)
before_inner m t e = omega (arith, before_suc m t, bit_inner (m t) e)

pub before_border : (m : ℕ → ℕ) (t : ℕ) → 0 < m t → before m (suc t) ≡ before m t
before_border m t h = omega (arith, before_suc m t, bit_border (m t) h)

-- Inner and border axes are all axes.
pub before_borders : (m : ℕ → ℕ) (d : ℕ) → before m d + borders m d ≡ d
before_borders m zero = omega (arith, before_zero m, borders_zero m)
before_borders m (suc d) = omega (arith, before_suc m d, borders_suc m d, before_borders m d, bit_le (m d))

pub inner_axes : (m : ℕ → ℕ) (d : ℕ) → before m d ≡ d - borders m d
inner_axes m d = omega (arith, before_borders m d)

-- ---- an inner axis and its place

-- An inner axis has a place among the inner axes.
pub before_lt : (m : ℕ → ℕ) (d t : ℕ) → t < d → m t ≡ 0 → before m t < before m d
before_lt m d t h e = omega (arith, before_inner m t e, before_mono m (suc t) d h)

pub place_lt : (m : ℕ → ℕ) (d t : ℕ) → t < d → m t ≡ 0 → before m t < d - borders m d
place_lt m d t h e = omega (arith, before_lt m d t h e, inner_axes m d)

axis_here : (m : ℕ → ℕ) (d j : ℕ) → m d ≡ 0 → j ≡ before m d → axis_of m (suc d) j ≡ d
unfolding axis_of
axis_here m d j e f = rw (eq-eqb (m d) 0 e, eq-eqb j (before m d) f)

axis_other : (m : ℕ → ℕ) (d j : ℕ) → (j ≡ before m d → ⊥) → axis_of m (suc d) j ≡ axis_of m d j
unfolding axis_of
axis_other m d j ne = eq_or_not (m d) 0 (λ e. rw (eq-eqb (m d) 0 e, ne_eqb j (before m d) ne)) (λ e. rw (ne_eqb (m d) 0 e))

-- From an inner axis to its place and back.
pub axis_of_before : (m : ℕ → ℕ) (d t : ℕ) → t < d → m t ≡ 0 → axis_of m d (before m t) ≡ t
axis_of_before m zero t h e = omega arith
axis_of_before m (suc d) t h e =
    eq_or_not t d
    (λ same. axis_here m d (before m t) (ap m (sym same) ∙ e) (ap (before m) same) ∙ sym same)
    (λ other.
    axis_other m d (before m t) (λ f. omega (arith, before_lt m d t (omega arith) e))
    ∙ axis_of_before m d t (omega arith) e)

-- From a place to its inner axis and back: t is the inner axis at place j.
pub record Inner (m : ℕ → ℕ) (d j t : ℕ) : Type 0 where
  pub axis : t < d
  pub mark : m t ≡ 0
  pub place : before m t ≡ j

pub axis_inner : (m : ℕ → ℕ) (d j : ℕ) → j < before m d → Inner m d j (axis_of m d j)
axis_inner m zero j h = absurd (omega (arith, before_zero m))
axis_inner m (suc d) j h =
    eq_or_not (m d) 0
    (λ e.
    eq_or_not j (before m d)
    (λ f. rw (axis_here m d j e f) (record { axis = omega arith; mark = e; place = sym f }))
    (λ f. further (axis_inner m d j (omega (arith, before_inner m d e))) f))
    (λ e.
    let lt : j < before m d = omega (arith, before_border m d (omega arith)) in
    further (axis_inner m d j lt) (λ f. omega arith))
  where
    further : Inner m d j (axis_of m d j) → (j ≡ before m d → ⊥) → Inner m (suc d) j (axis_of m (suc d) j)
    further x ne = rw (axis_other m d j ne) (record { axis = omega (arith, x.axis); mark = x.mark; place = x.place })

-- ---- what the inner axes have

pub packed_is : (m : ℕ → ℕ) (d : ℕ) (f : ℕ → ℕ) (j : ℕ) → packed m d f j ≡ f (axis_of m d j)
unfolding packed
packed_is m d f j = refl

-- What an inner axis has stands at its place.
pub packed_before : (m : ℕ → ℕ) (d : ℕ) (f : ℕ → ℕ) (t : ℕ) → t < d → m t ≡ 0 → packed m d f (before m t) ≡ f t
packed_before m d f t h e = packed_is m d f (before m t) ∙ ap f (axis_of_before m d t h e)

-- Where border axes have 0, the sum over the first t axes is that over the inner ones among them.
module _ (m : ℕ → ℕ) (d : ℕ) (f : ℕ → ℕ) (none : (t : ℕ) → t < d → 0 < m t → f t ≡ 0) where
  pub prefix_sum : (t : ℕ) → t ≤ d → sum_to (packed m d f) (before m t) ≡ sum_to f t
  prefix_sum zero le = ap (sum_to (packed m d f)) (before_zero m) ∙ sum_to_zero (packed m d f) ∙ sym (sum_to_zero f)
  prefix_sum (suc t) le =
      let below : sum_to (packed m d f) (before m t) ≡ sum_to f t = prefix_sum t (omega arith) in
      eq_or_not (m t) 0
      (λ e.
      ap (sum_to (packed m d f)) (before_inner m t e)
      ∙ omega (arith, sum_to_suc (packed m d f) (before m t), sum_to_suc f t, below, packed_before m d f t le e))
      (λ e.
      ap (sum_to (packed m d f)) (before_border m t (omega arith))
      ∙ omega (arith, sum_to_suc f t, below, none t le (omega arith)))

  pub packed_sum : sum_to (packed m d f) (before m d) ≡ sum_to f d
  packed_sum = prefix_sum d (omega arith)

-- ---- the position of a point

digit_is : (l i : ℕ → ℕ) (t : ℕ) → digit l i t ≡ (i t - 1) / 2 * 2 ^ sum_to l t
unfolding digit
digit_is l i t = refl

position_is : (l i : ℕ → ℕ) (d : ℕ) → position l i d ≡ sum_to (digit l i) d
unfolding position
position_is l i d = refl

module _ {d n : ℕ} {m l i : ℕ → ℕ} (x : Marked d n m l i) where
  -- A border axis adds nothing.
  digit_border : (t : ℕ) → t < d → 0 < m t → digit l i t ≡ 0
  digit_border t h some = digit_is l i t ∙ ap (λ (y : ℕ). (y - 1) / 2 * 2 ^ sum_to l t) (x.index t h some) ∙ zero-mul (2 ^ sum_to l t)

  -- An inner axis adds the same in both: the levels before it have one sum.
  digit_packed : (j : ℕ) → j < before m d → digit (packed m d l) (packed m d i) j ≡ packed m d (digit l i) j
  digit_packed j h =
      let u = axis_inner m d j h in
      digit_is (packed m d l) (packed m d i) j
      ∙ ap₂ (λ (y s : ℕ). (y - 1) / 2 * 2 ^ s) (packed_is m d i j)
      (ap (sum_to (packed m d l)) (sym u.place) ∙ prefix_sum m d l x.level (axis_of m d j) (omega (arith, u.axis)))
      ∙ sym (packed_is m d (digit l i) j ∙ digit_is l i (axis_of m d j))

  -- So do the first t axes together.
  pub prefix_position : (t : ℕ) → t ≤ d → position (packed m d l) (packed m d i) (before m t) ≡ position l i t
  prefix_position t le =
      position_is (packed m d l) (packed m d i) (before m t)
      ∙ sum_to_cong (digit (packed m d l) (packed m d i)) (packed m d (digit l i)) (before m t)
      (λ j h. digit_packed j (omega (arith, h, before_mono m t d le)))
      ∙ prefix_sum m d (digit l i) digit_border t le
      ∙ sym (position_is l i t)

  pub packed_position : position (packed m d l) (packed m d i) (before m d) ≡ position l i d
  packed_position = prefix_position d (omega arith)
