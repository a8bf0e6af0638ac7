-- The closed form of the table of a set: each axis of the set turns, each other axis doubles, and no half is left. From it, that a turn of one
-- more axis leads to the table of the larger set whatever the order, with every sum even, and that nothing passes the content limit.
-- Assumes nothing.
use mathlib.Core.Path.{◌≡◌, refl, ap, ap₂, sym, ◌∙◌, fun_ext}
use mathlib.Core.Bool.{Bool, true, false}
use Prim.Native.Nat.{ℕ, zero, suc, ◌+◌, ◌^◌, ◌<◌, ◌-◌}
use native.Mathlib.Nat.{two-pow-succ, add-zero}
use native.Mathlib.Omega.{arith}
use lib.IntN.{ℤ, pos, ◌+ℤ◌, ◌*ℤ◌, zero-*ℤ}
use Rattle.std.specs.Prelude.{if◌then◌else◌}
use Rattle.naturals.proofs.Cases.{eq_or_not, true_or_false}
use Rattle.integers.proofs.Products.{times_plus, times_one}
use Rattle.integers.specs.Half.{is_even}
use Rattle.hierarchy.specs.Grid.{Neighbours, Grid}
use Rattle.hierarchy.specs.Turns.{sum_on, forward}
use Rattle.hierarchy.specs.Sets.{scaled, swept, table_of}
use Rattle.hierarchy.proofs.Turned.{twice, turned, forward_twice, turned_twice, turned_swap, twice_even}

-- A table doubled k times.
unfoldable pub doubled : ℕ → (ℕ → ℤ) → ℕ → ℤ
doubled zero f = f
doubled (suc k) f = twice (doubled k f)

-- Doubling d times is multiplying by 2^d.
times_suc : (z : ℤ) (d : ℕ) → z *ℤ pos (2 ^ suc d) ≡ z *ℤ pos (2 ^ d) +ℤ z *ℤ pos (2 ^ d)
times_suc z d = ap (λ (n : ℕ). z *ℤ pos n) (two-pow-succ d) ∙ times_plus z (2 ^ d) (2 ^ d)

scaled_zero : (r : ℕ → ℤ) (p : ℕ) → scaled 0 r p ≡ r p
unfolding scaled
scaled_zero r p = times_one (r p)

scaled_suc : (d : ℕ) (r : ℕ → ℤ) (p : ℕ) → scaled (suc d) r p ≡ twice (scaled d r) p
unfolding scaled twice
scaled_suc d r p = times_suc (r p) d

pub scaled_border : (d : ℕ) (r : ℕ → ℤ) → r 0 ≡ pos 0 → scaled d r 0 ≡ pos 0
unfolding scaled
scaled_border d r z = ap (λ (v : ℤ). v *ℤ pos (2 ^ d)) z ∙ zero-*ℤ (pos (2 ^ d))

pub scaled_doubled : (d : ℕ) (r : ℕ → ℤ) → scaled d r ≡ doubled d r
unfolding doubled
scaled_doubled zero r = fun_ext (scaled_zero r)
scaled_doubled (suc d) r = fun_ext (scaled_suc d r) ∙ ap twice (scaled_doubled d r)

module _ (nb : Neighbours) where
  -- Each of the first k axes turns or doubles.
  unfoldable pub closed : (ℕ → Bool) → ℕ → (ℕ → ℤ) → ℕ → ℤ
  closed set zero r = r
  closed set (suc k) r = if set k then turned nb k (closed set k r) else twice (closed set k r)

  closed_in : (set : ℕ → Bool) (k : ℕ) (r : ℕ → ℤ) → set k ≡ true → closed set (suc k) r ≡ turned nb k (closed set k r)
  unfolding closed
  closed_in set k r e = rw e

  closed_out : (set : ℕ → Bool) (k : ℕ) (r : ℕ → ℤ) → set k ≡ false → closed set (suc k) r ≡ twice (closed set k r)
  unfolding closed
  closed_out set k r e = rw e

  turned_doubled : (t j : ℕ) (f : ℕ → ℤ) → turned nb t (doubled j f) ≡ doubled j (turned nb t f)
  unfolding doubled
  turned_doubled t zero f = refl
  turned_doubled t (suc j) f = turned_twice nb t (doubled j f) ∙ ap twice (turned_doubled t j f)

  doubled_twice : (j : ℕ) (f : ℕ → ℤ) → doubled j (twice f) ≡ twice (doubled j f)
  unfolding doubled
  doubled_twice zero f = refl
  doubled_twice (suc j) f = ap twice (doubled_twice j f)

  doubled_suc : (j : ℕ) (f : ℕ → ℤ) → doubled (suc j) f ≡ twice (doubled j f)
  unfolding doubled
  doubled_suc j f = refl

  -- After k axes, what is left of the 2^d is a doubling for each axis to come.
  swept_closed : (set : ℕ → Bool) (k j : ℕ) (r : ℕ → ℤ) → swept nb set k (doubled (k + j) r) ≡ doubled j (closed set k r)
  unfolding swept closed
  swept_closed set zero j r = ap (λ (n : ℕ). doubled n r) (omega arith)
  swept_closed set (suc k) j r =
      let below : swept nb set k (doubled (suc k + j) r) ≡ twice (doubled j (closed set k r)) =
      ap (λ (n : ℕ). swept nb set k (doubled n r)) (omega arith)
      ∙ swept_closed set k (suc j) r
      ∙ doubled_suc j (closed set k r) in
      true_or_false (set k)
      (λ e.
      rw e
      (ap (forward nb k) below
      ∙ forward_twice nb k (doubled j (closed set k r))
      ∙ turned_doubled k j (closed set k r)))
      (λ e. rw e (below ∙ sym (doubled_twice j (closed set k r))))

  -- Every half in the table of a set is whole: the sums that the turn of axis k meets, after the axes before it, are even.
  pub halves_whole : (d : ℕ) (set : ℕ → Bool) (k : ℕ) (r : ℕ → ℤ) (p : ℕ) → k < d →
      is_even (sum_on nb k (swept nb set k (scaled d r)) p) ≡ true
  halves_whole d set k r p h =
      let j : ℕ = d - suc k in
      let e : d ≡ k + suc j = omega arith in
      ap (λ (f : ℕ → ℤ). is_even (sum_on nb k f p))
      (ap (swept nb set k) (scaled_doubled d r ∙ ap (λ (n : ℕ). doubled n r) e)
      ∙ swept_closed set k (suc j) r
      ∙ doubled_suc j (closed set k r))
      ∙ twice_even nb k (doubled j (closed set k r)) p

  -- The table of a set in closed form.
  pub table_closed : (d : ℕ) (set : ℕ → Bool) (r : ℕ → ℤ) → table_of nb d set r ≡ closed set d r
  unfolding table_of doubled
  table_closed d set r =
      ap (swept nb set d) (scaled_doubled d r ∙ ap (λ (n : ℕ). doubled n r) (sym (add-zero d))) ∙ swept_closed set d 0 r

  -- The closed form looks at the first k axes of the set alone.
  pub closed_cong : (set other : ℕ → Bool) (k : ℕ) (r : ℕ → ℤ) → ((t : ℕ) → t < k → set t ≡ other t) → closed set k r ≡ closed other k r
  unfolding closed
  closed_cong set other zero r same = refl
  closed_cong set other (suc k) r same =
      ap₂ (λ (b : Bool) (f : ℕ → ℤ). if b then turned nb k f else twice f) (same k (omega arith))
      (closed_cong set other k r (λ t h. same t (omega arith)))

  -- What is left of the table of a set without axis t, where t is one of the first k and not in the set: twice it is the table, and its turn is
  -- the table of the set with t.
  pub record Step (k t : ℕ) (set other : ℕ → Bool) (r : ℕ → ℤ) : Type 0 where
    pub rest : ℕ → ℤ
    pub before : closed set k r ≡ twice rest
    pub after : closed other k r ≡ turned nb t rest

  -- other is the set with t.
  pub record With (t : ℕ) (set other : ℕ → Bool) : Type 0 where
    pub out : set t ≡ false
    pub inside : other t ≡ true
    pub same : (u : ℕ) → (u ≡ t → ⊥) → set u ≡ other u

  module _ (m : ℕ) (depth : ℕ → ℕ → ℕ) (grid : Grid m nb depth) where
    pub step : (k t : ℕ) (set other : ℕ → Bool) (r : ℕ → ℤ) → t < k → With t set other → Step k t set other r
    step zero t set other r h w = absurd (omega arith)
    step (suc k) t set other r h w =
        eq_or_not t k
        (λ e.
        record {
          rest = closed set k r;
          before = closed_out set k r (ap set (sym e) ∙ w.out);
          after =
              closed_in other k r (ap other (sym e) ∙ w.inside)
              ∙ ap (turned nb k) (sym (closed_cong set other k r (λ u lt. w.same u (λ f. omega arith))))
              ∙ ap (λ (u : ℕ). turned nb u (closed set k r)) (sym e);
        })
        (λ e.
        let s = step k t set other r (omega arith) w in
        true_or_false (set k)
        (λ b.
        record {
          rest = turned nb k s.rest;
          before = closed_in set k r b ∙ ap (turned nb k) s.before ∙ turned_twice nb k s.rest;
          after =
              closed_in other k r (sym (w.same k (λ f. e (sym f))) ∙ b)
              ∙ ap (turned nb k) s.after
              ∙ turned_swap nb m depth grid k t s.rest (λ f. e (sym f));
        })
        (λ b.
        record {
          rest = twice s.rest;
          before = closed_out set k r b ∙ ap twice s.before;
          after =
              closed_out other k r (sym (w.same k (λ f. e (sym f))) ∙ b)
              ∙ ap twice s.after
              ∙ sym (turned_twice nb t s.rest);
        }))
