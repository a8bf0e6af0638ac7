-- Turns without halves, on tables that are looked at on the points and the border alone: they respect agreement there, are linear, and two tables,
-- 0 at the border, whose turns agree are equal. By the falling depth: a value is found from its turn and the parents' values.
-- Assumes nothing.
use mathlib.Core.Path.{◌≡◌, refl, ap, ap₂, sym, ◌∙◌}
use Prim.Native.Nat.{ℕ, zero, suc, ◌≤◌, ◌<◌}
use native.Mathlib.Omega.{arith}
use Rattle.std.proofs.lemmas.Int.{ints}
use lib.IntN.{ℤ, pos, neg_ℤ, ◌+ℤ◌, ◌*ℤ◌, zero-*ℤ}
use Rattle.naturals.proofs.Cases.{eq_or_not}
use Rattle.numbering.specs.declared.Side.{Side}
use Rattle.numbering.specs.declared.Side.TheVariants.{Left, Right}
use Rattle.hierarchy.specs.Grid.{Neighbours, Grid}
use Rattle.hierarchy.specs.Sets.{every_axis}
use Rattle.hierarchy.proofs.Turned.{turned}
use Rattle.hierarchy.proofs.Closed.{closed}
use Rattle.integers.proofs.Products.{plus_times, neg_times}

-- Two tables agree at the border and at the first m points.
abbrev pub Agree : ℕ → (ℕ → ℤ) → (ℕ → ℤ) → Type 0
Agree m f g = (p : ℕ) → p ≤ m → f p ≡ g p

-- They do if they agree at the border and at each point.
pub agree_from : (m : ℕ) (f g : ℕ → ℤ) → f 0 ≡ g 0 → ((q : ℕ) → q < m → f (suc q) ≡ g (suc q)) → Agree m f g
agree_from m f g z each zero h = z
agree_from m f g z each (suc q) h = each q h

-- A table times a number.
unfoldable pub multiple : ℕ → (ℕ → ℤ) → ℕ → ℤ
multiple k f p = f p *ℤ pos k

pub multiple_at : (k : ℕ) (f : ℕ → ℤ) (p : ℕ) → multiple k f p ≡ f p *ℤ pos k
unfolding multiple
multiple_at k f p = refl

pub multiple_zero : (k : ℕ) (f : ℕ → ℤ) → f 0 ≡ pos 0 → multiple k f 0 ≡ pos 0
unfolding multiple
multiple_zero k f z = ap (λ (x : ℤ). x *ℤ pos k) z ∙ zero-*ℤ (pos k)

module _ (nb : Neighbours) where
  pub turned_multiple : (t k : ℕ) (f : ℕ → ℤ) (p : ℕ) → turned nb t (multiple k f) p ≡ turned nb t f p *ℤ pos k
  unfolding turned multiple
  turned_multiple t k f p =
      let a : ℤ = f (nb t Left p) in
      let b : ℤ = f (nb t Right p) in
      let v : ℤ = f p in
      sym (
      plus_times (v +ℤ v +ℤ neg_ℤ a) (neg_ℤ b) k
      ∙ ap₂ ◌+ℤ◌ (plus_times (v +ℤ v) (neg_ℤ a) k ∙ ap₂ ◌+ℤ◌ (plus_times v v k) (neg_times a k)) (neg_times b k)
      )

  pub closed_suc : (k : ℕ) (r : ℕ → ℤ) → closed nb every_axis (suc k) r ≡ turned nb k (closed nb every_axis k r)
  unfolding closed
  closed_suc k r = refl

  pub closed_start : (r : ℕ → ℤ) → closed nb every_axis 0 r ≡ r
  unfolding closed
  closed_start r = refl

  module _ (m : ℕ) (depth : ℕ → ℕ → ℕ) (grid : Grid m nb depth) where
    pub turned_cong : (t : ℕ) (f g : ℕ → ℤ) → Agree m f g → Agree m (turned nb t f) (turned nb t g)
    unfolding turned
    turned_cong t f g same p h =
        rw (same p h, same (nb t Left p) (grid.within t Left p), same (nb t Right p) (grid.within t Right p))

    pub turned_zero : (t : ℕ) (f : ℕ → ℤ) → f 0 ≡ pos 0 → turned nb t f 0 ≡ pos 0
    unfolding turned
    turned_zero t f z = rw (grid.border t Left, grid.border t Right, z)

    -- A value is determined by its turn and the parents' values.
    from_turn : (t : ℕ) (f g : ℕ → ℤ) (p : ℕ) → turned nb t f p ≡ turned nb t g p → ((b : Side) → f (nb t b p) ≡ g (nb t b p)) → f p ≡ g p
    unfolding turned
    from_turn t f g p e parent = omega (arith, ints, e, parent Left, parent Right)

    turned_injective_to : (k t : ℕ) (f g : ℕ → ℤ) → f 0 ≡ g 0 → Agree m (turned nb t f) (turned nb t g) →
        (p : ℕ) → p ≤ m → depth t p < k → f p ≡ g p
    turned_injective_to zero t f g z same p h lt = absurd (omega arith)
    turned_injective_to (suc k) t f g z same p h lt =
        from_turn t f g p (same p h)
        (λ b.
        eq_or_not (nb t b p) 0
        (λ e. rw e z)
        (λ ne.
        turned_injective_to k t f g z same (nb t b p) (grid.within t b p) (omega (arith, grid.falls t b p ne))))

    -- One turn determines the table.
    pub turned_injective : (t : ℕ) (f g : ℕ → ℤ) → f 0 ≡ g 0 → Agree m (turned nb t f) (turned nb t g) → Agree m f g
    turned_injective t f g z same p h = turned_injective_to (suc (depth t p)) t f g z same p h (omega arith)

    -- ---- all axes

    pub closed_zero : (k : ℕ) (r : ℕ → ℤ) → r 0 ≡ pos 0 → closed nb every_axis k r 0 ≡ pos 0
    closed_zero zero r z = rw (closed_start r) z
    closed_zero (suc k) r z = rw (closed_suc k r) (turned_zero k (closed nb every_axis k r) (closed_zero k r z))

    pub closed_agree : (k : ℕ) (f g : ℕ → ℤ) → Agree m f g → Agree m (closed nb every_axis k f) (closed nb every_axis k g)
    closed_agree zero f g same = rw (closed_start f, closed_start g) same
    closed_agree (suc k) f g same =
        rw (closed_suc k f, closed_suc k g)
        (turned_cong k (closed nb every_axis k f) (closed nb every_axis k g) (closed_agree k f g same))

    pub closed_multiple : (k n : ℕ) (r : ℕ → ℤ) → Agree m (closed nb every_axis k (multiple n r)) (multiple n (closed nb every_axis k r))
    closed_multiple zero n r p h = rw (closed_start (multiple n r), closed_start r)
    closed_multiple (suc k) n r p h =
        rw (closed_suc k (multiple n r), closed_suc k r)
        (turned_cong k (closed nb every_axis k (multiple n r)) (multiple n (closed nb every_axis k r)) (closed_multiple k n r) p h
        ∙ turned_multiple k n (closed nb every_axis k r) p
        ∙ sym (multiple_at n (turned nb k (closed nb every_axis k r)) p))

    -- The turns of the first k axes determine the table.
    pub closed_injective : (k : ℕ) (f g : ℕ → ℤ) → f 0 ≡ pos 0 → g 0 ≡ pos 0 →
        Agree m (closed nb every_axis k f) (closed nb every_axis k g) → Agree m f g
    closed_injective zero f g zf zg same = rw (closed_start f, closed_start g) at same
    closed_injective (suc k) f g zf zg same =
        closed_injective k f g zf zg
        (turned_injective k (closed nb every_axis k f) (closed nb every_axis k g) (closed_zero k f zf ∙ sym (closed_zero k g zg))
        (rw (closed_suc k f, closed_suc k g) at same))
