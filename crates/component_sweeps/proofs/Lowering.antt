-- Values lowered one after the other, in parts of a set none of whose points has a parent in it: the values that a step reads have not moved, so the parts together
-- are lowered by the values at entry. So are the positions of a run, and the runs of a band, which do not overlap.
-- Assumes nothing.
use mathlib.Core.List.{List}
use mathlib.Core.Logic.{◌⊎◌, inl, inr, ⊎_elim}
use mathlib.Core.Path.{◌≡◌, refl, ap, ap₂, sym, ◌∙◌}
use Prim.Native.Nat.{ℕ, suc, ◌+◌, ◌-◌, ◌*◌, ◌≤◌, ◌<◌}
use native.Mathlib.Nat.{add-mul, one-mul, zero-mul, mul-le-mul_right}
use native.Mathlib.Omega.{arith}
use lib.IntN.{ℤ, pos, ◌+ℤ◌, ◌-ℤ◌}
use lib.ListN.{length, set, length-set}
use lib.Seq.{get_or-set_same, get_or-set_other}
use Rattle.std.specs.Prelude.{Option, Some, None}
use Rattle.naturals.proofs.Cases.{eq_or_not}
use Rattle.integers.specs.Half.{half, in_limit}
use Rattle.hierarchy.specs.Turns.{value_at}
use Rattle.hierarchy.proofs.Values.{value_zero, value_suc}
use Rattle.component_sweeps.specs.declared.Parents.{Parents}
use Rattle.component_sweeps.specs.declared.axis.Spread.{Spread}
use Rattle.component_sweeps.specs.Steps.{behind, ahead, lowered, CanStep, CanLower, LoweredOn, InRun, InBand, Run, CanRun, CanBand}
use Rattle.component_sweeps.proofs.Apart.{Contained}

-- A parent on one side, or none.
pub none_or_some : {P : Type 0} (o : Option ℕ) → (o ≡ None → P) → ((far : ℕ) → o ≡ Some far → P) → P
none_or_some None none some = none refl
none_or_some (Some far) none some = some far refl

module _ (a : Parents) where
  pub lowered_none : {none : ℕ → Type 0} (xs : List ℤ) → ((p : ℕ) → none p → ⊥) → LoweredOn a none xs xs
  lowered_none xs empty = record { long = refl; on = λ p h. absurd (empty p h); off = λ p out. refl }

  -- One position, by a store.
  pub lowered_one : (xs : List ℤ) (p : ℕ) → p < length xs → LoweredOn a (λ q. q ≡ p) xs (set xs p (lowered xs p a))
  lowered_one xs p inside =
      record {
        long = length-set xs p v;
        on =
            λ q e. rw e (value_suc (set xs p v) p ∙ get_or-set_same xs p v (pos 0) inside);
        off =
            λ q out.
            value_suc (set xs p v) q
            ∙ get_or-set_other xs p q v (pos 0) out
            ∙ sym (value_suc xs q);
      }
    where
      v : ℤ
      v = lowered xs p a

  -- A part of the set after another.
  module _ {whole done next : ℕ → Type 0} {xs ys : List ℤ} (can : CanLower a whole xs) (one : Contained done whole) (two : Contained next whole)
      (apart : (p : ℕ) → next p → done p → ⊥) (s : LoweredOn a done xs ys) where
    nothing : value_at ys 0 ≡ value_at xs 0
    nothing = value_zero ys ∙ sym (value_zero xs)

    module _ (p : ℕ) (here : next p) where
      own_kept : value_at ys (suc p) ≡ value_at xs (suc p)
      own_kept = s.off p (apart p here)

      behind_kept : value_at ys (behind p a.left) ≡ value_at xs (behind p a.left)
      behind_kept =
          none_or_some a.left
          (λ e. rw e nothing)
          (λ far e. rw e (s.off (p - far) (λ h. can.before p far (two p here) e (one (p - far) h))))

      ahead_kept : value_at ys (ahead p a.right) ≡ value_at xs (ahead p a.right)
      ahead_kept =
          none_or_some a.right
          (λ e. rw e nothing)
          (λ far e. rw e (s.off (p + far) (λ h. can.after p far (two p here) e (one (p + far) h))))

      step_kept : CanStep p a ys
      step_kept =
          let known = can.each p (two p here) in
          record {
            inside = omega (arith, s.long, known.inside);
            before = known.before;
            after = λ far e. omega (arith, s.long, known.after far e);
            own = ap in_limit own_kept ∙ known.own;
            behind_in = ap in_limit behind_kept ∙ known.behind_in;
            ahead_in = ap in_limit ahead_kept ∙ known.ahead_in;
          }

      lowered_kept : lowered ys p a ≡ lowered xs p a
      unfolding lowered
      lowered_kept = ap₂ (λ (v w : ℤ). v -ℤ half w) own_kept (ap₂ ◌+ℤ◌ behind_kept ahead_kept)

    pub can_next : CanLower a next ys
    can_next =
        record {
          each = step_kept;
          before = λ p far here e there. can.before p far (two p here) e (two (p - far) there);
          after = λ p far here e there. can.after p far (two p here) e (two (p + far) there);
        }

    pub lowered_both : {both : ℕ → Type 0} {zs : List ℤ} → Contained done both → Contained next both → ((p : ℕ) → both p → done p ⊎ next p) →
        LoweredOn a next ys zs → LoweredOn a both xs zs
    lowered_both first then either u =
        record {
          long = u.long ∙ s.long;
          on =
              λ p h.
              ⊎_elim (λ f. u.off p (λ n. apart p n f) ∙ s.on p f) (λ n. u.on p n ∙ lowered_kept p n) (either p h);
          off = λ p out. u.off p (λ n. out (then p n)) ∙ s.off p (λ f. out (first p f));
        }

-- ---- a run

module _ (b : Spread) (first : ℕ) (a : Parents) (xs : List ℤ) (can : CanRun b first a xs) where
  pub run_starts : LoweredOn a (InRun first 0 b.unit) xs xs
  run_starts = lowered_none a xs (λ p h. omega (arith, h.inside))

  pub run_first : first ≡ first + 0 * b.unit
  run_first = omega (arith, zero-mul b.unit)

  pub run_next : (p i : ℕ) → p ≡ first + i * b.unit → p + b.unit ≡ first + (i + 1) * b.unit
  run_next p i here = omega (arith, add-mul i 1 b.unit, one-mul b.unit)

  module _ (i : ℕ) (less : i < b.width) (ys : List ℤ) (s : LoweredOn a (InRun first i b.unit) xs ys) where
    abbrev Position : ℕ → Type 0
    Position p = p ≡ first + i * b.unit

    shorter : {n m : ℕ} → n ≤ m → Contained (InRun first n b.unit) (InRun first m b.unit)
    shorter le p h = record { index = h.index; inside = omega (arith, h.inside); is = h.is }

    following : {m : ℕ} → i < m → Contained Position (InRun first m b.unit)
    following less p e = record { index = i; inside = less; is = e }

    no_more : (p : ℕ) → Position p → InRun first i b.unit p → ⊥
    no_more p e d =
        omega (
          arith,
          d.is,
          can.step,
          mul-le-mul_right {m = d.index + 1} {n = i} b.unit (omega (arith, d.inside)),
          add-mul d.index 1 b.unit,
          one-mul b.unit,
        )

    pub run_step : CanStep (first + i * b.unit) a ys
    run_step = (can_next a can.can (shorter (omega arith)) (following less) no_more s).each (first + i * b.unit) refl

    pub run_steps : LoweredOn a (InRun first (i + 1) b.unit) xs (set ys (first + i * b.unit) (lowered ys (first + i * b.unit) a))
    run_steps =
        lowered_both a can.can (shorter (omega arith)) (following less) no_more s (shorter (omega arith)) (following (omega arith))
        (λ p h.
        eq_or_not h.index i
        (λ e. inr (h.is ∙ ap (λ (y : ℕ). first + y * b.unit) e))
        (λ ne. inl (record { index = h.index; inside = omega (arith, h.inside); is = h.is })))
        (lowered_one a ys (first + i * b.unit) run_step.inside)

-- ---- a band

module _ (b : Spread) (first : ℕ) (a : Parents) (xs : List ℤ) (can : CanBand b first a xs) where
  module _ (l : ℕ) (less : l < b.lines) (ys : List ℤ) (s : LoweredOn a (InBand first b.width l b.apart b.unit) xs ys) where
    abbrev Next : ℕ → Type 0
    Next = Run b (first + l * b.apart)

    on_line : {more : ℕ} → l < more → Contained Next (InBand first b.width more b.apart b.unit)
    on_line less p h = record { line = l; index = h.index; below = less; inside = h.inside; is = h.is }

    fewer : {n m : ℕ} → n ≤ m → Contained (InBand first b.width n b.apart b.unit) (InBand first b.width m b.apart b.unit)
    fewer le p h = record { line = h.line; index = h.index; below = omega (arith, h.below); inside = h.inside; is = h.is }

    no_overlap : (p : ℕ) → Next p → InBand first b.width l b.apart b.unit p → ⊥
    no_overlap p n d =
        omega (
          arith,
          n.is,
          d.is,
          can.step,
          can.wide (omega (arith, d.below)),
          mul-le-mul_right {m = d.line + 1} {n = l} b.apart (omega (arith, d.below)),
          add-mul d.line 1 b.apart,
          one-mul b.apart,
          mul-le-mul_right {m = d.index + 1} {n = b.width} b.unit (omega (arith, d.inside)),
          add-mul d.index 1 b.unit,
          one-mul b.unit,
        )

    pub band_can : CanRun b (first + l * b.apart) a ys
    band_can =
        record { room = omega (arith, can.room, s.long); step = can.step; can = can_next a can.can (fewer (omega arith)) (on_line less) no_overlap s }

    first_can : CanStep (first + l * b.apart) a ys
    first_can =
        band_can.can.each (first + l * b.apart) (record { index = 0; inside = can.some; is = omega (arith, zero-mul b.unit) })

    pub band_inside : first + l * b.apart < length xs
    band_inside = omega (arith, first_can.inside, s.long)

    pub band_steps : (zs : List ℤ) → LoweredOn a Next ys zs → LoweredOn a (InBand first b.width (l + 1) b.apart b.unit) xs zs
    band_steps zs u =
        lowered_both a can.can (fewer (omega arith)) (on_line less) no_overlap s (fewer (omega arith)) (on_line (omega arith))
        (λ p h.
        eq_or_not h.line l
        (λ e.
        inr (record { index = h.index; inside = h.inside; is = h.is ∙ ap (λ (y : ℕ). first + y * b.apart + h.index * b.unit) e }))
        (λ ne.
        inl (record { line = h.line; index = h.index; below = omega (arith, h.below); inside = h.inside; is = h.is })))
        u
