-- The walk that takes together what the inner axes of a face have: after t axes what those among them have stands at their places, one after the other, and
-- nothing past them. What is put back stands at its axis again. True since an inner axis adds one place and a border axis none.
-- Assumes nothing.
use mathlib.Core.Path.{◌≡◌, refl, ap, sym, ◌∙◌}
use mathlib.Core.List.{List}
use Prim.Native.Nat.{ℕ, suc, ◌+◌, ◌≤◌, ◌<◌}
use native.Mathlib.Numerals.{add-one}
use native.Mathlib.Omega.{arith}
use lib.ListN.{length, set, replicate, length-set, get_or-replicate}
use lib.Seq.{get_or-set_same, get_or-set_other}
use borrow.Author.Tests.{lt-ltb, le-ltb, eq-eqb, ne_eqb}
use Rattle.naturals.proofs.Cases.{le_or_lt, eq_or_not}
use Rattle.numbering.specs.Point.{at}
use Rattle.faces.specs.Packing.{before, axis_of, packed}
use Rattle.faces.proofs.Packing.{before_zero, before_inner, before_border, before_borders, before_lt, axis_inner, packed_is}
use Rattle.points.specs.Points.{eight}
use Rattle.points.proofs.Eight.{eight_length, eight_at, eight_ext}
use Rattle.numbers.specs.Steps.{gathered, spread}

pub before_le : (m : ℕ → ℕ) (t : ℕ) → before m t ≤ t
before_le m t = omega (arith, before_borders m t)

-- ---- taken together

pub gathered_at : (d : ℕ) (m f : ℕ → ℕ) (j : ℕ) → j < before m d → gathered d m f j ≡ packed m d f j
unfolding gathered
gathered_at d m f j h = rw (lt-ltb j (before m d) h)

pub gathered_past : (d : ℕ) (m f : ℕ → ℕ) (j : ℕ) → before m d ≤ j → gathered d m f j ≡ 0
unfolding gathered
gathered_past d m f j h = rw (le-ltb j (before m d) h)

pub record Gathering (m f : ℕ → ℕ) (d t inner : ℕ) (values : List ℕ) : Type 0 where
  pub place : t ≤ d
  pub count : inner ≡ before m t
  pub long : length values ≡ 8
  pub stored : (u : ℕ) → u < t → m u ≡ 0 → at values (before m u) ≡ f u
  pub none : (j : ℕ) → inner ≤ j → j < 8 → at values j ≡ 0

pub gathering_starts : (m f : ℕ → ℕ) (d : ℕ) → Gathering m f d 0 0 (replicate 8 0)
gathering_starts m f d =
    record {
      place = omega arith;
      count = sym (before_zero m);
      long = refl;
      stored = λ u h e. absurd (omega arith);
      none = λ j h short. get_or-replicate 8 j 0 0 short;
    }

module _ {m f : ℕ → ℕ} {d t inner : ℕ} {values : List ℕ} (state : Gathering m f d t inner values) (h : t < d) where
  pub inner_small : inner ≤ t
  inner_small = omega (arith, state.count, before_le m t)

  pub gathering_inner : d ≤ 8 → m t ≡ 0 → Gathering m f d (t + 1) (inner + 1) (set values inner (f t))
  gathering_inner few e =
      record {
        place = omega arith;
        count = rw (add-one t) (omega (arith, state.count, before_inner m t e));
        long = length-set values inner (f t) ∙ state.long;
        stored = λ u lt f_u.
            eq_or_not u t
            (λ same.
            ap (λ (v : ℕ). at (set values inner (f t)) (before m v)) same
            ∙ ap (at (set values inner (f t))) (sym state.count)
            ∙ get_or-set_same values inner (f t) 0 (omega (arith, state.long, inner_small))
            ∙ ap f (sym same))
            (λ other.
            get_or-set_other values inner (before m u) (f t) 0
            (λ same. omega (arith, state.count, before_lt m t u (omega arith) f_u))
            ∙ state.stored u (omega arith) f_u);
        none = λ j le short.
            get_or-set_other values inner j (f t) 0 (λ same. omega arith) ∙ state.none j (omega arith) short;
      }

  pub gathering_border : (m t ≡ 0 → ⊥) → Gathering m f d (t + 1) inner values
  gathering_border ne =
      record {
        place = omega arith;
        count = rw (add-one t) (omega (arith, state.count, before_border m t (omega (arith, ne))));
        long = state.long;
        stored = λ u lt e. eq_or_not u t (λ same. absurd (ne (ap m (sym same) ∙ e))) (λ other. state.stored u (omega arith) e);
        none = state.none;
      }

module _ {m f : ℕ → ℕ} {d t inner : ℕ} {values : List ℕ} (state : Gathering m f d t inner values) (past : d ≤ t) where
  last : t ≡ d
  last = omega (arith, state.place)

  pub gathering_count : inner ≡ before m d
  gathering_count = state.count ∙ ap (before m) last

  pub gathering_ends : values ≡ eight (gathered d m f)
  gathering_ends =
      eight_ext (gathered d m f) values state.long
      (λ j short.
      le_or_lt (before m d) j
      (λ le. state.none j (omega (arith, gathering_count)) short ∙ sym (gathered_past d m f j le))
      (λ lt.
      let u = axis_inner m d j lt in
      ap (at values) (sym u.place)
      ∙ state.stored (axis_of m d j) (omega (arith, u.axis, last)) u.mark
      ∙ sym (gathered_at d m f j lt ∙ packed_is m d f j)))

-- ---- put back

module _ (d : ℕ) (m f : ℕ → ℕ) (c t : ℕ) where
  pub spread_inner : t < d → m t ≡ 0 → spread d m f c t ≡ f (before m t)
  unfolding spread
  spread_inner h e = rw (lt-ltb t d h, eq-eqb (m t) 0 e)

  pub spread_border : t < d → (m t ≡ 0 → ⊥) → spread d m f c t ≡ c
  unfolding spread
  spread_border h ne = rw (lt-ltb t d h, ne_eqb (m t) 0 ne)

  pub spread_past : d ≤ t → spread d m f c t ≡ 0
  unfolding spread
  spread_past h = rw (le-ltb t d h)

-- One axis more changes its own place alone.
spread_step : (k : ℕ) (m f : ℕ → ℕ) (c t : ℕ) → (t ≡ k → ⊥) → spread k m f c t ≡ spread (suc k) m f c t
spread_step k m f c t other =
    le_or_lt (suc t) k
    (λ h.
    eq_or_not (m t) 0
    (λ e. spread_inner k m f c t h e ∙ sym (spread_inner (suc k) m f c t (omega arith) e))
    (λ ne. spread_border k m f c t h ne ∙ sym (spread_border (suc k) m f c t (omega arith) ne)))
    (λ h. spread_past k m f c t (omega arith) ∙ sym (spread_past (suc k) m f c t (omega arith)))

pub record Spreading (m f : ℕ → ℕ) (c d t inner : ℕ) (list : List ℕ) : Type 0 where
  pub place : t ≤ d
  pub count : inner ≡ before m t
  pub done : list ≡ eight (spread t m f c)

pub spreading_starts : (m f : ℕ → ℕ) (c d : ℕ) → Spreading m f c d 0 0 (replicate 8 0)
spreading_starts m f c d =
    record {
      place = omega arith;
      count = sym (before_zero m);
      done = eight_ext (spread 0 m f c) (replicate 8 0) refl
          (λ j h. get_or-replicate 8 j 0 0 h ∙ sym (spread_past 0 m f c j (omega arith)));
    }

module _ {m f : ℕ → ℕ} {c d t inner : ℕ} {list : List ℕ} (state : Spreading m f c d t inner list) (h : t < d) (few : d ≤ 8) where
  pub place_small : inner ≤ t
  place_small = omega (arith, state.count, before_le m t)

  stored : (v : ℕ) → v ≡ spread (suc t) m f c t → set list t v ≡ eight (spread (suc t) m f c)
  stored v is =
      rw state.done
      (eight_ext (spread (suc t) m f c) (set (eight (spread t m f c)) t v)
      (length-set (eight (spread t m f c)) t v ∙ eight_length (spread t m f c))
      (λ u short.
      eq_or_not u t
      (λ e. rw e (get_or-set_same (eight (spread t m f c)) t v 0 (omega (arith, eight_length (spread t m f c))) ∙ is))
      (λ e. get_or-set_other (eight (spread t m f c)) t u v 0 e ∙ eight_at (spread t m f c) u short ∙ spread_step t m f c u e)))

  pub spreading_inner : m t ≡ 0 → Spreading m f c d (t + 1) (inner + 1) (set list t (f inner))
  spreading_inner e =
      record {
        place = omega arith;
        count = rw (add-one t) (omega (arith, state.count, before_inner m t e));
        done = rw (add-one t) (stored (f inner) (ap f state.count ∙ sym (spread_inner (suc t) m f c t (omega arith) e)));
      }

  pub spreading_border : (m t ≡ 0 → ⊥) → Spreading m f c d (t + 1) inner (set list t c)
  spreading_border ne =
      record {
        place = omega arith;
        count = rw (add-one t) (omega (arith, state.count, before_border m t (omega (arith, ne))));
        done = rw (add-one t) (stored c (sym (spread_border (suc t) m f c t (omega arith) ne)));
      }

pub spreading_ends : {m f : ℕ → ℕ} {c d t inner : ℕ} {list : List ℕ} → Spreading m f c d t inner list → d ≤ t →
    list ≡ eight (spread d m f c)
spreading_ends {m} {f} {c} {d} {t} state past =
    let last : t ≡ d = omega (arith, state.place) in
    state.done ∙ ap (λ (k : ℕ). eight (spread k m f c)) last
