-- The indices stepped like a counter. At axis t of the walk the indices before it were the last of their levels and are 1 now. Where the next odd
-- number is within the level of axis t, the position is one higher; where no axis is left, all indices were the last and are 1 now.
-- True since an odd index of level l that has no next one below 2^(l+1) is 2^(l+1) − 1.
-- Assumes nothing.
use mathlib.Core.Bool.{true, false}
use mathlib.Core.List.{List}
use mathlib.Core.Path.{◌≡◌, ◌∙◌}
use Prim.Native.Nat.{ℕ, suc, ◌+◌, ◌*◌, ◌%◌, ◌^◌, ◌≤◌, ◌<◌}
use native.Mathlib.Nat.{pow-suc}
use native.Mathlib.Omega.{arith}
use lib.Pow.{pow_pos, pow_mono}
use lib.ListN.{length, set, length-set}
use lib.Seq.{get_or-set_same, get_or-set_other}
use Rattle.naturals.proofs.Sums.{term_le}
use Rattle.naturals.proofs.Cases.{le_or_lt, eq_or_not}
use Rattle.numbering.specs.Point.{at, IsPoint}
use Rattle.numbering.proofs.Position.{half}
use Rattle.numbering.proofs.Succession.{NextIndices, next_position, last_position}
use Rattle.points.proofs.PointTest.{shifted}
use Rattle.successor.specs.Steps.{StepsIndices}

pub record Turned (d : ℕ) (ls is next : List ℕ) (t : ℕ) : Type 0 where
  pub place : t ≤ d
  pub long : length next ≡ 8
  pub full : (u : ℕ) → u < t → suc (half (at is) u) ≡ 2 ^ at ls u
  pub ones : (u : ℕ) → u < t → at next u ≡ 1
  pub kept : (u : ℕ) → t ≤ u → at next u ≡ at is u

module _ {d : ℕ} {ls is next : List ℕ} {t : ℕ} (fits : d ≤ 8) (p : IsPoint d 8 (at ls) (at is)) (turned : Turned d ls is next t) where
  same : t < d → (v : ℕ) → at (set next t v) t ≡ v
  same h v = get_or-set_same next t v 0 (omega (arith, turned.long))

  other : (v u : ℕ) → (u ≡ t → ⊥) → at (set next t v) u ≡ at next u
  other v u h = get_or-set_other next t u v 0 h

  pub turned_steps : t < d → 2 ^ suc (at ls t) ≤ at next t + 2 → Turned d ls is (set next t 1) (suc t)
  turned_steps h over =
      let was : suc (half (at is) t) ≡ 2 ^ at ls t =
      omega (arith, turned.kept t (omega arith), p.odd t h, p.below t h, pow-suc 2 (at ls t)) in
      record {
        place = h;
        long = length-set next t 1 ∙ turned.long;
        full = λ u lt. eq_or_not u t (λ e. rw e was) (λ ne. turned.full u (omega arith));
        ones = λ u lt. eq_or_not u t (λ e. rw e (same h 1)) (λ ne. other 1 u ne ∙ turned.ones u (omega arith));
        kept = λ u le. other 1 u (λ e. omega arith) ∙ turned.kept u (omega arith);
      }

  -- The numbers so far are indices of the levels.
  now_odd : (u : ℕ) → u < d → at next u % 2 ≡ 1
  now_odd u h =
      le_or_lt t u
      (λ le. omega (arith, turned.kept u le, p.odd u h))
      (λ lt. omega (arith, turned.ones u lt))

  now_below : (u : ℕ) → u < d → at next u < 2 ^ suc (at ls u)
  now_below u h =
      le_or_lt t u
      (λ le. omega (arith, turned.kept u le, p.below u h))
      (λ lt. omega (arith, turned.ones u lt, pow-suc 2 (at ls u), pow_pos (at ls u)))

  -- So the code's sums and shifts are small.
  pub level_small : t < d → at ls t ≤ 8
  level_small h = omega (arith, term_le (at ls) d t h, p.sum)

  pub index_small : t < d → at next t < 512
  index_small h = omega (arith, now_below t h, pow_mono {i = suc (at ls t)} {j = 9} (omega (arith, level_small h)))

  pub bound : t < d → 2 * 2 ^ at ls t % 2 ^ 32 ≡ 2 ^ suc (at ls t)
  bound h = shifted (at ls t) (level_small h)

  raises : t < d → NextIndices d t (at ls) (at is) (at (set next t (at next t + 2)))
  raises h =
      let v = at next t + 2 in
      record {
        axis = h;
        full = turned.full;
        ones = λ u lt. other v u (λ e. omega arith) ∙ turned.ones u lt;
        raised = omega (arith, same h v, turned.kept t (omega arith), p.odd t h);
        kept = λ u lt le. other v u (λ e. omega arith) ∙ turned.kept u (omega arith);
      }

  pub turned_raised : t < d → at next t + 2 < 2 ^ suc (at ls t) → StepsIndices d ls is false (set next t (at next t + 2))
  turned_raised h under =
      let v = at next t + 2 in
      record {
        long = length-set next t v ∙ turned.long;
        rest = λ u le. other v u (λ e. omega arith) ∙ turned.kept u (omega arith);
        odd =
            λ u lt.
            eq_or_not u t (λ e. rw e (omega (arith, same h v, now_odd t h))) (λ ne. omega (arith, other v u ne, now_odd u lt));
        below =
            λ u lt.
            eq_or_not u t
            (λ e. rw e (omega (arith, same h v)))
            (λ ne. omega (arith, other v u ne, now_below u lt));
        higher = λ e. next_position (raises h);
        last = λ e. cc;
        ones = λ e u lt. cc;
      }

  pub turned_past : d ≤ t → StepsIndices d ls is true next
  turned_past h =
      record {
        long = turned.long;
        rest = λ u le. turned.kept u (omega (arith, turned.place));
        odd = now_odd;
        below = now_below;
        higher = λ e. cc;
        last = λ e. last_position (at ls) (at is) d (λ u lt. turned.full u (omega arith));
        ones = λ e u lt. turned.ones u (omega arith);
      }
