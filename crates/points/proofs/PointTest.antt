-- The test of a point says what the fact says, both ways: each is made of the same sum, oddness and bounds.
-- Assumes nothing.
use mathlib.Core.Path.{◌≡◌, sym, ◌∙◌}
use mathlib.Core.Bool.{true}
use Prim.Native.Nat.{ℕ, suc, ◌*◌, ◌%◌, ◌^◌, ◌≤◌, ◌<◌}
use native.Mathlib.Nat.{pow-succ'}
use native.Mathlib.Omega.{arith}
use lib.Pow.{shl_exact}
use lib.Dec.{lit<, leb, ltb, eqb}
use borrow.Author.Tests.{leb-true, le-leb, ltb-true, lt-ltb, eqb-true, eq-eqb}
use Rattle.naturals.specs.Sum.{sum_to}
use Rattle.naturals.specs.Test.{all}
use Rattle.naturals.proofs.Tests.{and_left, and_right, all_at, all_from}
use Rattle.numbering.specs.Point.{is_index, indexed, is_point, IsPoint}

-- The code's bound of an index.
pub shifted : (l : ℕ) → l ≤ 8 → 2 * 2 ^ l % 2 ^ 32 ≡ 2 ^ suc l
shifted l h = shl_exact {a = 2} 2 l 32 (lit< tt) (omega arith) ∙ sym (pow-succ' 2 l)

pub passed_odd : (l i : ℕ) → is_index l i ≡ true → i % 2 ≡ 1
unfolding is_index
passed_odd l i e = eqb-true (i % 2) 1 (and_left (eqb (i % 2) 1) (ltb i (2 ^ suc l)) e)

pub passed_below : (l i : ℕ) → is_index l i ≡ true → i < 2 ^ suc l
unfolding is_index
passed_below l i e = ltb-true i (2 ^ suc l) (and_right (eqb (i % 2) 1) (ltb i (2 ^ suc l)) e)

pub index_passes : (l i : ℕ) → i % 2 ≡ 1 → i < 2 ^ suc l → is_index l i ≡ true
unfolding is_index
index_passes l i odd below = simp (eq-eqb (i % 2) 1 odd, lt-ltb i (2 ^ suc l) below)

pub is_point_lem : {d n : ℕ} {l i : ℕ → ℕ} → is_point d n l i ≡ true → IsPoint d n l i
unfolding is_point indexed
is_point_lem {d} {n} {l} {i} e =
    let each = all_at (indexed l i) d (and_right (leb (sum_to l d) n) (all (indexed l i) d) e) in
    record {
      sum = leb-true (sum_to l d) n (and_left (leb (sum_to l d) n) (all (indexed l i) d) e);
      odd = λ t h. passed_odd (l t) (i t) (each t h);
      below = λ t h. passed_below (l t) (i t) (each t h);
    }

pub point_passes : {d n : ℕ} {l i : ℕ → ℕ} → IsPoint d n l i → is_point d n l i ≡ true
unfolding is_point indexed
point_passes {d} {n} {l} {i} p =
    let each = all_from (indexed l i) d (λ t h. index_passes (l t) (i t) (p.odd t h) (p.below t h)) in
    simp (le-leb (sum_to l d) n p.sum, each)
