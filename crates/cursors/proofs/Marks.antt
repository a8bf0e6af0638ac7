-- Of the numbers below n some are marked, and they are the values of a rising function of the numbers below m: the q-th has q marked ones before it, and
-- there are m in all. True number by number: where one is marked, it is the value of the count so far, since a value of a smaller number was counted before
-- and that of a larger one comes later.
-- Assumes nothing.
use mathlib.Core.Path.{◌≡◌, ap}
use mathlib.Core.Logic.{◌⊎◌, ⊎_elim}
use Prim.Native.Nat.{ℕ, zero, suc, ◌≤◌, ◌<◌}
use native.Mathlib.Omega.{arith}
use Rattle.naturals.specs.Sum.{sum_to}
use Rattle.naturals.proofs.Cases.{le_or_lt}
use Rattle.naturals.proofs.Sums.{sum_to_zero, sum_to_suc}

-- A mark is 1, and 0 where there is none; `value` gives the marked numbers in order, and `place` the place of each among them.
pub record Marks (mark value place : ℕ → ℕ) (n m : ℕ) : Type 0 where
  pub rises : (p q : ℕ) → p < q → q < m → value p < value q
  pub inside : (q : ℕ) → q < m → value q < n
  pub marked : (q : ℕ) → q < m → mark (value q) ≡ 1
  pub other : (r : ℕ) → r < n → (mark r ≡ 0) ⊎ ((place r < m) × (value (place r) ≡ r))

module _ {mark value place : ℕ → ℕ} {n m : ℕ} (s : Marks mark value place n m) where
  -- The marked numbers below b are the first ones, as many as there are marks.
  record Split (b : ℕ) : Type 0 where
    few : sum_to mark b ≤ m
    before : (q : ℕ) → q < m → value q < b → q < sum_to mark b
    after : (q : ℕ) → q < m → b ≤ value q → sum_to mark b ≤ q

  unmarked : (b : ℕ) → Split b → mark b ≡ 0 → Split (suc b)
  unmarked b so e =
      record {
        few = omega (arith, sum_to_suc mark b, so.few);
        before =
            λ q h lt.
            le_or_lt b (value q)
            (λ le. let here : value q ≡ b = omega arith in omega (arith, s.marked q h, ap mark here))
            (λ less. omega (arith, sum_to_suc mark b, so.before q h less));
        after = λ q h le. omega (arith, sum_to_suc mark b, so.after q h (omega arith));
      }

  one_more : (b : ℕ) → Split b → (p : ℕ) → p < m → value p ≡ b → Split (suc b)
  one_more b so p in_m e =
      let counted : sum_to mark (suc b) ≡ suc (sum_to mark b) = omega (arith, sum_to_suc mark b, s.marked p in_m, ap mark e) in
      let next : p ≡ sum_to mark b =
      le_or_lt p (sum_to mark b)
      (λ le. omega (arith, so.after p in_m (omega arith)))
      (λ gt. omega (arith, so.before (sum_to mark b) (omega arith) (omega (arith, s.rises (sum_to mark b) p gt in_m))))
      in
      record {
        few = omega arith;
        before = λ q h lt. le_or_lt q p (λ le. omega arith) (λ gt. omega (arith, s.rises p q gt h));
        after =
            λ q h le.
            le_or_lt (suc p) q
            (λ gt. omega arith)
            (λ lt. le_or_lt p q
            (λ ge. let same : q ≡ p = omega arith in omega (arith, ap value same))
            (λ less. omega (arith, s.rises q p less in_m)));
      }

  split : (b : ℕ) → b ≤ n → Split b
  split zero h =
      record {
        few = omega (arith, sum_to_zero mark);
        before = λ q in_m lt. omega arith;
        after = λ q in_m le. omega (arith, sum_to_zero mark);
      }
  split (suc b) h =
      let so = split b (omega arith) in
      ⊎_elim (unmarked b so) (λ there. one_more b so (place b) there.0 there.1) (s.other b (omega arith))

  pub marks_before : (q : ℕ) → q < m → sum_to mark (value q) ≡ q
  marks_before q h =
      let b : ℕ = value q in
      let so = split b (omega (arith, s.inside q h)) in
      le_or_lt q (sum_to mark b)
      (λ le. omega (arith, so.after q h (omega arith)))
      (λ gt. omega (arith, so.before (sum_to mark b) (omega arith) (s.rises (sum_to mark b) q gt h)))

  pub all_marks : sum_to mark n ≡ m
  all_marks =
      let so = split n (omega arith) in
      le_or_lt m (sum_to mark n)
      (λ le. omega (arith, so.few))
      (λ gt. omega (arith, so.before (sum_to mark n) gt (s.inside (sum_to mark n) gt)))
