-- Rates that pass together: a byte below 128 ends a number, so there are as many numbers as such bytes where the last byte is one of them. None has more than
-- four bytes before its end, and where it has four its fifth is below 16: so each is read, and is at most 15 * 2^28 + 2^28 - 1. After as many numbers
-- as there are ends no byte is left.
-- Assumes nothing.
use Rattle.std.specs.Prelude.{Ok}
use mathlib.Core.Path.{◌≡◌, ap, ◌∙◌}
use mathlib.Core.List.{List, ◌∷◌}
use Prim.Native.Nat.{ℕ, zero, suc, ◌+◌, ◌-◌, ◌*◌, ◌^◌, ◌≤◌, ◌<◌}
use native.Mathlib.Nat.{one-le-pow}
use native.Mathlib.Numerals.{add-one}
use native.Mathlib.Omega.{arith}
use lib.ListN.{length, get_or, drop, length-drop}
use lib.Seq.{drop-cons}
use borrow.Author.Tests.{le-leb}
use Rattle.naturals.proofs.Cases.{le_or_lt}
use Rattle.house_numbers.specs.Reading.{Read, got, ◌next◌}
use Rattle.house_numbers.specs.Numbers.{below, groups, largest, limited, read_number, rate_of}
use Rattle.house_rates.specs.Rates.{read_rates}
use Rattle.house_rates.specs.Steps.{checked_rates, ends, NotLargeAt, NoneLarge}
use Rattle.house_numbers.proofs.Gathering.{continued, finished}
use Rattle.house_rates.proofs.Rates.{one_more, checked_after}
use Rattle.house_rates.proofs.Checking.{checked_starts, none_left}
use Rattle.house_rates.proofs.Counting.{end_one, end_none, ends_here, ends_past}

-- Where so many bytes do not end a number, the one after them is below 16.
Capped : List ℕ → ℕ → ℕ → Type 0
Capped bytes zero at = get_or bytes at 0 < 16
Capped bytes (suc k) at = 128 ≤ get_or bytes at 0 → Capped bytes k (at + 1)

-- A number from an index on, which can be filed where it has five groups; one end fewer follows it.
record Taken (bytes : List ℕ) (k at : ℕ) : Type 0 where
  value : ℕ
  after : ℕ
  reads : groups (suc k) (drop at bytes) ≡ got value (drop after bytes)
  small : value < 16 * 128 ^ k
  past : at < after
  fewer : ends (drop at bytes) ≡ suc (ends (drop after bytes))

module _ (bytes : List ℕ) (byte : (i : ℕ) → get_or bytes i 0 < 256) (closed : get_or bytes (length bytes - 1) 0 < 128) where
  reads_byte : (k at : ℕ) → at < length bytes → groups (suc k) (drop at bytes) ≡ groups (suc k) (get_or bytes at 0 ∷ drop (at + 1) bytes)
  reads_byte k at there = ap (groups (suc k)) (rw add-one (drop-cons bytes at 0 there))

  takes_one : (k at : ℕ) → at < length bytes → get_or bytes at 0 < 128 → get_or bytes at 0 < 16 * 128 ^ k → Taken bytes k at
  takes_one k at there last small =
      record {
        value = get_or bytes at 0;
        after = at + 1;
        reads = reads_byte k at there ∙ finished k (get_or bytes at 0) (drop (at + 1) bytes) last;
        small = small;
        past = omega arith;
        fewer = omega (arith, ends_here bytes at there, end_one (get_or bytes at 0) last);
      }

  takes_more : (k at : ℕ) → at < length bytes → 128 ≤ get_or bytes at 0 → Taken bytes k (at + 1) → Taken bytes (suc k) at
  unfolding below
  takes_more k at there again t =
      record {
        value = get_or bytes at 0 - 128 + 128 * t.value;
        after = t.after;
        reads =
            reads_byte (suc k) at there
            ∙ continued (suc k) (get_or bytes at 0) (drop (at + 1) bytes) again
            ∙ ap (λ (x : Read ℕ). x next below (get_or bytes at 0 - 128)) t.reads;
        small = omega (arith, t.small, byte at);
        past = omega (arith, t.past);
        fewer = omega (arith, t.fewer, ends_here bytes at there, end_none (get_or bytes at 0) again);
      }

  -- The last byte ends a number.
  goes_on : (at : ℕ) → at < length bytes → 128 ≤ get_or bytes at 0 → at + 1 < length bytes
  goes_on at there again =
      le_or_lt (length bytes) (at + 1)
      (λ h.
      let here : at ≡ length bytes - 1 = omega arith in
      absurd (omega (arith, closed, again, ap (λ (i : ℕ). get_or bytes i 0) here)))
      (λ h. h)

  takes : (k at : ℕ) → at < length bytes → Capped bytes k at → Taken bytes k at
  unfolding Capped
  takes zero at there capped = takes_one 0 at there (omega (arith, capped)) (omega (arith, capped))
  takes (suc k) at there capped =
      le_or_lt 128 (get_or bytes at 0)
      (λ again. takes_more k at there again (takes k (at + 1) (goes_on at there again) (capped again)))
      (λ last. takes_one (suc k) at there last (omega (arith, one-le-pow k 128 (omega arith))))

  -- Four bytes before the end of a number at most.
  capped : (at : ℕ) → NotLargeAt bytes at → Capped bytes 4 at
  unfolding Capped
  capped at fit a b c d =
      let two : at + 1 + 1 ≡ at + 2 = omega arith in
      let three : at + 1 + 1 + 1 ≡ at + 3 = omega arith in
      let four : at + 1 + 1 + 1 + 1 ≡ at + 4 = omega arith in
      let i : ℕ → ℕ = λ (k : ℕ). get_or bytes k 0 in
      omega (arith, fit a b (omega (arith, c, ap i two)) (omega (arith, d, ap i three)), ap i four)

  -- From an index on: the rows before it may be of any kind.
  module _ (from : ℕ) (fit : (k : ℕ) → from ≤ k → NotLargeAt bytes k) where
    number_from : (at : ℕ) → from ≤ at → at < length bytes → Taken bytes 4 at
    number_from at h there = takes 4 at there (capped at (fit at h))

    number_from_read : (at : ℕ) (t : Taken bytes 4 at) → read_number (drop at bytes) ≡ got t.value (drop t.after bytes)
    unfolding read_number limited largest
    number_from_read at t = rw (t.reads, le-leb t.value 4294967295 (omega (arith, t.small)))

    pub all_pass_from : (m at : ℕ) → from ≤ at → ends (drop at bytes) ≡ m → checked_rates (read_rates m (drop at bytes)) ≡ Ok tt
    all_pass_from zero at h none =
        le_or_lt (length bytes) at
        (λ past. none_left (checked_starts (drop at bytes) 0) (omega arith) (omega (arith, length-drop at bytes)))
        (λ there. absurd (omega (arith, none, (number_from at h there).fewer)))
    all_pass_from (suc m) at h some =
        le_or_lt (length bytes) at
        (λ past. absurd (omega (arith, some, ends_past bytes at past)))
        (λ there.
        let t = number_from at h there in
        ap checked_rates (one_more m (drop at bytes) (number_from_read at t))
        ∙ checked_after (read_rates m (drop t.after bytes)) (rate_of t.value)
        ∙ all_pass_from m t.after (omega (arith, t.past)) (omega (arith, some, t.fewer)))

  -- Where no row is of a number that is too long or too large.
  pub all_pass : (fit : NoneLarge bytes) (m at : ℕ) → ends (drop at bytes) ≡ m → checked_rates (read_rates m (drop at bytes)) ≡ Ok tt
  all_pass fit m at e = all_pass_from 0 (λ k h. fit.at k) m at (omega arith) e
