-- The level vector after another. At the axis k that the search finds all levels before it are 0. Where axis k has a level and an axis after it, one of it moves there
-- and the rest to axis 1: the next of the sum, of the next rank, so its first point comes 2^sum later. Where k is the last axis, only that has a level: the
-- vector is the last of its sum, of a rank one below their count. Then comes the one with the next sum on axis 1, of rank 0: its first point is the
-- first of that sum.
-- Assumes nothing.
use mathlib.Core.List.{List, [], ◌∷◌}
use mathlib.Core.Path.{◌≡◌, refl, ap, sym, ◌∙◌}
use Prim.Native.Nat.{ℕ, zero, suc, ◌+◌, ◌-◌, ◌*◌, ◌^◌, ◌≤◌, ◌<◌}
use native.Mathlib.Nat.{mul-suc, mul-zero}
use native.Mathlib.Numerals.{add-one}
use native.Mathlib.Omega.{arith}
use lib.ListN.{length, replicate, set, take, length-set}
use lib.Seq.{get_or-set_same, get_or-set_other, get_or-take, length-take-le}
use mir.Syntax.{w32}
use mir.Val.{Fits}
use Rattle.std.specs.Prelude.{Option, Some, None}
use Rattle.std.specs.Option.{MatchOption}
use Rattle.std.specs.List.{AllWithin, HoldsAt}
use Rattle.naturals.specs.Sum.{sum_to}
use Rattle.naturals.proofs.Cases.{eq_or_not, le_or_lt}
use Rattle.naturals.proofs.Sums.{sum_to_zero, sum_to_suc, term_le}
use Rattle.numbering.specs.Count.{vectors, start}
use Rattle.numbering.specs.Point.{at}
use Rattle.numbering.specs.Number.{rank, first_of}
use Rattle.numbering.proofs.Numbering.{start_suc}
use Rattle.numbering.proofs.Subspaces.{first_is}
use Rattle.numbering.proofs.Succession.{NextLevels, next_sum, next_rank, sum_first, rank_first, rank_last}
use Rattle.vectors.specs.Steps.{VectorIn, NextVector, vectors_before}

-- The first level vector of the sum v.
abbrev pub first : ℕ → List ℕ
first v = v ∷ 0 ∷ 0 ∷ 0 ∷ 0 ∷ 0 ∷ 0 ∷ 0 ∷ []

zeros_at : (k t : ℕ) → at (replicate k 0) t ≡ 0
zeros_at zero t = refl
zeros_at (suc k) zero = refl
zeros_at (suc k) (suc t) = zeros_at k t

pub first_zeros : (v t : ℕ) → 0 < t → at (first v) t ≡ 0
first_zeros v zero h = omega arith
first_zeros v (suc t) h = zeros_at 7 t

-- ---- the search

pub record Bare (d : ℕ) (ls : List ℕ) (k : ℕ) : Type 0 where
  pub place : suc k ≤ d
  pub zeros : (t : ℕ) → t < k → at ls t ≡ 0

-- What a search for the first number above 0 answers.
abbrev pub First : List ℕ → Option ℕ → Type 0
First xs r =
    MatchOption r
    (AllWithin (λ (l : ℕ). l ≡ 0) xs 0 (length xs))
    (λ k. (k < length xs) × HoldsAt (λ (l : ℕ). 0 < l) xs k × AllWithin (λ (l : ℕ). l ≡ 0) xs 0 k)

module _ (d : ℕ) (ls : List ℕ) (low : 1 ≤ d) (fits : d ≤ 8) (long : length ls ≡ 8) where
  front : length (take (d - 1) ls) ≡ d - 1
  front = length-take-le (d - 1) ls (omega arith)

  bare_to : (k : ℕ) → k ≤ d - 1 → AllWithin (λ (l : ℕ). l ≡ 0) (take (d - 1) ls) 0 k → Bare d ls k
  bare_to k le zeros =
      record {
        place = omega arith;
        zeros = λ t h. sym (get_or-take (d - 1) ls t 0 (omega arith)) ∙ zeros t 0 (omega arith) h;
      }

  pub found_axis : (k : ℕ) → First (take (d - 1) ls) (Some k) → Bare d ls k × (suc k < d) × (0 < at ls k)
  found_axis k first =
      let h : k < d - 1 = omega (arith, front, first.0) in
      (bare_to k (omega arith) first.2, omega arith, rw (get_or-take (d - 1) ls k 0 h) at (first.1 0))

  pub no_axis : First (take (d - 1) ls) None → Bare d ls (d - 1)
  no_axis none = bare_to (d - 1) (omega arith) (rw front at none)

-- The levels with axis k cleared, and then with its level less one on axis 1: what the code has before it raises the level of axis k + 1.
abbrev pub cleared : List ℕ → ℕ → List ℕ
cleared ls k = set (set ls k 0) 0 (at ls k - 1)

abbrev pub stepped : List ℕ → ℕ → List ℕ
stepped ls k = set (cleared ls k) (suc k) (at (cleared ls k) (suc k) + 1)

before_is : (d : ℕ) (l : ℕ → ℕ) → vectors_before d l ≡ sum_to (vectors d) (sum_to l d) + rank l d
unfolding vectors_before
before_is d l = refl

module _ {d sum : ℕ} {ls : List ℕ} (here : VectorIn d sum ls) where
  pub here_first : first_of d (at ls) ≡ start d sum + 2 ^ sum * rank (at ls) d
  here_first = first_is d (at ls) ∙ ap (λ (s : ℕ). start d s + 2 ^ s * rank (at ls) d) here.total

  here_before : vectors_before d (at ls) ≡ sum_to (vectors d) sum + rank (at ls) d
  here_before = before_is d (at ls) ∙ ap (λ (s : ℕ). sum_to (vectors d) s + rank (at ls) d) here.total

  -- The next of its sum has its first point 2^sum later.
  pub first_steps : {ls' : List ℕ} {k : ℕ} → VectorIn d sum ls' → NextLevels d k (at ls) (at ls') → first_of d (at ls') ≡ first_of d (at ls) + 2 ^ sum
  first_steps {ls'} there next =
      omega (
        arith,
        here_first,
        first_is d (at ls'),
        ap (λ (s : ℕ). start d s + 2 ^ s * rank (at ls') d) there.total,
        ap (λ (r : ℕ). 2 ^ sum * r) (next_rank next),
        mul-suc (2 ^ sum) (rank (at ls) d),
      )

  -- The first of its sum starts where the sum does, and the last ends where the next sum starts.
  pub starts_sum : rank (at ls) d ≡ 0 → first_of d (at ls) ≡ start d sum
  starts_sum low = omega (arith, here_first, ap (λ (r : ℕ). 2 ^ sum * r) low, mul-zero (2 ^ sum))

  pub ends_sum : suc (rank (at ls) d) ≡ vectors d sum → first_of d (at ls) + 2 ^ sum ≡ start d (suc sum)
  ends_sum last = omega (arith, here_first, start_suc d sum, ap (λ (r : ℕ). 2 ^ sum * r) last, mul-suc (2 ^ sum) (rank (at ls) d))

-- Eight zeros are the one of sum 0, and it has no other levels.
pub eight_zeros : (t : ℕ) → at (first 0) t ≡ 0
eight_zeros zero = refl
eight_zeros (suc t) = first_zeros 0 (suc t) (omega arith)

none : (d : ℕ) → sum_to (at (first 0)) d ≡ 0
none zero = sum_to_zero (at (first 0))
none (suc d) = omega (arith, sum_to_suc (at (first 0)) d, eight_zeros d, none d)

pub first_of_all : (d : ℕ) → VectorIn d 0 (first 0)
first_of_all d = record { long = refl; total = none d; rest = λ t past. eight_zeros t }

pub no_levels : {d : ℕ} {ls : List ℕ} → VectorIn d 0 ls → (t : ℕ) → at ls t ≡ 0
no_levels {d} {ls} here t =
    le_or_lt d t
    (λ past. here.rest t past)
    (λ axis. omega (arith, term_le (at ls) d t axis, here.total))

-- ---- the next of the same sum

module _ {d sum : ℕ} {ls : List ℕ} {k : ℕ} (fits : d ≤ 8) (here : VectorIn d sum ls) (bare : Bare d ls k) where
  cleared_long : length (cleared ls k) ≡ 8
  cleared_long = simp length-set here.long

  cleared_first : at (cleared ls k) 0 ≡ at ls k - 1
  cleared_first = get_or-set_same (set ls k 0) 0 (at ls k - 1) 0 (simp length-set (omega (arith, here.long)))

  cleared_here : 0 < k → at (cleared ls k) k ≡ 0
  cleared_here pos =
      get_or-set_other (set ls k 0) 0 k (at ls k - 1) 0 (λ e. omega arith)
      ∙ get_or-set_same ls k 0 0 (omega (arith, bare.place, here.long))

  -- Whatever is put on axes k and 1, the others keep their levels.
  others_kept : (a b t : ℕ) → 0 < t → (t ≡ k → ⊥) → at (set (set ls k a) 0 b) t ≡ at ls t
  others_kept a b t pos ne =
      get_or-set_other (set ls k a) 0 t b 0 (λ e. omega arith) ∙ get_or-set_other ls k t a 0 ne

  cleared_other : (t : ℕ) → 0 < t → (t ≡ k → ⊥) → at (cleared ls k) t ≡ at ls t
  cleared_other t pos ne = others_kept 0 (at ls k - 1) t pos ne

  -- So the code's sum is small.
  pub raised_fits : (a b v : ℕ) → v ≤ 8 → suc k < d → sum ≤ 8 → Fits w32 (at (set (set ls k a) 0 b) (suc k) + v)
  raised_fits a b v small h low =
      omega (
        arith,
        others_kept a b (suc k) (omega arith) (λ e. omega arith),
        term_le (at ls) d (suc k) h,
        here.total,
      )

  stepped_other : (t : ℕ) → (t ≡ suc k → ⊥) → at (stepped ls k) t ≡ at (cleared ls k) t
  stepped_other t ne = get_or-set_other (cleared ls k) (suc k) t (at (cleared ls k) (suc k) + 1) 0 ne

  module _ (h : suc k < d) (pos : 0 < at ls k) where
    next_levels : NextLevels d k (at ls) (at (stepped ls k))
    next_levels =
        record {
          axis = h;
          zeros = bare.zeros;
          first = omega (arith, stepped_other 0 (λ e. omega arith), cleared_first);
          cleared =
              λ t above lt.
              stepped_other t (λ e. omega arith)
              ∙ eq_or_not t k
              (λ e. rw e (cleared_here (omega arith)))
              (λ ne. cleared_other t above ne ∙ bare.zeros t (omega arith));
          raised =
              omega (
                arith,
                get_or-set_same (cleared ls k) (suc k) (at (cleared ls k) (suc k) + 1) 0 (omega (arith, cleared_long)),
                cleared_other (suc k) (omega arith) (λ e. omega arith),
              );
          kept = λ t above lt. stepped_other t (λ e. omega arith) ∙ cleared_other t (omega arith) (λ e. omega arith);
        }

    pub next_of_sum : NextVector d sum ls sum (stepped ls k)
    next_of_sum =
        let vector : VectorIn d sum (stepped ls k) = record {
          long = simp length-set here.long;
          total = next_sum next_levels ∙ here.total;
          rest = λ t le. stepped_other t (λ e. omega arith) ∙ cleared_other t (omega arith) (λ e. omega arith) ∙ here.rest t le;
        } in
        record {
          vector = vector;
          first = first_steps here vector next_levels;
          count = omega (arith, here_before here, here_before vector, next_rank next_levels);
        }

-- ---- the first of the next sum

module _ {d sum : ℕ} {ls : List ℕ} {k : ℕ} (here : VectorIn d sum ls) (bare : Bare d ls k) (whole : d ≤ suc k) where
  -- The last of its sum.
  last : suc (rank (at ls) d) ≡ vectors d sum
  last =
      let all : suc k ≡ d = omega (arith, bare.place) in
      rw all at (rank_last (at ls) k bare.zeros) ∙ ap (vectors d) here.total

  first_vector : VectorIn d (sum + 1) (first (sum + 1))
  first_vector =
      record {
        long = refl;
        total =
            ap (sum_to (at (first (sum + 1)))) (omega (arith, bare.place))
            ∙ sum_first (at (first (sum + 1))) k (λ t pos h. first_zeros (sum + 1) t pos);
        rest = λ t h. first_zeros (sum + 1) t (omega (arith, bare.place));
      }

  pub first_of_next : NextVector d sum ls (sum + 1) (first (sum + 1))
  first_of_next =
      let low : rank (at (first (sum + 1))) d ≡ 0 = rank_first (at (first (sum + 1))) d (λ t pos h. first_zeros (sum + 1) t pos) in
      record {
        vector = first_vector;
        first = starts_sum first_vector low ∙ ap (start d) (add-one sum) ∙ sym (ends_sum here last);
        count =
            omega (
              arith,
              here_before here,
              here_before first_vector,
              ap (sum_to (vectors d)) (add-one sum),
              sum_to_suc (vectors d) sum,
              low,
              last,
            );
      }
