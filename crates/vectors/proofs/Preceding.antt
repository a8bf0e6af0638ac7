-- The level vector before another. At the place k that the search finds all levels from axis 2 up to it are 0. Where place k has a level, the vector with one of it and
-- the level of axis 1 on the axis before is the one that is followed by this. Where none has, the vector is the first of its sum, and the last of the sum
-- below, whose rank is one below their count, ends where it starts.
-- Assumes nothing.
use mathlib.Core.List.{List}
use mathlib.Core.Path.{◌≡◌, ap, sym, ◌∙◌}
use Prim.Native.Nat.{ℕ, suc, ◌+◌, ◌-◌, ◌≤◌, ◌<◌}
use native.Mathlib.Nat.{add_comm}
use native.Mathlib.Omega.{arith}
use lib.ListN.{length, set, take, drop, get_or, length-set}
use lib.Seq.{get_or-set_same, get_or-set_other, get_or-take, length-take-le}
use Rattle.std.specs.Prelude.{Some, None}
use Rattle.std.specs.List.{AllWithin}
use Rattle.std.proofs.lemmas.List.{length-drop, get_or-drop}
use Rattle.naturals.specs.Sum.{sum_to}
use Rattle.naturals.proofs.Cases.{eq_or_not}
use Rattle.naturals.proofs.Sums.{sum_to_zero, term_le}
use Rattle.numbering.specs.Count.{vectors, shell, start}
use Rattle.numbering.specs.Number.{rank, first_of}
use Rattle.numbering.specs.Point.{at}
use Rattle.numbering.proofs.Numbering.{start_is}
use Rattle.numbering.proofs.Succession.{NextLevels, next_sum, rank_first, sum_last, rank_last}
use Rattle.vectors.specs.Steps.{VectorIn, PreviousVector}
use Rattle.vectors.proofs.Following.{First, first, eight_zeros, first_steps, starts_sum, ends_sum}

pub record Flat (d : ℕ) (ls : List ℕ) (k : ℕ) : Type 0 where
  pub some : 1 ≤ k
  pub place : k ≤ d
  pub zeros : (t : ℕ) → 0 < t → t < k → at ls t ≡ 0

-- ---- the search, from axis 2 on

module _ (d : ℕ) (ls : List ℕ) (low : 1 ≤ d) (fits : d ≤ 8) (long : length ls ≡ 8) where
  behind : length (take (d - 1) (drop 1 ls)) ≡ d - 1
  behind = length-take-le (d - 1) (drop 1 ls) (omega (arith, length-drop 1 ls))

  read : (t : ℕ) → t < d - 1 → get_or (take (d - 1) (drop 1 ls)) t 0 ≡ at ls (1 + t)
  read t h = get_or-take (d - 1) (drop 1 ls) t 0 h ∙ get_or-drop 1 ls t 0

  flat_to : (k : ℕ) → k ≤ d - 1 → AllWithin (λ (l : ℕ). l ≡ 0) (take (d - 1) (drop 1 ls)) 0 k → Flat d ls (k + 1)
  flat_to k le zeros =
      record {
        some = omega arith;
        place = omega arith;
        zeros =
            λ t pos h.
            let after : 1 + (t - 1) ≡ t = omega arith in
            rw after at (sym (read (t - 1) (omega arith)) ∙ zeros (t - 1) 0 (omega arith) (omega arith));
      }

  pub found_place : (k : ℕ) → First (take (d - 1) (drop 1 ls)) (Some k) → Flat d ls (k + 1) × (k + 1 < d) × (0 < at ls (k + 1))
  found_place k first =
      let h : k < d - 1 = omega (arith, behind, first.0) in
      (flat_to k (omega arith) first.2, omega arith, omega (arith, read k h, ap (at ls) (add_comm 1 k), first.1 0))

  pub no_place : First (take (d - 1) (drop 1 ls)) None → Flat d ls d
  no_place none =
      let whole : d - 1 + 1 ≡ d = omega arith in
      rw whole at (flat_to (d - 1) (omega arith) (rw behind at none))

-- ---- the vector before of the same sum

-- The levels with axis 1 cleared, then with one less at place k, and then with that one and the level of axis 1 on the axis before.
abbrev pub lowered : List ℕ → ℕ → List ℕ
lowered ls k = set (set ls 0 0) k (at (set ls 0 0) k - 1)

abbrev pub raised : List ℕ → ℕ → List ℕ
raised ls k = set (lowered ls k) (k - 1) (at ls 0 + 1)

module _ {d sum : ℕ} {ls : List ℕ} {k : ℕ} (fits : d ≤ 8) (here : VectorIn d sum ls) (flat : Flat d ls k) (more : k < d) where
  -- Whatever is put on axis 1, place k holds what it held.
  kept_here : (v : ℕ) → at (set ls 0 v) k ≡ at ls k
  kept_here v = get_or-set_other ls 0 k v 0 (λ e. omega (arith, flat.some))

  -- The level of axis 1 is small.
  pub first_small : at ls 0 ≤ sum
  first_small = omega (arith, term_le (at ls) d 0 (omega arith), here.total)

  raised_other : (t : ℕ) → (t ≡ k - 1 → ⊥) → at (raised ls k) t ≡ at (lowered ls k) t
  raised_other t ne = get_or-set_other (lowered ls k) (k - 1) t (at ls 0 + 1) 0 ne

  lowered_other : (t : ℕ) → (t ≡ k → ⊥) → at (lowered ls k) t ≡ at (set ls 0 0) t
  lowered_other t ne = get_or-set_other (set ls 0 0) k t (at (set ls 0 0) k - 1) 0 ne

  raised_before : at (raised ls k) (k - 1) ≡ at ls 0 + 1
  raised_before = get_or-set_same (lowered ls k) (k - 1) (at ls 0 + 1) 0 (simp length-set (omega (arith, here.long)))

  raised_here : at (raised ls k) k ≡ at ls k - 1
  raised_here =
      raised_other k (λ e. omega (arith, flat.some))
      ∙ get_or-set_same (set ls 0 0) k (at (set ls 0 0) k - 1) 0 (simp length-set (omega (arith, here.long)))
      ∙ ap (λ (v : ℕ). v - 1) (kept_here 0)

  -- Past place k nothing changes.
  raised_past : (t : ℕ) → k < t → at (raised ls k) t ≡ at ls t
  raised_past t lt =
      raised_other t (λ e. omega arith)
      ∙ lowered_other t (λ e. omega arith)
      ∙ get_or-set_other ls 0 t 0 0 (λ e. omega arith)

  -- Before the raised axis there is nothing.
  raised_zeros : (t : ℕ) → t < k - 1 → at (raised ls k) t ≡ 0
  raised_zeros t lt =
      raised_other t (λ e. omega arith)
      ∙ lowered_other t (λ e. omega arith)
      ∙ eq_or_not t 0
      (λ e. rw e (get_or-set_same ls 0 0 0 (omega (arith, here.long))))
      (λ ne. get_or-set_other ls 0 t 0 0 ne ∙ flat.zeros t (omega arith) (omega arith))

  follows : 0 < at ls k → NextLevels d (k - 1) (at (raised ls k)) (at ls)
  follows pos =
      let place : suc (k - 1) ≡ k = omega (arith, flat.some) in
      record {
        axis = omega (arith, flat.some);
        zeros = raised_zeros;
        first = omega (arith, raised_before);
        cleared = λ t above lt. flat.zeros t above (omega (arith, flat.some));
        raised = rw place (omega (arith, raised_here));
        kept = λ t above lt. sym (raised_past t (omega (arith, flat.some)));
      }

  pub before_of_sum : 0 < at ls k → PreviousVector d sum ls sum (raised ls k)
  before_of_sum pos =
      let vector : VectorIn d sum (raised ls k) = record {
        long = simp length-set here.long;
        total = sym (next_sum (follows pos)) ∙ here.total;
        rest = λ t h. raised_past t (omega arith) ∙ here.rest t h;
      } in
      record { vector = vector; first = sym (first_steps vector here (follows pos)) }

-- ---- the last vector of the sum below

abbrev pub last_of : ℕ → ℕ → List ℕ
last_of d v = set (first 0) (d - 1) v

module _ (d v : ℕ) (some : 1 ≤ d) (fits : d ≤ 8) where
  last_other : (t : ℕ) → (t ≡ d - 1 → ⊥) → at (last_of d v) t ≡ 0
  last_other t ne = get_or-set_other (first 0) (d - 1) t v 0 ne ∙ eight_zeros t

  last_zeros : (t : ℕ) → t < d - 1 → at (last_of d v) t ≡ 0
  last_zeros t lt = last_other t (λ e. omega arith)

  whole : suc (d - 1) ≡ d
  whole = omega arith

  last_total : sum_to (at (last_of d v)) d ≡ v
  last_total =
      ap (sum_to (at (last_of d v))) (sym whole)
      ∙ sum_last (at (last_of d v)) (d - 1) last_zeros
      ∙ get_or-set_same (first 0) (d - 1) v 0 (omega arith)

  pub last_vector : VectorIn d v (last_of d v)
  last_vector =
      record {
        long = length-set (first 0) (d - 1) v;
        total = last_total;
        rest = λ t h. last_other t (λ e. omega arith);
      }

  pub last_rank_lem : suc (rank (at (last_of d v)) d) ≡ vectors d v
  last_rank_lem = rw whole at (rank_last (at (last_of d v)) (d - 1) last_zeros) ∙ ap (vectors d) last_total

module _ {d sum : ℕ} {ls : List ℕ} {k : ℕ} (some : 1 ≤ d) (fits : d ≤ 8) (here : VectorIn d sum ls) (flat : Flat d ls k) (whole : d ≤ k) where
  flat_first : first_of d (at ls) ≡ start d sum
  flat_first = starts_sum here (rank_first (at ls) d (λ t pos lt. flat.zeros t pos (omega arith)))

  -- A vector with points before it has a level.
  pub some_level : 0 < first_of d (at ls) → 0 < sum
  some_level pos =
      eq_or_not sum 0
      (λ e. absurd (omega (arith, flat_first, ap (start d) e, start_is d 0, sum_to_zero (shell d))))
      (λ ne. omega arith)

  pub last_below : 0 < first_of d (at ls) → PreviousVector d sum ls (sum - 1) (last_of d (sum - 1))
  last_below pos =
      record {
        vector = last_vector d (sum - 1) some fits;
        first =
            ends_sum (last_vector d (sum - 1) some fits) (last_rank_lem d (sum - 1) some fits)
            ∙ ap (start d) (omega (arith, some_level pos))
            ∙ sym flat_first;
      }
