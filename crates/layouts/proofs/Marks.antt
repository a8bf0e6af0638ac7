-- From a face's marks to its rank and back, as the code reads them. Up to 4 axes each count of faces is below 128, so no sum of them comes near the width. The walk that
-- reads the marks off a rank, from the last axis down: k axes are left, with border axes and a rank of their own, and the marks after them stand in their places. True
-- since the face of a rank is made so, axis by axis.
-- Assumes nothing.
use mathlib.Core.Path.{◌≡◌, refl, ap, ap₂, sym, ◌∙◌, fun_ext}
use mathlib.Core.List.{List}
use Prim.Native.Nat.{ℕ, suc, ◌+◌, ◌-◌, ◌≤◌, ◌<◌}
use native.Mathlib.Numerals.{add-one}
use native.Mathlib.Omega.{arith}
use lib.ListN.{length, set, replicate, length-set, get_or-replicate, get_or-eq_default}
use lib.Seq.{get_or-set_same, get_or-set_other}
use borrow.Author.Tests.{le-leb, lt-leb}
use Rattle.naturals.specs.Sum.{sum_to}
use Rattle.naturals.proofs.Cases.{le_or_lt, eq_or_not}
use Rattle.naturals.proofs.Sums.{sum_to_zero}
use Rattle.numbering.specs.Point.{at}
use Rattle.numbering.specs.Inverse.{block}
use Rattle.faces.specs.Faces.{faces, bit, borders, having, face_rank, last_mark, mark_of}
use Rattle.faces.proofs.Ranks.{faces_over, borders_zero, borders_le, borders_suc, face_rank_zero, face_rank_suc, face_rank_lt, mark_last, mark_before, mark_past, rest_lt, last_enough}
use Rattle.shapes.proofs.Layers.{faces_few}

-- ---- counts of faces

faces_small : (d b : ℕ) → d ≤ 4 → faces d b < 128
faces_small d b few = le_or_lt b d (λ le. faces_few d b few le) (λ over. omega (arith, faces_over d b over))

-- ---- the rank

pub record RankedTo (m : ℕ → ℕ) (k b r : ℕ) : Type 0 where
  pub borders : b ≡ borders m k
  pub rank : r ≡ face_rank m k

pub ranked_start : (m : ℕ → ℕ) → RankedTo m 0 0 0
ranked_start m = record { borders = sym (borders_zero m); rank = sym (face_rank_zero m) }

pub ranked_end : {m : ℕ → ℕ} {d k b r : ℕ} → RankedTo m k b r → k ≡ d → (b ≡ borders m d) × (r ≡ face_rank m d)
ranked_end {m} ranked last = (ranked.borders ∙ ap (borders m) last, ranked.rank ∙ ap (face_rank m) last)

module _ {m : ℕ → ℕ} {k b r one : ℕ} (ranked : RankedTo m k b r) (is : one ≡ bit (m k)) where
  with_axis : b + one ≡ borders m (suc k)
  with_axis = omega (arith, ranked.borders, is, borders_suc m k)

  pub ranked_few : b + one ≤ suc k
  ranked_few = omega (arith, with_axis, borders_le m (suc k))

  module _ {more : ℕ} (below : more ≡ sum_to (having k (b + one)) (m k)) where
    rank_to : r + more ≡ face_rank m (suc k)
    rank_to = omega (arith, ranked.rank, below, ap (λ (c : ℕ). sum_to (having k c) (m k)) with_axis, face_rank_suc m k)

    pub ranked_step : RankedTo m (k + 1) (b + one) (r + more)
    ranked_step = rw add-one (record { borders = with_axis; rank = rank_to })

    pub ranked_small : {d : ℕ} → d ≤ 4 → k < d → ((t : ℕ) → t < d → m t ≤ 2) → r + more < 128
    ranked_small few h marks =
        omega (
          arith,
          rank_to,
          face_rank_lt m (suc k) (λ t lt. marks t (omega arith)),
          faces_small (suc k) (borders m (suc k)) (omega arith),
        )

-- ---- the mark of a rank

module _ (k b r : ℕ) where
  pub mark_two : sum_to (having k b) 2 ≤ r → last_mark k b r ≡ 2
  unfolding last_mark block
  mark_two h = rw (le-leb (sum_to (having k b) 2) r h) refl

  pub mark_one : r < sum_to (having k b) 2 → sum_to (having k b) 1 ≤ r → last_mark k b r ≡ 1
  unfolding last_mark block
  mark_one h h' = rw (lt-leb (sum_to (having k b) 2) r h, le-leb (sum_to (having k b) 1) r h') refl

  pub mark_zero : r < sum_to (having k b) 2 → r < sum_to (having k b) 1 → last_mark k b r ≡ 0
  unfolding last_mark block
  mark_zero h h' = rw (lt-leb (sum_to (having k b) 2) r h, lt-leb (sum_to (having k b) 1) r h') refl

  -- What is left of the rank.
  pub mark_rest : {mark below : ℕ} → last_mark k b r ≡ mark → below ≡ sum_to (having k b) mark →
      (mark ≡ last_mark k b r) × (r - below ≡ r - sum_to (having k b) (last_mark k b r))
  mark_rest is counted = (sym is, ap (λ (s : ℕ). r - s) (counted ∙ ap (sum_to (having k b)) (sym is)))

  pub mark_rest_zero : last_mark k b r ≡ 0 → (0 ≡ last_mark k b r) × (r ≡ r - sum_to (having k b) (last_mark k b r))
  mark_rest_zero is = (sym is, omega (arith, ap (sum_to (having k b)) is, sum_to_zero (having k b)))

-- ---- the marks of a rank

pub record MarksRead (d b r : ℕ) (marks : List ℕ) (k left rest : ℕ) : Type 0 where
  pub high : k ≤ d
  pub places : length marks ≡ 8
  pub below : rest < faces k left
  pub done : (t : ℕ) → k ≤ t → at marks t ≡ mark_of d b r t
  pub todo : (t : ℕ) → t < k → mark_of d b r t ≡ mark_of k left rest t

pub marks_start : (d b r : ℕ) → r < faces d b → MarksRead d b r (replicate 8 0) d b r
marks_start d b r lt =
    record {
      high = omega arith;
      places = refl;
      below = lt;
      done = λ t past. none t ∙ sym (mark_past d b r t past);
      todo = λ t h. refl;
    }
  where
    none : (t : ℕ) → at (replicate 8 0) t ≡ 0
    none t = le_or_lt 8 t (λ past. get_or-eq_default (replicate 8 0) 0 past) (λ h. get_or-replicate 8 t 0 0 h)

-- Where a face is left, no more border axes are than axes.
pub left_few : {k left rest : ℕ} → rest < faces k left → left ≤ k
left_few {k} {left} h = le_or_lt left k (λ le. le) (λ over. omega (arith, faces_over k left over))

module _ {d b r : ℕ} {marks : List ℕ} {k left rest : ℕ} (state : MarksRead d b r marks (suc k) left rest) where
  turned : {mark more one : ℕ} → k < 8 → one ≡ bit mark → mark ≡ last_mark k left rest → more ≡ rest - sum_to (having k left) (last_mark k left rest) →
      MarksRead d b r (set marks k mark) k (left - one) more
  turned {mark} {more} short is last others =
      record {
        high = omega (arith, state.high);
        places = length-set marks k mark ∙ state.places;
        below = rw (is, last, others) (rest_lt k left rest state.below);
        done = λ t past.
            eq_or_not t k
            (λ e.
            rw e
            (get_or-set_same marks k mark 0 (omega (arith, state.places))
            ∙ last
            ∙ sym (state.todo k (omega arith) ∙ mark_last k left rest)))
            (λ e. get_or-set_other marks k t mark 0 e ∙ state.done t (omega arith));
        todo = λ t h.
            state.todo t (omega arith)
            ∙ mark_before k left rest t h
            ∙ ap₂ (λ (c s : ℕ). mark_of k c s t) (ap (λ (a : ℕ). left - a) (sym (is ∙ ap bit last))) (sym others);
      }

module _ {d b r : ℕ} {marks : List ℕ} {k left rest : ℕ} (state : MarksRead d b r marks k left rest) (more : 0 < k) where
  again : MarksRead d b r marks (suc (k - 1)) left rest
  again = let same : k ≡ suc (k - 1) = omega arith in rw same at state

  pub marks_few : left ≤ suc (k - 1)
  marks_few = left_few again.below

  pub marks_bit : {mark one : ℕ} → one ≡ bit mark → mark ≡ last_mark (k - 1) left rest → one ≤ left
  marks_bit is last = rw (is, last) (last_enough (k - 1) left rest again.below)

  pub marks_step : {mark more one : ℕ} → k ≤ 8 → one ≡ bit mark → mark ≡ last_mark (k - 1) left rest →
      more ≡ rest - sum_to (having (k - 1) left) (last_mark (k - 1) left rest) →
      MarksRead d b r (set marks (k - 1) mark) (k - 1) (left - one) more
  marks_step short is last others = turned again (omega arith) is last others

pub marks_end : {d b r : ℕ} {marks : List ℕ} {k left rest : ℕ} → MarksRead d b r marks k left rest → k ≤ 0 → at marks ≡ mark_of d b r
marks_end state h = fun_ext λ t. state.done t (omega arith)
