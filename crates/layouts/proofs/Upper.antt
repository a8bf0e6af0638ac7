-- Two faces that differ on one axis alone, where one has the lower border and the other the upper: they have as many border axes, and between them come the faces with
-- the lower border there and the same marks on the axes after, one for each face of the axes before with as many border axes.
-- Assumes nothing.
use mathlib.Core.Path.{◌≡◌, ap, ap₂, sym, ◌∙◌}
use Prim.Native.Nat.{ℕ, zero, suc, ◌+◌, ◌-◌, ◌*◌, ◌<◌}
use native.Mathlib.Nat.{mul-add}
use native.Mathlib.Omega.{arith}
use Rattle.naturals.specs.Sum.{sum_to}
use Rattle.naturals.proofs.Cases.{le_or_lt, eq_or_not}
use Rattle.naturals.proofs.Sums.{sum_to_suc}
use Rattle.numbering.specs.Count.{points}
use Rattle.numbering.specs.Parent.{update}
use Rattle.numbering.proofs.Parents.{update_same, update_other}
use Rattle.faces.specs.Faces.{faces, bit, borders, having, face_rank}
use Rattle.faces.specs.Marked.{layer, face_start}
use Rattle.faces.proofs.Numbering.{face_start_is}
use Rattle.faces.proofs.Ranks.{having_border, bit_inner, bit_border, borders_zero, borders_suc, borders_cong, face_rank_suc, face_rank_cong}

-- The faces of one axis more with the lower border on the last.
pub lower_faces : (k b : ℕ) → sum_to (having k (suc b)) 2 ≡ sum_to (having k (suc b)) 1 + faces k b
lower_faces k b = omega (arith, sum_to_suc (having k (suc b)) 1, having_border k b 0)

module _ (m : ℕ → ℕ) (t : ℕ) where
  abbrev one : ℕ → ℕ
  one = update m t 1

  abbrev two : ℕ → ℕ
  two = update m t 2

  alike : (u : ℕ) → (u ≡ t → ⊥) → two u ≡ one u
  alike u ne = update_other m t 2 u ne ∙ sym (update_other m t 1 u ne)

  same_bit : (u : ℕ) → bit (two u) ≡ bit (one u)
  same_bit u =
      eq_or_not u t
      (λ e.
      rw e
      (bit_border (two t) (omega (arith, update_same m t 2))
      ∙ sym (bit_border (one t) (omega (arith, update_same m t 1)))))
      (λ ne. ap bit (alike u ne))

  same_borders : (k : ℕ) → borders two k ≡ borders one k
  same_borders zero = borders_zero two ∙ sym (borders_zero one)
  same_borders (suc k) = omega (arith, borders_suc two k, borders_suc one k, same_bit k, same_borders k)

  -- Up to the axis the border axes are those before it, and it.
  borders_to : borders one (suc t) ≡ suc (borders m t)
  borders_to =
      omega (
        arith,
        borders_suc one t,
        bit_border (one t) (omega (arith, update_same m t 1)),
        borders_cong one m t (λ u h. update_other m t 1 u (λ e. omega arith)),
      )

  rank_to : face_rank two (suc t) ≡ face_rank one (suc t) + faces t (borders m t)
  rank_to =
      let from_two : sum_to (having t (borders two (suc t))) (two t) ≡ sum_to (having t (suc (borders m t))) 2
      = ap₂ (λ (b a : ℕ). sum_to (having t b) a) (same_borders (suc t) ∙ borders_to) (update_same m t 2) in
      let from_one : sum_to (having t (borders one (suc t))) (one t) ≡ sum_to (having t (suc (borders m t))) 1
      = ap₂ (λ (b a : ℕ). sum_to (having t b) a) borders_to (update_same m t 1) in
      omega (
        arith,
        face_rank_suc two t,
        face_rank_suc one t,
        from_two,
        from_one,
        face_rank_cong two one t (λ u h. alike u (λ e. omega arith)),
        lower_faces t (borders m t),
      )

  rank_after : (k : ℕ) → t < k → face_rank two k ≡ face_rank one k + faces t (borders m t)
  rank_after zero h = omega arith
  rank_after (suc k) h =
      le_or_lt k t
      (λ last. let here : k ≡ t = omega arith in rw here rank_to)
      (λ past.
      let added : sum_to (having k (borders two (suc k))) (two k) ≡ sum_to (having k (borders one (suc k))) (one k)
      = ap₂ (λ (b a : ℕ). sum_to (having k b) a) (same_borders (suc k)) (alike k (λ e. omega arith)) in
      omega (arith, face_rank_suc two k, face_rank_suc one k, added, rank_after k past))

  borders_one : m t ≡ 0 → (k : ℕ) → t < k → borders one k ≡ suc (borders m k)
  borders_one inner zero h = omega arith
  borders_one inner (suc k) h =
      le_or_lt k t
      (λ last. let here : k ≡ t = omega arith in rw here (omega (arith, borders_to, borders_suc m t, bit_inner (m t) inner)))
      (λ past.
      omega (
        arith,
        borders_suc one k,
        borders_suc m k,
        ap bit (update_other m t 1 k (λ e. omega arith)),
        borders_one inner k past,
      ))

  -- From the first number of the one to that of the other.
  pub upper_start : (d n : ℕ) → t < d → m t ≡ 0 → face_start d n two ≡ face_start d n one + points (d - borders m d - 1) n * faces t (borders m t)
  upper_start d n axis inner =
      let b : ℕ = borders one d in
      let left : d - b ≡ d - borders m d - 1 = omega (arith, borders_one inner d axis) in
      let rank : points (d - borders two d) n * face_rank two d ≡ points (d - b) n * (face_rank one d + faces t (borders m t))
      = ap₂ (λ (c r : ℕ). points (d - c) n * r) (same_borders d) (rank_after d axis) in
      omega (
        arith,
        face_start_is d n two,
        face_start_is d n one,
        ap (sum_to (layer d n)) (same_borders d),
        rank,
        mul-add (points (d - b) n) (face_rank one d) (faces t (borders m t)),
        ap (λ (k : ℕ). points k n * faces t (borders m t)) left,
      )
