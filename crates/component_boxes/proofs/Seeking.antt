-- What the loop that seeks the widest axis keeps: the first of the widest among the axes so far. And the levels of the first axes alone decide it.
-- Assumes nothing.
use Rattle.std.proofs.Common.{◌≡◌, refl, ap, sym, ◌∙◌, ℕ, zero, suc, ◌+◌, ◌≤◌, ◌<◌, List, length, take, length-take-le, add-one, arith}
use Rattle.std.proofs.lemmas.List.{take_all, get_or-take}
use lib.ListN.{get_or-eq_default}
use Rattle.naturals.proofs.Cases.{eq_or_not, le_or_lt}
use Rattle.numbering.specs.Point.{at}
use Rattle.component_grids.specs.Component.{across}
use Rattle.component_boxes.specs.Order.{widest}
use Rattle.component_boxes.proofs.Widest.{across_mono, across_less, widest_start, widest_here, widest_before, widest_lt}

pub widest_le : (k : ℕ → ℕ) (t : ℕ) → widest k t ≤ t
widest_le k t = eq_or_not t 0 (λ z. rw (z, widest_start k) (omega arith)) (λ ne. omega (arith, widest_lt k t (omega arith)))

module _ (ls : List ℕ) (t most : ℕ) (is : most ≡ widest (at ls) t) where
  same_most : at ls most ≡ at ls (widest (at ls) t)
  same_most = ap (at ls) is

  pub widest_inside : most ≤ t
  widest_inside = omega (arith, is, widest_le (at ls) t)

  pub widest_wider : at ls most < at ls t → t ≡ widest (at ls) (t + 1)
  widest_wider wider =
      rw (add-one t)
      (sym (widest_here (at ls) t (across_less (at ls (widest (at ls) t)) (at ls t) (omega (arith, same_most)))))

  pub widest_same : at ls t ≤ at ls most → most ≡ widest (at ls) (t + 1)
  widest_same no_wider =
      rw (add-one t)
      (is ∙ sym (widest_before (at ls) t (across_mono (at ls t) (at ls (widest (at ls) t)) (omega (arith, same_most)))))

-- Levels that agree on the first axes have the same widest among them.
alike : (k m : ℕ → ℕ) (d : ℕ) → ((t : ℕ) → t < d → k t ≡ m t) → widest k d ≡ widest m d
unfolding widest
alike k m zero same = refl
alike k m (suc d) same =
    let before : widest k d ≡ widest m d = alike k m d (λ t h. same t (omega arith)) in
    let there : k (widest m d) ≡ m (widest m d) = same (widest m d) (omega (arith, widest_le m d)) in
    rw (before, there, same d (omega arith)) refl

-- An axis that is not there has one point, and is no wider than another.
pub widest_taken : (ls : List ℕ) (n : ℕ) → widest (at (take n ls)) (length (take n ls)) ≡ widest (at ls) n
widest_taken ls zero = widest_start (at (take 0 ls)) ∙ sym (widest_start (at ls))
widest_taken ls (suc n) =
    le_or_lt (length ls) n
    (λ past.
    let one : across (at ls n) ≤ across (at ls (widest (at ls) n)) = rw (get_or-eq_default ls 0 past) (across_mono 0 (at ls (widest (at ls) n)) (omega arith)) in
    ap (λ (xs : List ℕ). widest (at xs) (length xs)) (take_all (suc n) ls (omega arith) ∙ sym (take_all n ls past))
    ∙ widest_taken ls n
    ∙ sym (widest_before (at ls) n one))
    (λ less.
    ap (widest (at (take (suc n) ls))) (length-take-le (suc n) ls (omega arith))
    ∙ alike (at (take (suc n) ls)) (at ls) (suc n) (λ t h. get_or-take (suc n) ls t 0 h))
