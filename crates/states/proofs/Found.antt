-- A search from the first axis on finds the first that has the bit looked for.
-- Assumes nothing.
use Rattle.std.proofs.Common.{◌≡◌, ℕ, ◌≤◌, ◌<◌, Bool, true, false, Option, Some, None, MatchOption, sym, arith, lt-ltb, le-ltb}
use Rattle.naturals.proofs.Cases.{le_or_lt}
use Rattle.naturals.proofs.FirstFailing.{first_none, first_at_lem}
use Rattle.states.specs.declared.State.{State}
use Rattle.states.specs.States.{is_other, first_axis, found_axis}

none_some : (n : ℕ) → None ≡ Some n → ⊥
none_some n e = cc

some_same : {a b : ℕ} → Some a ≡ Some b → a ≡ b
some_same e = cc

module _ (bit : Bool) (s : State) where
  pub found_is : (r : Option ℕ) →
      MatchOption r ((t : ℕ) → 0 ≤ t → t < s.shape.axes → is_other bit s.forward t ≡ true)
      (λ first. (0 ≤ first) × (first < s.shape.axes) × (is_other bit s.forward first ≡ false) × ((t : ℕ) → 0 ≤ t → t < first → is_other bit s.forward t ≡ true)) →
      r ≡ found_axis bit s
  unfolding found_axis first_axis
  found_is None others =
      let d = s.shape.axes in
      rw (first_none (is_other bit s.forward) d (λ t h. others t (omega arith) h), le-ltb d d (omega arith))
  found_is (Some first) found =
      let d = s.shape.axes in
      rw (first_at_lem (is_other bit s.forward) d first (λ t h. found.3 t (omega arith) h) found.2 found.1, lt-ltb first d found.1)

  -- What the answer says of the first axis as the definitions have it.
  pub some_first : (first : ℕ) → found_axis bit s ≡ Some first → (first ≡ first_axis bit s) × (first < s.shape.axes)
  unfolding found_axis
  some_first first e =
      let found : ℕ = first_axis bit s in
      le_or_lt s.shape.axes found
      (λ past. let none = rw (le-ltb found s.shape.axes past) at e in absurd (none_some first none))
      (λ within.
      let same : first ≡ found = sym (some_same (rw (lt-ltb found s.shape.axes within) at e)) in
      (same, omega arith))

  pub none_first : found_axis bit s ≡ None → s.shape.axes ≤ first_axis bit s
  unfolding found_axis
  none_first e =
      let found : ℕ = first_axis bit s in
      le_or_lt s.shape.axes found (λ past. past)
      (λ within. let some = rw (lt-ltb found s.shape.axes within) at e in absurd (none_some found (sym some)))
