-- The axes in the model's set are those whose last unrefused call went forward. By induction over the list: a call that is refused or on another axis leaves the
-- axis where it was, and one that is not refused puts it where the call says.
-- Assumes nothing.
use Rattle.std.specs.Prelude.{Ok, Err}
use mathlib.Core.Path.{◌≡◌, refl, ap, sym, ◌∙◌}
use mathlib.Core.Bool.{true, false, true≢false, not, ◌&&◌}
use mathlib.Core.Logic.{◌⊎◌, inl, inr, ⊎_elim}
use mathlib.Core.List.{List, [], ◌∷◌, ◌++◌}
use Prim.Native.Nat.{ℕ, ◌-◌, ◌≤◌}
use native.Mathlib.Omega.{arith}
use lib.Dec.{leb}
use borrow.Author.Tests.{leb-true}
use Rattle.naturals.proofs.Cases.{eq_or_not}
use Rattle.naturals.proofs.Tests.{and_left}
use Rattle.refusals.proofs.Results.{refused_done}
use Rattle.refusals.specs.declared.Refusal.TheVariants.{Axis, AlreadyForward, NotForward}
use Rattle.refusals.specs.Checks.{unless, Verdict}
use Rattle.refusals.proofs.Passing.{first_passed, test_passed}
use Rattle.hierarchy.specs.declared.Turn.{Turn}
use Rattle.hierarchy.specs.declared.Turn.TheVariants.{Forward, Back}
use Rattle.hierarchy.specs.Sets.{no_axis}
use Rattle.hierarchy.proofs.Work.{put_same, put_other}
use Rattle.runs.specs.Model.{Axes, model_answer, model_set, model_answers, model_after}
use Rattle.runs.specs.LastCall.{axis_of, Answered, answered, Unrefused, LastForward}
use Rattle.runs.proofs.Model.{model_refused, model_passed}

-- ---- one call

module _ (d : ℕ) (set : Axes) where
  -- An unrefused call names an axis from 1 on.
  passed_axis : (call : Turn) → model_answer d set call ≡ Ok tt → 1 ≤ axis_of call
  unfolding model_answer
  passed_axis (Forward axis) e =
      let inside = leb 1 axis && leb axis d in
      let bit = unless (not (set (axis - 1))) (AlreadyForward axis) in
      leb-true 1 axis (and_left (leb 1 axis) (leb axis d) (test_passed inside (Axis axis) (first_passed (unless inside (Axis axis)) bit e)))
  passed_axis (Back axis) e =
      let inside = leb 1 axis && leb axis d in
      let bit = unless (set (axis - 1)) (NotForward axis) in
      leb-true 1 axis (and_left (leb 1 axis) (leb axis d) (test_passed inside (Axis axis) (first_passed (unless inside (Axis axis)) bit e)))

  joins : (axis : ℕ) → model_answer d set (Forward axis) ≡ Ok tt → model_set d set (Forward axis) (axis - 1) ≡ true
  joins axis e = rw (model_passed d set (Forward axis) e) (put_same set (axis - 1) true)

  leaves : (axis : ℕ) → model_answer d set (Back axis) ≡ Ok tt → model_set d set (Back axis) (axis - 1) ≡ false
  leaves axis e = rw (model_passed d set (Back axis) e) (put_same set (axis - 1) false)

  -- A call on another axis leaves this one.
  others_stay : (call : Turn) (axis : ℕ) → 1 ≤ axis → model_answer d set call ≡ Ok tt → (axis_of call ≡ axis → ⊥) → model_set d set call (axis - 1) ≡ set (axis - 1)
  others_stay (Forward u) axis low e ne =
      rw (model_passed d set (Forward u) e) (put_other set (u - 1) true (axis - 1) (λ h. ne (omega (arith, h, low, passed_axis (Forward u) e))))
  others_stay (Back u) axis low e ne =
      rw (model_passed d set (Back u) e) (put_other set (u - 1) false (axis - 1) (λ h. ne (omega (arith, h, low, passed_axis (Back u) e))))

-- ---- lists of calls beside their answers

first_is : {x y : Answered} {rest more : List Answered} → x ∷ rest ≡ y ∷ more → x ≡ y
first_is e = cc

rest_is : {x y : Answered} {rest more : List Answered} → x ∷ rest ≡ y ∷ more → rest ≡ more
rest_is e = cc

-- No call on the axis is unrefused.
abbrev NoneOn : ℕ → List Answered → Type 0
NoneOn axis list = (call : Turn) → axis_of call ≡ axis → Unrefused call list → ⊥

nothing_stands : (x : Answered) (before after : List Answered) → [] ≡ before ++ (x ∷ after) → ⊥
nothing_stands x [] after e = let z : ◌≡◌ {A = ℕ} 0 1 = cc in omega arith
nothing_stands x (y ∷ before) after e = let z : ◌≡◌ {A = ℕ} 0 1 = cc in omega arith

none_in_none : (axis : ℕ) → NoneOn axis []
none_in_none axis call on u = nothing_stands (call, (Ok tt)) u.before u.after u.stands

-- One call more in front.
none_behind : (axis : ℕ) (x : Answered) (list : List Answered) → NoneOn axis (x ∷ list) → NoneOn axis list
none_behind axis x list none call on u = none call on (record { before = x ∷ u.before; after = u.after; stands = ap (◌∷◌ x) u.stands })

none_with : (axis : ℕ) (x : Answered) (list : List Answered) → ((call : Turn) → axis_of call ≡ axis → x ≡ (call, (Ok tt)) → ⊥) →
    NoneOn axis list → NoneOn axis (x ∷ list)
none_with axis x list other none call on u = go u.before u.stands
  where
    go : (before : List Answered) → x ∷ list ≡ before ++ ((call, (Ok tt)) ∷ u.after) → ⊥
    go [] e = other call on (first_is e)
    go (y ∷ before) e = none call on (record { before = before; after = u.after; stands = rest_is e })

elsewhere : {axis : ℕ} (call : Turn) → (axis_of call ≡ axis → ⊥) → (c : Turn) → axis_of c ≡ axis → ◌≡◌ {A = Answered} (call, (Ok tt)) (c, (Ok tt)) → ⊥
elsewhere call ne c on e = ne (ap (λ (x : Answered). axis_of x.0) e ∙ on)

last_behind : (axis : ℕ) (x : Answered) (list : List Answered) → LastForward axis list → LastForward axis (x ∷ list)
last_behind axis x list l =
    record {
      one = record { before = x ∷ l.one.before; after = l.one.after; stands = ap (◌∷◌ x) l.one.stands };
      last = l.last;
    }

-- ---- the model

module _ (d axis : ℕ) where
  -- The calls of a list beside the model's answers.
  abbrev told : Axes → List Turn → List Answered
  told set calls = answered calls (model_answers d set calls)

  -- One call that is refused, or on another axis.
  stays : (set : Axes) (call : Turn) → 1 ≤ axis → (model_answer d set call ≡ Ok tt → axis_of call ≡ axis → ⊥) → model_set d set call (axis - 1) ≡ set (axis - 1)
  stays set call low not_this = go (model_answer d set call) refl
    where
      go : (v : Verdict) → model_answer d set call ≡ v → model_set d set call (axis - 1) ≡ set (axis - 1)
      go (Ok _) e = others_stay d set call axis low e (not_this e)
      go (Err r) e = ap (λ (s : Axes). s (axis - 1)) (model_refused d set call r e)

  none_stays : (calls : List Turn) (set : Axes) → 1 ≤ axis → NoneOn axis (told set calls) → model_after d set calls (axis - 1) ≡ set (axis - 1)
  unfolding model_answers model_after
  none_stays [] set low none = refl
  none_stays (call ∷ calls) set low none =
      none_stays calls (model_set d set call) low (none_behind axis (call, model_answer d set call) (told (model_set d set call) calls) none)
      ∙ stays set call low
      (λ e on.
      none call on
      (record { before = []; after = told (model_set d set call) calls; stands = ap (λ (v : Verdict). (call, v) ∷ told (model_set d set call) calls) e }))

  -- Where no later call on the axis is unrefused, the first call decides: it put the axis into the set, or it left it there.
  first_decides : (set : Axes) (call : Turn) (rest : List Answered) → 1 ≤ axis → model_set d set call (axis - 1) ≡ true → NoneOn axis rest →
      (v : Verdict) → model_answer d set call ≡ v → LastForward axis ((call, v) ∷ rest) ⊎ ((set (axis - 1) ≡ true) × NoneOn axis ((call, v) ∷ rest))
  first_decides set call rest low there none (Err r) e =
      inr (
        sym (ap (λ (s : Axes). s (axis - 1)) (model_refused d set call r e)) ∙ there,
        none_with axis (call, Err r) rest (λ c on h. refused_done r tt (ap (λ (x : Answered). x.1) h)) none,
      )
  first_decides set (Forward u) rest low there none (Ok _) e =
      eq_or_not u axis
      (λ same.
      inl
      (record {
        one = record { before = []; after = rest; stands = ap (λ (k : ℕ). (Forward k, (Ok tt)) ∷ rest) same };
        last = none;
      }))
      (λ ne. inr (sym (others_stay d set (Forward u) axis low e ne) ∙ there, none_with axis (Forward u, (Ok tt)) rest (elsewhere (Forward u) ne) none))
  first_decides set (Back u) rest low there none (Ok _) e =
      eq_or_not u axis
      (λ same. absurd (true≢false (sym there ∙ ap (λ (k : ℕ). model_set d set (Back u) (k - 1)) (sym same) ∙ leaves d set u e)))
      (λ ne. inr (sym (others_stay d set (Back u) axis low e ne) ∙ there, none_with axis (Back u, (Ok tt)) rest (elsewhere (Back u) ne) none))

  -- In the set after a list: the last unrefused call on the axis went forward, or there is none and the axis was in it before.
  in_set_by : (calls : List Turn) (set : Axes) → 1 ≤ axis → model_after d set calls (axis - 1) ≡ true →
      LastForward axis (told set calls) ⊎ ((set (axis - 1) ≡ true) × NoneOn axis (told set calls))
  unfolding model_answers model_after
  in_set_by [] set low e = inr (e, none_in_none axis)
  in_set_by (call ∷ calls) set low e =
      let next = model_set d set call in
      let rest = told next calls in
      ⊎_elim
      (λ l. inl (last_behind axis (call, model_answer d set call) rest l))
      (λ held. first_decides set call rest low held.0 held.1 (model_answer d set call) refl)
      (in_set_by calls next low e)

  -- In the set after a list that began with no axis: the last unrefused call on the axis went forward.
  pub in_set_last : (calls : List Turn) → 1 ≤ axis → model_after d no_axis calls (axis - 1) ≡ true → LastForward axis (told no_axis calls)
  in_set_last calls low e = ⊎_elim (λ l. l) (λ held. absurd (true≢false (sym held.0))) (in_set_by calls no_axis low e)

  -- And where it did, the axis is in the set.
  put_there : (calls : List Turn) (set : Axes) (before after : List Answered) → NoneOn axis after →
      told set calls ≡ before ++ ((Forward axis, (Ok tt)) ∷ after) → model_after d set calls (axis - 1) ≡ true
  unfolding model_answers model_after
  put_there [] set before after none e = absurd (nothing_stands (Forward axis, (Ok tt)) before after e)
  put_there (call ∷ calls) set [] after none e =
      let next = model_set d set call in
      let first : ◌≡◌ {A = Answered} (call, model_answer d set call) (Forward axis, (Ok tt)) = first_is e in
      let this : call ≡ Forward axis = ap (λ (x : Answered). x.0) first in
      let passed : model_answer d set (Forward axis) ≡ (Ok tt) = rw this at (ap (λ (x : Answered). x.1) first) in
      none_stays calls next (passed_axis d set (Forward axis) passed) (rw (rest_is e) none)
      ∙ ap (λ (c : Turn). model_set d set c (axis - 1)) this
      ∙ joins d set axis passed
  put_there (call ∷ calls) set (x ∷ before) after none e = put_there calls (model_set d set call) before after none (rest_is e)

  pub last_in_set : (calls : List Turn) → LastForward axis (told no_axis calls) → model_after d no_axis calls (axis - 1) ≡ true
  last_in_set calls l = put_there calls no_axis l.one.before l.one.after l.last l.one.stands
