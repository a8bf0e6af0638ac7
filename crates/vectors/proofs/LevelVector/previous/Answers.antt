-- `LevelVector::previous` meets its contract: where the search finds a place, and where it finds none, is one of the two ways back of `Preceding`.
-- Assumes nothing.
use Rattle.std.proofs.Common.{◌≡◌, ℕ, ◌+◌, ◌-◌, ◌<◌, take, drop, refl, arith, rules}
use borrow.Author.Tests.{tests}
use Rattle.std.proofs.lemmas.Iterator.{IsFirst-from_position, YieldsList-from_slice}
use Rattle.numbering.specs.Point.{at}
use Rattle.vectors.specs.Steps.{PreviousVector}
use Rattle.vectors.proofs.Following.{First}
use Rattle.vectors.proofs.Preceding.{Flat, found_place, no_place, first_small, before_of_sum, raised, some_level, last_of, last_below}
use Rattle.vectors.proofs.LevelVector.previous.Goals.{After-position, In-Some, In_default}
use Rattle.vectors.proofs.LevelVector.previous.Goals as goal

searched : (c : After-position) → First (take (c.args.self.now.axes - 1) (drop 1 c.args.self.now.levels)) c.position.result
searched c =
    IsFirst-from_position _ _ c.position.result (λ (l : ℕ). 0 < l) (λ (l : ℕ). l ≡ 0) c.position.ensures.ran
    (YieldsList-from_slice (take (c.args.self.now.axes - 1) (drop 1 c.args.self.now.levels)) (search rules))
    (λ x q k. search (rules, tests))
    (λ x q k. search (rules, tests))

-- ---- of the same sum

found : (c : In-Some) →
    let v = c.args.self.now in
    Flat v.axes v.levels (c.in-Some.k + 1) × (c.in-Some.k + 1 < v.axes) × (0 < at v.levels (c.in-Some.k + 1))
found c =
    let v = c.args.self.now in
    found_place v.axes v.levels v.some v.few v.vector.long _ (rw c.in-Some.is at (searched c.before))

before : (c : In-Some) → let v = c.args.self.now in PreviousVector v.axes v.sum v.levels v.sum (raised v.levels (c.in-Some.k + 1))
before c =
    let v = c.args.self.now in
    before_of_sum v.few v.vector (found c).0 (found c).1 (found c).2

pub overflow_add-self-in-Some : goal.overflow_add-self-in-Some
overflow_add-self-in-Some c =
    let v = c.args.self.now in
    let place = found (goal.at.overflow_add-self-in-Some c).In-Some in
    record { fits = omega (arith, first_small v.few v.vector place.0 place.1, c.requires.0) }

pub invariant_of-self : goal.invariant_of-self
invariant_of-self c =
    let v = c.args.self.now in
    let back : c.in-Some.k + 1 - 1 ≡ c.in-Some.k = omega arith in
    record { some = v.some; few = v.few; vector = rw back at (before (goal.at.invariant_of-self c).In-Some).vector }

pub returns-in-Some : goal.returns-in-Some
returns-in-Some c =
    let back : c.in-Some.k + 1 - 1 ≡ c.in-Some.k = omega arith in
    (refl, rw back at (before (goal.at.returns-in-Some c).In-Some))

-- ---- before the first of a sum

none : (c : In_default) → Flat c.args.self.now.axes c.args.self.now.levels c.args.self.now.axes
none c =
    let v = c.args.self.now in
    no_place v.axes v.levels v.some v.few v.vector.long (rw c.in_default.is at (searched c.before))

below : (c : In_default) → let v = c.args.self.now in PreviousVector v.axes v.sum v.levels (v.sum - 1) (last_of v.axes (v.sum - 1))
below c =
    let v = c.args.self.now in
    last_below v.some v.few v.vector (none c) (omega arith) c.requires.1

pub overflow_sub-self-in_default : goal.overflow_sub-self-in_default
overflow_sub-self-in_default c =
    let v = c.args.self.now in
    omega (arith, some_level v.some v.few v.vector (none (goal.at.overflow_sub-self-in_default c).In_default) (omega arith) c.requires.1)

pub invariant_of-self-in_default : goal.invariant_of-self-in_default
invariant_of-self-in_default c =
    let v = c.args.self.now in
    record { some = v.some; few = v.few; vector = (below (goal.at.invariant_of-self-in_default c).In_default).vector }

pub returns-in_default : goal.returns-in_default
returns-in_default c = (refl, below (goal.at.returns-in_default c).In_default)
