-- `LevelVector::next` meets its contract: where the search finds an axis, and where it finds none, is one of the two ways on of `Following`.
-- Assumes nothing.
use Rattle.std.proofs.Common.{◌≡◌, ℕ, ◌+◌, ◌-◌, ◌<◌, take, refl, add-one, arith, rules}
use borrow.Author.Tests.{tests}
use Rattle.std.proofs.lemmas.Iterator.{IsFirst-from_position, YieldsList-from_slice}
use Rattle.numbering.specs.Point.{at}
use Rattle.vectors.specs.Steps.{NextVector}
use Rattle.vectors.proofs.Following.{First, Bare, found_axis, no_axis, raised_fits, next_of_sum, first, first_of_next, stepped}
use Rattle.vectors.proofs.LevelVector.next.Goals.{After-position, In-Some, In_default}
use Rattle.vectors.proofs.LevelVector.next.Goals as goal

searched : (c : After-position) → First (take (c.args.self.now.axes - 1) c.args.self.now.levels) c.position.result
searched c =
    IsFirst-from_position _ _ c.position.result (λ (l : ℕ). 0 < l) (λ (l : ℕ). l ≡ 0) c.position.ensures.ran
    (YieldsList-from_slice (take (c.args.self.now.axes - 1) c.args.self.now.levels) (search rules))
    (λ x q k. search (rules, tests))
    (λ x q k. search (rules, tests))

-- ---- of the same sum

found : (c : In-Some) → let v = c.args.self.now in Bare v.axes v.levels c.in-Some.k × (c.in-Some.k + 1 < v.axes) × (0 < at v.levels c.in-Some.k)
found c =
    let v = c.args.self.now in
    rw (add-one c.in-Some.k) (found_axis v.axes v.levels v.some v.few v.vector.long _ (rw c.in-Some.is at (searched c.before)))

next : (c : In-Some) → let v = c.args.self.now in NextVector v.axes v.sum v.levels v.sum (stepped v.levels c.in-Some.k)
next c =
    let v = c.args.self.now in
    let at_axis = rw (add-one c.in-Some.k) at (found c) in
    next_of_sum v.few v.vector at_axis.0 at_axis.1 at_axis.2

pub overflow_add-self-in-Some : goal.overflow_add-self-in-Some
overflow_add-self-in-Some c =
    let v = c.args.self.now in
    let at_axis = rw (add-one c.in-Some.k) at (found (goal.at.overflow_add-self-in-Some c).In-Some) in
    rw (add-one c.in-Some.k) (raised_fits v.few v.vector at_axis.0 _ _ _ (omega arith) at_axis.1 c.requires)

pub invariant_of-self : goal.invariant_of-self
invariant_of-self c =
    let v = c.args.self.now in
    record { some = v.some; few = v.few; vector = rw (add-one c.in-Some.k) (next (goal.at.invariant_of-self c).In-Some).vector }

pub returns-in-Some : goal.returns-in-Some
returns-in-Some c = (refl, rw (add-one c.in-Some.k) (next (goal.at.returns-in-Some c).In-Some))

-- ---- past the last of a sum

above : (c : In_default) → let v = c.args.self.now in NextVector v.axes v.sum v.levels (v.sum + 1) (first (v.sum + 1))
above c =
    let v = c.args.self.now in
    first_of_next v.vector (no_axis v.axes v.levels v.some v.few v.vector.long (rw c.in_default.is at (searched c.before))) (omega (arith, v.some))

pub invariant_of-self-in_default : goal.invariant_of-self-in_default
invariant_of-self-in_default c =
    let v = c.args.self.now in
    record { some = v.some; few = v.few; vector = (above (goal.at.invariant_of-self-in_default c).In_default).vector }

pub returns-in_default : goal.returns-in_default
returns-in_default c = (refl, above (goal.at.returns-in_default c).In_default)
