-- `estimates::check_coordinates` meets its contract: the coordinates before the one found are inside and it is not, and where none is found all are.
-- Assumes nothing.
use Rattle.std.proofs.Common.{◌≡◌, List, ℕ, ◌<◌, length, add-one, arith, rules, true, false, Option, MatchOption}
use Rattle.std.specs.List.{AllWithin, HoldsAt}
use Rattle.std.proofs.lemmas.Iterator.{IsFirst-from_position, YieldsList-from_slice}
use borrow.Author.Tests.{tests, eq-eqb, ne_eqb, le-leb, lt-leb}
use Rattle.naturals.specs.FirstFailing.{first_failing}
use Rattle.naturals.proofs.FirstFailing.{first_none, first_at_lem}
use Rattle.surfaces.specs.Weights.{unit, is_coordinate}
use Rattle.estimates.specs.Estimates.{inside_at, first_outside, check_coordinates}
use Rattle.estimates.proofs.check_coordinates.Goals.{After-position}
use Rattle.estimates.proofs.check_coordinates.Goals as goal

pub returns-then-coordinates-axes : goal.returns-then-coordinates-axes
unfolding check_coordinates
returns-then-coordinates-axes c = rw (ne_eqb (length c.args.coordinates.now) c.args.axes c.if-coordinates-axes.true)

abbrev Searched : List ℕ → Option ℕ → Type 0
Searched xs r =
    MatchOption r (AllWithin (λ x. is_coordinate unit x ≡ true) xs 0 (length xs))
    (λ t. (t < length xs) × HoldsAt (λ x. is_coordinate unit x ≡ false) xs t × AllWithin (λ x. is_coordinate unit x ≡ true) xs 0 t)

searched : (c : After-position) → Searched c.args.coordinates.now c.position.result
searched c =
    IsFirst-from_position _ _ c.position.result (λ (x : ℕ). is_coordinate unit x ≡ false) (λ (x : ℕ). is_coordinate unit x ≡ true)
    c.position.ensures.ran
    (YieldsList-from_slice c.args.coordinates.now (search rules))
    (λ x q k. search (rules, tests))
    (λ x q k. search (rules, tests))

pub returns-in-Some : goal.returns-in-Some
unfolding check_coordinates first_outside inside_at
returns-in-Some c =
    let xs = c.args.coordinates.now in
    let t = c.in-Some.t in
    let found = rw c.in-Some.is at (searched (goal.at.returns-in-Some c).After-position) in
    let first : first_failing (inside_at unit xs) (length xs) ≡ t =
    first_at_lem (inside_at unit xs) (length xs) t (λ k h. found.2 k 0 (omega arith) h) (found.1 0) found.0 in
    rw (← c.if-coordinates-axes.false, eq-eqb (length xs) (length xs) (omega arith), first, lt-leb (length xs) t found.0, add-one t)

pub returns : goal.returns
unfolding check_coordinates first_outside inside_at
returns c =
    let xs = c.args.coordinates.now in
    let none = rw c.in_default.is at (searched (goal.at.returns c).After-position) in
    rw (
      ← c.if-coordinates-axes.false,
      eq-eqb (length xs) (length xs) (omega arith),
      first_none (inside_at unit xs) (length xs) (λ k h. none k 0 (omega arith) h),
      le-leb (length xs) (length xs) (omega arith),
    )
