-- `tables::first_rate` meets its contract: the values before the one found are rates and it is none, and where none is found all are rates.
-- Assumes nothing.
use Rattle.std.proofs.Common.{◌≡◌, List, ℤ, ℕ, ◌<◌, length, pos, sym, ◌∙◌, arith, rules, true, false, Option, MatchOption}
use Rattle.std.specs.List.{AllWithin, HoldsAt}
use Rattle.std.proofs.lemmas.Iterator.{IsFirst-from_position, YieldsList-from_slice}
use borrow.Author.Tests.{tests, lt-leb}
use Rattle.naturals.specs.FirstFailing.{first_failing}
use Rattle.naturals.proofs.FirstFailing.{first_at_lem}
use Rattle.integers.specs.Half.{is_rate}
use Rattle.tables.specs.Tables.{rate_at, check_rates}
use Rattle.tables.proofs.Checking.{rate_place, rates_pass}
use Rattle.tables.proofs.first_rate.Goals.{After-position}
use Rattle.tables.proofs.first_rate.Goals as goal

abbrev Searched : List ℤ → Option ℕ → Type 0
Searched xs r =
    MatchOption r (AllWithin (λ v. is_rate v ≡ true) xs 0 (length xs))
    (λ p. (p < length xs) × HoldsAt (λ v. is_rate v ≡ false) xs p × AllWithin (λ v. is_rate v ≡ true) xs 0 p)

searched : (c : After-position) → Searched c.args.table.now c.position.result
searched c =
    IsFirst-from_position _ _ c.position.result (λ (v : ℤ). is_rate v ≡ false) (λ (v : ℤ). is_rate v ≡ true) c.position.ensures.ran
    (YieldsList-from_slice c.args.table.now (search rules))
    (λ x q k. search (rules, tests))
    (λ x q k. search (rules, tests))

pub returns-in-Some : goal.returns-in-Some
unfolding check_rates
returns-in-Some c =
    let xs = c.args.table.now in
    let p = c.in-Some.p in
    let found = rw c.in-Some.is at (searched (goal.at.returns-in-Some c).After-position) in
    let first : first_failing (rate_at xs) (length xs) ≡ p =
    first_at_lem (rate_at xs) (length xs) p (λ k h. rate_place xs k ∙ found.2 k (pos 0) (omega arith) h) (rate_place xs p ∙ found.1 (pos 0)) found.0 in
    rw (first, lt-leb (length xs) p found.0)

pub returns : goal.returns
returns c =
    let xs = c.args.table.now in
    let none = rw c.in_default.is at (searched (goal.at.returns c).After-position) in
    sym (rates_pass xs (λ k h. rate_place xs k ∙ none k (pos 0) (omega arith) h))
