-- `integers::gathered` meets its contract: it is the fold of `|` over the raised values, and each of these is a part of it.
-- Assumes nothing.
use Rattle.std.proofs.Common.{◌≡◌, rules, tests, arith, w64, SFits, bit_or, subst, sym}
use Rattle.std.proofs.lemmas.Fn.{fronts, fold_over}
use Rattle.std.proofs.lemmas.Iterator.{YieldsList-from_slice}
use Rattle.integers.proofs.Gathering.{raised, Gathered, gathered_more, raised_within, raised_divided}
use Rattle.integers.proofs.gathered.Goals.{After-fold}
use Rattle.integers.proofs.gathered.Goals as goal

each : (c : After-fold) → Gathered c.args.bits c.args.table.now c.fold.result
each c =
    let bits = c.args.bits in
    fold_over fronts (λ y. y.now) _ (Gathered bits) _
    (λ xs a x b f' before k.
    let fits : SFits w64 x.now = search rules in
    let more : b ≡ bit_or a (raised bits x.now) = search (rules, tests) in
    (subst (Gathered bits _) (sym more) (gathered_more bits xs a x.now fits before), search rules))
    c.iter.result c.args.table.now 0 c.fold.result (YieldsList-from_slice c.args.table.now c.iter.ensures.rest).runs (λ p h. absurd (omega arith)) c.fold.ensures.ran

pub returns-clause-within : goal.returns-clause-within
returns-clause-within c small p h =
    let value = each (goal.at.returns-clause-within c).After-fold p h in
    raised_within c.args.bits c.requires _ value.0 (omega (arith, value.1))

pub returns-clause-divided : goal.returns-clause-divided
returns-clause-divided c k le e p h =
    let value = each (goal.at.returns-clause-divided c).After-fold p h in
    raised_divided c.args.bits c.requires k le _ value.0 (value.1.divided k e)
