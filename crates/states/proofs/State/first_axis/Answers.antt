-- `State::first_axis` meets its contract: the axes before the one found have the other bit, and where none is found all have it.
-- Assumes nothing.
use Rattle.std.proofs.Common.{◌≡◌, true, false, rules, tests}
use Rattle.std.proofs.lemmas.Iterator.{first_from_Range}
use Rattle.states.specs.States.{is_other}
use Rattle.states.proofs.Found.{found_is}
use Rattle.states.proofs.State.first_axis.Goals as goal

pub returns : goal.returns
unfolding is_other
returns c =
    let s = c.args.self in
    let bit = c.args.bit in
    found_is bit s c.find.result
    (first_from_Range _ _ _ c.find.result (λ t. is_other bit s.forward t ≡ false) (λ t. is_other bit s.forward t ≡ true) c.find.ensures.ran
    (λ t q k. search (rules, tests)) (λ t q k. search (rules, tests)))
