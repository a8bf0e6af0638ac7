-- `whole::coefficients_to_rates` meets its contract: what adopt refuses is refused, where a turn down or unload refuses the turns up lead back to the table,
-- and else its rates are left.
-- Assumes nothing.
use Rattle.whole.proofs.AnswersDown.{adopt_opens, descended, turn_refuses, unload_passes, unload_keeps, unload_refuses}
use Rattle.whole.proofs.coefficients_to_rates.Goals as goal

pub descend-forward-requires : goal.descend-forward-requires
descend-forward-requires c = adopt_opens c.args.shape c.args.table.now c.in_ok-adopt.field-0 c.in_ok-adopt.ensures

pub climb-requires : goal.climb-requires
climb-requires c =
    let a = c.args in
    descended a.shape a.table.now c.in_ok-adopt.field-0 c.in_ok-adopt.ensures
    c.descend-forward.result c.descend-forward.new.table c.descend-forward.ensures

pub returns-then-forward-gt0 : goal.returns-then-forward-gt0
returns-then-forward-gt0 c =
    let a = c.args in
    turn_refuses a.shape a.table.now c.in_ok-adopt.field-0 c.in_ok-adopt.ensures
    c.descend-forward.result c.descend-forward.new.table c.descend-forward.ensures
    c.climb.new.table c.if-forward-gt0.true c.climb.ensures

pub climb-requires-in-Err : goal.climb-requires-in-Err
climb-requires-in-Err c =
    let a = c.args in
    unload_keeps a.shape a.table.now c.in_ok-adopt.field-0 c.in_ok-adopt.ensures
    c.descend-forward.result c.descend-forward.new.table c.descend-forward.ensures c.if-forward-gt0.false
    c.in-Err.field-0 c.unload.new.table c.in-Err.ensures

pub returns-in-Ok : goal.returns-in-Ok
returns-in-Ok c =
    let a = c.args in
    unload_passes a.shape a.table.now c.in_ok-adopt.field-0 c.in_ok-adopt.ensures
    c.descend-forward.result c.descend-forward.new.table c.descend-forward.ensures c.if-forward-gt0.false
    c.unload.new.table c.in-Ok.ensures

pub returns-in-Err : goal.returns-in-Err
returns-in-Err c =
    let a = c.args in
    unload_refuses a.shape a.table.now c.in_ok-adopt.field-0 c.in_ok-adopt.ensures
    c.descend-forward.result c.descend-forward.new.table c.descend-forward.ensures c.if-forward-gt0.false
    c.in-Err.field-0 c.unload.new.table c.in-Err.ensures
    c.climb-in-Err.new.table c.climb-in-Err.ensures
