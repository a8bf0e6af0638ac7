-- `turns::turn` meets its contract: the checks that refuse answer in their order. Where all values are within the limit, the turn that was tried tells whether
-- it is accepted, and its table is the one to leave.
-- Assumes nothing.
use Rattle.std.specs.Prelude.{Ok, Err}
use mathlib.Core.Path.{◌≡◌, sym, ◌∙◌}
use borrow.Author.Rules.{rules}
use native.Mathlib.Omega.{arith}
use lib.ListN.{length}
use Rattle.turns.specs.Steps.{marked_as}
use Rattle.turns.specs.Turns.{check_turn}
use Rattle.turns.proofs.Answering.{turn_unchecked, turn_unmarked, turn_past, turn_refused, turn_done}
use Rattle.turns.proofs.Checking.{MayTurn, place_of, turn_passed}
use Rattle.turns.proofs.turn.Given.{Over}
use Rattle.turns.proofs.turn.Goals.{In_ok-check_turn, In_ok-marked}
use Rattle.turns.proofs.turn.Goals as goal

-- the checks passed
passed : (g : Over) (c : In_ok-check_turn g) → let a = c.args in check_turn a.state (length a.table.now) a.axis ≡ Ok tt
passed g c = sym c.in_ok-check_turn.ensures

may : (g : Over) (c : In_ok-check_turn g) → let a = c.args in MayTurn a.state (length a.table.now) a.axis
may g c = let a = c.args in turn_passed a.state (length a.table.now) a.axis (passed g c)

-- the axis is not turned yet
marks : (g : Over) (c : In_ok-marked g) → Ok c.in_ok-marked.marked ≡ marked_as g.D.Direction.ahead c.args.state c.args.axis
marks g c = c.in_ok-marked.ensures

pub returns-in_err-check_turn : goal.returns-in_err-check_turn
returns-in_err-check_turn g c =
    let a = c.args in
    let why = c.in_err-check_turn.field-0.0 in
    let same : c.from_residual.result ≡ Err why = search rules in
    rw same (sym (turn_unchecked a.state a.table.now a.axis g.D.Direction.ahead why (sym c.in_err-check_turn.ensures)))

pub mark-requires : goal.mark-requires
mark-requires g c =
    let m = may g (goal.at.mark-requires g c).In_ok-check_turn in
    (m.first, omega (arith, m.last, m.range))

pub returns-in_err-marked : goal.returns-in_err-marked
returns-in_err-marked g c =
    let a = c.args in
    let why = c.in_err-marked.field-0.0 in
    let same : c.from_residual-in_err-marked.result ≡ Err why = search rules in
    rw same
    (sym
    (turn_unmarked a.state a.table.now a.axis (passed g (goal.at.returns-in_err-marked g c).In_ok-check_turn) g.D.Direction.ahead why
    c.in_err-marked.ensures))

pub returns-then-not-all_in_limit : goal.returns-then-not-all_in_limit
returns-then-not-all_in_limit g c =
    let seen = goal.at.returns-then-not-all_in_limit g c in
    let a = c.args in
    sym
    (turn_past a.state a.table.now a.axis (passed g seen.In_ok-check_turn) (may g seen.In_ok-check_turn).long g.D.Direction.ahead (marks g seen.In_ok-marked)
    (sym c.all_in_limit.ensures ∙ c.if-not-all_in_limit.true))

pub overflow_sub-place : goal.overflow_sub-place
overflow_sub-place g c = (may g (goal.at.overflow_sub-place g c).In_ok-check_turn).first

pub invariant_of-line : goal.invariant_of-line
invariant_of-line g c =
    let m = may g (goal.at.invariant_of-line g c).In_ok-check_turn in
    record { few = m.range.high; top = m.range.top; most = m.range.most; small = m.range.small; axis = omega (arith, place_of m) }

pub try_on-requires : goal.try_on-requires
try_on-requires g c =
    ((may g (goal.at.try_on-requires g c).In_ok-check_turn).long, sym c.all_in_limit.ensures ∙ c.if-not-all_in_limit.false)

pub returns-then-not-try_on : goal.returns-then-not-try_on
returns-then-not-try_on g c =
    let seen = goal.at.returns-then-not-try_on g c in
    let a = c.args in
    turn_refused a.state a.table.now a.axis (passed g seen.In_ok-check_turn) (may g seen.In_ok-check_turn).long g.D.Direction.ahead (marks g seen.In_ok-marked)
    (rw c.if-not-try_on.true at c.try_on.ensures)

pub returns : goal.returns
returns g c =
    let seen = goal.at.returns g c in
    let a = c.args in
    turn_done a.state a.table.now a.axis (passed g seen.In_ok-check_turn) (may g seen.In_ok-check_turn).long g.D.Direction.ahead (marks g seen.In_ok-marked)
    (rw c.if-not-try_on.false at c.try_on.ensures)
