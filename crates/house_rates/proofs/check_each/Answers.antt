use Rattle.std.specs.Prelude.{Err}
use mathlib.Core.Path.{◌≡◌, sym}
use borrow.Author.Rules.{rules}
use Prim.Native.Nat.{◌+◌, ◌-◌}
use native.Mathlib.Omega.{arith}
use Rattle.house_rates.proofs.Checking.{checked_steps, checked_refused, bytes_left, none_left}
use Rattle.house_rates.proofs.check_each.Goals as goal

pub returns-in_err-more : goal.returns-in_err-more
returns-in_err-more c =
    let same : c.from_residual.result ≡ Err c.in_err-more.field-0.0 = search rules in
    rw same (sym (checked_refused c.loop.invariant (omega arith) (sym c.in_err-more.ensures)))

pub loop-preserved : goal.loop-preserved
loop-preserved c =
    let same : c.args.count - c.loop.counter - 1 ≡ c.args.count - (c.loop.counter + 1) = omega arith in
    rw (sym same) (checked_steps c.loop.invariant (omega arith) c.in_ok-more.field-0-0 c.in_ok-more.more.now (sym c.in_ok-more.ensures))

pub returns-then-not-is_empty : goal.returns-then-not-is_empty
returns-then-not-is_empty c = sym (bytes_left c.loop.invariant (omega arith) (grind arith))

pub returns : goal.returns
returns c = sym (none_left c.loop.invariant (omega arith) (grind arith))
