-- `CheckedRates::take_first` meets its contract: the first number is read as it was checked, and the rates after it pass as well.
-- Assumes nothing.
use Rattle.std.specs.Prelude.{Ok}
use mathlib.Core.Path.{◌≡◌, sym, ap, ◌∙◌}
use Prim.Native.Nat.{suc, ◌-◌}
use native.Mathlib.Omega.{arith}
use Rattle.house_rates.specs.Rates.{read_rates}
use Rattle.house_rates.specs.Steps.{checked_rates, rates_read}
use Rattle.house_rates.specs.Held.{rates_of}
use Rattle.house_rates.proofs.Held.{first_read, rest_passed, first_rate}
use Rattle.house_rates.proofs.CheckedRates.take_first.Goals.{Start}
use Rattle.house_rates.proofs.CheckedRates.take_first.Goals as goal

-- there is a rate
some : (c : Start) → c.args.self.count ≡ suc (c.args.self.count - 1)
some c = omega arith

passed : (c : Start) → checked_rates (read_rates (suc (c.args.self.count - 1)) c.args.self.bytes.now) ≡ Ok tt
passed c = rw (some c) at c.args.self.passed

pub checked_number-filed-requires : goal.checked_number-filed-requires
checked_number-filed-requires c = let s = c.args.self in first_read (s.count - 1) s.bytes.now (passed (goal.at.checked_number-filed-requires c).Start)

pub invariant_of-result : goal.invariant_of-result
invariant_of-result c =
    let s = c.args.self in
    record { passed = rest_passed (s.count - 1) s.bytes.now (passed (goal.at.invariant_of-result c).Start) (sym c.checked_number-filed.ensures) }

pub returns : goal.returns
unfolding rates_of
returns c =
    let s = c.args.self in
    sym
    (ap (λ n. rates_read (read_rates n s.bytes.now)) (some (goal.at.returns c).Start)
    ∙ first_rate (s.count - 1) s.bytes.now (passed (goal.at.returns c).Start) (sym c.checked_number-filed.ensures))
