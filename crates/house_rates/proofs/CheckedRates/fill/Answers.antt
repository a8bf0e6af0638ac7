use mathlib.Core.Path.{◌≡◌, sym, ◌∙◌}
use mathlib.Core.List.{map}
use native.Mathlib.Omega.{arith}
use lib.ListN.{length, take}
use mir.Syntax.{w64}
use mir.ValLaws.{to_z-of_z}
use Rattle.house_numbers.specs.Numbers.{rate_of as filed_rate}
use Rattle.std.proofs.Common.{length-take-le}
use Rattle.house_rates.specs.declared.CheckedRates.{CheckedRates}
use Rattle.house_rates.specs.Steps.{rates_over}
use Rattle.house_rates.specs.Held.{rates_of}
use Rattle.house_rates.proofs.Held.{read_many}
use Rattle.house_rates.proofs.Short.{all_short}
use Rattle.house_rates.proofs.Filling.{left_many, filled_steps, filled_all}
use Rattle.house_rates.proofs.CheckedRates.fill.Goals.{Start}
use Rattle.house_rates.proofs.CheckedRates.fill.Goals as goal

-- there are as many rates as the check counted
many : (s : CheckedRates) → length (rates_of s) ≡ s.count
unfolding rates_of
many s = read_many s.count s.bytes.now s.passed

-- so many places are filled
places : (c : Start) → length (take c.args.self.count c.args.table.now) ≡ c.args.self.count
places c = length-take-le c.args.self.count c.args.table.now (omega (arith, c.requires, many c.args.self))

-- each byte is a number
short : (s : CheckedRates) → length s.bytes.now ≡ s.count → map filed_rate s.bytes.now ≡ rates_of s
unfolding rates_of
short s e = sym (all_short s.count s.bytes.now s.passed e)

pub fill_short-requires : goal.fill_short-requires
fill_short-requires c = omega (arith, c.requires, many c.args.self)

pub returns-then-self : goal.returns-then-self
returns-then-self c =
    let s = c.args.self in
    rw (sym (short s (omega arith))) c.fill_short.ensures

pub slice_bounds-place-items-end : goal.slice_bounds-place-items-end
slice_bounds-place-items-end c = omega (arith, c.requires, many c.args.self)

pub slice_bounds-place-items-end-2 : goal.slice_bounds-place-items-end-2
slice_bounds-place-items-end-2 c = sym (places (goal.at.slice_bounds-place-items-end-2 c).Start)

pub take_first-filed-requires : goal.take_first-filed-requires
take_first-filed-requires c =
    let loop = c.loop-place in
    omega (arith, left_many loop.invariant, many c.args.self, many loop.rates, c.loop-place-test.true, places (goal.at.take_first-filed-requires c).Start)

pub loop-place-preserved : goal.loop-place-preserved
loop-place-preserved c =
    let rate = c.rate_of.result in
    let same = to_z-of_z w64 rate (record { sfits = c.rate_of.type_inv }) ∙ c.rate_of.ensures in
    rw same
    (filled_steps c.loop-place.invariant c.loop-place-test.true (filed_rate c.take_first-filed.result.0) (rates_of c.take_first-filed.result.1)
    (sym c.take_first-filed.ensures))

pub returns : goal.returns
unfolding rates_over
returns c =
    let s = c.args.self in
    let all = filled_all c.loop-place.invariant (omega (arith, many s, c.loop-place-test.false, places (goal.at.returns c).Start)) (omega (arith, many s, c.loop-place-test.false, places (goal.at.returns c).Start)) in
    rw (all, many s)
