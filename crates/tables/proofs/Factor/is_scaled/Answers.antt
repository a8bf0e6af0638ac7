-- `Factor::is_scaled` meets its contract: the shift by d is the division by 2^d rounded down, and its rate times 2^d is the value exactly where 2^d divides it.
-- Assumes nothing.
use Rattle.std.proofs.Common.{◌≡◌, sym, ap, ◌∙◌}
use Rattle.integers.specs.Half.{is_rate}
use Rattle.tables.specs.Tables.{quotient}
use Rattle.tables.proofs.Quotients.{shifted_bits, not_scaled, scaled_test}
use Rattle.tables.proofs.Factor.is_scaled.Goals.{After-is_rate}
use Rattle.tables.proofs.Factor.is_scaled.Goals as goal

-- the test's answer is that of the quotient
tested : (c : After-is_rate) → c.is_rate.result ≡ is_rate (quotient c.args.self.axes c.args.v)
tested c = c.is_rate.ensures ∙ ap is_rate (shifted_bits c.args.self.axes c.args.v c.ranges.v)

pub returns-then-is_rate : goal.returns-then-is_rate
returns-then-is_rate c =
    rw (c.times.ensures, shifted_bits c.args.self.axes c.args.v c.ranges.v)
    (scaled_test c.args.self.axes c.args.v c.args.self.few c.ranges.v (sym (tested (goal.at.returns-then-is_rate c).After-is_rate) ∙ c.if-is_rate.true))

pub returns-else-is_rate : goal.returns-else-is_rate
returns-else-is_rate c =
    let a = c.args in
    c.if-is_rate.false ∙ sym (not_scaled a.self.axes a.v (sym (tested (goal.at.returns-else-is_rate c).After-is_rate) ∙ c.if-is_rate.false))
