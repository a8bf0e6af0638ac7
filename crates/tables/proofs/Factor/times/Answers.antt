-- `Factor::times` meets its contract: a one shifted by d is 2^d, and a rate times that is a number of 64 bits.
-- Assumes nothing.
use Rattle.std.proofs.Common.{w64}
use mir.ValLaws.{to_z-of_z}
use Rattle.tables.specs.Tables.{times}
use Rattle.tables.proofs.Quotients.{unit_shifted, times_fits}
use Rattle.tables.proofs.Factor.times.Goals as goal

pub overflow_mul-result : goal.overflow_mul-result
unfolding times
overflow_mul-result c =
    rw (to_z-of_z w64 c.args.rate c.ranges.rate, unit_shifted c.args.self.axes c.args.self.few)
    (times_fits c.args.self.axes c.args.rate c.args.self.few c.requires)

pub returns : goal.returns
unfolding times
returns c =
    rw (to_z-of_z w64 c.args.rate c.ranges.rate, unit_shifted c.args.self.axes c.args.self.few)
    (to_z-of_z w64 (times c.args.self.axes c.args.rate) (times_fits c.args.self.axes c.args.rate c.args.self.few c.requires))
