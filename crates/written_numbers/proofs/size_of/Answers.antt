-- `written_numbers::size_of` meets its contract: the bounds that the number reaches are counted.
-- Assumes nothing.
use native.Mathlib.Omega.{arith}
use Rattle.written_numbers.proofs.Sizes.{size_is}
use Rattle.written_numbers.proofs.size_of.Goals as goal

pub returns : goal.returns
returns c = rw (c.from.ensures, c.from-2.ensures, c.from-3.ensures, c.from-4.ensures) (size_is c.args.number (omega arith))
