-- `evaluation::Passed::with` meets its contract: the cell is below 2^level, so the shift loses nothing, and the shift of a product is its division by the unit.
-- Assumes nothing.
use mathlib.Core.Path.{refl}
use native.Mathlib.Omega.{arith}
use Rattle.surfaces.proofs.Unit.{unit_is}
use Rattle.evaluation.proofs.Taking.{cell_shifted, product_fits}
use Rattle.evaluation.proofs.Passed.with.Goals as goal

pub overflow_mul-result : goal.overflow_mul-result
overflow_mul-result c = record { fits = omega (arith, product_fits c.requires) }

pub returns : goal.returns
returns c = rw (c.from.ensures, cell_shifted c.requires, ← unit_is) refl
