-- Of a checked file: its rates are never written in more bytes than they were read from.
-- Assumes nothing.
use native.Mathlib.Omega.{arith}
use Rattle.house_writer.proofs.CheckedForm.{read_few}
use Rattle.house_writer.proofs.filed_rates.enough_again.Goals as goal

pub returns : goal.returns
returns c = let a = c.args in omega (arith, read_few a.count a.bytes.now (λ i. omega (arith, c.type_inv.bytes i)) c.requires)
