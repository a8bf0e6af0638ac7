-- `texts::pieces::put_named` meets its contract: a word is put, and behind it a number.
-- Assumes nothing.
use mathlib.Core.Path.{ap}
use mathlib.Core.List.{List, ◌++◌}
use Prim.Native.Nat.{ℕ}
use native.Mathlib.Omega.{arith}
use Rattle.buffers.proofs.Puts.{put_behind, put_as}
use Rattle.texts.proofs.Decimals.{printed_decimal}
use Rattle.texts.proofs.pieces.put_named.Goals as goal

pub returns-clause-put : goal.returns-clause-put
returns-clause-put c =
    put_as
    (ap (λ (l : List ℕ). c.args.word.now ++ l) (printed_decimal c.args.n c.ranges.n.fits))
    (put_behind c.put-end.ensures (omega arith) c.put_number.ensures.put)
