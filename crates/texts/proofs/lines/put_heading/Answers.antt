-- `texts::lines::put_heading` meets its contract: its pieces are the line.
-- Assumes nothing.
use mathlib.Core.Path.{ap₂}
use Prim.Native.Nat.{ℕ}
use native.Mathlib.Omega.{arith}
use Rattle.texts.specs.Text.{heading_of}
use Rattle.buffers.proofs.Puts.{put_behind, put_as, put_length}
use Rattle.texts.proofs.lines.put_heading.Goals as goal

pub returns-clause-put : goal.returns-clause-put
unfolding heading_of
returns-clause-put c =
    let first = c.put_named-end.ensures.put in
    let second = put_behind first (omega arith) c.put_named-end-2.ensures.put in
    let third = put_behind second (omega (arith, put_length second)) c.put_named-end-3.ensures.put in
    let last = put_behind third (omega (arith, put_length third)) c.put.ensures in
    put_as (ap₂ (λ (d n : ℕ). heading_of d n c.args.count) c.from.ensures c.from-2.ensures) last
