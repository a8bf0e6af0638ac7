-- `streams::read_input` meets its contract. The loop's invariant: no more bytes came than the buffer has, and those that came are what the reader lost.
-- The measure is the room that is left.
-- Assumes nothing.
use Rattle.std.proofs.Common.{◌-◌, ◌≤◌, length, take}
use Rattle.std.specs.Io.KnownBytes.{Consumes}
use Rattle.streams.proofs.read_input.Given as goal

abbrev pub invariant-loop-length : goal.invariant-loop-length
invariant-loop-length g l =
    (l.length ≤ length l.bytes) × Consumes (g.R.Read.remaining l.initial.from) (g.R.Read.remaining l.from) (take l.length l.bytes)

abbrev pub decreases-loop-length : goal.decreases-loop-length
decreases-loop-length g l = length l.bytes - l.length
