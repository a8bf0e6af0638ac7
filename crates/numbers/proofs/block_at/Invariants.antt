-- The loop's invariant: whatever the sizes are that the closure answers, the places of the blocks passed are taken off (`Searched`).
-- Assumes nothing.
use Prim.Native.Nat.{ℕ, suc, ◌<◌}
use Rattle.naturals.specs.Sum.{sum_to}
use Rattle.numbers.specs.Steps.{Sizes}
use Rattle.numbers.proofs.Searched.{Searched}
use Rattle.numbers.proofs.block_at.Given as goal

abbrev pub invariant-loop-block : goal.invariant-loop-block
invariant-loop-block g l =
    (f : ℕ → ℕ) → Sizes (goal.F-post g l.size) l.last f → l.place < sum_to f (suc l.last) → Searched f l.last l.place l.block l.rest
