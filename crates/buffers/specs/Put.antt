-- Bytes put into a buffer, piece by piece.
-- Assumes nothing.
use Rattle.std.specs.Prelude.{◌≡◌, List, ℕ, ◌+◌, length}
use Rattle.std.proofs.lemmas.List.Edits.{sets}

-- The piece stands in the buffer from a place on, all else is as it was, and `next` is the place after the piece.
pub record Put (piece old : List ℕ) (place : ℕ) (new : List ℕ) (next : ℕ) : Type 0 where
  pub after : next ≡ place + length piece
  pub holds : new ≡ sets old place piece
