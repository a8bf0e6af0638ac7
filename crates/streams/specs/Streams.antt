-- What came from a reader.
-- Assumes nothing.
use Rattle.std.specs.Prelude.{ℕ, Result, Ok, Err}
use Rattle.streams.specs.declared.Unreadable.{Unreadable}

-- How many bytes came, whether every read succeeded or one failed.
abbrev pub came : Result ℕ Unreadable → ℕ
came (Ok n) = n
came (Err e) = e.length
