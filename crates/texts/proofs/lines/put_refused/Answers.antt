-- `texts::lines::put_refused` meets its contract: its pieces are the line.
-- Assumes nothing.
use mathlib.Core.Path.{ap, ◌∙◌}
use mathlib.Core.List.{◌++◌}
use Prim.Native.Nat.{ℕ}
use native.Mathlib.Omega.{arith}
use Rattle.texts.specs.Text.{named, refused_word, line_feed, refused_line}
use Rattle.buffers.proofs.Puts.{put_behind, put_as}
use Rattle.texts.proofs.lines.put_refused.Goals as goal

pub returns : goal.returns
unfolding refused_line
returns c =
    put_as
    (ap (λ (n : ℕ). named refused_word n ++ line_feed) (c.from.ensures ∙ c.number.ensures))
    (put_behind c.put_named-end.ensures.put (omega arith) c.put.ensures)
