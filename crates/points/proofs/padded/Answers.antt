-- `points::padded` meets its contract: each of the eight places is what the list holds there.
-- Assumes nothing.
use Rattle.std.proofs.Common.{rules, ◌≡◌, ℕ}
use Rattle.numbering.specs.Point.{at}
use Rattle.points.proofs.Eight.{eight_ext}
use Rattle.naturals.proofs.Made.{made}
use Rattle.points.proofs.padded.Goals as goal

pub returns : goal.returns
returns c =
    let made_at = made _ (λ (t y : ℕ). y ≡ at c.args.list.now t) _ (λ t y f k. search rules) c.from_fn.result 8 c.from_fn.ensures.items 0 in
    eight_ext (at c.args.list.now) c.from_fn.result c.from_fn.ensures.items.long made_at
