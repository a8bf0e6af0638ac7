-- `evaluation::axis_hats` meets its contract: the closure answers the hat at each level.
-- Assumes nothing.
use Rattle.std.proofs.Common.{rules, ◌≡◌, ℕ}
use Rattle.evaluation.specs.declared.Hat.{Hat}
use Rattle.evaluation.specs.Steps.{no_hat, hat_at}
use Rattle.naturals.proofs.Made.{made}
use Rattle.evaluation.proofs.axis_hats.Goals as goal

pub returns : goal.returns
returns c = made _ (λ (l : ℕ) (hat : Hat). hat ≡ hat_at c.args.coordinate.x 0 l) _ (λ l hat f k. search rules) c.from_fn.result 9 c.from_fn.ensures.items no_hat
