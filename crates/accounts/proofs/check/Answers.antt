-- `accounts::check` meets its contract: the one test decides, and where it passes the weights are what the offices have open.
-- Assumes nothing.
use mathlib.Core.Path.{◌≡◌, refl, sym, ap, ◌∙◌}
use mathlib.Core.List.{List, [], ◌∷◌}
use Rattle.std.proofs.Common.{arith, ℕ}
use Rattle.accounts.specs.Accounts.{account_of}
use Rattle.accounts.specs.Steps.{weighed_by, common_over}
use Rattle.accounts.proofs.Weights.{heavy_refused, light_passes}
use Rattle.accounts.proofs.check.Goals.{After-common_of}
use Rattle.accounts.proofs.check.Goals as goal

-- the four weights
module _ (c : After-common_of) where
  weights : ◌≡◌ {A = List ℕ} (c.weighed.result ∷ c.weighed-2.result ∷ c.weighed-3.result ∷ c.weighed-4.result ∷ []) (weighed_by (account_of c.args.slots.now))
  weights = rw (c.weighed.ensures, c.weighed-2.ensures, c.weighed-3.ensures, c.weighed-4.ensures) refl

  common_told : c.common_of.result ≡ common_over (weighed_by (account_of c.args.slots.now))
  common_told = c.common_of.ensures ∙ ap common_over weights

pub returns-then-common_of-gt-COMMON_POINTS-clause-verdict : goal.returns-then-common_of-gt-COMMON_POINTS-clause-verdict
returns-then-common_of-gt-COMMON_POINTS-clause-verdict c =
    let told = common_told (goal.at.returns-then-common_of-gt-COMMON_POINTS-clause-verdict c).After-common_of in
    sym (heavy_refused (account_of c.args.slots.now) (omega (arith, told, c.if-common_of-gt-COMMON_POINTS.true)))

pub returns-clause-verdict : goal.returns-clause-verdict
returns-clause-verdict c =
    let told = common_told (goal.at.returns-clause-verdict c).After-common_of in
    let light = light_passes (account_of c.args.slots.now) (omega (arith, told, c.if-common_of-gt-COMMON_POINTS.false)) in
    sym light.passes

pub returns-clause-held : goal.returns-clause-held
returns-clause-held c =
    let at = (goal.at.returns-clause-held c).After-common_of in
    let light = light_passes (account_of c.args.slots.now) (omega (arith, common_told at, c.if-common_of-gt-COMMON_POINTS.false)) in
    (weights at ∙ light.counted, light.suffices)
