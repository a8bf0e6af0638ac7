-- `component_boxes::count_points` meets its contract: the product that stops at the largest number of the width is the least of the two at each step.
-- Assumes nothing.
use Rattle.std.proofs.Common.{◌≡◌, ap, ◌∙◌, ℕ, ◌*◌, ◌≤◌, min, fold, map, rules, arith}
use Rattle.std.proofs.lemmas.List.{get_or_default}
use Rattle.std.proofs.lemmas.Iterator.{YieldsList-from_slice}
use Rattle.std.proofs.lemmas.Iterator.Adapters.{serves_from_places}
use Rattle.component_grids.specs.Component.{across}
use Rattle.component_boxes.proofs.Products.{times_all, capped}
use Rattle.component_boxes.proofs.count_points.Goals as goal

pub fold-requires-clause-can : goal.fold-requires-clause-can
fold-requires-clause-can c = (
  tt,
  serves_from_places (YieldsList-from_slice c.args.levels.now cc) (λ x q k. search rules)
      (λ x k less e.
      let low : x.now ≤ 8 = omega (arith, e, c.requires k, get_or_default c.args.levels.now k x.now 0 less) in search rules),
)

pub returns : goal.returns
returns c =
    let folded : c.fold.result ≡ fold (λ a x. min (a * x) 18446744073709551615) 1 (map across c.args.levels.now) = search rules in
    folded ∙ capped (map across c.args.levels.now) ∙ ap (λ (y : ℕ). min y 18446744073709551615) (times_all c.args.levels.now)
