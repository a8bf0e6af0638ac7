-- `components::check_levels` meets its contract: each return is decided by the tests on the way to it.
-- Assumes nothing.
use Rattle.std.proofs.Common.{◌≡◌, refl, ◌&&◌, rules, tests, sym, ◌∙◌, length}
use Rattle.std.proofs.lemmas.Iterator.{YieldsList-from_slice}
use Rattle.std.proofs.lemmas.Iterator.Search.{all_from_yields_List}
use lib.Dec.{leb}
use Rattle.naturals.specs.Test.{all}
use Rattle.integers.proofs.Tables.{all_list}
use Rattle.components.specs.Components.{low_at, check_levels}
use Rattle.components.proofs.check_levels.Goals.{After-contains, After-all}
use Rattle.components.proofs.check_levels.Goals as goal

-- all levels are tested
tested : (c : After-all) → c.all.result ≡ all (low_at c.args.levels.now) (length c.args.levels.now)
unfolding low_at
tested c =
    all_from_yields_List (λ l. leb l 8) _ _ c.all.result c.all.ensures.ran (YieldsList-from_slice c.args.levels.now cc) (λ x b q k. search (rules, tests))
    ∙ all_list (λ l. leb l 8) 0 c.args.levels.now

-- the number of axes is tested
few : (c : After-contains) → c.contains.result ≡ (leb 1 (length c.args.levels.now) && leb (length c.args.levels.now) 8)
few c = search (rules, tests)

pub returns-then-not-contains : goal.returns-then-not-contains
unfolding check_levels
returns-then-not-contains c = rw (sym (few (goal.at.returns-then-not-contains c).After-contains), c.if-not-contains.true) refl

pub returns-then-not-all : goal.returns-then-not-all
unfolding check_levels
returns-then-not-all c =
    rw (
      sym (few (goal.at.returns-then-not-all c).After-contains),
      c.if-not-contains.false,
      sym (tested (goal.at.returns-then-not-all c).After-all),
      c.if-not-all.true,
    )
    refl

pub returns : goal.returns
unfolding check_levels
returns c =
    rw (
      sym (few (goal.at.returns c).After-contains),
      c.if-not-contains.false,
      sym (tested (goal.at.returns c).After-all),
      c.if-not-all.false,
    )
    refl
