-- Of a table: the first rate is filed, and the rest are rates too.
-- Assumes nothing.
use mathlib.Core.Path.{◌≡◌, sym, ap, ◌∙◌}
use mathlib.Core.List.{List, ◌∷◌}
use Prim.Native.Nat.{suc}
use native.Mathlib.Omega.{arith}
use borrow.Author.Rules.{rules}
use lib.IntN.{ℤ}
use mir.Syntax.{w64}
use mir.ValLaws.{to_z-of_z}
use Rattle.house_numbers.specs.Numbers.{filed, rate_of}
use Rattle.house_numbers.proofs.Filing.{rate_of_filed}
use Rattle.house_file.specs.Written.{AllRates}
use Rattle.house_writer.proofs.filed_rates.TableRatesFiledRates.split_first.Goals as goal

rest_rates : (all : List ℤ) {rate : ℤ} {rest : List ℤ} → all ≡ rate ∷ rest → AllRates all → AllRates rest
rest_rates all is each p h = (rw is at each) (suc p) (omega arith)

pub invariant_of-result : goal.invariant_of-result
invariant_of-result c = record { each = rest_rates c.args.self.rates.now c.in_ok-rate.ensures.cases.0 c.args.self.each }

pub returns : goal.returns
returns c =
    let rate = c.in_ok-rate.rate.now in
    ap (λ (z : ℤ). z ∷ c.in_ok-rate.rest.now)
    (ap rate_of (c.filed_of.ensures ∙ ap filed (to_z-of_z w64 rate (search rules))) ∙ rate_of_filed rate)
    ∙ sym c.in_ok-rate.ensures.cases.0
