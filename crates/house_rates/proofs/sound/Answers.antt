-- `house_rates::sound` meets its contract: where it says yes, the rates pass together.
-- Assumes nothing.
use mathlib.Core.Path.{◌≡◌, sym, ◌∙◌}
use mathlib.Core.Bool.{true≢false}
use Prim.Native.Nat.{◌-◌}
use native.Mathlib.Omega.{arith}
use lib.ListN.{length, get_or}
use borrow.Author.Rules.{rules}
use borrow.Author.Tests.{le-ltb}
use Rattle.house_rates.proofs.Together.{all_pass}
use Rattle.house_rates.proofs.sound.Goals.{then-last-lt128, else-last-lt128}
use Rattle.house_rates.proofs.sound.Goals as goal

pub returns-then-count_ends-count : goal.returns-then-count_ends-count
returns-then-count_ends-count c e =
    let bytes = c.args.bytes.now in
    let last : get_or bytes (length bytes - 1) 0 ≡ c.in-Some.last.now = search rules in
    elim c.if-last-lt128.branch [
      | then-last-lt128 w ↦ all_pass bytes (λ i. omega (arith, c.type_inv.bytes i)) (omega (arith, last, w.if-last-lt128.true)) (c.none_large.ensures e) c.args.count 0 (grind arith)
      | else-last-lt128 w ↦ absurd (true≢false (sym c.if-count_ends-count.true ∙ w.value-is ∙ le-ltb c.in-Some.last.now 128 w.if-last-lt128.false))
    ]
