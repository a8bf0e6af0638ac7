use mathlib.Core.Path.{◌≡◌, ap, ◌∙◌}
use mathlib.Core.List.{◌∷◌, map}
use Prim.Native.Nat.{◌+◌}
use native.Mathlib.Numerals.{add-one}
use native.Mathlib.Omega.{arith}
use lib.ListN.{get_or, drop}
use lib.Seq.{drop-cons}
use mir.Syntax.{w64}
use mir.ValLaws.{to_z-of_z}
use Rattle.std.proofs.lemmas.List.{length-map}
use Rattle.house_numbers.specs.Numbers.{rate_of as filed_rate}
use Rattle.house_rates.specs.Steps.{rates_over}
use Rattle.house_rates.proofs.Filling.{filled_steps, filled_over}
use Rattle.house_rates.proofs.fill_short.Goals as goal

pub loop-place-preserved : goal.loop-place-preserved
loop-place-preserved c =
    let bytes = c.args.bytes.now in
    let place = c.loop-place.place in
    let byte = get_or bytes place 0 in
    let rate = to_z-of_z w64 c.rate_of.result (record { sfits = c.rate_of.type_inv }) ∙ c.rate_of.ensures ∙ ap filed_rate c.from.ensures in
    let next : drop place bytes ≡ byte ∷ drop (place + 1) bytes = rw add-one (drop-cons bytes place 0 (omega arith)) in
    rw rate (filled_steps c.loop-place.invariant (omega arith) (filed_rate byte) (map filed_rate (drop (place + 1) bytes)) (ap (map filed_rate) next))

pub returns : goal.returns
unfolding rates_over
returns c = filled_over c.loop-place.invariant (omega (arith, length-map c.args.bytes.now filed_rate))
