-- `house_numbers::number` meets its contract: a number of one byte is that byte, and all others are read byte by byte.
-- Assumes nothing.
use mathlib.Core.Path.{sym, ◌∙◌}
use Prim.Native.Nat.{◌-◌, ◌<◌}
use native.Mathlib.Omega.{arith}
use borrow.Author.Tests.{ne_eqb, eqb-true}
use lib.ListN.{length, drop, length-drop}
use lib.Seq.{take_all}
use Rattle.house_numbers.proofs.CheckedNumbers.{no_byte, one_byte, first_there}
use Rattle.house_numbers.proofs.number.Goals as goal

pub refuses-requires : goal.refuses-requires
refuses-requires g c checked =
    let bytes = c.args.bytes.now in
    let some : 0 < length bytes = first_there bytes (c.requires checked) in
    c.is_empty.ensures ∙ ne_eqb (length bytes) 0 (λ e. omega (arith, some, e))

pub returns-then-refuses : goal.returns-then-refuses
returns-then-refuses g c =
    let bytes = c.args.bytes.now in
    sym (no_byte bytes (eqb-true (length bytes) 0 (sym (c.if-refuses.ensures ∙ c.is_empty.ensures))))

pub returns-then-first-lt128 : goal.returns-then-first-lt128
returns-then-first-lt128 g c =
    let bytes = c.args.bytes.now in
    let some : 0 < length bytes = grind arith in
    rw (c.from.ensures, take_all (length bytes - 1) (drop 1 bytes) (omega (arith, length-drop 1 bytes)))
    (sym (one_byte bytes some c.if-first-lt128.true))
