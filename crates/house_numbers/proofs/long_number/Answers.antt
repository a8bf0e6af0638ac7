use mathlib.Core.Path.{sym}
use Prim.Native.Nat.{◌+◌, ◌-◌}
use native.Mathlib.Omega.{arith}
use borrow.Author.Tests.{leb-true, leb-false, lt-leb}
use lib.ListN.{length, drop, length-drop}
use lib.Seq.{take_all}
use Rattle.house_numbers.proofs.Gathering.{gathered_starts}
use Rattle.house_numbers.proofs.CheckedNumbers.{none_there, here_fits, here_goes_on, byte_there, four_gathered, fifth_fits, fifth_refused, fifth_small}
use Rattle.house_numbers.proofs.long_number.Goals as goal

pub loop-place-init : goal.loop-place-init
loop-place-init g c = gathered_starts _

pub refuses-requires : goal.refuses-requires
refuses-requires g c checked =
    lt-leb (length c.args.bytes.now) c.loop-place.place (byte_there c.loop-place.invariant (omega arith) (c.requires checked))

pub returns-then-refuses : goal.returns-then-refuses
returns-then-refuses g c =
    sym (none_there c.loop-place.invariant (omega arith) (leb-true (length c.args.bytes.now) c.loop-place.place (sym c.if-refuses.ensures)))

pub returns-then-group-lt128 : goal.returns-then-group-lt128
returns-then-group-lt128 g c =
    let bytes = c.args.bytes.now in
    let place = c.loop-place.place in
    let there = leb-false (length bytes) place (sym c.if-refuses.ensures) in
    rw (c.placed-value.ensures, c.from-group.ensures, take_all (length bytes - (place + 1)) (drop (place + 1) bytes) (omega (arith, length-drop (place + 1) bytes)))
    (sym (here_fits c.loop-place.invariant (omega arith) there (omega arith) (omega (arith, c.from-group.ensures))))

pub loop-place-preserved : goal.loop-place-preserved
loop-place-preserved g c =
    let place = c.loop-place.place in
    let bytes = c.args.bytes.now in
    rw (c.placed-value-in-loop-place.ensures, c.from-group.ensures)
    (here_goes_on c.loop-place.invariant (omega arith) (leb-false (length bytes) place (sym c.if-refuses.ensures))
    (omega (arith, c.type_inv.bytes place)) (omega (arith, c.from-group.ensures)))

pub refuses-requires-2 : goal.refuses-requires-2
refuses-requires-2 g c checked =
    lt-leb (length c.args.bytes.now) 4 (byte_there (four_gathered c.loop-place.invariant (omega arith)) (omega arith) (c.requires checked))

pub returns-then-refuses-2 : goal.returns-then-refuses-2
returns-then-refuses-2 g c =
    sym (none_there (four_gathered c.loop-place.invariant (omega arith)) (omega arith) (leb-true (length c.args.bytes.now) 4 (sym c.if-refuses-2.ensures)))

pub refuses-requires-3 : goal.refuses-requires-3
refuses-requires-3 g c checked =
    let there = leb-false (length c.args.bytes.now) 4 (sym c.if-refuses-2.ensures) in
    lt-leb 16 c.from-fifth.result
    (omega (arith, c.from-fifth.ensures, fifth_small (four_gathered c.loop-place.invariant (omega arith)) there (omega (arith, c.type_inv.bytes 4)) (c.requires checked)))

pub returns-then-refuses-3 : goal.returns-then-refuses-3
returns-then-refuses-3 g c =
    let there = leb-false (length c.args.bytes.now) 4 (sym c.if-refuses-2.ensures) in
    sym
    (fifth_refused (four_gathered c.loop-place.invariant (omega arith)) there (omega (arith, c.type_inv.bytes 4))
    (omega (arith, c.from-fifth.ensures, leb-true 16 c.from-fifth.result (sym c.if-refuses-3.ensures))))

pub returns : goal.returns
returns g c =
    let bytes = c.args.bytes.now in
    let there = leb-false (length bytes) 4 (sym c.if-refuses-2.ensures) in
    rw (c.placed-value-2.ensures, c.from-fifth.ensures, take_all (length bytes - 5) (drop 5 bytes) (omega (arith, length-drop 5 bytes)))
    (sym
    (fifth_fits (four_gathered c.loop-place.invariant (omega arith)) there
    (omega (arith, c.from-fifth.ensures, leb-false 16 c.from-fifth.result (sym c.if-refuses-3.ensures)))))
