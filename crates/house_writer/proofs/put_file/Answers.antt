-- `house_writer::put_file` meets its contract: where there is room the file is put, part by part.
-- Assumes nothing.
use mathlib.Core.Path.{sym, ◌∙◌}
use Prim.Native.Nat.{◌+◌, ◌≤◌}
use native.Mathlib.Omega.{arith}
use borrow.Author.Rules.{rules}
use borrow.Author.Tests.{leb-true, leb-false}
use lib.ListN.{length}
use Rattle.buffers.proofs.Puts.{length_behind}
use Rattle.house_file.specs.Written.{written_rates, written_file}
use Rattle.house_file.proofs.Lengths.{file_size}
use Rattle.house_writer.proofs.WholeFile.{put_short, put_answered, rates_room, parts_put}
use Rattle.house_writer.proofs.put_file.Given as given
use Rattle.house_writer.proofs.put_file.Goals.{After-put_head-head}
use Rattle.house_writer.proofs.put_file.Goals as goal

fits : (g : given.Over) (c : After-put_head-head g) → length (written_file c.args.shape (g.R.FiledRates.rates c.args.rates)) ≤ length c.args.out.now
fits g c =
    let rates = g.R.FiledRates.rates c.args.rates in
    omega (
      arith,
      file_size c.args.shape c.requires rates,
      leb-true (2 + length (written_rates rates)) (length c.args.out.now) (sym c.has_room.ensures ∙ c.if-not-has_room.false),
    )

room : (g : given.Over) (c : After-put_head-head g) →
    c.put_head-head.result + length (written_rates (g.R.FiledRates.rates c.args.rates)) ≤ length c.put_head-head.new.out
room g c = rates_room c.args.shape c.requires (g.R.FiledRates.rates c.args.rates) (fits g c) c.put_head-head.ensures

pub returns-then-not-has_room : goal.returns-then-not-has_room
returns-then-not-has_room g c =
    let rates = g.R.FiledRates.rates c.args.rates in
    sym
    (put_short (written_file c.args.shape rates) c.args.out.now
    (omega (
      arith,
      file_size c.args.shape c.requires rates,
      leb-false (2 + length (written_rates rates)) (length c.args.out.now) (sym c.has_room.ensures ∙ c.if-not-has_room.true),
    )))

pub slice_bounds-put_rates-count : goal.slice_bounds-put_rates-count
slice_bounds-put_rates-count g c = omega (arith, room g (goal.at.slice_bounds-put_rates-count g c).After-put_head-head)

pub slice_bounds-put_rates-start : goal.slice_bounds-put_rates-start
slice_bounds-put_rates-start g c = omega (arith, room g (goal.at.slice_bounds-put_rates-start g c).After-put_head-head)

pub put_rates-requires : goal.put_rates-requires
put_rates-requires g c =
    let head = c.put_head-head in omega (arith, room g (goal.at.put_rates-requires g c).After-put_head-head, length_behind head.new.out head.result)

pub overflow_add-result : goal.overflow_add-result
overflow_add-result g c = search (rules, room g (goal.at.overflow_add-result g c).After-put_head-head, c.put_rates.ensures.after)

pub returns : goal.returns
returns g c =
    let s = c.args.shape in
    let rates = g.R.FiledRates.rates c.args.rates in
    let here = (goal.at.returns g c).After-put_head-head in
    put_answered (written_file s rates) c.args.out.now (fits g here)
    (parts_put s c.requires rates c.put_head-head.ensures (omega (arith, room g here)) c.put_rates.ensures)
