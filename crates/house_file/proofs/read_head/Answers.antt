-- `house_file::read_head` meets its contract: d and n are the numbers that two calls read, and the first that is refused decides.
-- Assumes nothing.
use mathlib.Core.Path.{ap, sym, ◌∙◌}
use Rattle.shapes.specs.declared.Shape.{Shape}
use Rattle.house_numbers.specs.Reading.{got}
use Rattle.std.proofs.lemmas.Result.{err_from_is_err_and}
use Rattle.house_file.proofs.Answering.{first_refused, second_refused, head_named}
use Rattle.house_file.proofs.read_head.Goals as goal

pub returns-in_err-axes : goal.returns-in_err-axes
returns-in_err-axes c =
    let p = err_from_is_err_and c.from_residual.result c.from_residual.ensures.1 in
    rw (p.1, p.2) (sym (first_refused c.args.bytes.now (sym c.in_err-axes.ensures)))

pub returns-in_err-level : goal.returns-in_err-level
returns-in_err-level c =
    let p = err_from_is_err_and c.from_residual-in_err-level.result c.from_residual-in_err-level.ensures.1 in
    rw (p.1, p.2)
    (sym (second_refused c.args.bytes.now c.in_ok-axes.axes c.in_ok-axes.more.now (sym c.in_ok-axes.ensures) (sym c.in_err-level.ensures)))

pub returns : goal.returns
returns c =
    ap (λ (s : Shape). got s c.in_ok-level.rest.now) c.sparse.ensures
    ∙ sym (head_named c.args.bytes.now c.in_ok-axes.axes c.in_ok-axes.more.now (sym c.in_ok-axes.ensures) (sym c.in_ok-level.ensures))
