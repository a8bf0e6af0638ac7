-- `house_writer::write` meets its contract: the checks that refuse answer in their order, and where all pass the file is put.
-- Assumes nothing.
use mathlib.Core.Path.{sym, ◌∙◌, ap}
use Rattle.shapes.proofs.Checked.{in_range_passed}
use Rattle.shapes.specs.declared.Shape.{Shape}
use Rattle.house_file.specs.Written.{written_file}
use Rattle.house_writer.specs.Writing.{put_file}
use Rattle.tables.specs.Tables.{check_rated}
use Rattle.tables.proofs.Checking.{rated_opens, rated_passes}
use Rattle.house_writer.proofs.Rates.{all_rates}
use Rattle.house_writer.proofs.WholeFile.{write_put}
use Rattle.house_writer.proofs.write.Goals as goal

pub invariant_of-put_file : goal.invariant_of-put_file
invariant_of-put_file c =
    let a = c.args in record { each = all_rates a.rates.now (rated_passes c.sparse-shape.result a.rates.now (sym c.in_ok-check_rated.ensures)) }

pub put_file-requires : goal.put_file-requires
put_file-requires c =
    let a = c.args in in_range_passed c.sparse-shape.result (rated_opens c.sparse-shape.result a.rates.now (sym c.in_ok-check_rated.ensures)).range

pub returns : goal.returns
returns c =
    let a = c.args in
    c.put_file.ensures
    ∙ ap (λ (s : Shape). put_file (written_file s a.rates.now) a.out.now) c.sparse-shape.ensures
    ∙ sym (write_put a.axes a.level a.rates.now a.out.now (ap (λ (s : Shape). check_rated s a.rates.now) (sym c.sparse-shape.ensures) ∙ sym c.in_ok-check_rated.ensures))
