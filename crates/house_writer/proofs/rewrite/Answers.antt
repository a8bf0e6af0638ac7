-- `house_writer::rewrite` meets its contract: a file is its head and then its table.
-- Assumes nothing.
use mathlib.Core.Path.{ap, ◌∙◌}
use Rattle.shapes.specs.declared.Shape.{Shape}
use Rattle.house_numbers.specs.Reading.{Read, ◌next◌}
use Rattle.house_file.specs.Files.{read_table, read_contents}
use Rattle.house_writer.specs.Rewriting.{written_again, rewrite_file}
use Rattle.house_writer.proofs.rewrite.Goals as goal

pub returns : goal.returns
unfolding rewrite_file read_contents
returns c =
    let a = c.args in
    c.rewrite_table.ensures ∙ ap (λ (x : Read Shape). written_again a.out.now (x next read_table a.places)) c.in_ok-shape.ensures
