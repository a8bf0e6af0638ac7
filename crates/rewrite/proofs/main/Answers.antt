-- `rewrite::main` is safe and ends: what is printed is within the buffer, since the answered length is that of the form.
-- Assumes nothing.
use Rattle.std.specs.Prelude.{Result, Ok, ℕ}
use Rattle.refusals.specs.declared.Refusal.{Refusal}
use mathlib.Core.Path.{◌≡◌, sym, ap, ◌∙◌}
use Prim.Native.Nat.{◌≤◌}
use lib.ListN.{length, take}
use Rattle.shapes.specs.Shapes.{most_points}
use Rattle.house_writer.specs.Writing.{AfterWriting, after_writing}
use Rattle.house_writer.specs.Rewriting.{rewrite_file}
use Rattle.house_writer.proofs.OneForm.{form_within}
use Rattle.rewrite.proofs.main.Goals.{In-Ok-rewrite}
use Rattle.rewrite.proofs.main.Goals as goal

-- the form is within the buffer
within : (c : In-Ok-rewrite) →
    let size = c.in-Ok-rewrite.size in
    let out = c.rewrite.new.out in
    (size ≤ length out) × (size ≡ length (take size out))
within c =
    let size = c.in-Ok-rewrite.size in
    let called = c.rewrite in
    let left : after_writing (Ok size) called.new.out ≡ rewrite_file most_points _ _ =
    ap (λ (a : Result ℕ Refusal). after_writing a called.new.out) (sym c.in-Ok-rewrite.is) ∙ called.ensures in
    rw (ap (λ (a : AfterWriting). a.out) left) (form_within most_points _ _ size (sym (ap (λ (a : AfterWriting). a.answer) left)))

pub slice_bounds-out-end : goal.slice_bounds-out-end
slice_bounds-out-end c = (within (goal.at.slice_bounds-out-end c).In-Ok-rewrite).0

pub slice_bounds-print-end : goal.slice_bounds-print-end
slice_bounds-print-end c = (within (goal.at.slice_bounds-print-end c).In-Ok-rewrite).1
