-- The first 40,971 bytes of a file decide its report, so the program need not read further: they decide what the reader leaves, and the report is told by
-- that.
-- Assumes nothing.
use Rattle.std.specs.Prelude.{Result, Ok, Err}
use Rattle.shapes.specs.declared.Shape.{Shape}
use Rattle.refusals.specs.declared.Refusal.{Refusal}
use mathlib.Core.Path.{◌≡◌, refl, sym, ◌∙◌}
use mathlib.Core.List.{List}
use Prim.Native.Nat.{ℕ}
use native.Mathlib.Omega.{arith}
use lib.IntN.{ℤ, pos}
use lib.ListN.{length, take, replicate, length-replicate}
use Rattle.house_file.specs.Files.{after_reading, read_file}
use Rattle.house_file.proofs.Deciding as deciding
use Rattle.reports.specs.Report.{report}
use Rattle.reports.proofs.Accepted.{held_report, refused_report}

module _ (bytes : List ℕ) (table : List ℤ) (places : length table ≡ 8192) where
  same : read_file (take 40971 bytes) table ≡ read_file bytes table
  same = deciding.first_bytes_decide bytes table 40971 (omega (arith, places))

  by_answer : (a : Result Shape Refusal) (xs : List ℤ) → after_reading a xs ≡ read_file bytes table → report (take 40971 bytes) ≡ report bytes
  by_answer (Ok s) xs e =
      sym (held_report (take 40971 bytes) table places s xs (e ∙ sym same)) ∙ held_report bytes table places s xs e
  by_answer (Err r) xs e =
      sym (refused_report (take 40971 bytes) table places r xs (e ∙ sym same)) ∙ refused_report bytes table places r xs e

pub first_bytes_decide : (bytes : List ℕ) → report (take 40971 bytes) ≡ report bytes
first_bytes_decide bytes =
    let table : List ℤ = replicate 8192 (pos 0) in
    by_answer bytes table (length-replicate 8192 (pos 0)) (read_file bytes table).answer (read_file bytes table).table refl
