-- The report of a file that is read is that of its coefficients: what it holds are accepted rates, so rates to coefficients does not refuse them. And a
-- report has room in the program's buffer.
-- Assumes nothing.
use Rattle.std.specs.Prelude.{Result, Ok, Err}
use mathlib.Core.Path.{◌≡◌, refl, sym, ap}
use mathlib.Core.List.{List, ◌++◌}
use Prim.Native.Nat.{ℕ, ◌≤◌}
use native.Mathlib.Omega.{arith}
use lib.IntN.{ℤ}
use lib.ListN.{length, take, drop, length-append}
use lib.Seq.{take-append_seam}
use Rattle.refusals.specs.declared.Refusal.{Refusal}
use Rattle.hierarchy.proofs.Values.{value_suc}
use Rattle.shapes.specs.declared.Shape.{Shape}
use Rattle.shapes.specs.Shapes.{points_of}
use Rattle.shapes.proofs.Checked.{length_passes}
use Rattle.tables.specs.Tables.{rate_at, check_table, check_rates}
use Rattle.tables.proofs.Checking.{rates_pass}
use Rattle.whole.specs.Whole.{coefficients_of, rates_to_coefficients}
use Rattle.whole.proofs.Inverse.{coefficients_length}
use Rattle.house_numbers.specs.Reading.{Read, got, refused}
use Rattle.house_file.specs.Files.{Contents, read_contents, AfterReading, after_reading, filled_with, read_file}
use Rattle.house_file.specs.Written.{AllRates}
use Rattle.house_file.proofs.Accepting.{Accepted, contents_accepted}
use Rattle.texts.specs.Text.{heading, point_lines, refused_line}
use Rattle.reports.specs.Report.{table_text, reported, report}
use Rattle.reports.specs.Steps.{turned_text, rates_text}
use Rattle.texts.proofs.Listing.{lines_length, heading_length, refused_length}

-- What was read, if anything was, is accepted.
abbrev Got : ℕ → Read Contents → Type 0
Got places (got c rest) = Accepted places c.shape c.rates rest
Got places (refused r) = Unit {0}

contents_read : (places : ℕ) (bytes : List ℕ) → Got places (read_contents places bytes)
contents_read places bytes = so (read_contents places bytes) refl
  where
    so : (read : Read Contents) → read_contents places bytes ≡ read → Got places read
    so (got c rest) e = contents_accepted places bytes c rest e
    so (refused r) e = tt

-- Rates are refused nothing.
rates_checked : (xs : List ℤ) → AllRates xs → check_rates xs ≡ Ok tt
unfolding rate_at
rates_checked xs each = rates_pass xs (λ p h. rw (value_suc xs p) (each p h))

-- Their coefficients, whatever stands after them.
accepted_text : (places : ℕ) (c : Contents) (rest : List ℕ) (xs : List ℤ) → Accepted places c.shape c.rates rest
    → rates_text c.shape (c.rates ++ xs) ≡ table_text c.shape (coefficients_of c.shape c.rates)
unfolding rates_text rates_to_coefficients check_table turned_text
accepted_text places c rest xs h =
    let n = points_of c.shape in
    let count : length c.rates ≡ n = h.rated.many in
    let t : take n (c.rates ++ xs) ≡ c.rates = rw (sym count) (take-append_seam c.rates xs) in
    rw (t, h.shaped, length_passes c.shape (length c.rates) count, rates_checked c.rates h.rated.each)

-- What was read, as the reader leaves it.
abbrev answer_of : AfterReading → Result Shape Refusal
answer_of a = a.answer

abbrev table_of_read : AfterReading → List ℤ
table_of_read a = a.table

held_text : (table : List ℤ) (s : Shape) (xs : List ℤ) (read : Read Contents) → Got 8192 read → after_reading (Ok s) xs ≡ filled_with table read
    → rates_text s xs ≡ reported read
held_text table s xs (got c rest) h e =
    let a : Ok s ≡ Ok c.shape = ap answer_of e in
    let shape : s ≡ c.shape = cc in
    let rates : xs ≡ c.rates ++ drop (length c.rates) table = ap table_of_read e in
    rw (shape, rates) (accepted_text 8192 c rest (drop (length c.rates) table) h)
held_text table s xs (refused r) h e = let a : Ok s ≡ Err r = ap answer_of e in cc

refused_read : (table : List ℤ) (r : Refusal) (xs : List ℤ) (read : Read Contents) → after_reading (Err r) xs ≡ filled_with table read → refused_line r ≡ reported read
refused_read table r xs (got c rest) e = let a : Err r ≡ Ok c.shape = ap answer_of e in cc
refused_read table r xs (refused q) e = let a : Err r ≡ Err q = ap answer_of e in let same : r ≡ q = cc in ap refused_line same

module _ (bytes : List ℕ) (table : List ℤ) (all : length table ≡ 8192) where
  pub held_report : (s : Shape) (xs : List ℤ) → after_reading (Ok s) xs ≡ read_file bytes table → rates_text s xs ≡ report bytes
  unfolding read_file report
  held_report s xs e = held_text table s xs (read_contents 8192 bytes) (contents_read 8192 bytes) (rw all at e)

  pub refused_report : (r : Refusal) (xs : List ℤ) → after_reading (Err r) xs ≡ read_file bytes table → refused_line r ≡ report bytes
  unfolding read_file report
  refused_report r xs e = refused_read table r xs (read_contents 8192 bytes) (rw all at e)

-- A report has room in the buffer that the program keeps for it.
reported_length : (read : Read Contents) → Got 8192 read → length (reported read) ≤ 352337
unfolding table_text
reported_length (got c rest) h =
    let n = points_of c.shape in
    let ys = coefficients_of c.shape c.rates in
    omega (
      arith,
      length-append (heading c.shape) (point_lines 0 ys),
      heading_length c.shape.axes c.shape.level n,
      lines_length ys 0,
      coefficients_length c.shape c.rates,
      h.room,
    )
reported_length (refused r) h = omega (arith, refused_length r)

pub report_length : (bytes : List ℕ) → length (report bytes) ≤ 352337
unfolding report
report_length bytes = reported_length (read_contents 8192 bytes) (contents_read 8192 bytes)
