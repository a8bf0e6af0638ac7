-- How long a written file is: no longer than any file that holds the same, and at most 2 bytes and 5 for each rate. True since each number is written in the
-- fewest bytes, which are at most 5, and d and n in one byte each.
-- Assumes nothing.
use Rattle.std.specs.Prelude.{Ok}
use mathlib.Core.Path.{◌≡◌, sym, ap, ◌∙◌}
use mathlib.Core.List.{List, [], ◌∷◌, ◌++◌, append_assoc}
use Prim.Native.Nat.{ℕ, zero, suc, ◌+◌, ◌-◌, ◌*◌, ◌/◌, ◌≤◌, ◌<◌}
use native.Mathlib.Omega.{arith}
use lib.IntN.{ℤ}
use lib.ListN.{length, get_or, length-append}
use Rattle.naturals.proofs.Cases.{le_or_lt}
use Rattle.shapes.specs.declared.Shape.{Shape}
use Rattle.shapes.specs.Shapes.{sparse, check_shape, points_of}
use Rattle.shapes.proofs.Checked.{passed_in_range}
use Rattle.house_numbers.specs.Reading.{got}
use Rattle.house_numbers.specs.Numbers.{below, groups, read_number, filed, rate_of}
use Rattle.house_rates.specs.Rates.{prepended, read_rates}
use Rattle.house_file.specs.Files.{named, read_head, Contents, read_contents}
use Rattle.house_file.specs.Written.{fewest, written, written_rates, written_file}
use Rattle.house_numbers.proofs.Gathering.{continued, finished}
use Rattle.house_numbers.proofs.Filing.{filed_of_rate}
use Rattle.house_file.proofs.Accepting.{through, number_groups}
use Rattle.house_file.proofs.Undone.{last_group, more_groups, fewest_bytes}
use Rattle.house_file.proofs.Parts.{accepted_parts}

-- ---- no longer than what was read

-- Every number of a list is a byte.
abbrev pub Bytes : List ℕ → Type 0
Bytes bytes = (i : ℕ) → get_or bytes i 0 < 256

-- What is left after some groups are bytes too.
groups_left : (k : ℕ) (bytes : List ℕ) → Bytes bytes → (n : ℕ) (rest : List ℕ) → groups k bytes ≡ got n rest → Bytes rest
unfolding groups below
groups_left zero bytes byte n rest e = let z : ◌≡◌ {A = ℕ} 0 1 = cc in absurd (omega arith)
groups_left (suc k) [] byte n rest e = let z : ◌≡◌ {A = ℕ} 0 1 = cc in absurd (omega arith)
groups_left (suc k) (b ∷ bytes) byte n rest e =
    le_or_lt 128 b
    (λ more.
    let t = through (groups k bytes) (below (b - 128)) (sym (continued k b bytes more) ∙ e) in
    let one : got (b - 128 + 128 * t.value) t.middle ≡ got n rest = t.second in
    let after : t.middle ≡ rest = cc in
    rw (← after) (groups_left k bytes (λ i. byte (suc i)) t.value t.middle t.first))
    (λ last.
    let one : got b bytes ≡ got n rest = sym (finished k b bytes last) ∙ e in
    let after : bytes ≡ rest = cc in
    rw (← after) (λ (i : ℕ). byte (suc i)))

-- What was read took at least as many bytes as its written form has, and what is left are bytes.
pub record Takes (form bytes rest : List ℕ) : Type 0 where
  pub few : length form + length rest ≤ length bytes
  pub byte : Bytes rest

takes_then : {a b x y z : List ℕ} → Takes a x y → Takes b y z → Takes (a ++ b) x z
takes_then {a} {b} p q = record { few = omega (arith, p.few, q.few, length-append a b); byte = q.byte }

takes_as : {a b x y z : List ℕ} → a ≡ b → y ≡ z → Takes a x y → Takes b x z
takes_as form after t = rw (← form, ← after) t

number_takes : (bytes : List ℕ) → Bytes bytes → (n : ℕ) (rest : List ℕ) → read_number bytes ≡ got n rest → Takes (written n) bytes rest
number_takes bytes byte n rest e =
    record { few = fewest_bytes bytes byte n rest e; byte = groups_left 5 bytes byte n rest (number_groups bytes n rest e) }

pub rates_take : (m : ℕ) (bytes : List ℕ) → Bytes bytes → (rates : List ℤ) (rest : List ℕ) → read_rates m bytes ≡ got rates rest →
    Takes (written_rates rates) bytes rest
unfolding read_rates written_rates prepended
rates_take zero bytes byte rates rest e =
    let none : rates ≡ [] = cc in
    let all : rest ≡ bytes = cc in
    rw (none, all) (record { few = omega arith; byte = byte })
rates_take (suc m) bytes byte rates rest e =
    let t = through (read_number bytes) _ e in
    let w = through (read_rates m t.middle) (prepended (rate_of t.value)) t.second in
    let one : got (rate_of t.value ∷ w.value) w.middle ≡ got rates rest = w.second in
    let is : rate_of t.value ∷ w.value ≡ rates = cc in
    let after : w.middle ≡ rest = cc in
    let number = number_takes bytes byte t.value t.middle t.first in
    let filed_so = ap (λ (u : ℕ). written u ++ written_rates w.value) (sym (filed_of_rate t.value)) in
    takes_as (filed_so ∙ ap written_rates is) after
    (takes_then number (rates_take m t.middle number.byte w.value w.middle w.first))

head_takes : (bytes : List ℕ) → Bytes bytes → (s : Shape) (rest : List ℕ) → read_head bytes ≡ got s rest →
    Takes (written s.axes ++ written s.level) bytes rest
unfolding read_head
head_takes bytes byte s rest e =
    let t = through (read_number bytes) _ e in
    let w = through (read_number t.middle) (named t.value) t.second in
    let one : named t.value w.value w.middle ≡ got s rest = w.second in
    let is : sparse t.value w.value ≡ s = cc in
    let after : w.middle ≡ rest = cc in
    let number = number_takes bytes byte t.value t.middle t.first in
    takes_as (ap (λ (q : Shape). written q.axes ++ written q.level) is) after
    (takes_then number (number_takes t.middle number.byte w.value w.middle w.first))

-- No bytes that hold a file's contents are fewer than the written ones.
pub fewest_file : (places : ℕ) (bytes : List ℕ) → Bytes bytes → (c : Contents) (rest : List ℕ) → read_contents places bytes ≡ got c rest →
    length (written_file c.shape c.rates) ≤ length bytes
unfolding written_file
fewest_file places bytes byte c rest e =
    let p = accepted_parts bytes c places rest e in
    let head = head_takes bytes byte c.shape p.after p.head in
    let file = takes_then head (rates_take (points_of c.shape) p.after head.byte c.rates [] p.filled) in
    let row = append_assoc (written c.shape.axes) (written c.shape.level) (written_rates c.rates) in
    omega (arith, file.few, ap length row)

-- A number takes at least one byte.
some_byte : (n : ℕ) → 1 ≤ length (written n)
unfolding written
some_byte n =
    le_or_lt 128 n
    (λ large. omega (arith, ap length (more_groups 4 n large)))
    (λ small. omega (arith, ap length (last_group 4 n small)))

-- A head takes at least two bytes.
pub head_two : (bytes : List ℕ) → Bytes bytes → (s : Shape) (rest : List ℕ) → read_head bytes ≡ got s rest → 2 + length rest ≤ length bytes
head_two bytes byte s rest e =
    omega (
      arith,
      (head_takes bytes byte s rest e).few,
      length-append (written s.axes) (written s.level),
      some_byte s.axes,
      some_byte s.level,
    )

-- ---- how many bytes at most

groups_most : (k n : ℕ) → length (fewest k n) ≤ k
unfolding fewest
groups_most zero n = omega arith
groups_most (suc k) n =
    le_or_lt 128 n
    (λ large. omega (arith, ap length (more_groups k n large), groups_most k (n / 128)))
    (λ small. omega (arith, ap length (last_group k n small)))

pub one_byte : (n : ℕ) → n ≤ 8 → length (written n) ≡ 1
unfolding written
one_byte n h = ap length (last_group 4 n (omega arith))

pub number_most : (n : ℕ) → length (written n) ≤ 5
unfolding written
number_most n = groups_most 5 n

pub rates_most : (rates : List ℤ) → length (written_rates rates) ≤ 5 * length rates
unfolding written_rates
rates_most [] = omega arith
rates_most (rate ∷ rates) =
    omega (arith, length-append (written (filed rate)) (written_rates rates), number_most (filed rate), rates_most rates)

-- d and n of a shape in range take one byte each.
pub head_size : (s : Shape) → check_shape s ≡ Ok tt → length (written s.axes ++ written s.level) ≡ 2
head_size s passed =
    let range = passed_in_range s passed in
    omega (arith, length-append (written s.axes) (written s.level), one_byte s.axes range.high, one_byte s.level range.top)

pub file_size : (s : Shape) → check_shape s ≡ Ok tt → (rates : List ℤ) → 2 + length (written_rates rates) ≡ length (written_file s rates)
unfolding written_file
file_size s passed rates =
    let row = append_assoc (written s.axes) (written s.level) (written_rates rates) in
    omega (arith, ap length row, length-append (written s.axes ++ written s.level) (written_rates rates), head_size s passed)

-- A file of a shape in range has at most 2 bytes and 5 for each rate.
pub file_most : (s : Shape) (rates : List ℤ) → check_shape s ≡ Ok tt → length (written_file s rates) ≤ 2 + 5 * length rates
file_most s rates passed = omega (arith, file_size s passed rates, rates_most rates)
