-- What is written is read back: a number in its fewest groups, the filed rates, and a whole file of accepted rates. True since a number is its lowest seven
-- bits and 128 times the rest, and five groups hold every number that can be filed.
-- Assumes nothing.
use Rattle.std.specs.Prelude.{Ok}
use mathlib.Core.Path.{◌≡◌, refl, sym, ap, ◌∙◌}
use mathlib.Core.Bool.{Bool, true, false}
use mathlib.Core.List.{List, [], ◌∷◌, ◌++◌, append_assoc, append-nil}
use Prim.Native.Nat.{ℕ, zero, suc, ◌+◌, ◌-◌, ◌*◌, ◌/◌, ◌%◌, ◌^◌, ◌≤◌, ◌<◌}
use native.Mathlib.Nat.{div-lt_iff_lt-mul}
use native.Mathlib.Omega.{arith}
use lib.IntN.{ℤ, pos, negsuc}
use lib.ListN.{length, get_or}
use borrow.Author.Tests.{lt-ltb, le-ltb, le-leb, leb-true}
use Rattle.naturals.proofs.Cases.{le_or_lt}
use Rattle.integers.specs.Half.{is_rate}
use Rattle.shapes.specs.declared.Shape.{Shape}
use Rattle.shapes.specs.Shapes.{check_shape, points_of}
use Rattle.shapes.proofs.Checked.{passed_in_range}
use Rattle.house_numbers.specs.Reading.{Read, got, ◌next◌}
use Rattle.house_numbers.specs.Numbers.{below, groups, largest, limited, read_number, filed}
use Rattle.house_rates.specs.Rates.{prepended, read_rates}
use Rattle.house_file.specs.Files.{ended, read_table, read_contents}
use Rattle.house_file.specs.Steps.{check_places}
use Rattle.house_file.specs.Written.{AllRates, fewest, written, written_rates, written_file}
use Rattle.house_numbers.proofs.Gathering.{continued, finished}
use Rattle.house_numbers.proofs.Filing.{rate_of_filed}
use Rattle.house_file.proofs.Accepting.{through, number_groups}
use Rattle.house_file.proofs.Answering.{head_first, head_named, placed}

pub last_group : (k n : ℕ) → n < 128 → fewest (suc k) n ≡ n ∷ []
unfolding fewest
last_group k n h = rw (lt-ltb n 128 h)

pub more_groups : (k n : ℕ) → 128 ≤ n → fewest (suc k) n ≡ (128 + n % 128) ∷ fewest k (n / 128)
unfolding fewest
more_groups k n h = rw (le-ltb n 128 h)

one_back : (k n : ℕ) (rest : List ℕ) → n < 128 → groups (suc k) (fewest (suc k) n ++ rest) ≡ got n rest
one_back k n rest h = rw (last_group k n h) (finished k n rest h)

groups_back : (k n : ℕ) (rest : List ℕ) → n < 128 ^ suc k → groups (suc k) (fewest (suc k) n ++ rest) ≡ got n rest
unfolding below
groups_back zero n rest h = one_back 0 n rest (omega arith)
groups_back (suc k) n rest h =
    le_or_lt 128 n
    (λ large.
    let high : n / 128 < 128 ^ suc k = (div-lt_iff_lt-mul {k = 128} {x = n} {y = 128 ^ suc k} (omega arith)).1 (omega arith) in
    let whole : 128 + n % 128 - 128 + 128 * (n / 128) ≡ n = omega arith in
    rw (more_groups (suc k) n large)
    (continued (suc k) (128 + n % 128) (fewest (suc k) (n / 128) ++ rest) (omega arith)
    ∙ ap (λ (x : Read ℕ). x next below (128 + n % 128 - 128)) (groups_back k (n / 128) rest high)
    ∙ ap (λ (v : ℕ). got v rest) whole))
    (λ small. one_back (suc k) n rest small)

pub number_back : (n : ℕ) (rest : List ℕ) → n ≤ largest → read_number (written n ++ rest) ≡ got n rest
unfolding read_number written limited largest
number_back n rest h = rw (groups_back 4 n rest (omega arith), le-leb n 4294967295 h)

-- No bytes that hold the number are fewer.
few_groups : (k : ℕ) (bytes : List ℕ) → ((i : ℕ) → get_or bytes i 0 < 256) → (n : ℕ) (rest : List ℕ) → groups k bytes ≡ got n rest →
    length (fewest k n) + length rest ≤ length bytes
unfolding groups below
few_groups zero bytes byte n rest e = let z : ◌≡◌ {A = ℕ} 0 1 = cc in absurd (omega arith)
few_groups (suc k) [] byte n rest e = let z : ◌≡◌ {A = ℕ} 0 1 = cc in absurd (omega arith)
few_groups (suc k) (b ∷ bytes) byte n rest e =
    le_or_lt 128 b
    (λ more.
    let t = through (groups k bytes) (below (b - 128)) (sym (continued k b bytes more) ∙ e) in
    let one : got (b - 128 + 128 * t.value) t.middle ≡ got n rest = t.second in
    let is : b - 128 + 128 * t.value ≡ n = cc in
    let after : t.middle ≡ rest = cc in
    let fewer = few_groups k bytes (λ i. byte (suc i)) t.value t.middle t.first in
    le_or_lt 128 n
    (λ large.
    let high : n / 128 ≡ t.value = omega (arith, byte 0) in
    omega (arith, fewer, ap length after, ap length (more_groups k n large), ap (λ (v : ℕ). length (fewest k v)) high))
    (λ small. omega (arith, fewer, ap length after, ap length (last_group k n small))))
    (λ last.
    let one : got b bytes ≡ got n rest = sym (finished k b bytes last) ∙ e in
    let is : b ≡ n = cc in
    let after : bytes ≡ rest = cc in
    omega (arith, ap length after, ap length (last_group k n (omega arith))))

pub fewest_bytes : (bytes : List ℕ) → ((i : ℕ) → get_or bytes i 0 < 256) → (n : ℕ) (rest : List ℕ) → read_number bytes ≡ got n rest →
    length (written n) + length rest ≤ length bytes
unfolding written
fewest_bytes bytes byte n rest e = few_groups 5 bytes byte n rest (number_groups bytes n rest e)

pub filed_small : (r : ℤ) → is_rate r ≡ true → filed r ≤ largest
unfolding filed is_rate largest
filed_small (pos n) e = omega (arith, leb-true n 2147483647 e)
filed_small (negsuc n) e = omega (arith, leb-true (suc n) 2147483648 e)

pub rates_back : (rates : List ℤ) (rest : List ℕ) → AllRates rates →
    read_rates (length rates) (written_rates rates ++ rest) ≡ got rates rest
unfolding read_rates written_rates prepended
rates_back [] rest each = refl
rates_back (rate ∷ rates) rest each =
    rw (
      append_assoc (written (filed rate)) (written_rates rates) rest,
      number_back (filed rate) (written_rates rates ++ rest) (filed_small rate (each 0 (omega arith))),
      rates_back rates rest (λ p h. each (suc p) (omega arith)),
      rate_of_filed rate,
    )

-- A file of accepted rates.
module _ (s : Shape) (plain : s.border ≡ false) (rates : List ℤ) (places : ℕ) (passed : check_shape s ≡ Ok tt) (many : length rates ≡ points_of s)
    (room : length rates ≤ places) (each : AllRates rates) where
  axes_filed : s.axes ≤ largest
  unfolding largest
  axes_filed = omega (arith, passed_in_range s passed)

  level_filed : s.level ≤ largest
  unfolding largest
  level_filed = omega (arith, passed_in_range s passed)

  fits : check_places s places ≡ Ok tt
  unfolding check_places
  fits = rw (passed, le-leb (points_of s) places (omega arith))

  all_back : read_rates (points_of s) (written_rates rates) ≡ got rates []
  all_back = rw (← many) (ap (read_rates (length rates)) (sym (append-nil (written_rates rates))) ∙ rates_back rates [] each)

  pub file_back : read_contents places (written_file s rates) ≡ got (record { shape = s; rates = rates }) []
  unfolding written_file ended
  file_back =
      let more = written s.level ++ written_rates rates in
      head_first (written_file s rates) places
      ∙ ap (λ (x : Read Shape). x next read_table places)
      (head_named (written_file s rates) s.axes more (number_back s.axes more axes_filed)
      (number_back s.level (written_rates rates) level_filed)
      ∙ ap (λ (b : Bool). got (record { axes = s.axes; level = s.level; border = b }) (written_rates rates)) (sym plain))
      ∙ placed places s (written_rates rates) fits
      ∙ ap (λ (x : Read (List ℤ)). x next ended s) all_back
