-- The first bytes decide, one more than 10 and 5 for each place of the buffer: what stands after them is not looked at, except that bytes are left. True
-- since a number takes at most 5 bytes, so that no longer file is accepted.
-- Assumes nothing.
use Rattle.std.specs.Prelude.{Ok, Err}
use mathlib.Core.Path.{◌≡◌, refl}
use mathlib.Core.Bool.{Bool, true, false}
use mathlib.Core.List.{List, [], ◌∷◌}
use Prim.Native.Nat.{ℕ, zero, suc, ◌+◌, ◌-◌, ◌*◌, ◌≤◌}
use native.Mathlib.Omega.{arith}
use lib.Dec.{leb, ltb}
use lib.IntN.{ℤ}
use lib.ListN.{length, take}
use borrow.Author.Tests.{leb-true, ne_eqb}
use Rattle.naturals.proofs.Cases.{true_or_false}
use Rattle.refusals.specs.declared.Refusal.{Refusal}
use Rattle.refusals.specs.declared.Refusal.TheVariants.{FileEnds, FiledNumber, TableLength, BytesLeft}
use Rattle.refusals.specs.Checks.{unless, Verdict}
use Rattle.shapes.specs.declared.Shape.{Shape}
use Rattle.shapes.specs.Shapes.{sparse, check_shape, points_of}
use Rattle.house_numbers.specs.Reading.{Read, got, refused, ◌next◌, ◌then_read◌}
use Rattle.house_numbers.specs.Numbers.{below, groups, largest, limited, read_number, rate_of}
use Rattle.house_rates.specs.Rates.{prepended, read_rates}
use Rattle.house_file.specs.Files.{named, read_head, Contents, ended, read_table, read_contents, filled_with, read_file}

-- From the first bytes the same is read as from all of them, with at least m of the bytes after it; or both are refused alike.
pub data Agree {A : Type 0} (m : ℕ) (cut whole : Read A) : Type 0 where
  same : (a : A) (j : ℕ) (rest : List ℕ) → m ≤ j → cut ≡ got a (take j rest) → whole ≡ got a rest → Agree m cut whole
  neither : (r : Refusal) → cut ≡ refused r → whole ≡ refused r → Agree m cut whole

then_agree : {A B : Type 0} {m k : ℕ} {cut whole : Read A} → Agree m cut whole → (f : A → List ℕ → Read B) →
    ((a : A) (j : ℕ) (rest : List ℕ) → m ≤ j → Agree k (f a (take j rest)) (f a rest)) → Agree k (cut next f) (whole next f)
then_agree (same a j rest h c w) f on = rw (c, w) (on a j rest h)
then_agree (neither r c w) f on = neither r (rw c) (rw w)

checked_agree : {A : Type 0} {m : ℕ} (v : Verdict) {cut whole : Read A} → (v ≡ Ok tt → Agree m cut whole) →
    Agree m (v then_read cut) (v then_read whole)
checked_agree (Ok _) on = on refl
checked_agree (Err r) on = neither r refl refl

test_agree : {A : Type 0} {m : ℕ} (t : Bool) (r : Refusal) {cut whole : Read A} → (t ≡ true → Agree m cut whole) →
    Agree m (unless t r then_read cut) (unless t r then_read whole)
test_agree true r on = on refl
test_agree false r on = neither r refl refl

groups_agree : (k m j : ℕ) (bytes : List ℕ) → k + m ≤ j → Agree m (groups k (take j bytes)) (groups k bytes)
unfolding groups below
groups_agree zero m j bytes h = neither FiledNumber refl refl
groups_agree (suc k) m zero bytes h = absurd (omega arith)
groups_agree (suc k) m (suc j) [] h = neither FileEnds refl refl
groups_agree (suc k) m (suc j) (b ∷ bytes) h =
    true_or_false (ltb b 128)
    (λ last. rw last (same b j bytes (omega arith) refl refl))
    (λ more. rw more (then_agree (groups_agree k m j bytes (omega arith)) (below (b - 128)) (λ high i rest le. same _ i rest le refl refl)))

number_agree : (m j : ℕ) (bytes : List ℕ) → 5 + m ≤ j → Agree m (read_number (take j bytes)) (read_number bytes)
unfolding read_number limited
number_agree m j bytes h =
    then_agree (groups_agree 5 m j bytes h) limited (λ n i rest le. test_agree (leb n largest) FiledNumber (λ e. same n i rest le refl refl))

rates_agree : (n m j : ℕ) (bytes : List ℕ) → 5 * n + m ≤ j → Agree m (read_rates n (take j bytes)) (read_rates n bytes)
unfolding read_rates prepended
rates_agree zero m j bytes h = same [] j bytes (omega arith) refl refl
rates_agree (suc n) m j bytes h =
    then_agree (number_agree (5 * n + m) j bytes (omega arith)) _
    (λ u i rest le.
    then_agree (rates_agree n m i rest le) (prepended (rate_of u)) (λ rates k more le. same (rate_of u ∷ rates) k more le refl refl))

ended_agree : (s : Shape) (rates : List ℤ) (j : ℕ) (rest : List ℕ) → 1 ≤ j → Agree 0 (ended s rates (take j rest)) (ended s rates rest)
unfolding ended
ended_agree s rates zero rest h = absurd (omega arith)
ended_agree s rates (suc j) [] h = same (record { shape = s; rates = rates }) (suc j) [] (omega arith) refl refl
ended_agree s rates (suc j) (b ∷ rest) h =
    neither BytesLeft
    (rw (ne_eqb (suc (length (take j rest))) 0 (λ e. omega arith)))
    (rw (ne_eqb (suc (length rest)) 0 (λ e. omega arith)))

table_agree : (places : ℕ) (s : Shape) (j : ℕ) (rest : List ℕ) → 5 * places + 1 ≤ j →
    Agree 0 (read_table places s (take j rest)) (read_table places s rest)
unfolding read_table
table_agree places s j rest h =
    let n = points_of s in
    checked_agree (check_shape s)
    (λ _.
    test_agree (leb n places) TableLength
    (λ room.
    then_agree (rates_agree n 1 j rest (omega (arith, leb-true n places room))) (ended s) (λ rates i more le. ended_agree s rates i more le)))

head_agree : (m j : ℕ) (bytes : List ℕ) → 10 + m ≤ j → Agree m (read_head (take j bytes)) (read_head bytes)
unfolding read_head
head_agree m j bytes h =
    then_agree (number_agree (5 + m) j bytes (omega arith)) _
    (λ d i more le. then_agree (number_agree m i more le) (named d) (λ n k rest few. same (sparse d n) k rest few refl refl))

pub contents_agree : (places j : ℕ) → 5 * places + 11 ≤ j → (bytes : List ℕ) →
    Agree 0 (read_contents places (take j bytes)) (read_contents places bytes)
unfolding read_contents
contents_agree places j h bytes =
    then_agree (head_agree (5 * places + 1) j bytes (omega arith)) (read_table places) (λ s i rest le. table_agree places s i rest le)

left_same : (table : List ℤ) {cut whole : Read Contents} → Agree 0 cut whole → filled_with table cut ≡ filled_with table whole
left_same table (same c j rest h e w) = rw (e, w)
left_same table (neither r e w) = rw (e, w)

pub first_bytes_decide : (bytes : List ℕ) (table : List ℤ) (j : ℕ) → 5 * length table + 11 ≤ j → read_file (take j bytes) table ≡ read_file bytes table
unfolding read_file
first_bytes_decide bytes table j h = left_same table (contents_agree (length table) j h bytes)
