-- Rates that have no more bytes than there are rates: each byte is a number. True since a number takes a byte at least, so none takes two.
-- Assumes nothing.
use Rattle.std.specs.Prelude.{Ok}
use mathlib.Core.Path.{◌≡◌, refl, ap, ◌∙◌}
use mathlib.Core.List.{List, [], ◌∷◌, map}
use Prim.Native.Nat.{ℕ, zero, suc, ◌-◌, ◌≤◌, ◌<◌}
use native.Mathlib.Omega.{arith}
use lib.IntN.{ℤ}
use lib.ListN.{length}
use Rattle.naturals.proofs.Cases.{le_or_lt}
use Rattle.house_numbers.specs.Reading.{Read, got, refused, ◌next◌}
use Rattle.house_numbers.specs.Numbers.{below, groups, largest, limited, read_number, rate_of}
use Rattle.house_numbers.proofs.Gathering.{continued, finished}
use Rattle.house_numbers.proofs.CheckedNumbers.{within, beyond, one_byte}
use Rattle.house_rates.specs.Rates.{read_rates}
use Rattle.house_rates.specs.Steps.{checked_rates, rates_read}
use Rattle.house_rates.proofs.Held.{first_read, rest_passed, first_rate}

-- Where something is read, fewer bytes than so many are left.
abbrev Leaves : {A : Type 0} → Read A → ℕ → Type 0
Leaves (got a rest) n = length rest < n
Leaves (refused r) n = Unit {0}

below_leaves : (low : ℕ) (x : Read ℕ) (n m : ℕ) → n ≤ m → Leaves x n → Leaves (x next below low) m
unfolding below
below_leaves low (got high rest) n m le h = omega (arith, h)
below_leaves low (refused r) n m le h = tt

limited_leaves : (x : Read ℕ) (n : ℕ) → Leaves x n → Leaves (x next limited) n
limited_leaves (got value rest) n h =
    le_or_lt value largest (λ fits. rw (within value rest fits) h) (λ large. rw (beyond value rest large) tt)
limited_leaves (refused r) n h = tt

groups_leave : (k : ℕ) (bytes : List ℕ) → Leaves (groups k bytes) (length bytes)
unfolding groups
groups_leave zero bytes = tt
groups_leave (suc k) [] = tt
groups_leave (suc k) (b ∷ bytes) =
    le_or_lt 128 b
    (λ more. rw (continued k b bytes more) (below_leaves (b - 128) (groups k bytes) (length bytes) (suc (length bytes)) (omega arith) (groups_leave k bytes)))
    (λ last. rw (finished k b bytes last) (omega arith))

number_leaves : (bytes : List ℕ) {u : ℕ} {rest : List ℕ} → read_number bytes ≡ got u rest → length rest < length bytes
unfolding read_number
number_leaves bytes e = rw e at (limited_leaves (groups 5 bytes) (length bytes) (groups_leave 5 bytes))

-- A number that goes on after its first byte takes two.
long_leaves : (b : ℕ) (bytes : List ℕ) → 128 ≤ b → {u : ℕ} {rest : List ℕ} → read_number (b ∷ bytes) ≡ got u rest → length rest < length bytes
unfolding read_number
long_leaves b bytes more e =
    rw e at
    (limited_leaves (groups 5 (b ∷ bytes)) (length bytes)
    (rw (continued 4 b bytes more) (below_leaves (b - 128) (groups 4 bytes) (length bytes) (length bytes) (omega arith) (groups_leave 4 bytes))))

-- There are as many bytes as rates at least.
bytes_enough : (m : ℕ) (bytes : List ℕ) → checked_rates (read_rates m bytes) ≡ Ok tt → m ≤ length bytes
bytes_enough zero bytes passed = omega arith
bytes_enough (suc m) bytes passed =
    let r = first_read m bytes passed in
    omega (arith, number_leaves bytes r.is, bytes_enough m r.rest (rest_passed m bytes passed r.is))

pub all_short : (m : ℕ) (bytes : List ℕ) → checked_rates (read_rates m bytes) ≡ Ok tt → length bytes ≡ m → rates_read (read_rates m bytes) ≡ map rate_of bytes
unfolding read_rates rates_read
all_short zero [] passed e = refl
all_short zero (b ∷ bytes) passed e = absurd (omega arith)
all_short (suc m) [] passed e = absurd (omega arith)
all_short (suc m) (b ∷ bytes) passed e =
    let r = first_read m (b ∷ bytes) passed in
    le_or_lt 128 b
    (λ more. absurd (omega (arith, e, long_leaves b bytes more r.is, bytes_enough m r.rest (rest_passed m (b ∷ bytes) passed r.is))))
    (λ last.
    let one : read_number (b ∷ bytes) ≡ got b bytes = one_byte (b ∷ bytes) (omega arith) last in
    first_rate m (b ∷ bytes) passed one
    ∙ ap (λ (rates : List ℤ). rate_of b ∷ rates) (all_short m bytes (rest_passed m (b ∷ bytes) passed one) (omega arith)))
