-- A number that is read, byte by byte: the first four groups fit whatever they are, the fifth where it is below 16. Of one that was checked there is a byte
-- wherever one must follow, and the fifth fits, since it would have been refused otherwise.
-- Assumes nothing.
use mathlib.Core.Path.{◌≡◌, sym, ap, ◌∙◌}
use mathlib.Core.List.{List, ◌∷◌}
use Prim.Native.Nat.{ℕ, ◌+◌, ◌-◌, ◌*◌, ◌^◌, ◌≤◌, ◌<◌}
use native.Mathlib.Numerals.{add-one}
use native.Mathlib.Omega.{arith}
use lib.ListN.{length, get_or, drop, length-drop}
use lib.Pow.{pow_mono}
use lib.Seq.{drop-cons}
use borrow.Author.Tests.{le-leb, lt-leb}
use Rattle.naturals.proofs.Cases.{le_or_lt}
use Rattle.refusals.specs.declared.Refusal.{Refusal}
use Rattle.refusals.specs.declared.Refusal.TheVariants.{FileEnds, FiledNumber}
use Rattle.house_numbers.specs.Reading.{Read, got, refused}
use Rattle.house_numbers.specs.Numbers.{largest, limited, read_number}
use Rattle.house_numbers.specs.Steps.{Reads}
use Rattle.house_numbers.proofs.Gathering.{Gathered, gathered_starts, sum_small, too_long, too_short, gathered_ends, gathered_steps}

not_refused : {A : Type 0} {x : Read A} → Reads x → (r : Refusal) → x ≡ refused r → ⊥
not_refused s r e =
    let no : got s.value s.rest ≡ refused r = sym s.is ∙ e in
    let z : ◌≡◌ {A = ℕ} 0 1 = cc in
    omega arith

pub within : (value : ℕ) (rest : List ℕ) → value ≤ largest → limited value rest ≡ got value rest
unfolding limited
within value rest h = rw (le-leb value largest h)

pub beyond : (value : ℕ) (rest : List ℕ) → largest < value → limited value rest ≡ refused FiledNumber
unfolding limited
beyond value rest h = rw (lt-leb value largest h)

module _ {bytes : List ℕ} {value place : ℕ} (g : Gathered bytes value place (drop place bytes)) (few : place < 5) where
  pub none_there : length bytes ≤ place → read_number bytes ≡ refused FileEnds
  none_there h = too_short g few (omega (arith, length-drop place bytes))

  module _ (there : place < length bytes) where
    byte_next : drop place bytes ≡ get_or bytes place 0 ∷ drop (place + 1) bytes
    byte_next = rw add-one (drop-cons bytes place 0 there)

    pub here_ends : get_or bytes place 0 < 128 → read_number bytes ≡ limited (value + get_or bytes place 0 * 2 ^ (7 * place)) (drop (place + 1) bytes)
    here_ends last = gathered_ends g few byte_next last

    -- The first four groups fit.
    pub here_fits : place < 4 → get_or bytes place 0 < 128 →
        read_number bytes ≡ got (value + get_or bytes place 0 * 2 ^ (7 * place)) (drop (place + 1) bytes)
    unfolding largest
    here_fits early last =
        let most = pow_mono {i = 7 * (place + 1)} {j = 28} (omega arith) in
        here_ends last ∙ within _ (drop (place + 1) bytes) (omega (arith, most, sum_small g few (get_or bytes place 0) last))

    pub here_goes_on : get_or bytes place 0 < 256 → 128 ≤ get_or bytes place 0 →
        Gathered bytes (value + (get_or bytes place 0 - 128) * 2 ^ (7 * place)) (place + 1) (drop (place + 1) bytes)
    here_goes_on byte again = gathered_steps g few byte_next byte again

  module _ (s : Reads (read_number bytes)) where
    pub byte_there : place < length bytes
    byte_there = le_or_lt (length bytes) place (λ short. absurd (not_refused s FileEnds (none_there short))) (λ h. h)

-- The fifth group, after the value of the first four.
pub four_gathered : {bytes : List ℕ} {value place : ℕ} → Gathered bytes value place (drop place bytes) → place ≡ 4 → Gathered bytes value 4 (drop 4 bytes)
four_gathered g four = rw four at g

module _ {bytes : List ℕ} {value : ℕ} (g : Gathered bytes value 4 (drop 4 bytes)) (there : 4 < length bytes) where
  pub fifth_fits : get_or bytes 4 0 < 16 → read_number bytes ≡ got (value + get_or bytes 4 0 * 2 ^ 28) (drop 5 bytes)
  unfolding largest
  fifth_fits h = here_ends g (omega arith) there (omega arith) ∙ within _ (drop 5 bytes) (omega (arith, g.small, h))

  module _ (byte : get_or bytes 4 0 < 256) where
    pub fifth_refused : 16 ≤ get_or bytes 4 0 → read_number bytes ≡ refused FiledNumber
    unfolding largest
    fifth_refused large =
        le_or_lt 128 (get_or bytes 4 0)
        (λ again. too_long (here_goes_on g (omega arith) there byte again) (omega arith))
        (λ last. here_ends g (omega arith) there last ∙ beyond _ (drop 5 bytes) (omega (arith, large)))

    pub fifth_small : Reads (read_number bytes) → get_or bytes 4 0 < 16
    fifth_small s = le_or_lt 16 (get_or bytes 4 0) (λ large. absurd (not_refused s FiledNumber (fifth_refused large))) (λ h. h)

-- No byte at all, and a number of one byte.
module _ (bytes : List ℕ) where
  pub no_byte : length bytes ≡ 0 → read_number bytes ≡ refused FileEnds
  no_byte h = none_there (gathered_starts bytes) (omega arith) (omega (arith, h))

  pub first_there : Reads (read_number bytes) → 0 < length bytes
  first_there s = byte_there (gathered_starts bytes) (omega arith) s

  pub one_byte : 0 < length bytes → get_or bytes 0 0 < 128 → read_number bytes ≡ got (get_or bytes 0 0) (drop 1 bytes)
  unfolding largest
  one_byte there last =
      let b = get_or bytes 0 0 in
      let same : 0 + b * 2 ^ 0 ≡ b = omega arith in
      here_ends (gathered_starts bytes) (omega arith) there last
      ∙ ap (λ (v : ℕ). limited v (drop 1 bytes)) same
      ∙ within b (drop 1 bytes) (omega (arith, last))
