-- The loop that gathers the groups of a filed number: what is read from its first byte on is the value gathered so far, with the groups that are left
-- above it. True since each group stands 128 times higher than the one before, and no shift of at most 35 bits loses one.
-- Assumes nothing.
use mathlib.Core.Path.{◌≡◌, refl, sym, ap, ◌∙◌}
use mathlib.Core.List.{List, ◌∷◌}
use Prim.Native.Nat.{ℕ, suc, ◌+◌, ◌-◌, ◌*◌, ◌^◌, ◌≤◌, ◌<◌}
use native.Mathlib.Nat.{mul_comm, mul-le-mul_right}
use native.Mathlib.Omega.{arith}
use lib.ListN.{length}
use lib.Pow.{pow-add}
use borrow.Author.Tests.{lt-ltb, le-ltb}
use Rattle.std.proofs.lemmas.List.{nil_from_length}
use Rattle.refusals.specs.declared.Refusal.TheVariants.{FileEnds, FiledNumber}
use Rattle.house_numbers.specs.Reading.{Read, got, refused, ◌next◌}
use Rattle.house_numbers.specs.Numbers.{below, groups, limited, read_number}

-- A value, and so many units above it.
abbrev pub above : ℕ → ℕ → ℕ → List ℕ → Read ℕ
above value unit high rest = got (value + unit * high) rest

-- So many groups are gathered, and `rest` is what stands after them.
pub record Gathered (bytes : List ℕ) (value place : ℕ) (rest : List ℕ) : Type 0 where
  pub left : ℕ
  pub places : place + left ≡ 5
  pub small : value < 2 ^ (7 * place)
  pub reads : read_number bytes ≡ groups left rest next above value (2 ^ (7 * place)) next limited

nothing_below : (x : Read ℕ) → x next above 0 1 ≡ x
nothing_below (got high rest) = let same : 0 + 1 * high ≡ high = omega arith in rw same
nothing_below (refused r) = refl

pub gathered_starts : (bytes : List ℕ) → Gathered bytes 0 0 bytes
unfolding read_number
gathered_starts bytes =
    record { left = 5; places = refl; small = omega arith; reads = ap (λ (x : Read ℕ). x next limited) (sym (nothing_below (groups 5 bytes))) }

one_more : (x : Read ℕ) (value unit low : ℕ) → x next below low next above value unit ≡ x next above (value + low * unit) (unit * 128)
unfolding below
one_more (got high rest) value unit low =
    let same : value + unit * (low + 128 * high) ≡ value + low * unit + unit * 128 * high = omega arith in rw same
one_more (refused r) value unit low = refl

next_unit : (place : ℕ) → 2 ^ (7 * (place + 1)) ≡ 2 ^ (7 * place) * 128
next_unit place = let more : 7 * (place + 1) ≡ 7 * place + 7 = omega arith in rw more (pow-add 2 (7 * place) 7)

pub continued : (k b : ℕ) (rest : List ℕ) → 128 ≤ b → groups (suc k) (b ∷ rest) ≡ groups k rest next below (b - 128)
unfolding groups
continued k b rest h = rw (le-ltb b 128 h)

pub finished : (k b : ℕ) (rest : List ℕ) → b < 128 → groups (suc k) (b ∷ rest) ≡ got b rest
unfolding groups
finished k b rest h = rw (lt-ltb b 128 h)

module _ {bytes rest : List ℕ} {value place : ℕ} (g : Gathered bytes value place rest) where
  onwards : ℕ → List ℕ → Read ℕ
  onwards k more = groups k more next above value (2 ^ (7 * place)) next limited

  -- Past the last group.
  pub too_long : 5 ≤ place → read_number bytes ≡ refused FiledNumber
  unfolding groups onwards
  too_long h = let none : g.left ≡ 0 = omega (arith, g.places) in g.reads ∙ ap (λ (k : ℕ). onwards k rest) none

  module _ (few : place < 5) where
    one_left : g.left ≡ suc (g.left - 1)
    one_left = omega (arith, g.places)

    reads_on : read_number bytes ≡ onwards (suc (g.left - 1)) rest
    unfolding onwards
    reads_on = g.reads ∙ ap (λ (k : ℕ). onwards k rest) one_left

    -- One group more.
    pub sum_small : (group : ℕ) → group < 128 → value + group * 2 ^ (7 * place) < 2 ^ (7 * (place + 1))
    sum_small group h = omega (arith, g.small, next_unit place, mul-le-mul_right {m = suc group} {n = 128} (2 ^ (7 * place)) (omega arith))

    -- Past the last byte.
    pub too_short : length rest ≡ 0 → read_number bytes ≡ refused FileEnds
    unfolding groups onwards
    too_short h = reads_on ∙ ap (onwards (suc (g.left - 1))) (nil_from_length rest h)

    module _ {b : ℕ} {more : List ℕ} (is : rest ≡ b ∷ more) where
      reads_byte : read_number bytes ≡ onwards (suc (g.left - 1)) (b ∷ more)
      reads_byte = reads_on ∙ ap (onwards (suc (g.left - 1))) is

      pub gathered_ends : b < 128 → read_number bytes ≡ limited (value + b * 2 ^ (7 * place)) more
      unfolding onwards
      gathered_ends last =
          reads_byte
          ∙ ap (λ (x : Read ℕ). x next above value (2 ^ (7 * place)) next limited) (finished (g.left - 1) b more last)
          ∙ rw (mul_comm (2 ^ (7 * place)) b)

      pub gathered_steps : b < 256 → 128 ≤ b → Gathered bytes (value + (b - 128) * 2 ^ (7 * place)) (place + 1) more
      unfolding onwards
      gathered_steps byte again =
          let low = b - 128 in
          let unit = 2 ^ (7 * place) in
          record {
            left = g.left - 1;
            places = omega (arith, g.places);
            small = sum_small low (omega arith);
            reads =
                reads_byte
                ∙ ap (λ (x : Read ℕ). x next above value unit next limited) (continued (g.left - 1) b more again)
                ∙ rw (next_unit place) (ap (λ (x : Read ℕ). x next limited) (one_more (groups (g.left - 1) more) value unit low));
          }
