-- How many bytes a number takes: one, and one more for each seven bits that it does not fit in. True since each group after the first stands for what is left
-- of the number after seven bits.
-- Assumes nothing.
use mathlib.Core.Path.{◌≡◌, refl, sym, ap, ◌∙◌}
use Prim.Native.Nat.{ℕ, zero, suc, ◌+◌, ◌*◌, ◌/◌, ◌^◌, ◌≤◌, ◌<◌}
use native.Mathlib.Omega.{arith}
use native.Mathlib.Nat.{div-lt_iff_lt-mul}
use lib.Dec.{leb}
use lib.ListN.{length}
use borrow.Author.Tests.{le-leb, lt-leb}
use mir.Val.{bool_byte}
use Rattle.naturals.proofs.Cases.{le_or_lt}
use Rattle.house_file.specs.Written.{fewest, written}
use Rattle.house_file.proofs.Undone.{last_group, more_groups}

-- 1 where a number reaches a bound, else 0.
abbrev pub reached : ℕ → ℕ → ℕ
reached n bound = bool_byte (leb bound n)

reached_so : (n bound : ℕ) → bound ≤ n → reached n bound ≡ 1
reached_so n bound h = rw (le-leb bound n h)

reached_not : (n bound : ℕ) → n < bound → reached n bound ≡ 0
reached_not n bound h = rw (lt-leb bound n h)

-- A number counts once for each bound.
pub reached_most : (n bound : ℕ) → reached n bound ≤ 1
reached_most n bound =
    le_or_lt bound n (λ h. omega (arith, reached_so n bound h)) (λ h. omega (arith, reached_not n bound h))

-- What is left of a number reaches a bound where the number reaches 128 times as much.
deeper : (n bound more : ℕ) → more ≡ 128 * bound → reached (n / 128) bound ≡ reached n more
deeper n bound more is =
    le_or_lt more n
    (λ h. reached_so (n / 128) bound (omega arith) ∙ sym (reached_so n more h))
    (λ h. reached_not (n / 128) bound (omega arith) ∙ sym (reached_not n more h))

-- How many of its first groups others follow.
followed : ℕ → ℕ → ℕ
followed zero n = 0
followed (suc k) n = reached n 128 + followed k (n / 128)

followed_none : (k n : ℕ) → n < 128 → followed k n ≡ 0
unfolding followed
followed_none zero n h = refl
followed_none (suc k) n h = omega (arith, reached_not n 128 h, followed_none k (n / 128) (omega arith))

group_count : (k n : ℕ) → n < 128 ^ suc k → length (fewest (suc k) n) ≡ 1 + followed k n
unfolding followed
group_count zero n h = ap length (last_group 0 n (omega arith))
group_count (suc k) n h =
    le_or_lt 128 n
    (λ more.
    omega (
      arith,
      ap length (more_groups (suc k) n more),
      group_count k (n / 128) ((div-lt_iff_lt-mul {k = 128} {x = n} {y = 128 ^ suc k} (omega arith)).1 (omega arith)),
      reached_so n 128 more,
    ))
    (λ last. omega (arith, ap length (last_group (suc k) n last), followed_none (suc k) n last))

-- The bounds that a number reaches are the groups after its first.
pub size_is : (n : ℕ) → n < 4294967296 → 1 + reached n 128 + reached n 16384 + reached n 2097152 + reached n 268435456 ≡ length (written n)
unfolding written followed
size_is n small =
    let two = deeper n 128 16384 refl in
    let three = deeper (n / 128) 128 16384 refl ∙ deeper n 16384 2097152 refl in
    let four = deeper (n / 128 / 128) 128 16384 refl ∙ deeper (n / 128) 16384 2097152 refl ∙ deeper n 2097152 268435456 refl in
    omega (arith, group_count 4 n (omega arith), two, three, four)
