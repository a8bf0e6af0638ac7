-- The loop that puts a number into a buffer, group by group: what was put and the groups of what is left are the number's groups. True since each group that
-- another follows is the lowest seven bits, and what is left are the bits above them.
-- Assumes nothing.
use mathlib.Core.Path.{◌≡◌, refl, sym, ap, ◌∙◌}
use mathlib.Core.List.{List, [], ◌∷◌, ◌++◌, append_assoc}
use Prim.Native.Nat.{ℕ, zero, suc, ◌+◌, ◌/◌, ◌%◌, ◌^◌, ◌≤◌, ◌<◌}
use native.Mathlib.Nat.{div-lt_iff_lt-mul}
use native.Mathlib.Omega.{arith}
use lib.ListN.{length, set, length-append}
use Rattle.naturals.proofs.Cases.{le_or_lt}
use Rattle.buffers.specs.Put.{Put}
use Rattle.buffers.proofs.Puts.{put_then, put_nothing, put_one, put_length, put_as}
use Rattle.house_file.specs.Written.{fewest, written}
use Rattle.house_file.proofs.Undone.{last_group, more_groups}

pub record Grouped (number : ℕ) (old : List ℕ) (place : ℕ) (new : List ℕ) (left at : ℕ) : Type 0 where
  pub more : ℕ
  pub done : List ℕ
  pub small : left < 128 ^ suc more
  pub whole : done ++ fewest (suc more) left ≡ written number
  pub put : Put done old place new at

pub grouped_starts : (number : ℕ) (old : List ℕ) (place : ℕ) → number < 4294967296 → Grouped number old place old number place
unfolding written
grouped_starts number old place h = record { more = 4; done = []; small = omega arith; whole = refl; put = put_nothing old place }

module _ {number : ℕ} {old : List ℕ} {place : ℕ} {new : List ℕ} {left at : ℕ} (g : Grouped number old place new left at) where
  -- There is a group left.
  some : 1 ≤ length (fewest (suc g.more) left)
  some =
      le_or_lt 128 left
      (λ large. omega (arith, ap length (more_groups g.more left large)))
      (λ last. omega (arith, ap length (last_group g.more left last)))

  pub grouped_room : place + length (written number) ≤ length old → at < length new
  grouped_room room =
      omega (
        arith,
        some,
        g.put.after,
        put_length g.put,
        ap length g.whole,
        length-append g.done (fewest (suc g.more) left),
      )

  pub grouped_ends : left < 128 → Put (written number) old place (set new at left) (at + 1)
  grouped_ends last =
      put_as (ap (λ (l : List ℕ). g.done ++ l) (sym (last_group g.more left last)) ∙ g.whole) (put_then g.put (put_one new at left))

  pub grouped_steps : 128 ≤ left → (byte : ℕ) → byte ≡ 128 + left % 128 → Grouped number old place (set new at byte) (left / 128) (at + 1)
  grouped_steps large byte is = go g.more refl
    where
      go : (k : ℕ) → g.more ≡ k → Grouped number old place (set new at byte) (left / 128) (at + 1)
      go zero e = absurd (omega (arith, rw e at g.small))
      go (suc k) e =
          let small : left < 128 ^ suc (suc k) = rw e at g.small in
          let whole : g.done ++ fewest (suc (suc k)) left ≡ written number = rw e at g.whole in
          record {
            more = k;
            done = g.done ++ byte ∷ [];
            small = (div-lt_iff_lt-mul {k = 128} {x = left} {y = 128 ^ suc k} (omega arith)).1 (omega arith);
            whole =
                append_assoc g.done (byte ∷ []) (fewest (suc k) (left / 128))
                ∙ ap (λ (b : ℕ). g.done ++ b ∷ fewest (suc k) (left / 128)) is
                ∙ ap (λ (l : List ℕ). g.done ++ l) (sym (more_groups (suc k) left large))
                ∙ whole;
            put = put_then g.put (put_one new at byte);
          }
