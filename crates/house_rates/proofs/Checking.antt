-- The loop that checks the rates and changes nothing: what is said of all the rates is what is said of those that are left. True since a number that is
-- read passes, and the first that is refused decides.
-- Assumes nothing.
use Rattle.std.specs.Prelude.{Ok, Err}
use mathlib.Core.Path.{◌≡◌, refl, ap, ◌∙◌}
use mathlib.Core.List.{List}
use Prim.Native.Nat.{ℕ, suc, ◌-◌, ◌≤◌, ◌<◌}
use native.Mathlib.Omega.{arith}
use lib.ListN.{length}
use borrow.Author.Tests.{eq-eqb, ne_eqb}
use Rattle.refusals.specs.declared.Refusal.{Refusal}
use Rattle.refusals.specs.declared.Refusal.TheVariants.{BytesLeft}
use Rattle.house_numbers.specs.Reading.{got, refused}
use Rattle.house_numbers.specs.Numbers.{read_number, rate_of}
use Rattle.house_rates.specs.Rates.{read_rates, all_read}
use Rattle.house_rates.specs.Steps.{checked_rates}
use Rattle.house_rates.proofs.Rates.{one_more, one_refused, checked_after}

-- So many rates are left, and `rest` is what stands after those that were checked.
pub record Checked (bytes : List ℕ) (count left : ℕ) (rest : List ℕ) : Type 0 where
  pub says : checked_rates (read_rates count bytes) ≡ checked_rates (read_rates left rest)

pub checked_starts : (bytes : List ℕ) (count : ℕ) → Checked bytes count count bytes
checked_starts bytes count = record { says = refl }

module _ {bytes rest : List ℕ} {count left : ℕ} (k : Checked bytes count left rest) where
  module _ (more : 0 < left) where
    one_left : checked_rates (read_rates count bytes) ≡ checked_rates (read_rates (suc (left - 1)) rest)
    one_left = let some : left ≡ suc (left - 1) = omega arith in k.says ∙ ap (λ (m : ℕ). checked_rates (read_rates m rest)) some

    pub checked_steps : (u : ℕ) (after : List ℕ) → read_number rest ≡ got u after → Checked bytes count (left - 1) after
    checked_steps u after e =
        record { says = one_left ∙ ap checked_rates (one_more (left - 1) rest e) ∙ checked_after (read_rates (left - 1) after) (rate_of u) }

    pub checked_refused : {r : Refusal} → read_number rest ≡ refused r → checked_rates (read_rates count bytes) ≡ Err r
    unfolding checked_rates
    checked_refused e = one_left ∙ ap checked_rates (one_refused (left - 1) rest e)

  at_end : left ≤ 0 → checked_rates (read_rates count bytes) ≡ all_read rest
  unfolding checked_rates read_rates
  at_end h = let none : left ≡ 0 = omega arith in k.says ∙ ap (λ (m : ℕ). checked_rates (read_rates m rest)) none

  pub bytes_left : left ≤ 0 → 0 < length rest → checked_rates (read_rates count bytes) ≡ Err BytesLeft
  bytes_left h some = at_end h ∙ rw (ne_eqb (length rest) 0 (λ e. omega (arith, e)))

  pub none_left : left ≤ 0 → length rest ≡ 0 → checked_rates (read_rates count bytes) ≡ Ok tt
  none_left h none = at_end h ∙ rw (eq-eqb (length rest) 0 none)
