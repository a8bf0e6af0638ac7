-- Rates that were checked, taken one after the other: the first number is read, and the rates after it pass as well. True since a number that is refused would
-- have refused all the rates, and what is left after the last rate does not depend on those read before.
-- Assumes nothing.
use Rattle.std.specs.Prelude.{Ok, Err}
use mathlib.Core.Path.{◌≡◌, refl, sym, ap, ◌∙◌}
use mathlib.Core.List.{List, [], ◌∷◌}
use Prim.Native.Nat.{ℕ, zero, suc}
use native.Mathlib.Omega.{arith}
use lib.IntN.{ℤ}
use lib.ListN.{length}
use Rattle.std.proofs.lemmas.List.{nil_from_length}
use Rattle.refusals.specs.declared.Refusal.{Refusal}
use Rattle.house_numbers.specs.Reading.{Read, got, refused, ◌next◌}
use Rattle.house_numbers.specs.Numbers.{read_number, rate_of}
use Rattle.house_numbers.specs.Steps.{Reads}
use Rattle.house_rates.specs.Rates.{prepended, read_rates}
use Rattle.house_rates.specs.Steps.{checked_rates, rates_read, closed}
use Rattle.house_rates.proofs.Rates.{one_more, one_refused, checked_after, nothing_left}

rates_after : (x : Read (List ℤ)) (rate : ℤ) → checked_rates x ≡ Ok tt → rates_read (x next prepended rate) ≡ rate ∷ rates_read x
unfolding checked_rates prepended rates_read
rates_after (got rates rest) rate e = refl
rates_after (refused r) rate e = cc

module _ (m : ℕ) (bytes : List ℕ) (passed : checked_rates (read_rates (suc m) bytes) ≡ Ok tt) where
  pub first_read : Reads (read_number bytes)
  unfolding checked_rates
  first_read = go (read_number bytes) refl
    where
      go : (x : Read ℕ) → read_number bytes ≡ x → Reads (read_number bytes)
      go (got u rest) e = record { value = u; rest = rest; is = e }
      go (refused r) e =
          let no : Err r ≡ (Ok tt) = sym (ap checked_rates (one_refused m bytes e)) ∙ passed in
          let z : ◌≡◌ {A = ℕ} 0 1 = cc in
          absurd (omega arith)

  module _ {u : ℕ} {rest : List ℕ} (e : read_number bytes ≡ got u rest) where
    pub rest_passed : checked_rates (read_rates m rest) ≡ Ok tt
    rest_passed = sym (checked_after (read_rates m rest) (rate_of u)) ∙ sym (ap checked_rates (one_more m bytes e)) ∙ passed

    pub first_rate : rates_read (read_rates (suc m) bytes) ≡ rate_of u ∷ rates_read (read_rates m rest)
    first_rate = ap rates_read (one_more m bytes e) ∙ rates_after (read_rates m rest) (rate_of u) rest_passed

-- As many rates are read as are asked for.
pub read_many : (m : ℕ) (bytes : List ℕ) → checked_rates (read_rates m bytes) ≡ Ok tt → length (rates_read (read_rates m bytes)) ≡ m
unfolding read_rates rates_read
read_many zero bytes passed = refl
read_many (suc m) bytes passed =
    let r = first_read m bytes passed in
    ap length (first_rate m bytes passed r.is) ∙ ap suc (read_many m r.rest (rest_passed m bytes passed r.is))

-- What the check says of the rates decides what is read with nothing after it.
pub closed_refused : (x : Read (List ℤ)) {r : Refusal} → checked_rates x ≡ Err r → x next closed ≡ refused r
unfolding checked_rates closed
closed_refused (got rates rest) e = rw e
closed_refused (refused q) e = ap refused (cc)

pub closed_passed : (x : Read (List ℤ)) → checked_rates x ≡ Ok tt → x next closed ≡ got (rates_read x) []
unfolding checked_rates closed rates_read
closed_passed (got rates rest) e =
    rw e (ap (got rates) (nil_from_length rest (nothing_left rest e)))
closed_passed (refused q) e = cc
