-- A table in two parts: the points from number lo to hi − 1 hold one table, all others another. So stands a turn that goes over the numbers: forward, the points
-- from lo on are turned, up to where it began; back, those up to hi. The work on a level list moves lo or hi from one end of the list to the other.
-- Assumes nothing.
use mathlib.Core.Path.{◌≡◌, refl, sym, ◌∙◌}
use mathlib.Core.Logic.{◌⊎◌, inl, inr, ⊎_elim}
use mathlib.Core.List.{List}
use Prim.Native.Nat.{ℕ, zero, suc, ◌≤◌, ◌<◌}
use native.Mathlib.Omega.{arith}
use lib.IntN.{ℤ}
use lib.ListN.{length}
use Rattle.naturals.proofs.Cases.{le_or_lt}
use Rattle.hierarchy.specs.Turns.{value_at, values_of}
use Rattle.hierarchy.proofs.Values.{value_zero, value_past, values_of_value}
use Rattle.hierarchy.proofs.Sweeps.{list_of_values}
use Rattle.lists.specs.Lists.{between}
use Rattle.lists.specs.Steps.{NoLarger}
use Rattle.lists.proofs.Between.{between_low, between_inside, between_high, between_held}

pub record Parted (m lo hi : ℕ) (us vs ys : List ℤ) : Type 0 where
  pub long : length ys ≡ m
  pub inside : (p : ℕ) → lo ≤ p → p < hi → value_at ys (suc p) ≡ value_at vs (suc p)
  pub others : (p : ℕ) → (p < lo) ⊎ (hi ≤ p) → value_at ys (suc p) ≡ value_at us (suc p)

-- At the start no point is turned.
pub none_parted : (m k : ℕ) (us vs : List ℤ) → length us ≡ m → Parted m k k us vs us
none_parted m k us vs long = record { long = long; inside = λ p from to. absurd (omega arith); others = λ p outside. refl }

-- At the end, all.
pub all_parted : (m : ℕ) (us vs ys : List ℤ) → length vs ≡ m → Parted m 0 m us vs ys → ys ≡ vs
all_parted m us vs ys vs_long parted = list_of_values m ys (value_at vs) parted.long at_code ∙ values_of_value m vs vs_long
  where
    at_code : (q : ℕ) → value_at ys q ≡ value_at vs q
    at_code zero = value_zero ys ∙ sym (value_zero vs)
    at_code (suc p) =
        le_or_lt m p
        (λ past. value_past ys (suc p) (omega (arith, parted.long)) ∙ sym (value_past vs (suc p) (omega (arith, vs_long))))
        (λ h. parted.inside p (omega arith) h)

-- The list of such a table.
pub list_parted : (m lo hi : ℕ) (us vs ys : List ℤ) → length ys ≡ m → length us ≡ m → hi ≤ m → ys ≡ values_of m (between lo hi (value_at vs) (value_at us)) →
    Parted m lo hi us vs ys
list_parted m lo hi us vs ys long us_long fits e =
    record {
      long = long;
      inside = λ p from to. held (suc p) ∙ between_inside lo hi (value_at vs) (value_at us) (suc p) (omega arith) (omega arith);
      others =
          λ p outside.
          held (suc p)
          ∙ ⊎_elim
          (λ low. between_low lo hi (value_at vs) (value_at us) (suc p) low)
          (λ high.
          le_or_lt (suc p) lo
          (λ low. between_low lo hi (value_at vs) (value_at us) (suc p) low)
          (λ from. between_high lo hi (value_at vs) (value_at us) (suc p) from (omega arith)))
          outside;
    }
  where
    held : (q : ℕ) → value_at ys q ≡ between lo hi (value_at vs) (value_at us) q
    held q = between_held m lo hi (value_at vs) us ys us_long fits e q

module _ {m lo hi : ℕ} {us vs ys : List ℤ} (parted : Parted m lo hi us vs ys) where
  pub parted_list : ys ≡ values_of m (between lo hi (value_at vs) (value_at us))
  parted_list = list_of_values m ys (between lo hi (value_at vs) (value_at us)) parted.long at_code
    where
      at_code : (q : ℕ) → value_at ys q ≡ between lo hi (value_at vs) (value_at us) q
      at_code zero = value_zero ys ∙ sym (between_low lo hi (value_at vs) (value_at us) 0 (omega arith) ∙ value_zero us)
      at_code (suc p) =
          le_or_lt (suc p) lo
          (λ low. parted.others p (inl low) ∙ sym (between_low lo hi (value_at vs) (value_at us) (suc p) low))
          (λ from.
          le_or_lt (suc p) hi
          (λ to. parted.inside p (omega arith) to ∙ sym (between_inside lo hi (value_at vs) (value_at us) (suc p) from to))
          (λ high. parted.others p (inr (omega arith)) ∙ sym (between_high lo hi (value_at vs) (value_at us) (suc p) from high)))

  -- Below number lo the codes hold the first table.
  pub below_codes : (code : ℕ) → code ≤ lo → value_at ys code ≡ value_at us code
  below_codes zero h = value_zero ys ∙ sym (value_zero us)
  below_codes (suc p) h = parted.others p (inl (omega arith))

  -- No value is larger than those of the two tables.
  pub parted_within : (b : ℕ) → NoLarger b us → NoLarger b vs → NoLarger b ys
  parted_within b us_small vs_small zero = rw (value_zero ys) (omega arith)
  parted_within b us_small vs_small (suc p) =
      le_or_lt lo p
      (λ from.
      le_or_lt hi p
      (λ high. rw (parted.others p (inr high)) (us_small (suc p)))
      (λ to. rw (parted.inside p from to) (vs_small (suc p))))
      (λ low. rw (parted.others p (inl low)) (us_small (suc p)))

  -- The points between one end and another number change part, the others hold what they held.
  module _ (zs : List ℤ) (zs_long : length zs ≡ m) where
    pub moved_down : (k : ℕ) → k ≤ lo → lo ≤ hi → ((p : ℕ) → k ≤ p → p < lo → value_at zs (suc p) ≡ value_at vs (suc p)) →
        ((p : ℕ) → (p < k) ⊎ (lo ≤ p) → value_at zs (suc p) ≡ value_at ys (suc p)) → Parted m k hi us vs zs
    moved_down k le order changed kept =
        record {
          long = zs_long;
          inside = λ p from to. le_or_lt lo p (λ high. kept p (inr high) ∙ parted.inside p high to) (λ new. changed p from new);
          others =
              λ p outside.
              ⊎_elim
              (λ low. kept p (inl low) ∙ parted.others p (inl (omega arith)))
              (λ high. kept p (inr (omega arith)) ∙ parted.others p (inr high))
              outside;
        }

    pub moved_up : (k : ℕ) → hi ≤ k → lo ≤ hi → ((p : ℕ) → hi ≤ p → p < k → value_at zs (suc p) ≡ value_at vs (suc p)) →
        ((p : ℕ) → (p < hi) ⊎ (k ≤ p) → value_at zs (suc p) ≡ value_at ys (suc p)) → Parted m lo k us vs zs
    moved_up k le order changed kept =
        record {
          long = zs_long;
          inside = λ p from to. le_or_lt hi p (λ new. changed p new to) (λ low. kept p (inl low) ∙ parted.inside p from low);
          others =
              λ p outside.
              ⊎_elim
              (λ low. kept p (inl (omega arith)) ∙ parted.others p (inl low))
              (λ high. kept p (inr high) ∙ parted.others p (inr (omega arith)))
              outside;
        }
