-- A forward turn is accepted exactly where no sum of parents' values is odd and all values before and after are within the content limit. At a point the three
-- parts are those of what is accepted there; a count of odd sums is 0 exactly where none is odd.
-- Assumes nothing.
use mathlib.Core.Path.{◌≡◌, ap, sym, ◌∙◌}
use mathlib.Core.Bool.{Bool, true, false, ◌&&◌, false≢true}
use mathlib.Core.List.{List}
use Prim.Native.Nat.{ℕ, zero, suc, ◌^◌, ◌<◌}
use native.Mathlib.Omega.{arith}
use lib.Dec.{eqb}
use lib.IntN.{ℤ, nat_abs}
use lib.ListN.{length}
use borrow.Author.Tests.{eqb-true}
use Rattle.naturals.specs.Test.{all}
use Rattle.naturals.proofs.Cases.{le_or_lt, true_or_false}
use Rattle.naturals.proofs.Sums.{term_le}
use Rattle.naturals.proofs.Tests.{and_left, and_right, all_at, all_from}
use Rattle.integers.specs.Half.{content_at}
use Rattle.integers.proofs.Sizes.{limit_size}
use Rattle.integers.proofs.Steps.{even_odd}
use Rattle.numbering.proofs.Succession.{sum_zeros}
use Rattle.hierarchy.specs.Turns.{value_at, forward, accepted_at, accepted}
use Rattle.hierarchy.proofs.Values.{value_past, values_at}
use Rattle.shapes.specs.Shapes.{points_of}
use Rattle.shapes.specs.declared.Shape.{Shape}
use Rattle.grids.specs.Grids.{neighbour}
use Rattle.grids.specs.Turned.{turned_table}
use Rattle.grids.proofs.Turned.{turned_length}
use Rattle.lists.specs.Lists.{odd_at, odd_sums}
use Rattle.lists.specs.Steps.{NoLarger}
use Rattle.turns.specs.Turns.{is_accepted}

-- All values of a table are within the content limit.
abbrev pub in_limits : List ℤ → Bool
in_limits xs = all (content_at xs) (length xs)

pub contents_within : (xs : List ℤ) → in_limits xs ≡ true → NoLarger (2 ^ 47) xs
unfolding content_at value_at
contents_within xs e zero = omega arith
contents_within xs e (suc p) =
    le_or_lt (length xs) p
    (λ past. omega (arith, ap nat_abs (value_past xs (suc p) (omega arith))))
    (λ inside. limit_size (value_at xs (suc p)) (all_at (content_at xs) (length xs) e p inside))

module _ (s : Shape) (t : ℕ) (xs : List ℤ) where
  -- What an accepted turn tells, and what tells that it is accepted.
  pub record Accepted : Type 0 where
    pub before : in_limits xs ≡ true
    pub even : odd_sums s t xs (points_of s) ≡ 0
    pub after : in_limits (turned_table s t xs) ≡ true

  module _ (long : length xs ≡ points_of s) where
    -- The three parts at a point.
    parts : (p : ℕ) → p < points_of s →
        accepted_at (neighbour s) t (value_at xs) p ≡ content_at xs p && eqb (odd_at s t xs p) 0 && content_at (turned_table s t xs) p
    unfolding accepted_at odd_at content_at value_at turned_table
    parts p h = rw (even_odd, values_at (points_of s) (forward (neighbour s) t (value_at xs)) p h)

    accepted_means : is_accepted s t xs ≡ true → Accepted
    unfolding is_accepted accepted odd_sums
    accepted_means e =
        let at : (p : ℕ) → p < points_of s → content_at xs p && eqb (odd_at s t xs p) 0 && content_at (turned_table s t xs) p ≡ true =
        λ p h. sym (parts p h) ∙ all_at (accepted_at (neighbour s) t (value_at xs)) (points_of s) e p h in
        record {
          before = all_from (content_at xs) (length xs) (λ p h. and_left _ _ (and_left _ _ (at p (omega arith))));
          even = sum_zeros (odd_at s t xs) (points_of s) (λ p h. eqb-true _ 0 (and_right (content_at xs p) _ (and_left _ _ (at p h))));
          after =
              all_from (content_at (turned_table s t xs)) (length (turned_table s t xs))
              (λ p h. and_right (content_at xs p && eqb (odd_at s t xs p) 0) _ (at p (omega (arith, turned_length s t xs))));
        }

    pub accepted_where : Accepted → is_accepted s t xs ≡ true
    unfolding is_accepted accepted odd_sums
    accepted_where a =
        all_from (accepted_at (neighbour s) t (value_at xs)) (points_of s)
        (λ p h.
        let even : odd_at s t xs p ≡ 0 = omega (arith, term_le (odd_at s t xs) (points_of s) p h, a.even) in
        parts p h
        ∙ rw (
          all_at (content_at xs) (length xs) a.before p (omega arith),
          even,
          all_at (content_at (turned_table s t xs)) (length (turned_table s t xs)) a.after p (omega (arith, turned_length s t xs)),
        ))

    -- One part that fails decides.
    refused : (Accepted → ⊥) → is_accepted s t xs ≡ false
    refused none = true_or_false (is_accepted s t xs) (λ yes. absurd (none (accepted_means yes))) (λ no. no)

    pub before_refuses : in_limits xs ≡ false → is_accepted s t xs ≡ false
    before_refuses e = refused (λ a. false≢true (sym e ∙ a.before))

    pub odd_refuses : (odd_sums s t xs (points_of s) ≡ 0 → ⊥) → is_accepted s t xs ≡ false
    odd_refuses some = refused (λ a. some a.even)

    pub after_refuses : in_limits (turned_table s t xs) ≡ false → is_accepted s t xs ≡ false
    after_refuses e = refused (λ a. false≢true (sym e ∙ a.after))
