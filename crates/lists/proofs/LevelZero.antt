-- A list of level 0 on the axis: the border lies on both sides of each of its points. What lies across it follows each other as the list's own points do, so the list is one
-- run; where nothing lies there, its steps move nothing and its sums are even.
-- Assumes nothing.
use mathlib.Core.Path.{◌≡◌, refl, ap, ap₂, sym, ◌∙◌}
use mathlib.Core.Logic.{◌⊎◌, inl, inr, ⊎_elim}
use Rattle.std.specs.Prelude.{Option, Some, None}
use mathlib.Core.Bool.{Bool}
use mathlib.Core.List.{List}
use Prim.Native.Nat.{ℕ, zero, suc, ◌+◌, ◌-◌, ◌*◌, ◌/◌, ◌%◌, ◌^◌, ◌≤◌, ◌<◌}
use native.Mathlib.Nat.{zero-add, div-one, div-add-mod'}
use native.Mathlib.Omega.{arith}
use lib.IntN.{ℤ, pos, ◌+ℤ◌}
use lib.ListN.{length}
use Rattle.naturals.specs.Sum.{sum_to}
use Rattle.naturals.proofs.Cases.{le_or_lt}
use Rattle.naturals.proofs.Sums.{sum_to_zero, sum_to_suc}
use Rattle.integers.specs.Half.{odd_of}
use Rattle.integers.proofs.Steps.{stepped_zero, odd_zero}
use Rattle.numbering.specs.declared.Side.{Side}
use Rattle.numbering.specs.declared.Side.TheVariants.{Left, Right}
use Rattle.hierarchy.specs.Turns.{value_at, sum_on}
use Rattle.hierarchy.proofs.Still.{sum_still}
use Rattle.hierarchy.proofs.Values.{value_zero}
use Rattle.grids.specs.Grids.{neighbour}
use Rattle.grids.proofs.Instance.{grid}
use Rattle.neighbours.specs.declared.subspaces.Subspace.{Subspace}
use Rattle.neighbours.specs.declared.facets.Rims.{Rims}
use Rattle.neighbours.specs.Facets.{rim_on, across}
use Rattle.neighbours.specs.Steps.{rims_of}
use Rattle.neighbours.proofs.Seeing.{Seen, seen}
use Rattle.neighbours.proofs.Beside.{beyond_of, end_inside, beside_flat}
use Rattle.lists.specs.Steps.{TableOf, value_in, RoomIn, Source, RunStepped, Stepped}
use Rattle.lists.proofs.Joining.{Outside, outside, none_stepped, run_joins}
use Rattle.lists.proofs.Blocks.{on_line, table_small}
use Rattle.lists.proofs.Lists.{some_points, list_apart}

-- Beside the i-th point lies what i others come before across the border.
module _ {v : Subspace} (s : Seen v) (level : v.own ≡ 0) where
  position_whole : (q : ℕ) → beyond_of v q * 2 ^ v.low + q % 2 ^ v.low ≡ q
  position_whole q =
      let one : 2 ^ v.own ≡ 1 = ap (λ (o : ℕ). 2 ^ o) level in
      let all : beyond_of v q ≡ q / 2 ^ v.low = ap (λ (x : ℕ). q / 2 ^ v.low / x) one ∙ div-one (q / 2 ^ v.low) in
      ap (λ (x : ℕ). x * 2 ^ v.low + q % 2 ^ v.low) all ∙ div-add-mod' q (2 ^ v.low)

  beside_point : (b : Side) (i : ℕ) → i < v.end - v.start → neighbour v.facet.line.shape v.facet.line.place b (suc (v.start + i)) ≡ across (rims_of v) b i
  beside_point b i h =
      let here : v.start + i - v.start ≡ i = omega arith in
      beside_flat s (v.start + i) (omega arith) (omega arith) b level
      ∙ ap (across (rims_of v) b) (position_whole (v.start + i - v.start) ∙ here)

-- ---- with nothing across the border

sum_of_none : (f : ℕ → ℕ) (m : ℕ) → ((i : ℕ) → f i ≡ 0) → sum_to f m ≡ 0
sum_of_none f zero none = sum_to_zero f
sum_of_none f (suc m) none = omega (arith, sum_to_suc f m, sum_of_none f m none, none m)

pub flat_still : {v : Subspace} → Seen v → rims_of v ≡ None → v.own ≡ 0 → (ahead : Bool) (xs : List ℤ) →
    Stepped ahead v.facet.line.shape v.facet.line.place v.start v.end xs 0 xs
unfolding across
flat_still {v} s open_border level ahead xs =
    let whole : v.start + (v.end - v.start) ≡ v.end = omega (arith, some_points s) in
    rw whole at (run_joins (none_stepped ahead v.facet.line.shape v.facet.line.place v.start xs) (omega arith) still no_parents apart)
  where
    none : (b : Side) (i : ℕ) → i < v.end - v.start → neighbour v.facet.line.shape v.facet.line.place b (suc (v.start + i)) ≡ 0
    none b i h =
        beside_point s level b i h ∙ ap (λ (o : Option Rims). across o b i) open_border

    apart : (i : ℕ) → i < v.end - v.start → (b : Side) → Outside v.start v.start (neighbour v.facet.line.shape v.facet.line.place b (suc (v.start + i)))
    apart i h b = inl (omega (arith, none b i h))

    no_parents : (i : ℕ) → i < v.end - v.start → pos 0 ≡ sum_on (neighbour v.facet.line.shape) v.facet.line.place (value_at xs) (suc (v.start + i))
    no_parents i h =
        sym
        (sum_still (neighbour v.facet.line.shape) v.facet.line.place (value_at xs) (value_zero xs) (suc (v.start + i))
        (λ b. none b i h))

    still : RunStepped ahead v.start (v.end - v.start) (λ i. pos 0) xs 0 xs
    still =
        record {
          long = refl;
          on = λ i h. sym (stepped_zero ahead (value_at xs (suc (v.start + i))));
          off = λ p outside. refl;
          odds = sym (sum_of_none (λ i. odd_of (pos 0)) (v.end - v.start) (λ i. odd_zero));
        }

-- ---- with points across the border

pub list_order : (v : Subspace) → v.start ≤ v.end
list_order v = omega (arith, some_points (seen v))

module _ (v : Subspace) (level : v.own ≡ 0) (r : Rims) (there : rims_of v ≡ Some r) where
  abbrev pub wide : ℕ
  wide = v.end - v.start

  some : v.start < v.end
  some = some_points (seen v)

  beside_rim : (b : Side) (i : ℕ) → i < wide → neighbour v.facet.line.shape v.facet.line.place b (suc (v.start + i)) ≡ suc (rim_on r b + i)
  unfolding across
  beside_rim b i h = beside_point (seen v) level b i h ∙ ap (λ (o : Option Rims). across o b i) there

  apart : (i : ℕ) → i < wide → (b : Side) → Outside v.start v.end (neighbour v.facet.line.shape v.facet.line.place b (suc (v.start + i)))
  apart i h b =
      outside (neighbour v.facet.line.shape) v.facet.line.place (list_apart (seen v) (v.start + i) (omega arith) (omega arith) b)

  -- Either all stand before the list or all behind.
  clear : (b : Side) → (rim_on r b + wide ≤ v.start) ⊎ (v.start + wide ≤ rim_on r b)
  clear b =
      le_or_lt (rim_on r b + wide) v.start
      (λ before. inl before)
      (λ more.
      inr
      (le_or_lt v.start (rim_on r b)
      (λ behind.
      ⊎_elim
      (λ low. absurd (omega (arith, low, beside_rim b 0 (omega (arith, some)), some)))
      (λ high. omega (arith, high, beside_rim b 0 (omega (arith, some)), some))
      (apart 0 (omega (arith, some)) b))
      (λ low.
      let i : ℕ = v.start - rim_on r b in
      let in_list : i < wide = omega arith in
      ⊎_elim
      (λ before. absurd (omega (arith, before, beside_rim b i in_list)))
      (λ high. absurd (omega (arith, high, beside_rim b i in_list, some)))
      (apart i in_list b))))

  source : {xs : List ℤ} → TableOf v.facet.line.shape (2 ^ 61) xs → (b : Side) → Source v.start wide (rim_on r b) xs
  source table b =
      let last : wide - 1 < wide = omega (arith, some) in
      record {
        clear = clear b;
        inside =
            omega (
              arith,
              some,
              beside_rim b (wide - 1) last,
              (grid v.facet.line.shape).within v.facet.line.place b (suc (v.start + (wide - 1))),
              table.0,
            );
        room = λ i h. table.1 (suc (rim_on r b + i));
      }

  -- What the run asks.
  pub flat_asks : {xs : List ℤ} → TableOf v.facet.line.shape (2 ^ 61) xs →
      Source v.start wide r.lower xs × Source v.start wide r.upper xs × (v.start + wide ≤ length xs) × (length xs < 2 ^ 32) × RoomIn v.start wide xs
  flat_asks {xs} table = (
    source table Left,
    source table Right,
    omega (arith, some, end_inside (seen v), table.0),
    table_small v xs (on_line v.facet.line table.0),
    λ i h. table.1 (suc (v.start + i)),
  )

  sums : (xs : List ℤ) (i : ℕ) → i < wide →
      value_in xs r.lower i +ℤ value_in xs r.upper i ≡ sum_on (neighbour v.facet.line.shape) v.facet.line.place (value_at xs) (suc (v.start + i))
  unfolding sum_on
  sums xs i h = ap₂ (λ (p q : ℕ). value_at xs p +ℤ value_at xs q) (sym (beside_rim Left i h)) (sym (beside_rim Right i h))

  -- It is all of the list.
  pub flat_stepped : {ahead : Bool} {k : ℕ} {xs ys : List ℤ} → RunStepped ahead v.start wide (λ i. value_in xs r.lower i +ℤ value_in xs r.upper i) xs k ys →
      Stepped ahead v.facet.line.shape v.facet.line.place v.start v.end xs k ys
  flat_stepped {ahead} {xs = xs} run =
      let whole : v.start + wide ≡ v.end = omega (arith, some) in
      rw (whole, zero-add) at (run_joins (none_stepped ahead v.facet.line.shape v.facet.line.place v.start xs) (omega arith) run (sums xs)
      (λ i h b. ⊎_elim (λ low. inl low) (λ high. inr (omega (arith, high, some))) (apart i h b)))
