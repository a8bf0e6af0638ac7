-- A turn that has come to a level list, and its work: the list's points then hold what the whole turn leaves them. Forward, the list and what stands before it
-- hold what they held at the start, so a step takes half of the parents' sum of the old values. Back, what stands before it holds the result already: the
-- result at a point is its value plus half the sum of the result at its parents. Parents behind the list do not move, so for them old and new are the same.
-- Assumes nothing.
use mathlib.Core.Path.{◌≡◌, refl, ap, ap₂, sym, ◌∙◌}
use mathlib.Core.Bool.{Bool, true, false}
use mathlib.Core.List.{List}
use Prim.Native.Nat.{ℕ, zero, suc, ◌≤◌, ◌<◌}
use native.Mathlib.Omega.{arith}
use lib.IntN.{ℤ, pos, ◌+ℤ◌, ◌-ℤ◌}
use lib.ListN.{length}
use Rattle.std.specs.Prelude.{if◌then◌else◌}
use Rattle.naturals.proofs.Cases.{le_or_lt}
use Rattle.integers.specs.Half.{half, stepped}
use Rattle.integers.proofs.Steps.{stepped_forward, stepped_back, stepped_zero}
use Rattle.numbering.specs.declared.Side.{Side}
use Rattle.numbering.specs.declared.Side.TheVariants.{Left, Right}
use Rattle.numbering.specs.Point.{at}
use Rattle.hierarchy.specs.Grid.{Still}
use Rattle.hierarchy.specs.Turns.{value_at, sum_on, forward, backward}
use Rattle.hierarchy.proofs.Still.{sum_still}
use Rattle.hierarchy.proofs.Values.{value_zero}
use Rattle.hierarchy.proofs.Sweeps.{result_at}
use Rattle.shapes.specs.declared.Shape.{Shape}
use Rattle.shapes.specs.Shapes.{points_of}
use Rattle.grids.specs.Grids.{neighbour, depth, height}
use Rattle.grids.proofs.Instance.{grid, shallow}
use Rattle.grids.proofs.Turned.{turned_holds, former_holds}
use Rattle.neighbours.specs.declared.subspaces.Subspace.{Subspace}
use Rattle.neighbours.proofs.Seeing.{Seen}
use Rattle.neighbours.proofs.Beside.{end_inside}
use Rattle.neighbours.specs.Facets.{Apart}
use Rattle.lists.specs.Lists.{whole_turn, between, turned_between, first_in, end_of, came_to, ListTurned}
use Rattle.lists.specs.Steps.{Stepped}
use Rattle.lists.proofs.Between.{between_low, between_inside, between_high, between_held}
use Rattle.lists.proofs.Joining.{stepped_is}
use Rattle.lists.proofs.Lists.{list_apart}

-- ---- what the whole turn leaves

forward_is : (s : Shape) (t : ℕ) (f : ℕ → ℤ) (q : ℕ) → forward (neighbour s) t f q ≡ f q -ℤ half (sum_on (neighbour s) t f q)
unfolding forward
forward_is s t f q = refl

turned_value : (s : Shape) (t : ℕ) (xs : List ℤ) → length xs ≡ points_of s → (q : ℕ) →
    value_at (whole_turn true s t xs) q ≡ value_at xs q -ℤ half (sum_on (neighbour s) t (value_at xs) q)
unfolding whole_turn
turned_value s t xs long q = ap (λ (f : ℕ → ℤ). f q) (turned_holds s t xs long) ∙ forward_is s t (value_at xs) q

former_values : (s : Shape) (t : ℕ) (xs : List ℤ) → length xs ≡ points_of s →
    value_at (whole_turn false s t xs) ≡ backward (neighbour s) (height s) t (value_at xs)
unfolding whole_turn
former_values s t xs long = former_holds s t xs long

former_value : (s : Shape) (t : ℕ) (xs : List ℤ) → length xs ≡ points_of s → (q : ℕ) →
    value_at (whole_turn false s t xs) q ≡ value_at xs q +ℤ half (sum_on (neighbour s) t (value_at (whole_turn false s t xs)) q)
former_value s t xs long q =
    ap (λ (f : ℕ → ℤ). f q) (former_values s t xs long)
    ∙ result_at (points_of s) (neighbour s) (depth s) (grid s) t (height s) (shallow s t) (value_at xs) (value_zero xs) q
    ∙ ap (λ (f : ℕ → ℤ). value_at xs q +ℤ half (sum_on (neighbour s) t f q)) (sym (former_values s t xs long))

-- A code with no neighbours on the axis keeps its value.
still_forward : (s : Shape) (t : ℕ) (xs : List ℤ) → length xs ≡ points_of s → (q : ℕ) → Still (neighbour s) t q →
    value_at (whole_turn true s t xs) q ≡ value_at xs q
still_forward s t xs long q still =
    turned_value s t xs long q
    ∙ ap (λ (z : ℤ). value_at xs q -ℤ half z) (sum_still (neighbour s) t (value_at xs) (value_zero xs) q still)
    ∙ sym (stepped_forward (value_at xs q) (pos 0))
    ∙ stepped_zero true (value_at xs q)

still_back : (s : Shape) (t : ℕ) (xs : List ℤ) → length xs ≡ points_of s → (q : ℕ) → Still (neighbour s) t q →
    value_at (whole_turn false s t xs) q ≡ value_at xs q
still_back s t xs long q still =
    former_value s t xs long q
    ∙ ap (λ (z : ℤ). value_at xs q +ℤ half z)
    (sum_still (neighbour s) t (value_at (whole_turn false s t xs)) (value_zero (whole_turn false s t xs)) q still)
    ∙ sym (stepped_back (value_at xs q) (pos 0))
    ∙ stepped_zero false (value_at xs q)

pub still_turn : (ahead : Bool) (s : Shape) (t : ℕ) (xs : List ℤ) → length xs ≡ points_of s → (q : ℕ) → Still (neighbour s) t q →
    value_at (whole_turn ahead s t xs) q ≡ value_at xs q
still_turn true = still_forward
still_turn false = still_back

-- Sums of parents that hold the same.
pub same_sums : (s : Shape) (t : ℕ) (f g : ℕ → ℤ) (q : ℕ) → ((b : Side) → f (neighbour s t b q) ≡ g (neighbour s t b q)) →
    sum_on (neighbour s) t f q ≡ sum_on (neighbour s) t g q
unfolding sum_on
same_sums s t f g q same = ap₂ ◌+ℤ◌ (same Left) (same Right)

-- ---- the points from number lo to hi − 1 of a face, whose parents stand apart from them

-- The table ys in which a turn of the table xs comes to them: they hold what they held; before them in the face stands what the turn goes by, forward the old
-- values, back the result. What does not move holds what it held.
pub record Comes (ahead : Bool) (s : Shape) (t base lo hi : ℕ) (xs ys : List ℤ) : Type 0 where
  pub here : (p : ℕ) → lo ≤ p → p < hi → value_at ys (suc p) ≡ value_at xs (suc p)
  pub before : (q : ℕ) → base < q → q ≤ lo → value_at ys q ≡ value_at (if ahead then xs else whole_turn false s t xs) q
  pub still : (q : ℕ) → hi < q → Still (neighbour s) t q → value_at ys q ≡ value_at xs q

-- So what is apart from them holds what the turn goes by.
pub comes_apart : (ahead : Bool) {s : Shape} {t base lo hi : ℕ} {xs ys : List ℤ} → length xs ≡ points_of s → Comes ahead s t base lo hi xs ys → (q : ℕ) →
    Apart (neighbour s) t base lo hi q → value_at (if ahead then xs else whole_turn false s t xs) q ≡ value_at ys q
comes_apart true {xs = xs} {ys} long came zero apart = value_zero xs ∙ sym (value_zero ys)
comes_apart false {s} {t} {xs = xs} {ys} long came zero apart = value_zero (whole_turn false s t xs) ∙ sym (value_zero ys)
comes_apart true {lo = lo} long came (suc p) apart =
    let known = apart (omega arith) in
    le_or_lt (suc p) lo
    (λ low. sym (came.before (suc p) known.0 low))
    (λ more. sym (came.still (suc p) (known.1 more).0 (known.1 more).1))
comes_apart false {s} {t} {base} {lo} {xs = xs} long came (suc p) apart =
    let known = apart (omega arith) in
    le_or_lt (suc p) lo
    (λ low. sym (came.before (suc p) known.0 low))
    (λ more. still_back s t xs long (suc p) (known.1 more).1 ∙ sym (came.still (suc p) (known.1 more).0 (known.1 more).1))

module _ (s : Shape) (t base lo hi k : ℕ) (xs ys zs : List ℤ) (long : length xs ≡ points_of s)
    (apart : (p : ℕ) → lo ≤ p → p < hi → (b : Side) → Apart (neighbour s) t base lo hi (neighbour s t b (suc p))) where
  turned_forward : Comes true s t base lo hi xs ys → Stepped true s t lo hi ys k zs → (p : ℕ) → lo ≤ p → p < hi →
      value_at zs (suc p) ≡ value_at (whole_turn true s t xs) (suc p)
  turned_forward came done p from to =
      done.on p from to
      ∙ stepped_is true s t (value_at ys) (suc p)
      ∙ ap₂ (stepped true) (came.here p from to)
      (same_sums s t (value_at ys) (value_at xs) (suc p) (λ b. sym (comes_apart true long came (neighbour s t b (suc p)) (apart p from to b))))
      ∙ stepped_forward (value_at xs (suc p)) (sum_on (neighbour s) t (value_at xs) (suc p))
      ∙ sym (turned_value s t xs long (suc p))

  turned_back : Comes false s t base lo hi xs ys → Stepped false s t lo hi ys k zs → (p : ℕ) → lo ≤ p → p < hi →
      value_at zs (suc p) ≡ value_at (whole_turn false s t xs) (suc p)
  turned_back came done p from to =
      done.on p from to
      ∙ stepped_is false s t (value_at ys) (suc p)
      ∙ ap₂ (stepped false) (came.here p from to)
      (same_sums s t (value_at ys) (value_at (whole_turn false s t xs)) (suc p)
      (λ b. sym (comes_apart false long came (neighbour s t b (suc p)) (apart p from to b))))
      ∙ stepped_back (value_at xs (suc p)) (sum_on (neighbour s) t (value_at (whole_turn false s t xs)) (suc p))
      ∙ sym (former_value s t xs long (suc p))

  pub points_turned : (ahead : Bool) → Comes ahead s t base lo hi xs ys → Stepped ahead s t lo hi ys k zs → (p : ℕ) → lo ≤ p → p < hi →
      value_at zs (suc p) ≡ value_at (whole_turn ahead s t xs) (suc p)
  points_turned true = turned_forward
  points_turned false = turned_back

-- ---- a turn over the whole table

same_points : {ahead : Bool} {s : Shape} {t base lo hi lo' hi' : ℕ} {xs ys : List ℤ} → lo ≡ lo' → hi ≡ hi' → Comes ahead s t base lo hi xs ys →
    Comes ahead s t base lo' hi' xs ys
same_points lo hi comes = rw (sym lo, sym hi) comes

-- It comes to the points from number lo to hi − 1.
came_comes : (ahead : Bool) (s : Shape) (t base k : ℕ) (l : ℕ → ℕ) (xs ys : List ℤ) → length xs ≡ points_of s → end_of base k l ≤ points_of s →
    ys ≡ came_to ahead s t base k l xs → Comes ahead s t base (first_in base k l) (end_of base k l) xs ys
unfolding came_to turned_between
came_comes true s t base k l xs ys long inside came =
    record {
      here = λ p from to. at_code (suc p) ∙ between_low (end_of base k l) (points_of s) new (value_at xs) (suc p) to;
      before = λ q from low. at_code q ∙ between_low (end_of base k l) (points_of s) new (value_at xs) q (omega arith);
      still =
          λ q high still.
          at_code q
          ∙ le_or_lt q (points_of s)
          (λ within. between_inside (end_of base k l) (points_of s) new (value_at xs) q high within ∙ still_forward s t xs long q still)
          (λ past. between_high (end_of base k l) (points_of s) new (value_at xs) q high past);
    }
  where
    new : ℕ → ℤ
    new = value_at (whole_turn true s t xs)

    at_code : (q : ℕ) → value_at ys q ≡ between (end_of base k l) (points_of s) new (value_at xs) q
    at_code q = between_held (points_of s) (end_of base k l) (points_of s) new xs ys long (omega arith) came q
came_comes false s t base k l xs ys long inside came =
    record {
      here = λ p from to. at_code (suc p) ∙ between_high 0 (first_in base k l) result (value_at xs) (suc p) (omega arith) (omega arith);
      before = λ q from low. before q low;
      still = λ q high still. at_code q ∙ between_high 0 (first_in base k l) result (value_at xs) q (omega arith) (omega arith);
    }
  where
    result : ℕ → ℤ
    result = value_at (whole_turn false s t xs)

    at_code : (q : ℕ) → value_at ys q ≡ between 0 (first_in base k l) result (value_at xs) q
    at_code q = between_held (points_of s) 0 (first_in base k l) result xs ys long (omega arith) came q

    before : (q : ℕ) → q ≤ first_in base k l → value_at ys q ≡ result q
    before zero h = value_zero ys ∙ sym (value_zero (whole_turn false s t xs))
    before (suc p) h = at_code (suc p) ∙ between_inside 0 (first_in base k l) result (value_at xs) (suc p) (omega arith) h

-- ---- a level list

module _ {v : Subspace} (seen : Seen v) where
  abbrev shape : Shape
  shape = v.facet.line.shape

  abbrev place : ℕ
  place = v.facet.line.place

  pub list_end : v.end ≡ end_of v.facet.base v.facet.axes (at v.vector.levels)
  list_end = omega (arith, seen.end, seen.start)

  pub vector_turned : (ahead : Bool) (k : ℕ) (xs ys zs : List ℤ) → length xs ≡ points_of shape → Comes ahead shape place v.facet.base v.start v.end xs ys →
      Stepped ahead shape place v.start v.end ys k zs → ListTurned ahead shape place v.facet.base v.facet.axes (at v.vector.levels) xs ys zs
  vector_turned ahead k xs ys zs long came done =
      record {
        holds =
            λ p from to.
            points_turned shape place v.facet.base v.start v.end k xs ys zs long (list_apart seen) ahead came done p (omega (arith, from, seen.start)) (omega (arith, to, list_end));
        others = λ p elsewhere. done.off p (rw (seen.start, list_end) elsewhere);
      }

  pub work_turned : (ahead : Bool) (k : ℕ) (xs ys zs : List ℤ) → Stepped ahead shape place v.start v.end ys k zs → length xs ≡ points_of shape →
      ys ≡ came_to ahead shape place v.facet.base v.facet.axes (at v.vector.levels) xs →
      ListTurned ahead shape place v.facet.base v.facet.axes (at v.vector.levels) xs ys zs
  work_turned ahead k xs ys zs done long came =
      vector_turned ahead k xs ys zs long
      (same_points (sym seen.start) (sym list_end)
      (came_comes ahead shape place v.facet.base v.facet.axes (at v.vector.levels) xs ys long (omega (arith, end_inside seen, list_end)) came))
      done
