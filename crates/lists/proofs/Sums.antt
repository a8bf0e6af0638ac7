-- What lies beside a run. The points with digit e on the axis have their neighbours at the numerators 2e and 2e + 2. Off the border one of the two is 4j + 2, and
-- those parents lie one level up and follow each other from run to run; the other is 4j, where the parents are those that were found. On the border lie the points
-- across it, if any, which follow each other too. All of them stand apart from the level list. So the sums of a run are sums over places that follow each other.
-- Assumes nothing.
use mathlib.Core.Path.{◌≡◌, ap, ap₂, sym, ◌∙◌}
use mathlib.Core.Logic.{◌⊎◌, inl, inr}
use mathlib.Core.List.{List}
use Rattle.std.specs.Prelude.{Option, Some}
use Prim.Native.Nat.{ℕ, suc, ◌+◌, ◌-◌, ◌*◌, ◌^◌, ◌≤◌, ◌<◌}
use native.Mathlib.Nat.{pow-suc, mul-le-mul_right}
use native.Mathlib.Omega.{arith}
use lib.IntN.{ℤ, ◌+ℤ◌, +ℤ_comm}
use lib.Pow.{pow_pos, pow-add}
use Rattle.naturals.proofs.Cases.{le_or_lt}
use Rattle.numbering.specs.declared.Side.{Side}
use Rattle.numbering.specs.declared.Side.TheVariants.{Left, Right}
use Rattle.numbering.specs.Point.{at}
use Rattle.hierarchy.specs.Turns.{sum_on}
use Rattle.shapes.specs.Shapes.{points_of}
use Rattle.grids.specs.Grids.{neighbour}
use Rattle.grids.proofs.Instance.{grid}
use Rattle.neighbours.specs.declared.facets.Rims.{Rims}
use Rattle.neighbours.specs.declared.subspaces.Subspace.{Subspace}
use Rattle.neighbours.specs.Facets.{rim_on, across, moved_on, Apart}
use Rattle.neighbours.specs.Steps.{Below, parent_from, number_in, rims_of}
use Rattle.neighbours.proofs.Seeing.{Seen}
use Rattle.neighbours.proofs.Beside.{across_added, beside_apart}
use Rattle.neighbours.proofs.Runs.{left_border, right_border, left_inner, right_inner, parent_along, parent_near, block_whole}
use Rattle.lists.specs.Steps.{BlockAt}

-- The neighbours on one side of the run from number x on are the points from number a on; or what lies across the border, from the numbers `rims` on.
pub record Parents (v : Subspace) (b : Side) (x a : ℕ) : Type 0 where
  pub each : (i : ℕ) → i < 2 ^ v.low → neighbour v.facet.line.shape v.facet.line.place b (suc (x + i)) ≡ suc (a + i)

pub record Borders (v : Subspace) (b : Side) (rims : Option Rims) (x : ℕ) : Type 0 where
  pub each : (i : ℕ) → i < 2 ^ v.low → neighbour v.facet.line.shape v.facet.line.place b (suc (x + i)) ≡ across rims b i

-- The points across the border, if there are any.
pub border_parents : {v : Subspace} {b : Side} {rims : Option Rims} {x : ℕ} → Borders v b rims x → (r : Rims) → rims ≡ Some r → Parents v b x (rim_on r b)
unfolding across
border_parents {b = b} borders r e = record { each = λ i h. borders.each i h ∙ ap (λ (o : Option Rims). across o b i) e }

-- What lies across the border of a block.
abbrev pub block_rims : Subspace → ℕ → Option Rims
block_rims v beyond = moved_on (rims_of v) (beyond * 2 ^ v.low)

-- The first of the parents one level up of the runs with the digits 2j and 2j + 1.
abbrev pub near_at : Subspace → List ℕ → ℕ → ℕ → ℕ
near_at v starts beyond j = at starts 1 + j * 2 ^ v.low + beyond * 2 ^ (v.low + v.own - 1)

-- ---- half of the digits

pub all_digits : (own : ℕ) → 1 ≤ own → 2 * 2 ^ (own - 1) ≡ 2 ^ own
all_digits own some =
    let again : suc (own - 1) ≡ own = omega (arith, some) in
    omega (arith, pow-suc 2 (own - 1), ap (λ (k : ℕ). 2 ^ k) again)

module _ {v : Subspace} (s : Seen v) {first beyond : ℕ} (b : BlockAt v first beyond) where
  pub block_end : first + 2 ^ (v.low + v.own) ≤ v.end
  block_end = omega (arith, b.first, block_whole s beyond (omega (arith, b.first, b.inside)))

  -- The run with digit e.
  module _ (e x : ℕ) (digit : e < 2 ^ v.own) (x_is : x ≡ first + e * 2 ^ v.low) where
    pub run_inside : x + 2 ^ v.low ≤ first + 2 ^ (v.low + v.own)
    run_inside =
        omega (arith, x_is, mul-le-mul_right {m = suc e} {n = 2 ^ v.own} (2 ^ v.low) (omega (arith, digit)), pow-add 2 v.low v.own)

    pub run_from : v.start ≤ x
    run_from = omega (arith, x_is, b.first)

    number_is : (i : ℕ) → x + i ≡ number_in v i e beyond
    number_is i = omega (arith, x_is, b.first)

    there : (i : ℕ) → i < 2 ^ v.low → number_in v i e beyond < v.end
    there i h = omega (arith, number_is i, run_inside, block_end)

    abbrev beside : Side → ℕ → ℕ
    beside side p = neighbour v.facet.line.shape v.facet.line.place side (suc p)

    -- On the border, beside the first run and beside the last.
    pub first_left : e ≡ 0 → Borders v Left (block_rims v beyond) x
    first_left is =
        record {
          each =
              λ i h.
              ap (beside Left) (number_is i)
              ∙ left_border s i e beyond h digit (there i h) is
              ∙ sym (across_added (rims_of v) Left (beyond * 2 ^ v.low) i);
        }

    pub last_right : suc e ≡ 2 ^ v.own → Borders v Right (block_rims v beyond) x
    last_right is =
        record {
          each =
              λ i h.
              ap (beside Right) (number_is i)
              ∙ right_border s i e beyond h digit (there i h) is
              ∙ sym (across_added (rims_of v) Right (beyond * 2 ^ v.low) i);
        }

    -- Off the border.
    module _ {starts : List ℕ} (held : Below v starts) (moves : 1 ≤ v.own) (j : ℕ) (in_row : j < 2 ^ (v.own - 1)) where
      left_at : (m : ℕ) → 2 * e ≡ m → 0 < e → (i : ℕ) → i < 2 ^ v.low → beside Left (x + i) ≡ suc (parent_from v starts i beyond m)
      left_at m is some i h =
          ap (beside Left) (number_is i)
          ∙ left_inner s i e beyond h digit (there i h) held some
          ∙ ap (λ (m : ℕ). suc (parent_from v starts i beyond m)) is

      right_at : (m : ℕ) → 2 * e + 2 ≡ m → suc e < 2 ^ v.own → (i : ℕ) → i < 2 ^ v.low → beside Right (x + i) ≡ suc (parent_from v starts i beyond m)
      right_at m is more i h =
          ap (beside Right) (number_is i)
          ∙ right_inner s i e beyond h digit (there i h) held more
          ∙ ap (λ (m : ℕ). suc (parent_from v starts i beyond m)) is

      -- One level up.
      module _ (near : ℕ) (near_is : near ≡ near_at v starts beyond j) where
        near_number : (i : ℕ) → suc (parent_from v starts i beyond (4 * j + 2)) ≡ suc (near + i)
        near_number i = omega (arith, parent_near v starts i beyond j moves in_row, near_is)

        pub near_left : e ≡ 2 * j + 1 → Parents v Left x near
        near_left is = record { each = λ i h. left_at (4 * j + 2) (omega (arith, is)) (omega (arith, is)) i h ∙ near_number i }

        pub near_right : e ≡ 2 * j → Parents v Right x near
        near_right is =
            record { each = λ i h. right_at (4 * j + 2) (omega (arith, is)) (omega (arith, is, in_row, all_digits v.own moves)) i h ∙ near_number i }

      -- Those found at the numerator 4j.
      module _ (some : 1 ≤ j) (far : ℕ) (found : far ≡ parent_from v starts 0 beyond (4 * j)) where
        far_number : (i : ℕ) → suc (parent_from v starts i beyond (4 * j)) ≡ suc (far + i)
        far_number i = omega (arith, parent_along v starts i beyond (4 * j), found)

        pub far_left : e ≡ 2 * j → Parents v Left x far
        far_left is = record { each = λ i h. left_at (4 * j) (omega (arith, is)) (omega (arith, is, some)) i h ∙ far_number i }

        pub far_right : suc e ≡ 2 * j → Parents v Right x far
        far_right is =
            record { each = λ i h. right_at (4 * j) (omega (arith, is)) (omega (arith, is, in_row, all_digits v.own moves)) i h ∙ far_number i }

    -- They stand apart from the level list, all before it or all behind it, and within the table.
    pub all_apart : (i : ℕ) → i < 2 ^ v.low → (side : Side) → Apart (neighbour v.facet.line.shape) v.facet.line.place v.facet.base v.start v.end (beside side (x + i))
    all_apart i h side = beside_apart s (x + i) (omega (arith, run_from)) (omega (arith, number_is i, there i h)) side

    module _ (side : Side) (a : ℕ) (parents : Parents v side x a) where
      abbrev w : ℕ
      w = 2 ^ v.low

      parent_apart : (i : ℕ) → i < w → v.start < suc (a + i) → v.end < suc (a + i)
      parent_apart i h more = omega (arith, parents.each i h, ((all_apart i h side (omega (arith, parents.each i h))).1 (omega (arith, parents.each i h, more))).0)

      some_list : v.start < v.end
      some_list = omega (arith, run_from, run_inside, block_end, pow_pos v.low)

      pub run_apart : (a + w ≤ v.start) ⊎ (v.end ≤ a)
      run_apart =
          let some : 0 < w = pow_pos v.low in
          le_or_lt (a + w) v.start
          (λ before. inl before)
          (λ more.
          inr
          (le_or_lt v.start a
          (λ behind. omega (arith, parent_apart 0 some (omega arith)))
          (λ low. absurd (omega (arith, parent_apart (v.start - a) (omega arith) (omega arith), some_list)))))

      pub run_within : a + w ≤ points_of v.facet.line.shape
      run_within =
          let some : 0 < w = pow_pos v.low in
          omega (
            arith,
            some,
            parents.each (w - 1) (omega (arith, some)),
            (grid v.facet.line.shape).within v.facet.line.place side (suc (x + (w - 1))),
          )

-- ---- the sums of a run

module _ (f : ℕ → ℤ) {v : Subspace} {x : ℕ} where
  pub sum_between : {a b : ℕ} → Parents v Left x a → Parents v Right x b → (i : ℕ) → i < 2 ^ v.low →
      f (suc (a + i)) +ℤ f (suc (b + i)) ≡ sum_on (neighbour v.facet.line.shape) v.facet.line.place f (suc (x + i))
  unfolding sum_on
  sum_between left right i h = ap₂ (λ (p q : ℕ). f p +ℤ f q) (sym (left.each i h)) (sym (right.each i h))

  -- Beside the border what lies across it comes first.
  pub sum_from_border : {rims : Option Rims} {a : ℕ} → Borders v Left rims x → Parents v Right x a → (i : ℕ) → i < 2 ^ v.low →
      f (across rims Left i) +ℤ f (suc (a + i)) ≡ sum_on (neighbour v.facet.line.shape) v.facet.line.place f (suc (x + i))
  unfolding sum_on
  sum_from_border left right i h = ap₂ (λ (p q : ℕ). f p +ℤ f q) (sym (left.each i h)) (sym (right.each i h))

  pub sum_to_border : {rims : Option Rims} {a : ℕ} → Parents v Left x a → Borders v Right rims x → (i : ℕ) → i < 2 ^ v.low →
      f (across rims Right i) +ℤ f (suc (a + i)) ≡ sum_on (neighbour v.facet.line.shape) v.facet.line.place f (suc (x + i))
  unfolding sum_on
  sum_to_border {rims} {a} left right i h =
      +ℤ_comm (f (across rims Right i)) (f (suc (a + i)))
      ∙ ap₂ (λ (p q : ℕ). f p +ℤ f q) (sym (left.each i h)) (sym (right.each i h))
