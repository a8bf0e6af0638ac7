-- A block, run after run from its first point on: the first e runs are stepped, in the table at the start of the block. What the next run asks is there: its
-- points have not moved, its parents stand apart from the level list, and the numbers of all of them are small. So its sums are those of the table at the
-- start, and then e + 1 runs are stepped.
-- Assumes nothing.
use mathlib.Core.Path.{◌≡◌, refl, ap, sym, ◌∙◌}
use mathlib.Core.Logic.{◌⊎◌, inl, inr, ⊎_elim}
use mathlib.Core.Bool.{Bool}
use mathlib.Core.List.{List}
use Rattle.std.specs.Prelude.{Option, Some, None}
use Prim.Native.Nat.{ℕ, suc, ◌+◌, ◌-◌, ◌*◌, ◌%◌, ◌^◌, ◌≤◌, ◌<◌}
use native.Mathlib.Nat.{mod-eq_of_lt, mul-le-mul_left, pow-suc}
use native.Mathlib.Omega.{arith}
use lib.IntN.{ℤ, nat_abs, ◌+ℤ◌}
use lib.ListN.{length}
use lib.Pow.{pow_pos, pow_mono, pow-add}
use Rattle.naturals.proofs.Shifts.{one_shifted}
use Rattle.numbering.specs.declared.Side.{Side}
use Rattle.numbering.specs.declared.Side.TheVariants.{Left, Right}
use Rattle.numbering.specs.Point.{at}
use Rattle.hierarchy.specs.Turns.{value_at, sum_on}
use Rattle.shapes.specs.Shapes.{points_of}
use Rattle.grids.specs.Grids.{neighbour}
use Rattle.neighbours.specs.declared.facets.Line.{Line}
use Rattle.neighbours.specs.declared.facets.Rims.{Rims}
use Rattle.neighbours.specs.declared.subspaces.Subspace.{Subspace}
use Rattle.neighbours.specs.Facets.{further, moved_on}
use Rattle.neighbours.specs.Steps.{parent_from, rims_of}
use Rattle.neighbours.proofs.Seeing.{seen}
use Rattle.neighbours.proofs.Beside.{bits, end_inside, first_small}
use Rattle.neighbours.proofs.Runs as runs
use Rattle.lists.specs.Steps.{OnAxis, value_in, RoomIn, Source, SourceAcross, edge_sum, RunStepped, Stepped, Workable, BlockAt}
use Rattle.lists.proofs.Running.{run_few}
use Rattle.lists.proofs.Joining.{none_stepped, stepped_few, outside, run_joins}
use Rattle.lists.proofs.Sums.{Parents, Borders, border_parents, block_rims, near_at, all_digits, block_end, run_inside, all_apart, first_left, last_right, near_left, near_right, far_left, far_right, run_apart, run_within, sum_between, sum_from_border, sum_to_border}

-- A table of the shape that a line lies in.
pub on_line : (line : Line) {xs : List ℤ} → length xs ≡ points_of line.shape → OnAxis line.shape line.place xs
on_line line long = record { few = line.few; low = line.top; place = line.axis; long = long }

-- It is small.
pub table_small : (v : Subspace) (xs : List ℤ) → OnAxis v.facet.line.shape v.facet.line.place xs → length xs < 2 ^ 32
table_small v xs on = omega (arith, on.long, v.facet.line.small)

-- ---- the numbers that the code computes: no shift loses a bit

module _ {v : Subspace} {starts : List ℕ} {first beyond : ℕ} {xs : List ℤ} (w : Workable v starts first xs) (b : BlockAt v first beyond) where
  pairs_is : 1 * 2 ^ (v.own - 1) % 2 ^ 32 ≡ 2 ^ (v.own - 1)
  pairs_is = one_shifted 32 (v.own - 1) (omega (arith, bits (seen v)))

  pairs_small : 2 ^ (v.own - 1) ≤ 2 ^ 7
  pairs_small = pow_mono {i = v.own - 1} {j = 7} (omega (arith, bits (seen v)))

  pub beyond_small : beyond < 2 ^ 8
  beyond_small = runs.beyond_small (seen v) beyond (omega (arith, b.first, b.inside))

  pub shift_small : beyond * 2 ^ (v.low + v.own - 1) < 2 ^ 16
  shift_small = omega (arith, beyond_small, mul-le-mul_left beyond (pow_mono {i = v.low + v.own - 1} {j = 8} (omega (arith, bits (seen v)))))

  shift_is : beyond * 2 ^ (v.low + v.own - 1) % 2 ^ 64 ≡ beyond * 2 ^ (v.low + v.own - 1)
  shift_is = mod-eq_of_lt (omega (arith, shift_small))

  pub near_is : at starts 1 + beyond * 2 ^ (v.low + v.own - 1) % 2 ^ 64 ≡ near_at v starts beyond 0
  near_is = omega (arith, shift_is)

  pub start_small_lem : 1 ≤ v.own → at starts 1 < 2 ^ 32
  start_small_lem moves = first_small (seen v) w.below 1 (omega arith) moves

-- ---- the next run

-- A block, and the width of its runs.
pub record Here (v : Subspace) (starts : List ℕ) (first beyond width : ℕ) (xs : List ℤ) : Type 0 where
  pub work : Workable v starts first xs
  pub block : BlockAt v first beyond
  pub wide : width ≡ 2 ^ v.low

-- The first e runs of a block are done, and the next begins at number x.
pub record RunsDone (ahead : Bool) (v : Subspace) (first e x : ℕ) (xs : List ℤ) (k : ℕ) (ys : List ℤ) : Type 0 where
  pub place : x ≡ first + e * 2 ^ v.low
  pub stepped : Stepped ahead v.facet.line.shape v.facet.line.place first x xs k ys

-- All that the next one needs: it has the digit e on the axis.
pub record NextRun (ahead : Bool) (v : Subspace) (first width : ℕ) (xs : List ℤ) (e x k : ℕ) (ys : List ℤ) : Type 0 where
  pub starts : List ℕ
  pub beyond : ℕ
  pub here : Here v starts first beyond width xs
  pub done : RunsDone ahead v first e x xs k ys
  pub digit : e < 2 ^ v.own

abbrev parents_sum : Subspace → List ℤ → ℕ → ℤ
parents_sum v ys p = sum_on (neighbour v.facet.line.shape) v.facet.line.place (value_at ys) (suc p)

-- It lies beside the border, and its parents on the other side are the points from number a on.
pub record Edge (ahead : Bool) (v : Subspace) (side : Side) (rims : Option Rims) (first width : ℕ) (xs : List ℤ) (e x a k : ℕ) (ys : List ℤ) : Type 0 where
  pub next : NextRun ahead v first width xs e x k ys
  pub across : SourceAcross x width side rims ys
  pub source : Source x width a ys
  pub sums : (i : ℕ) → i < 2 ^ v.low → edge_sum ys side rims a i ≡ parents_sum v ys (x + i)

-- Its parents are the points from number a on, and those from number c on.
pub record Between (ahead : Bool) (v : Subspace) (first width : ℕ) (xs : List ℤ) (e x a c k : ℕ) (ys : List ℤ) : Type 0 where
  pub next : NextRun ahead v first width xs e x k ys
  pub left : Source x width a ys
  pub right : Source x width c ys
  pub sums : (i : ℕ) → i < 2 ^ v.low → value_in ys a i +ℤ value_in ys c i ≡ parents_sum v ys (x + i)

module _ {ahead : Bool} {v : Subspace} {first width : ℕ} {xs : List ℤ} {e x k : ℕ} {ys : List ℤ} (r : NextRun ahead v first width xs e x k ys) where
  from_first : v.start ≤ first
  from_first = omega (arith, r.here.block.first)

  from_here : first ≤ x
  from_here = omega (arith, r.done.place)

  inside_block : x + width ≤ first + 2 ^ (v.low + v.own)
  inside_block = omega (arith, r.here.wide, run_inside (seen v) r.here.block e x r.digit r.done.place)

  inside_list : x + width ≤ v.end
  inside_list = omega (arith, inside_block, block_end (seen v) r.here.block)

  pub run_end : x + width ≤ length ys
  run_end = omega (arith, inside_list, end_inside (seen v), r.here.work.axis.long, r.done.stepped.long)

  pub long_small : length ys < 2 ^ 32
  long_small = omega (arith, r.done.stepped.long, table_small v xs r.here.work.axis)

  pub end_small : x + width < 2 ^ 32
  end_small = omega (arith, run_end, long_small)

  pub room_here : RoomIn x width ys
  room_here i h =
      omega (arith, ap nat_abs (r.done.stepped.off (x + i) (inr (omega arith))), r.here.work.room (x + i) (inr (omega (arith, from_here))))

  -- Its parents stand apart from the level list, and none has moved.
  pub source_of : {side : Side} {a : ℕ} → Parents v side x a → Source x width a ys
  source_of {side} {a} parents =
      let clear : (a + 2 ^ v.low ≤ v.start) ⊎ (v.end ≤ a) = run_apart (seen v) r.here.block e x r.digit r.done.place side a parents in
      record {
        clear =
            ⊎_elim
            (λ before. inl (omega (arith, before, r.here.wide, from_first, from_here)))
            (λ behind. inr (omega (arith, behind, inside_list)))
            clear;
        inside =
            omega (
              arith,
              run_within (seen v) r.here.block e x r.digit r.done.place side a parents,
              r.here.wide,
              r.here.work.axis.long,
              r.done.stepped.long,
            );
        room =
            λ i h.
            ⊎_elim
            (λ before.
            omega (
              arith,
              ap nat_abs (r.done.stepped.off (a + i) (inl (omega (arith, before, r.here.wide, from_first)))),
              r.here.work.room (a + i) (inl (omega (arith, before, r.here.wide))),
            ))
            (λ behind.
            omega (
              arith,
              ap nat_abs (r.done.stepped.off (a + i) (inr (omega (arith, behind, inside_list)))),
              r.here.work.room (a + i) (inr (omega (arith, behind, inside_list, from_here))),
            ))
            clear;
      }

  module _ {k' : ℕ} {sum : ℕ → ℤ} {zs : List ℤ} (run : RunStepped ahead x width sum ys k' zs) where
    -- There are few odd sums.
    pub odds_few : k + k' ≤ 2 ^ 33
    odds_few = omega (arith, stepped_few r.done.stepped, run_few run, end_small)

    pub run_done : ((i : ℕ) → i < 2 ^ v.low → sum i ≡ parents_sum v ys (x + i)) → (e' : ℕ) → e' ≡ suc e → RunsDone ahead v first e' (x + width) xs (k + k') zs
    run_done sums e' more =
        record {
          place = rw more (omega (arith, r.done.place, r.here.wide));
          stepped =
              run_joins r.done.stepped from_here run
              (λ i h. sums i (omega (arith, r.here.wide)))
              (λ i h side.
              ⊎_elim
              (λ low. inl (omega (arith, low, from_first)))
              (λ high. inr (omega (arith, high, inside_list)))
              (outside (neighbour v.facet.line.shape) v.facet.line.place (all_apart (seen v) r.here.block e x r.digit r.done.place i (omega (arith, r.here.wide)) side)));
        }

-- What a run asks.
module _ {ahead : Bool} {v : Subspace} {side : Side} {rims : Option Rims} {first width : ℕ} {xs : List ℤ} {e x a k : ℕ} {ys : List ℤ}
    (r : Edge ahead v side rims first width xs e x a k ys) where
  pub edge_asks : SourceAcross x width side rims ys × Source x width a ys × (x + width ≤ length ys) × (length ys < 2 ^ 32) × RoomIn x width ys
  edge_asks = (r.across, r.source, run_end r.next, long_small r.next, room_here r.next)

module _ {ahead : Bool} {v : Subspace} {first width : ℕ} {xs : List ℤ} {e x a c k : ℕ} {ys : List ℤ} (r : Between ahead v first width xs e x a c k ys) where
  pub between_asks : Source x width a ys × Source x width c ys × (x + width ≤ length ys) × (length ys < 2 ^ 32) × RoomIn x width ys
  between_asks = (r.left, r.right, run_end r.next, long_small r.next, room_here r.next)

-- ---- the runs of the code

module _ {v : Subspace} {starts : List ℕ} {first beyond width : ℕ} {xs : List ℤ} (h : Here v starts first beyond width xs) where
  abbrev w : Workable v starts first xs
  w = h.work

  module _ {ahead : Bool} {e x k : ℕ} {ys : List ℤ} (done : RunsDone ahead v first e x xs k ys) (digit : e < 2 ^ v.own) where
    next_run : NextRun ahead v first width xs e x k ys
    next_run = record { starts = starts; beyond = beyond; here = h; done = done; digit = digit }

    from_border : {rims : Option Rims} {a : ℕ} → Borders v Left rims x → Parents v Right x a → Edge ahead v Left rims first width xs e x a k ys
    from_border left right =
        record {
          next = next_run;
          across = λ r e. source_of next_run (border_parents left r e);
          source = source_of next_run right;
          sums = sum_from_border (value_at ys) left right;
        }

    to_border : {rims : Option Rims} {a : ℕ} → Parents v Left x a → Borders v Right rims x → Edge ahead v Right rims first width xs e x a k ys
    to_border left right =
        record {
          next = next_run;
          across = λ r e. source_of next_run (border_parents right r e);
          source = source_of next_run left;
          sums = sum_to_border (value_at ys) left right;
        }

    between : {a c : ℕ} → Parents v Left x a → Parents v Right x c → Between ahead v first width xs e x a c k ys
    between left right =
        record { next = next_run; left = source_of next_run left; right = source_of next_run right; sums = sum_between (value_at ys) left right }

  none_done : {ahead : Bool} → RunsDone ahead v first 0 first xs 0 xs
  none_done {ahead} = record { place = omega arith; stepped = none_stepped ahead v.facet.line.shape v.facet.line.place first xs }

  module _ (moves : 1 ≤ v.own) where
    -- The first run has the border at its left, and its parents at the right are from number `near` on.
    pub first_run : {ahead : Bool} {near : ℕ} → near ≡ near_at v starts beyond 0 → Edge ahead v Left (block_rims v beyond) first width xs 0 first near 0 xs
    first_run {ahead} {near} near_at_lem =
        let digit : 0 < 2 ^ v.own = pow_pos v.own in
        let none : RunsDone ahead v first 0 first xs 0 xs = none_done in
        from_border none digit
        (first_left (seen v) h.block 0 first digit none.place refl)
        (near_right (seen v) h.block 0 first digit none.place w.below moves 0 (pow_pos (v.own - 1)) near near_at_lem refl)

    pub one_pair : 1 ≤ 1 * 2 ^ (v.own - 1) % 2 ^ 32
    one_pair = omega (arith, pairs_is w h.block, pow_pos (v.own - 1))

    -- A turn of the loop.
    module _ {j : ℕ} (some : 1 ≤ j) (more : j < 1 * 2 ^ (v.own - 1) % 2 ^ 32) where
      in_row : j < 2 ^ (v.own - 1)
      in_row = omega (arith, more, pairs_is w h.block)

      digits : 2 * j < 2 ^ v.own
      digits = omega (arith, in_row, all_digits v.own moves)

      pub numerator_small : 4 * j < 2 ^ 9
      numerator_small = omega (arith, in_row, pairs_small w h.block)

      pub numerator_inside : 4 * j < 2 ^ suc v.own
      numerator_inside = omega (arith, digits, pow-suc 2 v.own)

      -- After it `near` is one run on.
      pub next_near : {near : ℕ} → near ≡ near_at v starts beyond (j - 1) → near + width ≡ near_at v starts beyond j
      next_near near_at_lem =
          let again : suc (j - 1) ≡ j = omega (arith, some) in
          omega (arith, near_at_lem, h.wide, ap (λ (i : ℕ). i * 2 ^ v.low) again)

      -- The run with the digit 2j − 1 has its left parents at `near` and its right ones at `far`; the one with 2j has its left ones at `far`.
      module _ {far : ℕ} (found : far ≡ parent_from v starts 0 beyond (4 * j)) {ahead : Bool} {x near k : ℕ} {ys : List ℤ} where
        pub up_run : RunsDone ahead v first (2 * j - 1) x xs k ys → near ≡ near_at v starts beyond (j - 1) →
            Between ahead v first width xs (2 * j - 1) x near far k ys
        up_run done near_at_lem =
            let digit : 2 * j - 1 < 2 ^ v.own = omega (arith, digits) in
            between done digit
            (near_left (seen v) h.block (2 * j - 1) x digit done.place w.below moves (j - 1) (omega (arith, in_row)) near near_at_lem (omega (arith, some)))
            (far_right (seen v) h.block (2 * j - 1) x digit done.place w.below moves j in_row some far found (omega (arith, some)))

        pub down_run : RunsDone ahead v first (2 * j) x xs k ys → near ≡ near_at v starts beyond j → Between ahead v first width xs (2 * j) x far near k ys
        down_run done near_at_lem =
            between done digits
            (far_left (seen v) h.block (2 * j) x digits done.place w.below moves j in_row some far found refl)
            (near_right (seen v) h.block (2 * j) x digits done.place w.below moves j in_row near near_at_lem refl)

    -- The last run has the border at its right.
    pub last_run : {ahead : Bool} {j x near k : ℕ} {ys : List ℤ} → 1 ≤ j → j ≤ 1 * 2 ^ (v.own - 1) % 2 ^ 32 → 1 * 2 ^ (v.own - 1) % 2 ^ 32 ≤ j →
        RunsDone ahead v first (2 * j - 1) x xs k ys → near ≡ near_at v starts beyond (j - 1) →
        Edge ahead v Right (block_rims v beyond) first width xs (2 ^ v.own - 1) x near k ys
    last_run {j = j} {x} {near} some most end done near_at_lem =
        let all : j ≡ 2 ^ (v.own - 1) = omega (arith, most, end, pairs_is w h.block) in
        let full = all_digits v.own moves in
        let last : 2 * j - 1 ≡ 2 ^ v.own - 1 = omega (arith, all, full) in
        let done_now = rw last at done in
        let e : ℕ = 2 ^ v.own - 1 in
        let digit : e < 2 ^ v.own = omega (arith, some, all, full) in
        to_border done_now digit
        (near_left (seen v) h.block e x digit done_now.place w.below moves (j - 1) (omega (arith, some, all)) near near_at_lem (omega (arith, some, last)))
        (last_right (seen v) h.block e x digit done_now.place (omega (arith, digit)))

-- With the last one all runs are done, and they make the block.
pub block_done : {ahead : Bool} {v : Subspace} {first width e : ℕ} {xs : List ℤ} {x k k' : ℕ} {sum : ℕ → ℤ} {ys zs : List ℤ} →
    (r : NextRun ahead v first width xs e x k ys) → suc e ≡ 2 ^ v.own → RunStepped ahead x width sum ys k' zs →
    ((i : ℕ) → i < 2 ^ v.low → sum i ≡ sum_on (neighbour v.facet.line.shape) v.facet.line.place (value_at ys) (suc (x + i))) →
    Stepped ahead v.facet.line.shape v.facet.line.place first (first + 2 ^ (v.low + v.own)) xs (k + k') zs
block_done {v = v} {first} {width} {x = x} r last run sums =
    let all = run_done r run sums (2 ^ v.own) (sym last) in
    let end : x + width ≡ first + 2 ^ (v.low + v.own) = omega (arith, all.place, pow-add 2 v.low v.own) in
    rw end at all.stepped

-- ---- what lies across the border of a block

module _ {v : Subspace} {starts : List ℕ} {first beyond width : ℕ} {xs : List ℤ} (h : Here v starts first beyond width xs) (r : Rims) (there : rims_of v ≡ Some r) where
  block_some : block_rims v beyond ≡ Some (further r (beyond * 2 ^ v.low))
  unfolding moved_on
  block_some = ap (λ (o : Option Rims). moved_on o (beyond * 2 ^ v.low)) there

  -- It lies within the table, so its numbers are small.
  lower_small : r.lower + beyond * 2 ^ v.low < 2 ^ 32
  lower_small =
      let digit : 0 < 2 ^ v.own = pow_pos v.own in
      let place : first ≡ first + 0 * 2 ^ v.low = omega arith in
      omega (
        arith,
        run_within (seen v) h.block 0 first digit place Left _ (border_parents (first_left (seen v) h.block 0 first digit place refl) _ block_some),
        v.facet.line.small,
      )

  upper_small : r.upper + beyond * 2 ^ v.low < 2 ^ 32
  upper_small =
      let e : ℕ = 2 ^ v.own - 1 in
      let some : 0 < 2 ^ v.own = pow_pos v.own in
      let digit : e < 2 ^ v.own = omega (arith, some) in
      let last : suc e ≡ 2 ^ v.own = omega (arith, some) in
      omega (
        arith,
        run_within (seen v) h.block e (first + e * 2 ^ v.low) digit refl Right _
            (border_parents (last_right (seen v) h.block e (first + e * 2 ^ v.low) digit refl last) _ block_some),
        v.facet.line.small,
      )

  pub rims_small : (r.lower + beyond * 2 ^ v.low < 2 ^ 64) × (r.upper + beyond * 2 ^ v.low < 2 ^ 64)
  rims_small = (omega (arith, lower_small), omega (arith, upper_small))

  -- The shift loses no bit.
  pub rims_shifted : beyond * 2 ^ v.low % 2 ^ 64 ≡ beyond * 2 ^ v.low
  rims_shifted = mod-eq_of_lt (omega (arith, lower_small))

  pub rims_handed : (x : Rims) → x ≡ further r (beyond * 2 ^ v.low % 2 ^ 64) → Some x ≡ block_rims v beyond
  rims_handed x e = ap Some (e ∙ ap (further r) rims_shifted) ∙ sym block_some

pub no_rims : (v : Subspace) (beyond : ℕ) → rims_of v ≡ None → None ≡ block_rims v beyond
unfolding moved_on
no_rims v beyond none = sym (ap (λ (o : Option Rims). moved_on o (beyond * 2 ^ v.low)) none)
