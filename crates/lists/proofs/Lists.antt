-- A level list, block after block from its first point on: all parents stand apart from the list, so the blocks join.
-- Assumes nothing.
use mathlib.Core.Path.{◌≡◌, refl, ap, ap₂, sym, ◌∙◌}
use mathlib.Core.Logic.{inl, inr, ⊎_elim}
use mathlib.Core.Bool.{Bool}
use mathlib.Core.List.{List}
use Prim.Native.Nat.{ℕ, zero, suc, ◌+◌, ◌-◌, ◌*◌, ◌%◌, ◌^◌, ◌≤◌, ◌<◌}
use native.Mathlib.Nat.{mod-eq_of_lt, mul-le-mul_right}
use native.Mathlib.Omega.{arith}
use lib.IntN.{ℤ, nat_abs}
use lib.ListN.{length}
use lib.Pow.{pow_pos, pow_mono, pow-add}
use Rattle.naturals.specs.Sum.{sum_to}
use Rattle.naturals.proofs.Cases.{le_or_lt}
use Rattle.naturals.proofs.Shifts.{one_shifted}
use Rattle.naturals.proofs.Sums.{sum_to_suc, sum_to_mono}
use Rattle.numbering.specs.declared.Side.{Side}
use Rattle.numbering.specs.Point.{at}
use Rattle.hierarchy.specs.Turns.{value_at}
use Rattle.hierarchy.proofs.Values.{value_zero}
use Rattle.hierarchy.proofs.Sweeps.{list_of_values}
use Rattle.shapes.specs.declared.Shape.{Shape}
use Rattle.shapes.specs.Shapes.{points_of}
use Rattle.grids.specs.Grids.{neighbour}
use Rattle.neighbours.specs.declared.subspaces.Subspace.{Subspace}
use Rattle.neighbours.specs.Facets.{Apart}
use Rattle.neighbours.specs.Steps.{Below}
use Rattle.neighbours.proofs.Seeing.{Seen, seen, vector_of}
use Rattle.neighbours.proofs.Beside.{end_inside, beside_apart}
use Rattle.lists.specs.Lists.{between, stepped_at, stepped_between, list_worked}
use Rattle.lists.specs.Steps.{OnAxis, NoLarger, Stepped, Workable, BlockAt}
use Rattle.lists.proofs.Between.{between_low, between_inside, between_high}
use Rattle.lists.proofs.Joining.{outside, stepped_few, part_joins}
use Rattle.lists.proofs.Blocks.{table_small}

-- ---- the list as a table

-- The stepped points from number lo to hi − 1, as the definition has them.
stepped_list : {ahead : Bool} {s : Shape} {t lo hi k : ℕ} {xs ys : List ℤ} → Stepped ahead s t lo hi xs k ys → length xs ≡ points_of s → lo ≤ hi →
    ys ≡ stepped_between ahead s t lo hi xs
unfolding stepped_between
stepped_list {ahead} {s} {t} {lo} {hi} {k} {xs} {ys} done long order =
    list_of_values (points_of s) ys (between lo hi made old) (done.long ∙ long) holds
  where
    made : ℕ → ℤ
    made = stepped_at ahead s t (value_at xs)

    old : ℕ → ℤ
    old = value_at xs

    holds : (q : ℕ) → value_at ys q ≡ between lo hi made old q
    holds zero = value_zero ys ∙ sym (between_low lo hi made old 0 (omega arith) ∙ value_zero xs)
    holds (suc p) =
        le_or_lt (suc p) lo
        (λ low. done.off p (inl low) ∙ sym (between_low lo hi made old (suc p) low))
        (λ from.
        le_or_lt (suc p) hi
        (λ to. done.on p (omega arith) to ∙ sym (between_inside lo hi made old (suc p) from to))
        (λ high. done.off p (inr (omega arith)) ∙ sym (between_high lo hi made old (suc p) from high)))

module _ {v : Subspace} (s : Seen v) where
  pub some_points : v.start < v.end
  some_points = omega (arith, s.end, pow_pos (sum_to (at v.vector.levels) v.facet.axes))

  -- All parents stand apart from the list.
  pub list_apart : (p : ℕ) → v.start ≤ p → p < v.end → (b : Side) →
      Apart (neighbour v.facet.line.shape) v.facet.line.place v.facet.base v.start v.end (neighbour v.facet.line.shape v.facet.line.place b (suc p))
  list_apart p from to b = beside_apart s p from to b

  pub list_worked_lem : {ahead : Bool} {k : ℕ} {xs ys : List ℤ} → OnAxis v.facet.line.shape v.facet.line.place xs →
      Stepped ahead v.facet.line.shape v.facet.line.place v.start v.end xs k ys → ys ≡ list_worked ahead v.facet.line.shape v.facet.line.place v.facet.base v.facet.axes (at v.vector.levels) xs
  unfolding list_worked
  list_worked_lem {ahead} {k} {xs} {ys} on done =
      stepped_list done on.long (omega (arith, some_points))
      ∙ ap₂ (λ (lo hi : ℕ). stepped_between ahead v.facet.line.shape v.facet.line.place lo hi xs) s.start (omega (arith, s.start, s.end))

-- ---- block after block

-- The first point of a block, and how many blocks there are.
abbrev pub block_at : Subspace → ℕ → ℕ
block_at v beyond = v.start + beyond * 2 ^ (v.low + v.own)

abbrev pub blocks_of : Subspace → ℕ
blocks_of v = 1 * 2 ^ (v.vector.sum - (v.low + v.own)) % 2 ^ 64

module _ (v : Subspace) where
  pub bits_within : v.low + v.own ≤ v.vector.sum
  bits_within =
      omega (
        arith,
        v.before,
        v.there,
        (vector_of v).total,
        sum_to_suc (at v.vector.levels) v.facet.place,
        sum_to_mono (at v.vector.levels) (suc v.facet.place) v.facet.axes v.facet.inner,
      )

  blocks_whole : blocks_of v * 2 ^ (v.low + v.own) ≡ 2 ^ v.vector.sum
  blocks_whole =
      let rest : ℕ = v.vector.sum - (v.low + v.own) in
      let all : rest + (v.low + v.own) ≡ v.vector.sum = omega (arith, bits_within) in
      ap (λ (n : ℕ). n * 2 ^ (v.low + v.own)) (one_shifted 64 rest (omega (arith, v.inside, v.facet.line.top)))
      ∙ sym (pow-add 2 rest (v.low + v.own))
      ∙ ap (λ (n : ℕ). 2 ^ n) all

  -- After the last block the list ends.
  pub last_block : block_at v (blocks_of v) ≡ v.end
  last_block = omega (arith, blocks_whole, v.after)

  module _ (beyond : ℕ) (more : beyond < blocks_of v) where
    next_within : block_at v (suc beyond) ≤ v.end
    next_within = omega (arith, mul-le-mul_right {m = suc beyond} {n = blocks_of v} (2 ^ (v.low + v.own)) more, blocks_whole, v.after)

    pub block_there : BlockAt v (block_at v beyond) beyond
    block_there = record { first = refl; inside = omega (arith, next_within, pow_pos (v.low + v.own)) }

    -- Its first point, as the code has it: no bit is lost.
    pub shift_exact : beyond * 2 ^ (v.low + v.own) % 2 ^ 64 ≡ beyond * 2 ^ (v.low + v.own)
    shift_exact =
        let small : 2 ^ v.vector.sum ≤ 2 ^ 8 = pow_mono {i = v.vector.sum} {j = 8} (omega (arith, v.inside, v.facet.line.top)) in
        mod-eq_of_lt (omega (arith, next_within, v.after, small, pow_pos (v.low + v.own)))

    module _ {xs : List ℤ} (on : OnAxis v.facet.line.shape v.facet.line.place xs) where
      list_small : v.end < 2 ^ 32
      list_small = omega (arith, end_inside (seen v), on.long, table_small v xs on)

      pub block_small : block_at v beyond < 2 ^ 32
      block_small = omega (arith, next_within, list_small)

      module _ {ahead : Bool} {k : ℕ} {ys : List ℤ} (done : Stepped ahead v.facet.line.shape v.facet.line.place v.start (block_at v beyond) xs k ys) where
        -- What the next block asks.
        pub workable : {starts : List ℕ} → Below v starts → NoLarger (2 ^ 61) xs → Workable v starts (block_at v beyond) ys
        workable below within =
            record {
              below = below;
              axis = record { few = on.few; low = on.low; place = on.place; long = done.long ∙ on.long };
              room = λ p outside. omega (arith, ap nat_abs (done.off p outside), within (suc p));
            }

        module _ {k' : ℕ} {zs : List ℤ} (next : Stepped ahead v.facet.line.shape v.facet.line.place (block_at v beyond) (block_at v beyond + 2 ^ (v.low + v.own)) ys k' zs) where
          pub next_done : Stepped ahead v.facet.line.shape v.facet.line.place v.start (block_at v (beyond + 1)) xs (k + k') zs
          next_done =
              let end : block_at v beyond + 2 ^ (v.low + v.own) ≡ block_at v (beyond + 1) = omega arith in
              rw end at (part_joins done (omega arith) (omega arith) next
              (λ p from to b.
              ⊎_elim
              (λ low. inl low)
              (λ high. inr (omega (arith, high, next_within)))
              (outside (neighbour v.facet.line.shape) v.facet.line.place (list_apart (seen v) p (omega arith) (omega (arith, next_within)) b))))

          pub next_few : k + k' ≤ 2 ^ 33
          next_few =
              let end : block_at v (beyond + 1) ≡ block_at v (suc beyond) = omega arith in
              omega (arith, stepped_few next_done, end, next_within, list_small)
