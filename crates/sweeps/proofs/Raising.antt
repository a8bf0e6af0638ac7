-- The way back over a face, from the first level list up. Of the level sum that it is at, the first b lists are done, and all lists of the sums below; their
-- points hold what the whole turn leaves them. A level list is worked when all before it are done: its parents before it are final, and those elsewhere do not
-- move; so its points are final then, and their odd sums are those of the table at the end. Since a value goes by those of its own line alone, and the parents of
-- a face's points are in the face or do not move, what the rest of the table holds does not matter.
-- Assumes nothing.
use mathlib.Core.Path.{◌≡◌, ap, ap₂, sym, ◌∙◌}
use mathlib.Core.Bool.{false}
use mathlib.Core.Logic.{inl, inr, ⊎_elim}
use mathlib.Core.List.{List, ◌∷◌}
use Prim.Native.Nat.{ℕ, zero, suc, ◌+◌, ◌*◌, ◌%◌, ◌^◌, ◌≤◌, ◌<◌}
use native.Mathlib.Nat.{mul-suc, mul-zero}
use native.Mathlib.Omega.{arith}
use lib.IntN.{ℤ}
use lib.ListN.{length}
use Rattle.naturals.proofs.Shifts.{one_shifted}
use Rattle.numbering.specs.Count.{vectors, start}
use Rattle.numbering.specs.Point.{at}
use Rattle.numbering.specs.Number.{rank, first_of}
use Rattle.numbering.proofs.Numbering.{points_is, start_suc}
use Rattle.hierarchy.specs.Turns.{value_at}
use Rattle.shapes.specs.Shapes.{points_of}
use Rattle.shapes.proofs.Totals.{start_zero}
use Rattle.grids.specs.Grids.{height}
use Rattle.walks.specs.Walks.{walk_up}
use Rattle.vectors.specs.declared.LevelVector.{LevelVector}
use Rattle.neighbours.specs.declared.facets.Facet.{Facet}
use Rattle.neighbours.specs.declared.subspaces.Subspace.{Subspace}
use Rattle.lists.specs.Lists.{odd_sums, turned_between, list_worked, first_in, end_of, whole_turn, ListTurned}
use Rattle.lists.specs.Steps.{NoLarger}
use Rattle.lists.proofs.Turned.{Comes, comes_apart}
use Rattle.sweeps.specs.Sweeps.{lists_worked}
use Rattle.sweeps.proofs.Ranks.{first_at, Follows, last_of_all}
use Rattle.sweeps.proofs.Room.{former_within}
use Rattle.sweeps.proofs.Parted.{Parted, none_parted, parted_list, parted_within, moved_up}
use Rattle.sweeps.proofs.Odds.{odds_few}
use Rattle.sweeps.proofs.Faces.{former_odds}
use Rattle.sweeps.proofs.Walking.{worked_long, same_walk, first_worked, none_worked, left_up, up_all, up_first, up_sum, up_none}
use Rattle.neighbours.proofs.Staying.{facet_end}
use Rattle.sweeps.proofs.Standing.{Standing, first_at_lem, rank_in, levels_of_rank, end_inside, vector_in}
use Rattle.sweeps.proofs.Coming.{vector_worked}
use Rattle.sweeps.proofs.Meeting.{Met, met_start, met_end, met_odds}

-- The table that the whole turn takes to xs.
abbrev pub former_on : Facet → List ℤ → List ℤ
former_on facet xs = whole_turn false facet.line.shape facet.line.place xs

-- Of the sum the first b lists are done; from the first number of the face to number k the table ys is final, and so many sums were odd there.
pub record Raising (facet : Facet) (xs : List ℤ) (sum b k odd : ℕ) (ys : List ℤ) : Type 0 where
  pub first : k ≡ facet.base + first_at facet.axes sum b
  pub parted : Parted (points_of facet.line.shape) facet.base k xs (former_on facet xs) ys
  pub odds : odd_sums facet.line.shape facet.line.place (former_on facet xs) facet.base + odd
      ≡ odd_sums facet.line.shape facet.line.place (former_on facet xs) k
  pub walked : lists_worked false facet.line.shape facet.line.place facet.base facet.axes (left_up facet.axes facet.line.shape.level sum b) ys
      ≡ lists_worked false facet.line.shape facet.line.place facet.base facet.axes (walk_up facet.axes facet.line.shape.level) xs

module _ (facet : Facet) (xs : List ℤ) (long : length xs ≡ points_of facet.line.shape) where
  few_levels : height facet.line.shape ≤ 10
  unfolding height
  few_levels = omega (arith, facet.line.top)

  -- At the start none is done.
  pub raising_starts : Raising facet xs 0 0 facet.base 0 xs
  raising_starts =
      record {
        first = omega (arith, start_zero facet.axes);
        parted = none_parted _ facet.base xs (former_on facet xs) long;
        odds = omega arith;
        walked = same_walk false facet.line.shape facet.line.place facet.base facet.axes xs (up_all facet.axes facet.line.shape.level);
      }

  module _ {sum b k odd : ℕ} {ys : List ℤ} (s : Raising facet xs sum b k odd ys) where
    -- The values have room for a step.
    pub raising_room : NoLarger (2 ^ 57) xs → NoLarger (2 ^ 61) ys
    unfolding whole_turn
    raising_room small =
        parted_within s.parted (2 ^ 61)
        (λ code. omega (arith, small code))
        (λ code. omega (arith, former_within facet.line.shape facet.line.place xs (2 ^ 57) long few_levels small code))

    -- No more sums are odd than there are points.
    pub raising_few : odd ≤ k
    raising_few = omega (arith, s.odds, odds_few facet.line.shape facet.line.place (former_on facet xs) k)

    -- Where all lists of the sum are done, none of the next sum is.
    raising_sum : sum < facet.line.shape.level → b ≡ vectors facet.axes sum → Raising facet xs (suc sum) 0 k odd ys
    raising_sum more all =
        record {
          first = omega (arith, s.first, ap (first_at facet.axes sum) all, mul-zero (2 ^ suc sum), start_suc facet.axes sum);
          parted = s.parted;
          odds = s.odds;
          walked =
              same_walk false facet.line.shape facet.line.place facet.base facet.axes ys
              (sym (ap (left_up facet.axes facet.line.shape.level sum) all ∙ up_sum facet.axes facet.line.shape.level sum more))
              ∙ s.walked;
        }

    -- At the end of the face none is left.
    module _ (done : k ≡ facet_end facet) where
      pub raising_former : ys ≡ turned_between false facet.line.shape facet.line.place facet.base (facet_end facet) xs
      unfolding turned_between
      raising_former = parted_list (rw done at s.parted)

      pub raising_odds : odd_sums facet.line.shape facet.line.place ys facet.base + odd ≡ odd_sums facet.line.shape facet.line.place ys (facet_end facet)
      raising_odds = former_odds facet xs ys long (rw done at s.parted) odd (rw done at s.odds)

  module _ {sum r k odd : ℕ} {ys : List ℤ} (s : Raising facet xs sum (suc r) k odd ys) where
    -- The list that comes next is the first of those that are left.
    pub raising_next : {sum' r' : ℕ} → sum' ≤ facet.line.shape.level → Follows facet.axes sum r sum' r' → Raising facet xs sum' r' k odd ys
    raising_next low =
        ⊎_elim
        (λ same. rw (same.0, same.1) s)
        (λ above. rw (above.0, above.1) (raising_sum s (omega (arith, above.0)) above.2))

    pub raising_walked : sum ≤ facet.line.shape.level → r < vectors facet.axes sum → k ≡ facet_end facet →
        ys ≡ lists_worked false facet.line.shape facet.line.place facet.base facet.axes (walk_up facet.axes facet.line.shape.level) xs
    raising_walked low in_sum done =
        let end : first_at facet.axes sum r + 2 ^ sum ≡ start facet.axes (suc facet.line.shape.level)
        = omega (arith, s.first, done, mul-suc (2 ^ sum) r, points_is facet.axes facet.line.shape.level) in
        let all = last_of_all facet.axes (omega (arith, facet.inner)) sum r in_sum facet.line.shape.level low end in
        none_worked false facet.line.shape facet.line.place facet.base facet.axes ys
        (ap₂ (left_up facet.axes facet.line.shape.level) all.0 (all.1 ∙ ap (vectors facet.axes) all.0) ∙ up_none facet.axes facet.line.shape.level)
        ∙ s.walked

  -- The first list that is left of the sum.
  module _ {vector : LevelVector} {k odd : ℕ} {ys : List ℤ} (here : Standing facet vector)
      (s : Raising facet xs vector.sum (rank (at vector.levels) facet.axes) k odd ys) where
    pub raising_first : k ≡ first_in facet.base facet.axes (at vector.levels)
    raising_first = s.first ∙ ap (λ (p : ℕ). facet.base + p) (sym (first_at_lem (vector_in here)))

    -- Its end, as the code reckons it.
    pub raising_end : k + 1 * 2 ^ vector.sum % 2 ^ 64 ≡ facet.base + first_of facet.axes (at vector.levels) + 2 ^ vector.sum
    raising_end = omega (arith, raising_first, one_shifted 64 vector.sum (omega (arith, here.low, facet.line.top)))

    ends_list : k + 1 * 2 ^ vector.sum % 2 ^ 64 ≡ end_of facet.base facet.axes (at vector.levels)
    ends_list = raising_end ∙ ap (λ (u : ℕ). facet.base + first_of facet.axes (at vector.levels) + 2 ^ u) (sym (vector_in here).total)

    pub raising_inside : k + 1 * 2 ^ vector.sum % 2 ^ 64 ≤ facet_end facet
    raising_inside = omega (arith, raising_end, end_inside here)

    -- The turn comes to it.
    before : (q : ℕ) → facet.base < q → q ≤ k → value_at ys q ≡ value_at (former_on facet xs) q
    before zero from low = absurd (omega arith)
    before (suc p) from low = s.parted.inside p (omega arith) (omega arith)

    still : (q : ℕ) → k < q → value_at ys q ≡ value_at xs q
    still zero high = absurd (omega arith)
    still (suc p) high = s.parted.others p (inr (omega arith))

    comes : Comes false facet.line.shape facet.line.place facet.base (first_in facet.base facet.axes (at vector.levels)) (end_of facet.base facet.axes (at vector.levels)) xs ys
    comes =
        record {
          here = λ p from to. s.parted.others p (inr (omega (arith, from, raising_first)));
          before = λ q from low. before q from (omega (arith, low, raising_first));
          still = λ q high stays. still q (omega (arith, high, raising_first));
        }

    list_first : left_up facet.axes facet.line.shape.level vector.sum (rank (at vector.levels) facet.axes) ≡ at vector.levels ∷ left_up facet.axes facet.line.shape.level vector.sum (suc (rank (at vector.levels) facet.axes))
    list_first =
        up_first facet.axes facet.line.shape.level vector.sum (rank (at vector.levels) facet.axes) (rank_in (vector_in here))
        ∙ ap (λ (l : ℕ → ℕ). l ∷ left_up facet.axes facet.line.shape.level vector.sum (suc (rank (at vector.levels) facet.axes))) (levels_of_rank (vector_in here))

    module _ (zs : List ℤ) (more : ℕ) (worked : zs ≡ list_worked false facet.line.shape facet.line.place facet.base facet.axes (at vector.levels) ys)
        (counted : odd_sums facet.line.shape facet.line.place (former_on facet xs) (first_in facet.base facet.axes (at vector.levels)) + more
        ≡ odd_sums facet.line.shape facet.line.place (former_on facet xs) (end_of facet.base facet.axes (at vector.levels)))
        (turned : ListTurned false facet.line.shape facet.line.place facet.base facet.axes (at vector.levels) xs ys zs) where
      list_parted : Parted (points_of facet.line.shape) facet.base (end_of facet.base facet.axes (at vector.levels)) xs (former_on facet xs) zs
      list_parted =
          moved_up s.parted zs
          (ap length worked ∙ worked_long false facet.line.shape facet.line.place facet.base facet.axes (at vector.levels) ys)
          (end_of facet.base facet.axes (at vector.levels)) (omega (arith, raising_first)) (omega (arith, raising_first))
          (λ p from to. turned.holds p (omega (arith, from, raising_first)) to)
          (λ p outside. turned.others p (⊎_elim (λ low. inl (omega (arith, low, raising_first))) (λ high. inr high) outside))

      list_done : Raising facet xs vector.sum (suc (rank (at vector.levels) facet.axes)) (end_of facet.base facet.axes (at vector.levels)) (odd + more) zs
      list_done =
          record {
            first = omega (arith, ends_list, raising_end, first_at_lem (vector_in here), mul-suc (2 ^ vector.sum) (rank (at vector.levels) facet.axes));
            parted = list_parted;
            odds = omega (arith, counted, s.odds, ap (odd_sums facet.line.shape facet.line.place (former_on facet xs)) raising_first);
            walked = first_worked false facet.line.shape facet.line.place facet.base facet.axes ys zs list_first worked ∙ s.walked;
          }

    -- As it is met: the work on it does its part of the turn.
    pub raising_worked : (v : Subspace) → Met facet vector v → (zs : List ℤ) (more : ℕ) →
        zs ≡ list_worked false v.facet.line.shape v.facet.line.place v.facet.base v.facet.axes (at v.vector.levels) ys →
        odd_sums v.facet.line.shape v.facet.line.place ys v.start + more ≡ odd_sums v.facet.line.shape v.facet.line.place ys v.end →
        Raising facet xs vector.sum (suc (rank (at vector.levels) facet.axes)) (k + 1 * 2 ^ vector.sum % 2 ^ 64) (odd + more) zs
    raising_worked v m zs more worked counted =
        let turned = vector_worked v false xs ys (rw m.on long) (rw m.on s.parted.long) (rw (m.on, met_start v m, met_end v m) comes) in
        let now = rw (m.on, m.same) at worked in
        rw ends_list
        (list_done zs more now
        (met_odds v m (former_on facet xs) ys (comes_apart false long comes) more counted)
        (rw now (rw (m.on, m.same) at turned)))
