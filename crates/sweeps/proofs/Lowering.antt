-- The forward way over a face, from the last level list down. Of the level sum that it is at, the first b lists are left, and all lists of the sums below; the
-- points of the others are turned. A level list is worked when it is the last of those left: what its parents hold is what they held, before it since nothing has
-- moved there, behind it since only what does not move is a parent; so its points are turned then, and their odd sums are those of the table at the start.
-- Assumes nothing.
use mathlib.Core.Path.{◌≡◌, ap, ap₂, sym, ◌∙◌}
use mathlib.Core.Bool.{true}
use mathlib.Core.Logic.{inl, inr, ⊎_elim}
use mathlib.Core.List.{List, ◌∷◌}
use Prim.Native.Nat.{ℕ, zero, suc, ◌+◌, ◌-◌, ◌*◌, ◌%◌, ◌^◌, ◌≤◌, ◌<◌}
use native.Mathlib.Nat.{mul-suc, mul-zero}
use native.Mathlib.Omega.{arith}
use lib.IntN.{ℤ}
use lib.ListN.{length}
use Rattle.naturals.proofs.Cases.{le_or_lt}
use Rattle.naturals.proofs.Shifts.{one_shifted}
use Rattle.numbering.specs.Count.{vectors}
use Rattle.numbering.specs.Point.{at}
use Rattle.numbering.specs.Number.{rank, first_of}
use Rattle.numbering.proofs.Numbering.{points_is, start_suc}
use Rattle.hierarchy.specs.Grid.{Still}
use Rattle.hierarchy.specs.Turns.{value_at}
use Rattle.shapes.specs.Shapes.{points_of}
use Rattle.grids.specs.Grids.{neighbour}
use Rattle.walks.specs.Walks.{walk_down}
use Rattle.vectors.specs.declared.LevelVector.{LevelVector}
use Rattle.neighbours.specs.declared.facets.Facet.{Facet}
use Rattle.neighbours.specs.declared.subspaces.Subspace.{Subspace}
use Rattle.lists.specs.Lists.{odd_sums, turned_between, list_worked, first_in, end_of, whole_turn, ListTurned}
use Rattle.lists.specs.Steps.{NoLarger}
use Rattle.lists.proofs.Turned.{Comes, comes_apart, still_turn}
use Rattle.sweeps.specs.Sweeps.{lists_worked}
use Rattle.sweeps.proofs.Ranks.{first_at, Follows, first_of_all}
use Rattle.sweeps.proofs.Room.{turned_within}
use Rattle.sweeps.proofs.Parted.{Parted, none_parted, parted_list, below_codes, parted_within, moved_down}
use Rattle.sweeps.proofs.Odds.{odds_few}
use Rattle.sweeps.proofs.Walking.{worked_long, same_walk, first_worked, none_worked, left_down, down_all, down_first, down_sum, down_none}
use Rattle.neighbours.proofs.Staying.{facet_end}
use Rattle.sweeps.proofs.Standing.{Standing, first_at_lem, levels_of_rank, vector_in, end_inside}
use Rattle.sweeps.proofs.Coming.{vector_worked}
use Rattle.sweeps.proofs.Meeting.{Met, met_start, met_end, met_odds}

-- The table after the whole turn.
abbrev pub turned_on : Facet → List ℤ → List ℤ
turned_on facet xs = whole_turn true facet.line.shape facet.line.place xs

-- Of the sum the first b lists are left; from number k to the end of the face the table ys is turned, and so many sums were odd there.
pub record Lowering (facet : Facet) (xs : List ℤ) (sum b k odd : ℕ) (ys : List ℤ) : Type 0 where
  pub first : k ≡ facet.base + first_at facet.axes sum b
  pub parted : Parted (points_of facet.line.shape) k (facet_end facet) xs (turned_on facet xs) ys
  pub odds : odd_sums facet.line.shape facet.line.place xs k + odd ≡ odd_sums facet.line.shape facet.line.place xs (facet_end facet)
  pub walked : lists_worked true facet.line.shape facet.line.place facet.base facet.axes (left_down facet.axes sum b) ys
      ≡ lists_worked true facet.line.shape facet.line.place facet.base facet.axes (walk_down facet.axes facet.line.shape.level) xs

module _ (facet : Facet) (xs : List ℤ) (long : length xs ≡ points_of facet.line.shape) where
  -- At the start all lists of the top level are left.
  pub lowering_starts : (k : ℕ) → k ≡ facet_end facet → Lowering facet xs facet.line.shape.level (vectors facet.axes facet.line.shape.level) k 0 xs
  lowering_starts k whole =
      record {
        first = omega (arith, whole, points_is facet.axes facet.line.shape.level, start_suc facet.axes facet.line.shape.level);
        parted = rw whole (none_parted _ (facet_end facet) xs (turned_on facet xs) long);
        odds = rw whole (omega arith);
        walked = same_walk true facet.line.shape facet.line.place facet.base facet.axes xs (down_all facet.axes facet.line.shape.level);
      }

  module _ {sum b k odd : ℕ} {ys : List ℤ} (s : Lowering facet xs sum b k odd ys) where
    -- The values have room for a step.
    pub lowering_room : NoLarger (2 ^ 60) xs → NoLarger (2 ^ 61) ys
    unfolding whole_turn
    lowering_room small =
        parted_within s.parted (2 ^ 61) (λ code. omega (arith, small code)) (turned_within facet.line.shape facet.line.place xs (2 ^ 60) long small)

    -- No more sums are odd than there are points.
    pub lowering_few : odd < 2 ^ 32
    lowering_few =
        omega (arith, s.odds, odds_few facet.line.shape facet.line.place xs (facet_end facet), facet.sits.inside, facet.line.small)

    -- Where no list of the sum is left, all of the sum below are.
    lowering_sum : (sum' : ℕ) → sum ≡ suc sum' → b ≡ 0 → Lowering facet xs sum' (vectors facet.axes sum') k odd ys
    lowering_sum sum' e none =
        record {
          first = omega (arith, s.first, ap₂ (first_at facet.axes) e none, mul-zero (2 ^ suc sum'), start_suc facet.axes sum');
          parted = s.parted;
          odds = s.odds;
          walked =
              same_walk true facet.line.shape facet.line.place facet.base facet.axes ys
              (sym (ap₂ (left_down facet.axes) e none ∙ down_sum facet.axes sum'))
              ∙ s.walked;
        }

    -- The list that comes next is the last of those left.
    pub lowering_next : {sum' r : ℕ} → Follows facet.axes sum' r sum b → Lowering facet xs sum' (suc r) k odd ys
    lowering_next {sum'} {r} =
        ⊎_elim (λ same. rw (same.0, same.1) at s) (λ below. rw below.2 (lowering_sum sum' below.0 below.1))

    -- At the first number of the face none is left.
    module _ (done : k ≡ facet.base) where
      pub lowering_turned : ys ≡ turned_between true facet.line.shape facet.line.place facet.base (facet_end facet) xs
      unfolding turned_between
      lowering_turned = parted_list (rw done at s.parted)

      pub lowering_odds : odd_sums facet.line.shape facet.line.place xs facet.base + odd ≡ odd_sums facet.line.shape facet.line.place xs (facet_end facet)
      lowering_odds = rw done at s.odds

      pub lowering_walked : b < vectors facet.axes sum →
          ys ≡ lists_worked true facet.line.shape facet.line.place facet.base facet.axes (walk_down facet.axes facet.line.shape.level) xs
      lowering_walked in_sum =
          let none = first_of_all facet.axes (omega (arith, facet.inner)) sum b in_sum (omega (arith, s.first, done)) in
          none_worked true facet.line.shape facet.line.place facet.base facet.axes ys (ap₂ (left_down facet.axes) none.0 none.1 ∙ down_none facet.axes) ∙ s.walked

  -- The last list that is left of the sum.
  module _ {vector : LevelVector} {k odd : ℕ} {ys : List ℤ} (here : Standing facet vector)
      (s : Lowering facet xs vector.sum (suc (rank (at vector.levels) facet.axes)) k odd ys) where
    ends : k ≡ facet.base + first_of facet.axes (at vector.levels) + 2 ^ vector.sum
    ends = omega (arith, s.first, first_at_lem (vector_in here), mul-suc (2 ^ vector.sum) (rank (at vector.levels) facet.axes))

    ends_list : k ≡ end_of facet.base facet.axes (at vector.levels)
    ends_list = ends ∙ ap (λ (u : ℕ). facet.base + first_of facet.axes (at vector.levels) + 2 ^ u) (sym (vector_in here).total)

    ends_inside : k ≤ facet_end facet
    ends_inside = omega (arith, ends, end_inside here)

    -- Its first number, as the code reckons it.
    pub lowering_first : k - 1 * 2 ^ vector.sum % 2 ^ 64 ≡ first_in facet.base facet.axes (at vector.levels)
    lowering_first = omega (arith, ends, one_shifted 64 vector.sum (omega (arith, here.low, facet.line.top)))

    -- The turn comes to it.
    still : (q : ℕ) → k < q → Still (neighbour facet.line.shape) facet.line.place q → value_at ys q ≡ value_at xs q
    still zero high stays = absurd (omega arith)
    still (suc p) high stays =
        le_or_lt (facet_end facet) p
        (λ past. s.parted.others p (inr past))
        (λ within.
        s.parted.inside p (omega (arith, high)) within
        ∙ still_turn true facet.line.shape facet.line.place xs long (suc p) stays)

    comes : Comes true facet.line.shape facet.line.place facet.base (first_in facet.base facet.axes (at vector.levels)) (end_of facet.base facet.axes (at vector.levels)) xs ys
    comes =
        record {
          here = λ p from to. s.parted.others p (inl (omega (arith, to, ends_list)));
          before = λ q from low. below_codes s.parted q (omega (arith, low, ends_list));
          still = λ q high stays. still q (omega (arith, high, ends_list)) stays;
        }

    list_first : left_down facet.axes vector.sum (suc (rank (at vector.levels) facet.axes)) ≡ at vector.levels ∷ left_down facet.axes vector.sum (rank (at vector.levels) facet.axes)
    list_first =
        down_first facet.axes vector.sum (rank (at vector.levels) facet.axes)
        ∙ ap (λ (l : ℕ → ℕ). l ∷ left_down facet.axes vector.sum (rank (at vector.levels) facet.axes)) (levels_of_rank (vector_in here))

    module _ (zs : List ℤ) (more : ℕ) (worked : zs ≡ list_worked true facet.line.shape facet.line.place facet.base facet.axes (at vector.levels) ys)
        (counted : odd_sums facet.line.shape facet.line.place xs (first_in facet.base facet.axes (at vector.levels)) + more
        ≡ odd_sums facet.line.shape facet.line.place xs (end_of facet.base facet.axes (at vector.levels)))
        (turned : ListTurned true facet.line.shape facet.line.place facet.base facet.axes (at vector.levels) xs ys zs) where
      list_parted : Parted (points_of facet.line.shape) (first_in facet.base facet.axes (at vector.levels)) (facet_end facet) xs (turned_on facet xs) zs
      list_parted =
          moved_down s.parted zs
          (ap length worked ∙ worked_long true facet.line.shape facet.line.place facet.base facet.axes (at vector.levels) ys)
          (first_in facet.base facet.axes (at vector.levels)) (omega (arith, ends_list)) ends_inside
          (λ p from to. turned.holds p from (omega (arith, to, ends_list)))
          (λ p outside. turned.others p (⊎_elim (λ low. inl low) (λ high. inr (omega (arith, high, ends_list))) outside))

      list_done : Lowering facet xs vector.sum (rank (at vector.levels) facet.axes) (first_in facet.base facet.axes (at vector.levels)) (odd + more) zs
      list_done =
          record {
            first = ap (λ (p : ℕ). facet.base + p) (first_at_lem (vector_in here));
            parted = list_parted;
            odds = omega (arith, counted, s.odds, ap (odd_sums facet.line.shape facet.line.place xs) ends_list);
            walked = first_worked true facet.line.shape facet.line.place facet.base facet.axes ys zs list_first worked ∙ s.walked;
          }

    -- As it is met: the work on it does its part of the turn.
    pub lowering_worked : (v : Subspace) → Met facet vector v → (zs : List ℤ) (more : ℕ) →
        zs ≡ list_worked true v.facet.line.shape v.facet.line.place v.facet.base v.facet.axes (at v.vector.levels) ys →
        odd_sums v.facet.line.shape v.facet.line.place ys v.start + more ≡ odd_sums v.facet.line.shape v.facet.line.place ys v.end →
        Lowering facet xs vector.sum (rank (at vector.levels) facet.axes) (k - 1 * 2 ^ vector.sum % 2 ^ 64) (odd + more) zs
    lowering_worked v m zs more worked counted =
        let turned = vector_worked v true xs ys (rw m.on long) (rw m.on s.parted.long) (rw (m.on, met_start v m, met_end v m) comes) in
        let now = rw (m.on, m.same) at worked in
        rw lowering_first
        (list_done zs more now
        (met_odds v m xs ys (comes_apart true long comes) more counted)
        (rw now (rw (m.on, m.same) at turned)))
