-- How a turn comes to a level list of its walk over a face (document 02, d). The lists of the walk join, so the points of the lists before it in the walk are those
-- of higher numbers, forward, or of lower ones, back; they hold what the whole turn leaves them, and all others hold what they held. The parents of the list's
-- points stand before it or do not move, so the work on it leaves its points what the whole turn leaves them, and the turn comes to the next.
-- Assumes nothing.
use mathlib.Core.Path.{◌≡◌, refl, ap, sym, ◌∙◌}
use mathlib.Core.Bool.{Bool, true, false}
use mathlib.Core.Logic.{⊎_elim}
use mathlib.Core.List.{List, [], ◌∷◌, ◌++◌}
use Prim.Native.Nat.{ℕ, suc, ◌-◌, ◌^◌, ◌≤◌, ◌<◌}
use native.Mathlib.Omega.{arith}
use lib.IntN.{ℤ}
use lib.ListN.{length}
use lib.Pow.{pow_pos}
use Rattle.naturals.specs.Sum.{sum_to}
use Rattle.naturals.proofs.Sums.{sum_to_mono}
use Rattle.numbering.specs.Point.{at}
use Rattle.numbering.proofs.Subspaces.{block_below}
use Rattle.hierarchy.specs.Turns.{value_at}
use Rattle.hierarchy.proofs.Values.{values_length}
use Rattle.shapes.specs.declared.Shape.{Shape}
use Rattle.shapes.specs.Shapes.{points_of}
use Rattle.points.specs.Points.{eight}
use Rattle.points.proofs.Eight.{eight_length, eight_whole}
use Rattle.walks.specs.Walks.{Levels, walk_up, walk_down}
use Rattle.neighbours.specs.declared.facets.Facet.{Facet}
use Rattle.neighbours.specs.declared.subspaces.Subspace.{Subspace}
use Rattle.neighbours.proofs.Seeing.{seen}
use Rattle.neighbours.proofs.Beside.{end_inside}
use Rattle.lists.specs.Lists.{between, stepped_at, stepped_between, turned_between, list_worked, odd_at, odd_sums, first_in, end_of, whole_turn, came_to, ListTurned}
use Rattle.lists.specs.Steps.{Stepped}
use Rattle.lists.proofs.Between.{between_low, between_inside, between_high, between_held}
use Rattle.lists.proofs.Turned.{Comes, list_end, vector_turned, work_turned}
use Rattle.sweeps.specs.Sweeps.{lists_worked}
use Rattle.sweeps.proofs.Parted.{Parted, parted_list, moved_down, moved_up}
use Rattle.sweeps.proofs.Walking.{worked_long}
use Rattle.sweeps.proofs.Joined.{OfFace, Joined, joined_down, joined_up}
use Rattle.neighbours.proofs.Staying.{facet_end}

-- ---- the work on points from number lo to hi − 1

-- Each of them is stepped.
points_stepped : (ahead : Bool) (s : Shape) (t lo hi : ℕ) (xs : List ℤ) → length xs ≡ points_of s → lo ≤ hi → hi ≤ points_of s →
    Stepped ahead s t lo hi xs (odd_sums s t xs hi - odd_sums s t xs lo) (stepped_between ahead s t lo hi xs)
unfolding stepped_between odd_sums
points_stepped ahead s t lo hi xs long order inside =
    record {
      long = values_length (points_of s) _ ∙ sym long;
      on = λ p from to. held (suc p) ∙ between_inside lo hi made (value_at xs) (suc p) (omega arith) (omega arith);
      off =
          λ p outside.
          held (suc p)
          ∙ ⊎_elim
          (λ low. between_low lo hi made (value_at xs) (suc p) low)
          (λ high. between_high lo hi made (value_at xs) (suc p) (omega arith) (omega arith))
          outside;
      odds = omega (arith, sum_to_mono (odd_at s t xs) lo hi order);
    }
  where
    made : ℕ → ℤ
    made = stepped_at ahead s t (value_at xs)

    held : (q : ℕ) → value_at (stepped_between ahead s t lo hi xs) q ≡ between lo hi made (value_at xs) q
    held q = between_held (points_of s) lo hi made xs (stepped_between ahead s t lo hi xs) long inside refl q

same_stepped : {ahead : Bool} {s : Shape} {t lo hi k lo' hi' : ℕ} {xs ys : List ℤ} → lo ≡ lo' → hi ≡ hi' → Stepped ahead s t lo hi xs k ys →
    Stepped ahead s t lo' hi' xs k ys
same_stepped lo hi stepped = rw (sym lo, sym hi) stepped

-- The work on a level vector as it is met, in a turn that comes to it.
pub vector_worked : (v : Subspace) (ahead : Bool) (xs ys : List ℤ) → length xs ≡ points_of v.facet.line.shape → length ys ≡ points_of v.facet.line.shape →
    Comes ahead v.facet.line.shape v.facet.line.place v.facet.base v.start v.end xs ys →
    ListTurned ahead v.facet.line.shape v.facet.line.place v.facet.base v.facet.axes (at v.vector.levels) xs ys
    (list_worked ahead v.facet.line.shape v.facet.line.place v.facet.base v.facet.axes (at v.vector.levels) ys)
unfolding list_worked
vector_worked v ahead xs ys long ys_long comes =
    let first : v.start ≡ first_in v.facet.base v.facet.axes (at v.vector.levels) = v.first in
    let last = list_end (seen v) in
    vector_turned (seen v) ahead _ xs ys _ long comes
    (same_stepped (sym first) (sym last)
    (points_stepped ahead v.facet.line.shape v.facet.line.place (first_in v.facet.base v.facet.axes (at v.vector.levels))
    (end_of v.facet.base v.facet.axes (at v.vector.levels)) ys ys_long (omega arith) (omega (arith, last, end_inside (seen v)))))

-- ---- one list

module _ (facet : Facet) (xs : List ℤ) (long : length xs ≡ points_of facet.line.shape) where
  abbrev shape : Shape
  shape = facet.line.shape

  abbrev place : ℕ
  place = facet.line.place

  abbrev InFace : Levels → Type 0
  InFace = OfFace facet.base facet.axes facet.line.shape.level

  came_long : (ahead : Bool) (l : Levels) → length (came_to ahead shape place facet.base facet.axes l xs) ≡ points_of shape
  unfolding came_to turned_between
  came_long true l = values_length (points_of shape) _
  came_long false l = values_length (points_of shape) _

  -- It ends within the face, and so within the table.
  list_inside : (l : Levels) → InFace l → end_of facet.base facet.axes l ≤ points_of shape
  list_inside l inside =
      let size : ℕ = 2 ^ sum_to l facet.axes in
      let some : 0 < size = pow_pos (sum_to l facet.axes) in
      omega (
        arith,
        some,
        block_below facet.axes facet.line.shape.level l inside.rest inside.low (size - 1) (omega (arith, some)),
        facet.sits.inside,
      )

  -- Its levels as a list of eight: as a turn on the axis meets it.
  module _ (ls : List ℕ) (eight_long : length ls ≡ 8) (inside : InFace (at ls)) where
    abbrev seen_as : Subspace
    seen_as =
        record {
          facet = facet;
          vector =
              record {
                axes = facet.axes;
                sum = sum_to (at ls) facet.axes;
                levels = ls;
                some = omega (arith, facet.inner);
                few = facet.few;
                vector = record { long = eight_long; total = refl; rest = inside.rest };
              };
          start = first_in facet.base facet.axes (at ls);
          end = end_of facet.base facet.axes (at ls);
          low = sum_to (at ls) facet.place;
          own = at ls facet.place;
          same = refl;
          inside = inside.low;
          first = refl;
          after = refl;
          before = refl;
          there = refl;
        }

    eight_turned : (ahead : Bool) (ys : List ℤ) → ys ≡ came_to ahead shape place facet.base facet.axes (at ls) xs →
        ListTurned ahead shape place facet.base facet.axes (at ls) xs ys (list_worked ahead shape place facet.base facet.axes (at ls) ys)
    unfolding list_worked
    eight_turned ahead ys came =
        work_turned (seen seen_as) ahead _ xs ys _
        (points_stepped ahead shape place seen_as.start seen_as.end ys (ap length came ∙ came_long ahead (at ls)) (omega arith) (list_inside (at ls) inside))
        long came

  list_turned : (ahead : Bool) (l : Levels) → InFace l → (ys : List ℤ) → ys ≡ came_to ahead shape place facet.base facet.axes l xs →
      ListTurned ahead shape place facet.base facet.axes l xs ys (list_worked ahead shape place facet.base facet.axes l ys)
  list_turned ahead l inside ys came =
      let same : at (eight l) ≡ l = eight_whole l (λ u past. inside.rest u (omega (arith, facet.few))) in
      rw same at (eight_turned (eight l) (eight_length l) (rw same inside) ahead ys (rw same came))

  -- ---- list after list

  abbrev worked_on : Bool → Levels → List ℤ → List ℤ
  worked_on ahead l ys = list_worked ahead shape place facet.base facet.axes l ys

  abbrev walked_on : Bool → List Levels → List ℤ → List ℤ
  walked_on ahead ls ys = lists_worked ahead shape place facet.base facet.axes ls ys

  -- A table that stands at a number is as the turn has it there. If what stands where a list begins is the table in which the turn comes to that list, and the
  -- work on the list makes it stand where the list stops, then this is so at each list of a walk whose lists join.
  module _ (ahead : Bool) (from to : Levels → ℕ) (Stands : ℕ → List ℤ → Type 0)
      (comes : (l : Levels) (ys : List ℤ) → Stands (from l) ys → ys ≡ came_to ahead shape place facet.base facet.axes l xs)
      (goes : (l : Levels) (ys : List ℤ) → InFace l → Stands (from l) ys →
      ListTurned ahead shape place facet.base facet.axes l xs ys (list_worked ahead shape place facet.base facet.axes l ys) →
      Stands (to l) (list_worked ahead shape place facet.base facet.axes l ys)) where
    reached : (before after : List Levels) (l : Levels) (k : ℕ) (ys : List ℤ) → Stands k ys →
        Joined facet.base facet.axes facet.line.shape.level from to k (before ++ (l ∷ after)) →
        (walked_on ahead before ys ≡ came_to ahead shape place facet.base facet.axes l xs)
        × ListTurned ahead shape place facet.base facet.axes l xs (walked_on ahead before ys) (walked_on ahead (before ++ (l ∷ [])) ys)
    unfolding lists_worked
    reached [] after l k ys stands joined =
        let came = comes l ys (rw (sym joined.0) stands) in
        (came, list_turned ahead l joined.1 ys came)
    reached (m ∷ before) after l k ys stands joined =
        let here : Stands (from m) ys = rw (sym joined.0) stands in
        reached before after l (to m) (worked_on ahead m ys) (goes m ys joined.1 here (list_turned ahead m joined.1 ys (comes m ys here))) joined.2

  -- ---- forward

  abbrev pub StandsDown : ℕ → List ℤ → Type 0
  StandsDown k ys = Parted (points_of shape) k (points_of shape) xs (whole_turn true shape place xs) ys

  comes_down : (l : Levels) (ys : List ℤ) → StandsDown (end_of facet.base facet.axes l) ys → ys ≡ came_to true shape place facet.base facet.axes l xs
  unfolding came_to turned_between
  comes_down l ys stands = parted_list stands

  goes_down : (l : Levels) (ys : List ℤ) → InFace l → StandsDown (end_of facet.base facet.axes l) ys →
      ListTurned true shape place facet.base facet.axes l xs ys (worked_on true l ys) → StandsDown (first_in facet.base facet.axes l) (worked_on true l ys)
  goes_down l ys inside stands turned =
      moved_down stands (worked_on true l ys) (worked_long true shape place facet.base facet.axes l ys) (first_in facet.base facet.axes l) (omega arith)
      (list_inside l inside) turned.holds turned.others

  -- From a table in which the turn comes to the face: all points from the end of the face on are turned.
  module _ (start : List ℤ) (comes : StandsDown (facet_end facet) start) (before after : List Levels) (l : Levels)
      (walk : walk_down facet.axes facet.line.shape.level ≡ before ++ (l ∷ after)) where
    reached_down : (walked_on true before start ≡ came_to true shape place facet.base facet.axes l xs)
        × ListTurned true shape place facet.base facet.axes l xs (walked_on true before start) (walked_on true (before ++ (l ∷ [])) start)
    reached_down =
        reached true (end_of facet.base facet.axes) (first_in facet.base facet.axes) StandsDown comes_down goes_down before after l (facet_end facet) start comes
        (rw walk at (joined_down facet.base facet.axes facet.line.shape.level))

    -- A forward turn comes to each level list of its walk with the lists before it in the walk done, and no other place changed.
    pub came_down : walked_on true before start ≡ came_to true shape place facet.base facet.axes l xs
    came_down = reached_down.0

    -- The work on it then leaves its points what the whole turn leaves them, and changes no other place.
    pub turned_down : ListTurned true shape place facet.base facet.axes l xs (walked_on true before start) (walked_on true (before ++ (l ∷ [])) start)
    turned_down = reached_down.1

  -- ---- back

  abbrev pub StandsUp : ℕ → List ℤ → Type 0
  StandsUp k ys = Parted (points_of shape) 0 k xs (whole_turn false shape place xs) ys

  comes_up : (l : Levels) (ys : List ℤ) → StandsUp (first_in facet.base facet.axes l) ys → ys ≡ came_to false shape place facet.base facet.axes l xs
  unfolding came_to turned_between
  comes_up l ys stands = parted_list stands

  goes_up : (l : Levels) (ys : List ℤ) → InFace l → StandsUp (first_in facet.base facet.axes l) ys →
      ListTurned false shape place facet.base facet.axes l xs ys (worked_on false l ys) → StandsUp (end_of facet.base facet.axes l) (worked_on false l ys)
  goes_up l ys inside stands turned =
      moved_up stands (worked_on false l ys) (worked_long false shape place facet.base facet.axes l ys) (end_of facet.base facet.axes l) (omega arith)
      (omega arith) turned.holds turned.others

  -- From a table in which the turn comes to the face: all points before the face hold what the whole turn leaves them.
  module _ (start : List ℤ) (comes : StandsUp facet.base start) (before after : List Levels) (l : Levels)
      (walk : walk_up facet.axes facet.line.shape.level ≡ before ++ (l ∷ after)) where
    reached_up : (walked_on false before start ≡ came_to false shape place facet.base facet.axes l xs)
        × ListTurned false shape place facet.base facet.axes l xs (walked_on false before start) (walked_on false (before ++ (l ∷ [])) start)
    reached_up =
        reached false (first_in facet.base facet.axes) (end_of facet.base facet.axes) StandsUp comes_up goes_up before after l facet.base start comes
        (rw walk at (joined_up facet.base facet.axes facet.line.shape.level))

    -- So does a back turn.
    pub came_up : walked_on false before start ≡ came_to false shape place facet.base facet.axes l xs
    came_up = reached_up.0

    pub turned_up : ListTurned false shape place facet.base facet.axes l xs (walked_on false before start) (walked_on false (before ++ (l ∷ [])) start)
    turned_up = reached_up.1
