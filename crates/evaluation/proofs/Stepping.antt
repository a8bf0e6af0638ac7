-- One step of the walk as the code makes it, on a face of either sort of shape: the place read is one of the table's, its value within the limit and its weight at most
-- the unit, and both sums and S go on by the term of the point taken.
-- Assumes nothing.
use mathlib.Core.Bool.{Bool, true, false, ◌&&◌}
use mathlib.Core.List.{List}
use mathlib.Core.Path.{◌≡◌, refl, ap, ap₂, sym, subst, ◌∙◌}
use Prim.Native.Nat.{ℕ, suc, ◌+◌, ◌-◌, ◌*◌, ◌%◌, ◌^◌, ◌≤◌, ◌<◌}
use native.Mathlib.Omega.{arith}
use lib.IntN.{ℤ, pos, nat_abs, ◌+ℤ◌, ◌*ℤ◌}
use lib.ListN.{length, get_or}
use lib.Pow.{pow_pos}
use Rattle.std.specs.Prelude.{if◌then◌else◌}
use mir.Syntax.{w64}
use mir.Val.{SFits}
use Rattle.naturals.specs.Sum.{sum_to}
use Rattle.naturals.proofs.Shifts.{one_shifted}
use Rattle.integers.specs.Floor.{floor, remainder}
use Rattle.integers.specs.Half.{in_limit}
use Rattle.integers.proofs.Sizes.{limit_size}
use Rattle.numbering.specs.Count.{vectors}
use Rattle.numbering.specs.Point.{at}
use Rattle.hierarchy.specs.Turns.{value_at}
use Rattle.hierarchy.proofs.Values.{value_suc}
use Rattle.shapes.specs.declared.Shape.{Shape}
use Rattle.shapes.specs.Shapes.{most_points, most_terms}
use Rattle.grids.proofs.Faces.{FaceOf}
use Rattle.surfaces.specs.Weights.{unit}
use Rattle.surfaces.specs.Surface.{weight_on, joint_at}
use Rattle.surfaces.specs.Margin.{is_reached, absolute_reached}
use Rattle.vectors.specs.declared.LevelVector.{LevelVector}
use Rattle.vectors.specs.Steps.{vectors_before}
use Rattle.evaluation.specs.declared.Hat.{Hat}
use Rattle.evaluation.specs.declared.Term.{Term}
use Rattle.evaluation.specs.Steps.{Found, Bounded, whole, Evaluable, if_asked}
use Rattle.evaluation.proofs.Blocks.{ListAt, taken_at, taken_joint, taken_reached}
use Rattle.evaluation.proofs.Lists.{Walks, VectorAt, vector_in, whole_total, whole_at, one_more}
use Rattle.evaluation.proofs.Tabulating.{HatsAt, hats_bounded}
use Rattle.evaluation.proofs.Reading.{position_taken, joint_taken, reached_taken}
use Rattle.evaluation.proofs.Walking.{high_term, low_term, weight_small, Summed, taken_here, summed_steps}
use Rattle.evaluation.proofs.Reaching.{asked_small, size_at, size_small, Tallied, tallied_steps}
use Rattle.wide_sums.proofs.Parts.{fits_below}

-- Of two tests, the first asked before the second.
both_asked : (a b : Bool) (k : ℕ) → (if a && b then k else 0) ≡ if_asked a (if b then k else 0)
both_asked true b k = refl
both_asked false b k = refl

-- All points before number `first` are summed, by so many lists, and next are those of the level list l on the face of marks m.
pub record Next (asked : Bool) (s : Shape) (xs : List ℤ) (cs : List ℕ) (m l : ℕ → ℕ) (high : ℤ) (low total first count sum : ℕ) : Type 0 where
  pub asks : Evaluable s xs cs
  pub list : ListAt s m l first
  pub size : sum_to l s.axes ≡ sum
  pub small : sum ≤ 8
  pub room : suc count ≤ most_terms
  pub summed : Summed s xs (at cs) high low first count
  pub tallied : Tallied asked s xs (at cs) total first count

-- The list at hand in the walk over a face.
module _ {asked : Bool} {s : Shape} {xs : List ℤ} {cs : List ℕ} {m l : ℕ → ℕ} {k base w top : ℕ} (before : ℕ) {high : ℤ}
    {low total first count : ℕ} {vector : LevelVector} (asks : Evaluable s xs cs) (f : FaceOf s m k base) (walks : Walks k s.level w top) (here : VectorAt w top base first vector) (in_face : vector.sum ≤ top)
    (is : whole s.axes m (at vector.levels) ≡ l) where
  pub next_on_face : count ≡ before + vectors_before w (at vector.levels) → before + sum_to (vectors w) (suc top) ≤ most_terms →
      Summed s xs (at cs) high low first count → Tallied asked s xs (at cs) total first count →
      Next asked s xs cs m l high low total first count vector.sum
  next_on_face counted room summed tallied =
      record {
        asks = asks;
        list = subst (λ (o : ℕ → ℕ). ListAt s m o first) is (whole_at f walks (vector_in here) in_face here.here);
        size = subst (λ (o : ℕ → ℕ). sum_to o s.axes ≡ vector.sum) is (whole_total f walks (vector_in here) in_face);
        small = omega (arith, in_face, walks.low, asks.low);
        room = omega (arith, counted, room, one_more here in_face);
        summed = summed;
        tallied = tallied;
      }

module _ {asked : Bool} {s : Shape} {xs : List ℤ} {cs : List ℕ} {m l : ℕ → ℕ} {high : ℤ} {low total first count sum : ℕ}
    (n : Next asked s xs cs m l high low total first count sum) where
  abbrev inside : (t : ℕ) → t < s.axes → at cs t ≤ unit
  inside = n.asks.listed.coordinates

  pub levels_small : sum_to l s.axes ≤ 8
  levels_small = omega (arith, n.size, n.small)

  -- The shifted one of the code is the size of the list.
  pub list_size : 1 * 2 ^ sum % 2 ^ 64 ≡ 2 ^ sum
  list_size = one_shifted 64 sum (omega (arith, n.small))

  same_size : 2 ^ sum_to l s.axes ≡ 2 ^ sum
  same_size = ap (λ (k : ℕ). 2 ^ k) n.size

  pub list_within : first + 2 ^ sum ≤ length xs
  list_within =
      let last : 2 ^ sum - 1 < 2 ^ sum_to l s.axes = omega (arith, same_size, pow_pos sum) in
      omega (arith, pow_pos sum, n.list.inside (2 ^ sum - 1) last, n.asks.long)

  module _ {h : ℕ → Hat} (hats : HatsAt (at cs) m l s.axes h) where
    pub bounded : Bounded h l s.axes
    bounded = hats_bounded m n.asks.listed.few levels_small inside hats

    module _ {term : Term} (found : Found h l s.axes term) where
      taken : term.position ≡ taken_at (at cs) m l s.axes
      taken = found.position ∙ position_taken (at cs) m l s.axes h hats

      pub place_read : first + term.position < length xs
      place_read = omega (arith, taken, taken_here n.summed n.list inside, n.asks.long)

      pub place_small : first + term.position < most_points
      place_small = omega (arith, place_read, n.asks.long, n.asks.small)

      weight_read : term.joint ≡ joint_at s (at cs) (first + term.position)
      weight_read =
          found.joint
          ∙ joint_taken (at cs) m l s.axes h hats
          ∙ sym (taken_joint n.list (at cs))
          ∙ ap (λ (q : ℕ). joint_at s (at cs) (first + q)) (sym taken)

      pub weight_in_lem : term.joint ≤ unit
      weight_in_lem = rw weight_read (weight_small s xs (at cs) inside (first + term.position))

      pub value_in : in_limit (get_or xs (first + term.position) (pos 0)) ≡ true
      value_in = ap in_limit (sym (value_suc xs (first + term.position))) ∙ n.asks.contents (first + term.position) (omega (arith, place_read, n.asks.long))

      pub value_fits : SFits w64 (get_or xs (first + term.position) (pos 0))
      value_fits = fits_below (get_or xs (first + term.position) (pos 0)) (omega (arith, limit_size (get_or xs (first + term.position) (pos 0)) value_in))

      reached_read : term.reached ≡ is_reached s.axes (weight_on s (at cs) (first + term.position))
      reached_read =
          found.reached
          ∙ reached_taken (at cs) m l s.axes h hats
          ∙ sym (taken_reached n.list (at cs))
          ∙ ap (λ (q : ℕ). is_reached s.axes (weight_on s (at cs) (first + q))) (sym taken)

      -- What the code adds to S, if it is asked.
      size_added :
          (if asked && term.reached then nat_abs (get_or xs (first + term.position) (pos 0)) else 0)
          ≡ if_asked asked (size_at s xs (at cs) (first + taken_at (at cs) m l s.axes))
      unfolding absolute_reached
      size_added =
          ap₂ (λ (b : Bool) (z : ℤ). if asked && b then nat_abs z else 0) reached_read (sym (value_suc xs (first + term.position)))
          ∙ both_asked asked (is_reached s.axes (weight_on s (at cs) (first + term.position))) (nat_abs (value_at xs (suc (first + term.position))))
          ∙ ap (λ (q : ℕ). if_asked asked (if is_reached s.axes (weight_on s (at cs) (first + q)) then nat_abs (value_at xs (suc (first + q))) else 0)) taken

      -- The value at the point taken, by its own name.
      limited : in_limit (value_at xs (suc (first + taken_at (at cs) m l s.axes))) ≡ true
      limited =
          ap (λ (q : ℕ). in_limit (value_at xs (suc (first + q)))) (sym taken) ∙ n.asks.contents (first + term.position) (omega (arith, place_read, n.asks.long))

      pub size_in : (if asked && term.reached then nat_abs (get_or xs (first + term.position) (pos 0)) else 0) ≤ 2 ^ 47
      size_in =
          rw size_added
          (asked_small asked _ (2 ^ 47) (size_small s xs (at cs) (first + taken_at (at cs) m l s.axes) limited))

      -- The terms that the code adds.
      high_added : floor unit (get_or xs (first + term.position) (pos 0)) *ℤ pos term.joint ≡ high_term s xs (at cs) (first + taken_at (at cs) m l s.axes)
      unfolding high_term
      high_added =
          ap₂ (λ (z : ℤ) (k : ℕ). floor unit z *ℤ pos k) (sym (value_suc xs (first + term.position))) weight_read
          ∙ ap (λ (q : ℕ). floor unit (value_at xs (suc (first + q))) *ℤ pos (joint_at s (at cs) (first + q))) taken

      low_added : remainder unit (get_or xs (first + term.position) (pos 0)) * term.joint ≡ low_term s xs (at cs) (first + taken_at (at cs) m l s.axes)
      unfolding low_term
      low_added =
          ap₂ (λ (z : ℤ) (k : ℕ). remainder unit z * k) (sym (value_suc xs (first + term.position))) weight_read
          ∙ ap (λ (q : ℕ). remainder unit (value_at xs (suc (first + q))) * joint_at s (at cs) (first + q)) taken

      -- The sums after the step.
      pub stepped : {high' : ℤ} {low' count' : ℕ} →
          high' ≡ high +ℤ floor unit (get_or xs (first + term.position) (pos 0)) *ℤ pos term.joint →
          low' ≡ low + remainder unit (get_or xs (first + term.position) (pos 0)) * term.joint → count' ≡ suc count →
          Summed s xs (at cs) high' low' (first + 2 ^ sum) count'
      stepped eh el ec =
          rw (eh ∙ ap (λ (z : ℤ). high +ℤ z) high_added, el ∙ ap (λ (k : ℕ). low + k) low_added, ec, ← same_size)
          (summed_steps n.summed n.list inside n.room limited)

      pub counted : {total' count' : ℕ} →
          total' ≡ total + (if asked && term.reached then nat_abs (get_or xs (first + term.position) (pos 0)) else 0) → count' ≡ suc count →
          Tallied asked s xs (at cs) total' (first + 2 ^ sum) count'
      counted et ec =
          rw (et ∙ ap (λ (k : ℕ). total + k) size_added, ec, ← same_size) (tallied_steps n.tallied n.list inside limited)
