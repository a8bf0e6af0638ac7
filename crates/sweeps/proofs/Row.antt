-- A turn goes over the faces of a table one after the other: forward from the last face down, back from the first up. What it leaves on a face is what the whole turn
-- of the table leaves there, since the neighbours of a face's points are points of the face or do not move, and what does not move holds the same before and after.
-- A face whose points do not move is passed over.
-- Assumes nothing.
use mathlib.Core.Path.{◌≡◌, refl, ap, ap₂, sym, ◌∙◌}
use mathlib.Core.Bool.{Bool}
use mathlib.Core.List.{List}
use mathlib.Core.Logic.{◌⊎◌, inl, inr}
use Prim.Native.Nat.{ℕ, zero, suc, ◌+◌, ◌≤◌, ◌<◌}
use native.Mathlib.Omega.{arith}
use lib.IntN.{ℤ, pos, ◌+ℤ◌}
use lib.ListN.{length}
use Rattle.naturals.proofs.Cases.{le_or_lt}
use Rattle.integers.specs.Half.{odd_of}
use Rattle.numbering.specs.declared.Side.{Side}
use Rattle.numbering.specs.declared.Side.TheVariants.{Left, Right}
use Rattle.hierarchy.specs.Grid.{Still}
use Rattle.hierarchy.specs.Turns.{value_at, sum_on}
use Rattle.hierarchy.proofs.Values.{value_zero, values_length}
use Rattle.shapes.specs.declared.Shape.{Shape}
use Rattle.shapes.specs.Shapes.{points_of}
use Rattle.grids.specs.Grids.{neighbour}
use Rattle.neighbours.specs.declared.facets.Facet.{Facet}
use Rattle.neighbours.proofs.Staying.{Stays, facet_end, facet_stays}
use Rattle.lists.specs.Lists.{odd_at, odd_sums, whole_turn, turned_between}
use Rattle.lists.proofs.Turned.{still_turn}
use Rattle.lists.proofs.Faces.{turn_agrees}
use Rattle.sweeps.proofs.Parted.{Parted, list_parted, moved_down, moved_up}
use Rattle.sweeps.proofs.Odds.{odds_suc, same_growth, same_odd}

-- What does not move holds in every part of the turn what it held.
pub still_same : (ahead : Bool) (s : Shape) (t : ℕ) {lo hi : ℕ} {xs ys : List ℤ} → length xs ≡ points_of s →
    Parted (points_of s) lo hi xs (whole_turn ahead s t xs) ys → (q : ℕ) → Still (neighbour s) t q → value_at ys q ≡ value_at xs q
still_same ahead s t {lo} {hi} {xs} {ys} long parted zero still = value_zero ys ∙ sym (value_zero xs)
still_same ahead s t {lo} {hi} {xs} {ys} long parted (suc p) still =
    le_or_lt lo p
    (λ from.
    le_or_lt hi p
    (λ high. parted.others p (inr high))
    (λ to. parted.inside p from to ∙ still_turn ahead s t xs long (suc p) still))
    (λ low. parted.others p (inl low))

-- ---- a face that moves

module _ (facet : Facet) (xs : List ℤ) (long : length xs ≡ points_of facet.line.shape) where
  abbrev pub s : Shape
  s = facet.line.shape

  abbrev pub t : ℕ
  t = facet.line.place

  abbrev pub end : ℕ
  end = facet_end facet

  -- The face of the table ys holds what it held, the other parts are as the turn has them.
  abbrev pub StaysAs : List ℤ → List ℤ → Type 0
  StaysAs us ys = (q : ℕ) → Stays (neighbour s) t facet.base end q → value_at us q ≡ value_at ys q

  pub not_yet : (ahead : Bool) {lo hi : ℕ} {ys : List ℤ} → ((p : ℕ) → facet.base ≤ p → p < end → (p < lo) ⊎ (hi ≤ p)) →
      Parted (points_of s) lo hi xs (whole_turn ahead s t xs) ys → StaysAs ys xs
  not_yet ahead {ys = ys} off parted zero (inl inside) = absurd (omega (arith, inside.0))
  not_yet ahead {ys = ys} off parted (suc p) (inl inside) = parted.others p (off p (omega (arith, inside.0)) (omega (arith, inside.1)))
  not_yet ahead off parted q (inr still) = still_same ahead s t long parted q still

  -- What is worked on the face is what the whole turn leaves there.
  module _ (ahead : Bool) (ys zs : List ℤ) (ys_long : length ys ≡ points_of s) (same : StaysAs ys xs)
      (worked : zs ≡ turned_between ahead s t facet.base end ys) where
    face_parted : Parted (points_of s) facet.base end ys (whole_turn ahead s t ys) zs
    unfolding turned_between
    face_parted =
        list_parted (points_of s) facet.base end ys (whole_turn ahead s t ys) zs
        (ap length worked ∙ values_length (points_of s) _) ys_long facet.sits.inside worked

    face_turned : (p : ℕ) → facet.base ≤ p → p < end → value_at zs (suc p) ≡ value_at (whole_turn ahead s t xs) (suc p)
    face_turned p from to =
        face_parted.inside p from to
        ∙ turn_agrees ahead s t facet.base end (facet_stays facet) ys xs ys_long long same (suc p) (inl (omega arith, omega arith))

    pub face_down : (hi : ℕ) → end ≤ hi → Parted (points_of s) end hi xs (whole_turn ahead s t xs) ys →
        Parted (points_of s) facet.base hi xs (whole_turn ahead s t xs) zs
    face_down hi order parted =
        moved_down parted zs face_parted.long facet.base (omega arith) order face_turned face_parted.others

    pub face_up : (lo : ℕ) → lo ≤ facet.base → Parted (points_of s) lo facet.base xs (whole_turn ahead s t xs) ys →
        Parted (points_of s) lo end xs (whole_turn ahead s t xs) zs
    face_up lo order parted =
        moved_up parted zs face_parted.long end (omega arith) order face_turned face_parted.others

  -- So many sums of the face are odd in one table as in another that holds the same there.
  pub face_odds : (us ys : List ℤ) → StaysAs us ys → (r : ℕ) → odd_sums s t us facet.base + r ≡ odd_sums s t us end →
      odd_sums s t ys facet.base + r ≡ odd_sums s t ys end
  face_odds us ys same r counted =
      omega (
        arith,
        counted,
        same_growth s t us ys facet.base end (omega arith)
            (λ p from to. same_odd s t us ys p (λ b. same _ (facet_stays facet (suc p) (omega arith) (omega arith) b))),
      )

-- ---- a face that does not

module _ (s : Shape) (t lo hi : ℕ) (order : lo ≤ hi) (still : (p : ℕ) → lo ≤ p → p < hi → Still (neighbour s) t (suc p))
    (xs : List ℤ) (long : length xs ≡ points_of s) (ahead : Bool) {ys : List ℤ} where
  passed : {from to : ℕ} → Parted (points_of s) from to xs (whole_turn ahead s t xs) ys → (p : ℕ) → lo ≤ p → p < hi →
      value_at ys (suc p) ≡ value_at (whole_turn ahead s t xs) (suc p)
  passed parted p from to =
      still_same ahead s t long parted (suc p) (still p from to) ∙ sym (still_turn ahead s t xs long (suc p) (still p from to))

  pub passed_down : (to : ℕ) → hi ≤ to → Parted (points_of s) hi to xs (whole_turn ahead s t xs) ys → Parted (points_of s) lo to xs (whole_turn ahead s t xs) ys
  passed_down to le parted = moved_down parted ys parted.long lo order le (passed parted) (λ p outside. refl)

  pub passed_up : (from : ℕ) → from ≤ lo → Parted (points_of s) from lo xs (whole_turn ahead s t xs) ys → Parted (points_of s) from hi xs (whole_turn ahead s t xs) ys
  passed_up from le parted = moved_up parted ys parted.long hi order le (passed parted) (λ p outside. refl)

-- None of its sums is odd: they are of no values.
still_odd : (s : Shape) (t : ℕ) (zs : List ℤ) (p : ℕ) → Still (neighbour s) t (suc p) → odd_at s t zs p ≡ 0
unfolding odd_at sum_on
still_odd s t zs p still =
    ap₂ (λ (a b : ℤ). odd_of (a +ℤ b)) (none Left) (none Right) ∙ no_odd
  where
    none : (b : Side) → value_at zs (neighbour s t b (suc p)) ≡ pos 0
    none b = ap (value_at zs) (still b) ∙ value_zero zs

    no_odd : odd_of (pos 0 +ℤ pos 0) ≡ 0
    no_odd = unfold odd_of in refl

pub passed_odds : (s : Shape) (t lo hi : ℕ) → ((p : ℕ) → lo ≤ p → p < hi → Still (neighbour s) t (suc p)) →
    (zs : List ℤ) (k : ℕ) → lo ≤ k → k ≤ hi → odd_sums s t zs k ≡ odd_sums s t zs lo
passed_odds s t lo hi still zs zero le in_face = ap (odd_sums s t zs) (omega arith)
passed_odds s t lo hi still zs (suc k) le in_face =
    le_or_lt (suc k) lo
    (λ all. ap (odd_sums s t zs) (omega arith))
    (λ more.
    omega (
      arith,
      odds_suc s t zs k,
      still_odd s t zs k (still k (omega arith) (omega arith)),
      passed_odds s t lo hi still zs k (omega arith) (omega arith),
    ))
