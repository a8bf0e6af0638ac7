-- Points stepped one part after the other. The parents of all of them stand elsewhere, where nothing moves, so each sum is what it was in the table at the
-- start: a run of points that follow, stepped in the table as the earlier steps left it, is stepped in that one too.
-- Assumes nothing.
use mathlib.Core.Path.{◌≡◌, refl, ap, ap₂, sym, ◌∙◌}
use mathlib.Core.Logic.{◌⊎◌, inl, inr, ⊎_elim}
use mathlib.Core.Bool.{Bool}
use mathlib.Core.List.{List}
use Prim.Native.Nat.{ℕ, zero, suc, ◌+◌, ◌-◌, ◌*◌, ◌≤◌, ◌<◌}
use native.Mathlib.Nat.{add-zero, add-suc}
use native.Mathlib.Omega.{arith}
use lib.IntN.{ℤ, ◌+ℤ◌}
use Rattle.naturals.specs.Sum.{sum_to}
use Rattle.naturals.proofs.Cases.{le_or_lt}
use Rattle.naturals.proofs.Sums.{sum_to_zero, sum_to_suc, sum_to_cong}
use Rattle.naturals.proofs.Summed.{sum_bound}
use Rattle.integers.specs.Half.{odd_of, stepped}
use Rattle.integers.proofs.Steps.{odd_small}
use Rattle.numbering.specs.declared.Side.{Side}
use Rattle.numbering.specs.declared.Side.TheVariants.{Left, Right}
use Rattle.hierarchy.specs.Grid.{Neighbours}
use Rattle.hierarchy.specs.Turns.{value_at, sum_on}
use Rattle.hierarchy.proofs.Values.{value_zero}
use Rattle.shapes.specs.declared.Shape.{Shape}
use Rattle.grids.specs.Grids.{neighbour}
use Rattle.neighbours.specs.Facets.{Apart}
use Rattle.lists.specs.Lists.{stepped_at, odd_at, odd_sums}
use Rattle.lists.specs.Steps.{RunStepped, Stepped}

-- ---- odd sums

sum_parts : (f : ℕ → ℕ) (a b : ℕ) → sum_to f (a + b) ≡ sum_to f a + sum_to (λ i. f (a + i)) b
sum_parts f a zero = ap (sum_to f) (add-zero a) ∙ omega (arith, sum_to_zero (λ i. f (a + i)))
sum_parts f a (suc b) =
    ap (sum_to f) (add-suc a b) ∙ omega (arith, sum_to_suc f (a + b), sum_parts f a b, sum_to_suc (λ i. f (a + i)) b)

odd_is : (s : Shape) (t : ℕ) (xs : List ℤ) (p : ℕ) → odd_at s t xs p ≡ odd_of (sum_on (neighbour s) t (value_at xs) (suc p))
unfolding odd_at
odd_is s t xs p = refl

odds_parts : (s : Shape) (t : ℕ) (xs : List ℤ) (a b : ℕ) → odd_sums s t xs (a + b) ≡ odd_sums s t xs a + sum_to (λ i. odd_at s t xs (a + i)) b
unfolding odd_sums
odds_parts s t xs a b = sum_parts (odd_at s t xs) a b

odds_few : (s : Shape) (t : ℕ) (xs : List ℤ) (m : ℕ) → odd_sums s t xs m ≤ 2 * m
unfolding odd_sums
odds_few s t xs m =
    sum_bound (odd_at s t xs) 2 m (λ p. omega (arith, odd_is s t xs p, odd_small (sum_on (neighbour s) t (value_at xs) (suc p))))

pub stepped_is : (ahead : Bool) (s : Shape) (t : ℕ) (f : ℕ → ℤ) (q : ℕ) → stepped_at ahead s t f q ≡ stepped ahead (f q) (sum_on (neighbour s) t f q)
unfolding stepped_at
stepped_is ahead s t f q = refl

-- ---- the points from number lo on

-- A code that is none of the points from number lo to hi − 1.
abbrev pub Outside : ℕ → ℕ → ℕ → Type 0
Outside lo hi q = (q ≤ lo) ⊎ (hi < q)

-- One that is apart from them is such a code.
pub outside : (nb : Neighbours) (t : ℕ) {base lo hi q : ℕ} → Apart nb t base lo hi q → Outside lo hi q
outside nb t {base} {lo} {hi} {q} apart = le_or_lt q lo (λ low. inl low) (λ more. inr ((apart (omega arith)).1 more).0)

-- No step so far.
pub none_stepped : (ahead : Bool) (s : Shape) (t lo : ℕ) (xs : List ℤ) → Stepped ahead s t lo lo xs 0 xs
none_stepped ahead s t lo xs =
    record { long = refl; on = λ p from to. absurd (omega arith); off = λ p outside. refl; odds = omega arith }

module _ {ahead : Bool} {s : Shape} {t lo mid k : ℕ} {xs ys : List ℤ} (done : Stepped ahead s t lo mid xs k ys) where
  -- There are few odd sums.
  pub stepped_few : k ≤ 2 * mid
  stepped_few = omega (arith, done.odds, odds_few s t xs mid)

  -- Elsewhere nothing moves.
  pub outside_held : (q : ℕ) → Outside lo mid q → value_at ys q ≡ value_at xs q
  outside_held zero h = value_zero ys ∙ sym (value_zero xs)
  outside_held (suc p) h = done.off p (⊎_elim (λ low. inl (omega arith)) (λ high. inr (omega arith)) h)

  -- So a sum of parents that stand there is what it was.
  sum_held : (q : ℕ) → ((b : Side) → Outside lo mid (neighbour s t b q)) → sum_on (neighbour s) t (value_at ys) q ≡ sum_on (neighbour s) t (value_at xs) q
  unfolding sum_on
  sum_held q apart = ap₂ ◌+ℤ◌ (outside_held _ (apart Left)) (outside_held _ (apart Right))

  -- The points of a run that follow, whose parents stand elsewhere.
  module _ {w k' : ℕ} {sum : ℕ → ℤ} {zs : List ℤ} (order : lo ≤ mid) (run : RunStepped ahead mid w sum ys k' zs)
      (parents : (i : ℕ) → i < w → sum i ≡ sum_on (neighbour s) t (value_at ys) (suc (mid + i)))
      (apart : (i : ℕ) → i < w → (b : Side) → Outside lo mid (neighbour s t b (suc (mid + i)))) where
    sums : (i : ℕ) → i < w → sum i ≡ sum_on (neighbour s) t (value_at xs) (suc (mid + i))
    sums i h = parents i h ∙ sum_held (suc (mid + i)) (apart i h)

    here : (i : ℕ) → i < w → value_at zs (suc (mid + i)) ≡ stepped_at ahead s t (value_at xs) (suc (mid + i))
    here i h =
        run.on i h
        ∙ ap₂ (stepped ahead) (done.off (mid + i) (inr (omega arith))) (sums i h)
        ∙ sym (stepped_is ahead s t (value_at xs) (suc (mid + i)))

    new_odds : k' ≡ sum_to (λ i. odd_at s t xs (mid + i)) w
    new_odds =
        run.odds
        ∙ sum_to_cong (λ i. odd_of (sum i)) (λ i. odd_at s t xs (mid + i)) w
        (λ i h. ap odd_of (sums i h) ∙ sym (odd_is s t xs (mid + i)))

    pub run_joins : Stepped ahead s t lo (mid + w) xs (k + k') zs
    run_joins =
        record {
          long = run.long ∙ done.long;
          on =
              λ p from to.
              le_or_lt mid p
              (λ new. let e : mid + (p - mid) ≡ p = omega arith in rw e at (here (p - mid) (omega arith)))
              (λ old. run.off p (inl old) ∙ done.on p from old);
          off =
              λ p outside.
              run.off p (⊎_elim (λ low. inl (omega arith)) (λ high. inr high) outside)
              ∙ done.off p (⊎_elim (λ low. inl low) (λ high. inr (omega arith)) outside);
          odds = omega (arith, done.odds, new_odds, odds_parts s t xs mid w);
        }

  -- Points that follow, stepped as a part of their own.
  module _ {hi k' : ℕ} {zs : List ℤ} (order : lo ≤ mid) (more : mid ≤ hi) (next : Stepped ahead s t mid hi ys k' zs)
      (apart : (p : ℕ) → mid ≤ p → p < hi → (b : Side) → Outside lo mid (neighbour s t b (suc p))) where
    abbrev sum_there : ℕ → ℤ
    sum_there i = sum_on (neighbour s) t (value_at ys) (suc (mid + i))

    as_run : RunStepped ahead mid (hi - mid) sum_there ys k' zs
    as_run =
        record {
          long = next.long;
          on = λ i h. next.on (mid + i) (omega arith) (omega arith) ∙ stepped_is ahead s t (value_at ys) (suc (mid + i));
          off = λ p outside. next.off p (⊎_elim (λ low. inl low) (λ high. inr (omega arith)) outside);
          odds =
              let e : mid + (hi - mid) ≡ hi = omega arith in
              omega (
                arith,
                next.odds,
                odds_parts s t ys mid (hi - mid),
                ap (odd_sums s t ys) e,
                sum_to_cong (λ i. odd_of (sum_there i)) (λ i. odd_at s t ys (mid + i)) (hi - mid) (λ i h. sym (odd_is s t ys (mid + i))),
              );
        }

    pub part_joins : Stepped ahead s t lo hi xs (k + k') zs
    part_joins =
        let e : mid + (hi - mid) ≡ hi = omega arith in
        rw e at (run_joins order as_run (λ i h. refl) (λ i h. apart (mid + i) (omega arith) (omega arith)))
