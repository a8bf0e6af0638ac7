-- A run as its loop makes it: point after point, from the first on. The points elsewhere, where the parents are, and those ahead hold what they held, so a step
-- reads what stood there before the run; and what is read leaves room in 64 bits.
-- Assumes nothing.
use mathlib.Core.Path.{◌≡◌, refl, ap, ap₂, sym, ◌∙◌}
use mathlib.Core.Logic.{inl, inr, ⊎_elim}
use mathlib.Core.Bool.{Bool}
use mathlib.Core.List.{List}
use Prim.Native.Nat.{ℕ, suc, ◌+◌, ◌*◌, ◌^◌, ◌≤◌, ◌<◌}
use native.Mathlib.Nat.{suc_inj, add-zero, zero-add}
use native.Mathlib.Numerals.{add-one}
use native.Mathlib.Omega.{arith}
use Rattle.std.specs.Prelude.{Option, Some, None}
use lib.IntN.{ℤ, pos, nat_abs, ◌+ℤ◌, +ℤ_idl}
use lib.ListN.{length, get_or, set, length-set}
use mir.Syntax.{w64}
use mir.Val.{to_z, of_z}
use mir.ValLaws.{to_z-of_z}
use Rattle.naturals.proofs.Cases.{eq_or_not}
use Rattle.naturals.proofs.Sums.{sum_to_zero, sum_to_suc, sum_to_cong}
use Rattle.naturals.proofs.Summed.{sum_bound}
use Rattle.integers.specs.Half.{odd_of, stepped}
use Rattle.integers.proofs.Steps.{within_fits, sum_within, stepped_within, odd_small}
use Rattle.hierarchy.specs.Turns.{value_at}
use Rattle.hierarchy.proofs.Values.{value_zero, value_suc}
use Rattle.numbering.specs.declared.Side.{Side}
use Rattle.neighbours.specs.declared.facets.Rims.{Rims}
use Rattle.neighbours.specs.Facets.{rim_on, across}
use Rattle.hierarchy.proofs.Sweeps.{value_set}
use Rattle.hierarchy.proofs.Work.{put_same, put_other}
use Rattle.lists.specs.Steps.{value_in, RoomIn, Source, edge_sum, RunStepped}

-- ---- numbers of 64 bits

-- A value that a table holds, as it is read.
pub read_is : (xs : List ℤ) (p : ℕ) → nat_abs (value_at xs (suc p)) ≤ 2 ^ 61 → to_z w64 (of_z w64 (get_or xs p (pos 0))) ≡ value_at xs (suc p)
read_is xs p small =
    rw (sym (value_suc xs p)) (to_z-of_z w64 (value_at xs (suc p)) (within_fits (value_at xs (suc p)) (omega (arith, small))))

-- The sum of two.
pub sum_small : (a b : ℤ) → nat_abs a ≤ 2 ^ 61 → nat_abs b ≤ 2 ^ 61 → nat_abs (a +ℤ b) ≤ 2 ^ 62
sum_small a b ha hb = omega (arith, sum_within (2 ^ 61) a b ha hb)

pub sum_is : (a b : ℤ) → nat_abs a ≤ 2 ^ 61 → nat_abs b ≤ 2 ^ 61 → to_z w64 (of_z w64 (a +ℤ b)) ≡ a +ℤ b
sum_is a b ha hb = to_z-of_z w64 (a +ℤ b) (within_fits (a +ℤ b) (sum_small a b ha hb))

-- A stepped value, as it is stored.
pub stored_is : (ahead : Bool) (r v s : ℤ) → nat_abs v ≤ 2 ^ 61 → nat_abs s ≤ 2 ^ 62 → r ≡ stepped ahead v s → to_z w64 (of_z w64 r) ≡ stepped ahead v s
stored_is ahead r v s hv hs e =
    rw e (to_z-of_z w64 (stepped ahead v s) (within_fits (stepped ahead v s) (omega (arith, stepped_within ahead (2 ^ 61) (2 ^ 61) v s hv (omega (arith, hs))))))

-- ---- a store

set_here : (ys : List ℤ) (p : ℕ) (v : ℤ) → p < length ys → value_at (set ys p v) (suc p) ≡ v
set_here ys p v h = ap (λ (f : ℕ → ℤ). f (suc p)) (value_set ys p v h) ∙ put_same (value_at ys) (suc p) v

set_elsewhere : (ys : List ℤ) (p : ℕ) (v : ℤ) → p < length ys → (q : ℕ) → (q ≡ p → ⊥) → value_at (set ys p v) (suc q) ≡ value_at ys (suc q)
set_elsewhere ys p v h q other =
    ap (λ (f : ℕ → ℤ). f (suc q)) (value_set ys p v h) ∙ put_other (value_at ys) (suc p) v (suc q) (λ e. other (suc_inj e))

-- ---- the run so far

module _ {ahead : Bool} {x : ℕ} {sum : ℕ → ℤ} {xs : List ℤ} where
  pub run_starts : RunStepped ahead x 0 sum xs 0 xs
  run_starts =
      record {
        long = refl;
        on = λ i h. absurd (omega arith);
        off = λ p outside. refl;
        odds = sym (sum_to_zero (λ i. odd_of (sum i)));
      }

  module _ {i k : ℕ} {ys : List ℤ} (run : RunStepped ahead x i sum xs k ys) where
    -- One more point.
    pub run_steps : (o : ℕ) (v : ℤ) → x + i < length xs → o ≡ odd_of (sum i) → v ≡ stepped ahead (value_in xs x i) (sum i) →
        RunStepped ahead x (i + 1) sum xs (k + o) (set ys (x + i) v)
    run_steps o v inside odd step =
        record {
          long = length-set ys (x + i) v ∙ run.long;
          on =
              λ j h.
              eq_or_not j i
              (λ e. rw e (set_here ys (x + i) v (omega (arith, run.long)) ∙ step))
              (λ ne. set_elsewhere ys (x + i) v (omega (arith, run.long)) (x + j) (λ e. ne (omega arith)) ∙ run.on j (omega arith));
          off =
              λ p outside.
              set_elsewhere ys (x + i) v (omega (arith, run.long)) p (⊎_elim (λ low e. omega arith) (λ high e. omega arith) outside)
              ∙ run.off p (⊎_elim (λ low. inl low) (λ high. inr (omega arith)) outside);
          odds = rw add-one (omega (arith, run.odds, odd, sum_to_suc (λ j. odd_of (sum j)) i));
        }

    pub run_few : k ≤ 2 * i
    run_few = omega (arith, run.odds, sum_bound (λ j. odd_of (sum j)) 2 i (λ j. omega (arith, odd_small (sum j))))

    -- What stands elsewhere and what stands ahead is read as it was.
    pub source_read : (w a : ℕ) → Source x w a xs → i < w → to_z w64 (of_z w64 (get_or ys (a + i) (pos 0))) ≡ value_in xs a i
    source_read w a source h =
        let same : value_at ys (suc (a + i)) ≡ value_at xs (suc (a + i))
        = run.off (a + i) (⊎_elim (λ before. inl (omega arith)) (λ behind. inr (omega arith)) source.clear) in
        read_is ys (a + i) (omega (arith, ap nat_abs same, source.room i h)) ∙ same

    pub ahead_read : (w : ℕ) → RoomIn x w xs → i < w → to_z w64 (of_z w64 (get_or ys (x + i) (pos 0))) ≡ value_in xs x i
    ahead_read w room h =
        let same : value_at ys (suc (x + i)) ≡ value_at xs (suc (x + i)) = run.off (x + i) (inr (omega arith)) in
        read_is ys (x + i) (omega (arith, ap nat_abs same, room i h)) ∙ same

    -- The sum of two that stand elsewhere.
    pub pair_read : (w a b : ℕ) → Source x w a xs → Source x w b xs → i < w →
        to_z w64 (of_z w64 (to_z w64 (of_z w64 (get_or ys (a + i) (pos 0))) +ℤ to_z w64 (of_z w64 (get_or ys (b + i) (pos 0)))))
        ≡ value_in xs a i +ℤ value_in xs b i
    pair_read w a b from_a from_b h =
        ap₂ (λ (v u : ℤ). to_z w64 (of_z w64 (v +ℤ u))) (source_read w a from_a h) (source_read w b from_b h)
        ∙ sum_is (value_in xs a i) (value_in xs b i) (from_a.room i h) (from_b.room i h)

-- A run of one point.
pub run_of_one : {ahead : Bool} {x : ℕ} {s : ℤ} {xs : List ℤ} (v : ℤ) → x < length xs → v ≡ stepped ahead (value_at xs (suc x)) s →
    RunStepped ahead x 1 (λ i. s) xs (odd_of s) (set xs x v)
run_of_one {ahead} {x} {s} {xs} v inside step =
    let one : RunStepped ahead x 1 (λ i. s) xs (0 + odd_of s) (set xs (x + 0) v)
    = run_steps run_starts (odd_of s) v (omega (arith, inside)) refl (rw add-zero step) in
    rw (zero-add, add-zero) at one

-- The sums of a run by another name.
pub same_run : {ahead : Bool} {x w k : ℕ} {sum other : ℕ → ℤ} {xs ys : List ℤ} → ((i : ℕ) → i < w → sum i ≡ other i) → RunStepped ahead x w sum xs k ys →
    RunStepped ahead x w other xs k ys
same_run {ahead} {x} {w} {sum = sum} {other} {xs} same run =
    record {
      long = run.long;
      on = λ i h. run.on i h ∙ ap (stepped ahead (value_at xs (suc (x + i)))) (same i h);
      off = run.off;
      odds = run.odds ∙ sum_to_cong (λ i. odd_of (sum i)) (λ i. odd_of (other i)) w (λ i h. ap odd_of (same i h));
    }

-- With a zero border nothing is added across it.
pub nothing_across : (xs : List ℤ) (b : Side) (a i : ℕ) → value_in xs a i ≡ edge_sum xs b None a i
unfolding across
nothing_across xs b a i = sym (ap (λ (v : ℤ). v +ℤ value_in xs a i) (value_zero xs) ∙ +ℤ_idl (value_in xs a i))

-- Else what lies across it is a run of points.
pub something_across : (xs : List ℤ) (b : Side) (rims : Option Rims) (r : Rims) (o a i : ℕ) → rims ≡ Some r → o ≡ rim_on r b →
    value_in xs o i +ℤ value_in xs a i ≡ edge_sum xs b rims a i
unfolding across
something_across xs b rims r o a i there on =
    ap (λ (q : ℕ). value_at xs (suc (q + i)) +ℤ value_in xs a i) on
    ∙ sym (ap (λ (o : Option Rims). value_at xs (across o b i) +ℤ value_in xs a i) there)
