-- The text of a table of rates, by what the count of points and rates to coefficients answer; and all that is promised of a text at the front.
-- Assumes nothing.
use Rattle.std.specs.Prelude.{Ok, Err}
use mathlib.Core.Path.{◌≡◌, refl, sym, ap, ◌∙◌}
use mathlib.Core.Bool.{false}
use mathlib.Core.List.{List}
use Prim.Native.Nat.{ℕ, ◌≤◌, ◌<◌}
use native.Mathlib.Omega.{arith}
use lib.Dec.{eqb}
use lib.IntN.{ℤ}
use lib.ListN.{length, take}
use lib.Seq.{take_all}
use borrow.Author.Tests.{ne_eqb}
use Rattle.refusals.specs.declared.Refusal.{Refusal}
use Rattle.refusals.specs.declared.Refusal.TheVariants.{TableLength}
use Rattle.refusals.specs.Checks.{answer, Verdict}
use Rattle.shapes.specs.declared.Shape.{Shape}
use Rattle.shapes.specs.Shapes.{check_shape, points_of, check_length, counted}
use Rattle.states.specs.After.{Left, left}
use Rattle.tables.specs.Tables.{check_table}
use Rattle.whole.specs.Whole.{rates_to_coefficients}
use Rattle.io.specs.Counts.{IsPrefixLen}
use Rattle.buffers.specs.Put.{Put}
use Rattle.buffers.proofs.Puts.{put_length, put_front}
use Rattle.texts.specs.Text.{refused_line}
use Rattle.reports.specs.Report.{table_text}
use Rattle.reports.specs.Steps.{turned_text, left_text, rates_text}

-- What the count tells.
points_passed : (v : Verdict) (n count : ℕ) → answer Err v (Ok n) ≡ Ok count → v ≡ Ok tt
points_passed (Ok _) n count e = refl
points_passed (Err r) n count e = cc

points_same : (v : Verdict) (n count : ℕ) → answer Err v (Ok n) ≡ Ok count → count ≡ n
points_same (Ok _) n count e = cc
points_same (Err r) n count e = cc

refused_why : (v : Verdict) (n : ℕ) (r : Refusal) → answer Err v (Ok n) ≡ Err r → v ≡ Err r
refused_why (Ok _) n r e = cc
refused_why (Err q) n r e = cc

module _ (s : Shape) (count : ℕ) (e : counted s ≡ Ok count) where
  pub counted_passed : check_shape s ≡ Ok tt
  unfolding counted
  counted_passed = points_passed (check_shape s) (points_of s) count e

  pub counted_points : count ≡ points_of s
  unfolding counted
  counted_points = points_same (check_shape s) (points_of s) count e

-- Rates to coefficients refuses, or leaves the coefficients.
pub refused_text : (s : Shape) (r : Refusal) (xs : List ℤ) (l : Left) → left (Err r) xs ≡ l → refused_line r ≡ left_text s l
unfolding turned_text
refused_text s r xs l e = ap (left_text s) e

pub passed_text : (s : Shape) (xs : List ℤ) (l : Left) → left (Ok tt) xs ≡ l → table_text s xs ≡ left_text s l
unfolding turned_text
passed_text s xs l e = ap (left_text s) e

-- A shape that is refused.
pub shape_refused : (s : Shape) (r : Refusal) (xs : List ℤ) → counted s ≡ Err r → refused_line r ≡ rates_text s xs
unfolding rates_text rates_to_coefficients check_table turned_text counted
shape_refused s r xs e = rw (refused_why (check_shape s) (points_of s) r e)

-- A table of too few places.
pub short_refused : (s : Shape) (xs : List ℤ) → check_shape s ≡ Ok tt → length xs < points_of s → refused_line TableLength ≡ rates_text s xs
unfolding rates_text rates_to_coefficients check_table check_length turned_text
short_refused s xs e few =
    let t : take (points_of s) xs ≡ xs = take_all (points_of s) xs (omega arith) in
    let f : eqb (length xs) (points_of s) ≡ false = ne_eqb (length xs) (points_of s) (λ q. omega arith) in
    rw (t, e, f)

-- The places counted.
pub prefix_text : (s : Shape) (count : ℕ) (xs : List ℤ) → counted s ≡ Ok count → left_text s (rates_to_coefficients s (take count xs)) ≡ rates_text s xs
unfolding rates_text
prefix_text s count xs e = ap (λ (k : ℕ). left_text s (rates_to_coefficients s (take k xs))) (counted_points s count e)

-- All that is promised of a text at the front of a buffer with room for it.
pub put_whole : {text old new : List ℕ} {r : ℕ} → Put text old 0 new r → length text ≤ length old
    → Put text old 0 new r × ((take r new ≡ text) × IsPrefixLen r new)
put_whole {text} {old} {new} {r} p fits =
    let front : take r new ≡ text = put_front p fits in
    let n : r ≡ length text = omega (arith, p.after) in
    (p, (front, (omega (arith, put_length p), n ∙ sym (ap length front))))
