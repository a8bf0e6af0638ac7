-- Five bytes in a row, tested together: where the test says no they are not of a number that is too long or too large. Past the end of the bytes none are.
-- Assumes nothing.
use mathlib.Core.Path.{◌≡◌, refl, sym, ap, ◌∙◌}
use mathlib.Core.Bool.{Bool, true, false, ◌&&◌, ◌||◌, true≢false}
use mathlib.Core.List.{List}
use Prim.Native.Nat.{ℕ, ◌+◌, ◌≤◌, ◌<◌}
use native.Mathlib.Omega.{arith}
use lib.Dec.{leb}
use lib.ListN.{length, get_or, get_or-eq_default}
use borrow.Author.Tests.{le-leb}
use Rattle.naturals.proofs.Cases.{le_or_lt}
use Rattle.house_rates.specs.Steps.{NotLarge, NotLargeAt}

-- The test of five bytes, decided: where it says no, four that do not end a number have a fifth below 16 after them.
pub not_large : (a b c d e : ℕ) → ((((leb 128 a && leb 128 b) && leb 128 c) && leb 128 d) && leb 16 e) ≡ false → NotLarge a b c d e
not_large a b c d e off ha hb hc hd =
    le_or_lt 16 e
    (λ he.
    let on : ((((leb 128 a && leb 128 b) && leb 128 c) && leb 128 d) && leb 16 e) ≡ true =
    rw (le-leb 128 a ha, le-leb 128 b hb, le-leb 128 c hc, le-leb 128 d hd, le-leb 16 e he) in
    absurd (true≢false (sym on ∙ off)))
    (λ h. h)

-- Past the end of the bytes none are.
pub past_end : (bytes : List ℕ) (k : ℕ) → length bytes ≤ k + 4 → NotLargeAt bytes k
past_end bytes k h a b c d = omega (arith, get_or-eq_default bytes 0 h)

-- A row's bytes are those from an index on.
pub at_row : (bytes row : List ℕ) (at : ℕ) → ((k : ℕ) → k < 5 → get_or row k 0 ≡ get_or bytes (at + k) 0) → {here : Bool} → (here ≡ false → NotLargeAt row 0) →
    here ≡ false → NotLargeAt bytes at
at_row bytes row at same fit e a b c d =
    omega (
      arith,
      same 0 (omega arith),
      same 4 (omega arith),
      fit e (omega (arith, same 0 (omega arith), ap i first)) (omega (arith, same 1 (omega arith))) (omega (arith, same 2 (omega arith))) (omega (arith, same 3 (omega arith))),
    )
  where
    i : ℕ → ℕ
    i k = get_or bytes k 0

    first : at + 0 ≡ at
    first = omega arith

-- Where no row of five bytes up to an index was found large, none there is.
pub record Clear (bytes : List ℕ) (at : ℕ) (large : Bool) : Type 0 where
  pub none : large ≡ false → (k : ℕ) → k < at → NotLargeAt bytes k

module _ {bytes : List ℕ} {at : ℕ} {large : Bool} (p : Clear bytes at large) where
  pub clear_steps : (here : Bool) → (here ≡ false → NotLargeAt bytes at) → Clear bytes (at + 1) (large || here)
  clear_steps here fit = record { none = all large here refl refl }
    where
      all : (x y : Bool) → large ≡ x → here ≡ y → (x || y) ≡ false → (k : ℕ) → k < at + 1 → NotLargeAt bytes k
      all true y ex ey e k less = absurd (true≢false e)
      all false true ex ey e k less = absurd (true≢false e)
      all false false ex ey e k less =
          le_or_lt at k
          (λ after. let same : k ≡ at = omega arith in rw same (fit ey))
          (λ before. p.none ex k before)
