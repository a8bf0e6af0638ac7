-- A file put into the output buffer stands at its front, and after it the buffer is what it was; a refusal leaves the whole buffer as it was. True since an
-- answered length says that the room was checked.
-- Assumes nothing.
use Rattle.std.specs.Prelude.{Ok, Err}
use mathlib.Core.Path.{◌≡◌, refl, sym, ap, ◌∙◌}
use mathlib.Core.List.{List, ◌++◌}
use Prim.Native.Nat.{ℕ, ◌≤◌}
use native.Mathlib.Omega.{arith}
use lib.Dec.{leb}
use lib.ListN.{length, take, drop}
use lib.Seq.{take_all, take-append_seam, drop-append_seam}
use borrow.Author.Tests.{le-leb, leb-true}
use Rattle.naturals.proofs.Cases.{le_or_lt}
use Rattle.refusals.specs.declared.Refusal.{Refusal}
use Rattle.refusals.specs.declared.Refusal.TheVariants.{TableLength}
use Rattle.refusals.specs.Checks.{unless, answer, Verdict}
use Rattle.refusals.proofs.Passing.{test_passed}
use Rattle.house_writer.specs.Writing.{AfterWriting, kept_out, check_room, filled_out, put_file}

module _ (out : List ℕ) where
  -- An answered length has passed.
  pub length_passed : (v : Verdict) (result : AfterWriting) {k : ℕ} → (answer (kept_out out) v result).answer ≡ Ok k → v ≡ Ok tt
  length_passed (Ok _) result e = refl
  length_passed (Err r) result e = cc

  -- A refusal keeps the buffer, where it is the check's and where it is the result's.
  pub refused_kept : (v : Verdict) (result : AfterWriting) {r : Refusal} → (result.answer ≡ Err r → result.out ≡ out) →
      (answer (kept_out out) v result).answer ≡ Err r → (answer (kept_out out) v result).out ≡ out
  refused_kept (Ok _) result keeps e = keeps e
  refused_kept (Err q) result keeps e = refl

-- A file of k bytes stands at the front of what is left of a buffer that had room for it.
pub record Stands (file out : List ℕ) (k : ℕ) (left : List ℕ) : Type 0 where
  pub long : k ≡ length file
  pub room : length file ≤ length out
  pub front : take k left ≡ file
  pub past : drop k left ≡ drop k out

-- So the buffer has so many bytes, and they are counted.
pub stands_within : {file out : List ℕ} {k : ℕ} {left : List ℕ} → Stands file out k left → (k ≤ length left) × (k ≡ length (take k left))
stands_within {file} {out} {k} {left} s =
    let counted : k ≡ length (take k left) = s.long ∙ ap length (sym s.front) in
    (le_or_lt k (length left) (λ h. h) (λ short. absurd (omega (arith, counted, ap length (take_all k left (omega arith))))), counted)

module _ (file out : List ℕ) where
  pub put_done : length file ≤ length out → put_file file out ≡ filled_out file out
  unfolding put_file check_room
  put_done room = rw (le-leb (length file) (length out) room)

  pub put_room : {k : ℕ} → (put_file file out).answer ≡ Ok k → length file ≤ length out
  unfolding put_file check_room
  put_room e =
      let test = leb (length file) (length out) in
      leb-true (length file) (length out) (test_passed test TableLength (length_passed out (unless test TableLength) (filled_out file out) e))

  stands : (k : ℕ) → k ≡ length file → length file ≤ length out → Stands file out k (file ++ drop (length file) out)
  stands k e room =
      rw e
      (record {
        long = refl;
        room = room;
        front = take-append_seam file (drop (length file) out);
        past = drop-append_seam file (drop (length file) out);
      })

  pub put_stands : (k : ℕ) → (put_file file out).answer ≡ Ok k → Stands file out k (put_file file out).out
  put_stands k e =
      let room = put_room e in
      let same : Ok (length file) ≡ Ok k = rw (put_done room) at e in
      let long : k ≡ length file = cc in
      rw (put_done room) (stands k long room)

  pub put_refused : {r : Refusal} → (put_file file out).answer ≡ Err r → (put_file file out).out ≡ out
  unfolding put_file
  put_refused e = refused_kept out (check_room file out) (filled_out file out) (λ never. cc) e
