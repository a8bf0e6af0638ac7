-- `texts::pieces::put` meets its contract: the characters are copied to the start of the buffer.
-- Assumes nothing.
use mathlib.Core.Path.{◌≡◌, sym, ap, ◌∙◌}
use mathlib.Core.List.{List, ◌++◌}
use Prim.Native.Nat.{ℕ, ◌+◌}
use native.Mathlib.Omega.{arith}
use lib.ListN.{length, drop}
use lib.Seq.{sets-eq}
use Rattle.texts.proofs.pieces.put.Goals as goal

pub returns : goal.returns
returns c =
    let text = c.args.text.now in
    let old = c.args.out.now in
    let z : 0 + length text ≡ length text = omega arith in
    record {
      after = omega arith;
      holds = ap (λ (l : List ℕ). l ++ drop (length text) old) c.copy_from_slice.ensures.after
          ∙ sym (sets-eq text old 0 (omega (arith, c.requires)) ∙ ap (λ (k : ℕ). text ++ drop k old) z);
    }
