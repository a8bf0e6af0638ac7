-- After a read the buffer starts with the bytes that had come and those that it gave, and they are what the reader lost.
-- Assumes nothing.
use Rattle.std.proofs.Common.{◌≡◌, ℕ, ◌+◌, ◌-◌, ◌≤◌, List, ◌++◌, rules, length, take, ap, ◌∙◌, sym, subst, length-take-le}
use Rattle.std.proofs.Math.Seq.{take-append-add}
use Rattle.std.proofs.lemmas.List.{take-append-le}
use Rattle.std.proofs.KnownBytes.{Consumes-trans}
use Rattle.std.specs.Io.KnownBytes.{Consumes}
use borrow.Rule.Slice.PartMut.{put_mid, post_of}
use Rattle.streams.proofs.read_input.Goals as goal

-- n bytes came into the part of the buffer after its first a bytes
taken : (a k n : ℕ) (xs ys : List ℕ) → a ≤ length xs → n ≤ length ys → take (a + n) (put_mid a k xs ys) ≡ take a xs ++ take n ys
taken a k n xs ys within fits =
    let front = take a xs in
    ap (λ (m : ℕ). take (m + n) (put_mid a k xs ys)) (sym (length-take-le a xs within)) ∙ take-append-add front (ys ++ post_of a k xs) n
    ∙ ap (λ (l : List ℕ). front ++ l) (take-append-le n ys (post_of a k xs) fits)

pub loop-length-preserved : goal.loop-length-preserved
loop-length-preserved g c =
    let before = c.loop-length in
    let came = c.in-Ok.ensures in
    let room = length before.bytes - before.length in
    (search rules, subst (Consumes _ _) (sym (taken before.length room c.in-Ok.more before.bytes c.read.new.buf before.invariant.0 came.bound.0)) (Consumes-trans _ _ _ _ _ before.invariant.1 came.bytes.0))
