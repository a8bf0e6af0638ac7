-- A forward turn goes through the level lists of a back turn from the last to the first. True since each list that a back turn meets is put before those
-- that stood before it.
-- Assumes nothing.
use mathlib.Core.Path.{◌≡◌, ap, sym, ◌∙◌}
use mathlib.Core.List.{List, [], ◌∷◌, ◌++◌, reverse, reverse-cons, reverse-append, reverse-reverse, append_assoc, append-nil}
use Prim.Native.Nat.{ℕ, zero, suc, ◌+◌}
use native.Mathlib.Nat.{suc-add, add-suc, add-zero, zero-add}
use Rattle.numbering.specs.Count.{vectors}
use Rattle.numbering.specs.Inverse.{level_of}
use Rattle.walks.specs.Walks.{Levels, rising, rising_sums, walk_up, falling, falling_sums, walk_down}

-- Within a sum: the m lists from the one that r others come before, reversed, and then those r are the first r + m.
within_sum : (d s r m : ℕ) → reverse (rising d s r m) ++ falling d s r ≡ falling d s (r + m)
unfolding rising falling
within_sum d s r zero = ap (falling d s) (sym (add-zero r))
within_sum d s r (suc m) =
    ap (λ ls. ls ++ falling d s r) (reverse-cons (level_of d s r) (rising d s (suc r) m))
    ∙ append_assoc (reverse (rising d s (suc r) m)) (level_of d s r ∷ []) (falling d s r)
    ∙ within_sum d s (suc r) m
    ∙ ap (falling d s) (suc-add r m ∙ sym (add-suc r m))

whole_sum : (d s : ℕ) → reverse (rising d s 0 (vectors d s)) ≡ falling d s (vectors d s)
unfolding falling
whole_sum d s =
    let up : List Levels = rising d s 0 (vectors d s) in
    sym (append-nil (reverse up)) ∙ within_sum d s 0 (vectors d s) ∙ ap (falling d s) (zero-add (vectors d s))

-- From sum to sum: the lists of the k sums from s on, reversed, and then those of the sums below s are those of the sums below s + k.
across_sums : (d s k : ℕ) → reverse (rising_sums d s k) ++ falling_sums d s ≡ falling_sums d (s + k)
unfolding rising_sums falling_sums
across_sums d s zero = ap (falling_sums d) (sym (add-zero s))
across_sums d s (suc k) =
    let here : List Levels = rising d s 0 (vectors d s) in
    let above : List Levels = rising_sums d (suc s) k in
    ap (λ ls. ls ++ falling_sums d s) (reverse-append here above)
    ∙ append_assoc (reverse above) (reverse here) (falling_sums d s)
    ∙ ap (λ ls. reverse above ++ (ls ++ falling_sums d s)) (whole_sum d s)
    ∙ across_sums d (suc s) k
    ∙ ap (falling_sums d) (suc-add s k ∙ sym (add-suc s k))

pub down_is_up_reversed : (d n : ℕ) → walk_down d n ≡ reverse (walk_up d n)
unfolding walk_down walk_up falling_sums
down_is_up_reversed d n =
    let up : List Levels = rising_sums d 0 (suc n) in
    sym (sym (append-nil (reverse up)) ∙ across_sums d 0 (suc n) ∙ ap (falling_sums d) (zero-add (suc n)))

pub up_is_down_reversed : (d n : ℕ) → walk_up d n ≡ reverse (walk_down d n)
up_is_down_reversed d n = sym (reverse-reverse (walk_up d n)) ∙ ap reverse (sym (down_is_up_reversed d n))
