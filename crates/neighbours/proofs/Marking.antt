-- Marks in a list: those with one of them set are the list with that place set.
-- Assumes nothing.
use mathlib.Core.Path.{◌≡◌, sym, ◌∙◌, fun_ext}
use mathlib.Core.List.{List}
use Prim.Native.Nat.{ℕ, ◌<◌}
use lib.ListN.{length, set}
use lib.Seq.{get_or-set_same, get_or-set_other}
use Rattle.naturals.proofs.Cases.{eq_or_not}
use Rattle.numbering.specs.Point.{at}
use Rattle.numbering.specs.Parent.{update}
use Rattle.numbering.proofs.Parents.{update_same, update_other}

pub at_set : (ms : List ℕ) (t a : ℕ) → t < length ms → at (set ms t a) ≡ update (at ms) t a
at_set ms t a there =
    fun_ext λ u.
    eq_or_not u t
    (λ same. rw same (get_or-set_same ms t a 0 there ∙ sym (update_same (at ms) t a)))
    (λ other. get_or-set_other ms t u a 0 other ∙ sym (update_other (at ms) t a u other))
