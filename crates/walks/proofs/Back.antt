-- A back turn too meets every level list of the shape exactly once and no other, its level sum never falls, and it meets as many as a forward turn.
-- True since it is a forward turn reversed.
-- Assumes nothing.
use mathlib.Core.Path.{◌≡◌, refl, ap, ◌∙◌}
use mathlib.Core.List.{List, [], ◌∷◌, reverse, reverse_aux, reverse-cons}
use Prim.Native.Nat.{ℕ, suc}
use native.Mathlib.Omega.{arith}
use lib.Dec.{leb}
use lib.ListN.{length, length-reverse}
use Rattle.std.specs.Prelude.{if◌then◌else◌}
use Rattle.naturals.specs.Sum.{sum_to}
use Rattle.numbering.specs.Count.{vectors}
use Rattle.walks.specs.Walks.{Levels, walk_up, walk_down, met, NeverFalls, NeverRises}
use Rattle.walks.proofs.Once.{met_append, met_once_down}
use Rattle.walks.proofs.Sums.{sums_down}
use Rattle.walks.proofs.Count.{walk_length_down}
use Rattle.walks.proofs.Reversed.{up_is_down_reversed}

-- Reversed, a walk meets a level list as often.
met_reverse : (d : ℕ) (l : Levels) (ms : List Levels) → met d l (reverse ms) ≡ met d l ms
unfolding met
met_reverse d l [] = refl
met_reverse d l (m ∷ ms) =
    omega (arith, ap (met d l) (reverse-cons m ms), met_append d l (reverse ms) (m ∷ []), met_reverse d l ms)

pub met_once : (d n : ℕ) (l : Levels) → met d l (walk_up d n) ≡ (if leb (sum_to l d) n then 1 else 0)
met_once d n l = ap (met d l) (up_is_down_reversed d n) ∙ met_reverse d l (walk_down d n) ∙ met_once_down d n l

-- A walk that never rises, reversed, never falls: where it goes on from l without rising, and from l back to its start without falling, the way back
-- from its end is without falling.
turned : (d : ℕ) (l : Levels) (ls back : List Levels) → NeverRises d (l ∷ ls) → NeverFalls d (l ∷ back) → NeverFalls d (reverse_aux ls (l ∷ back))
turned d l [] back on home = home
turned d l (m ∷ ms) back on home = turned d m ms (l ∷ back) on.1 (on.0, home)

never_falls : (d : ℕ) (ls : List Levels) → NeverRises d ls → NeverFalls d (reverse ls)
never_falls d [] on = tt
never_falls d (l ∷ ls) on = turned d l ls [] on tt

pub sums_up : (d n : ℕ) → NeverFalls d (walk_up d n)
sums_up d n = rw (up_is_down_reversed d n) (never_falls d (walk_down d n) (sums_down d n))

pub walk_length : (d n : ℕ) → length (walk_up d n) ≡ sum_to (vectors d) (suc n)
walk_length d n = ap length (up_is_down_reversed d n) ∙ length-reverse (walk_down d n) ∙ walk_length_down d n
