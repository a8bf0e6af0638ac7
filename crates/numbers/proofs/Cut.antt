-- Levels cut to the axes and filled up with zeros: on the axes they are what they were, and past them nothing is left. So their sum and the first number of the level
-- vector stay.
-- Assumes nothing.
use mathlib.Core.Path.{◌≡◌, ap, ◌∙◌}
use mathlib.Core.List.{List}
use Prim.Native.Nat.{ℕ, ◌≤◌, ◌<◌}
use native.Mathlib.Omega.{arith}
use Rattle.std.proofs.Math.Nat.{min-le_left}
use lib.ListN.{length, take, get_or-eq_default}
use lib.Seq.{get_or-take}
use Rattle.std.proofs.lemmas.List.{length-take}
use Rattle.naturals.specs.Sum.{sum_to}
use Rattle.naturals.proofs.Sums.{sum_to_cong}
use Rattle.numbering.specs.Point.{at}
use Rattle.numbering.specs.Number.{first_of}
use Rattle.grids.proofs.Facets.{first_of_cong}
use Rattle.points.specs.Points.{eight}
use Rattle.points.proofs.Eight.{padded_at}

module _ (d : ℕ) (ls : List ℕ) (high : d ≤ 8) where
  -- The levels cut to the axes.
  abbrev pub cut : List ℕ
  cut = take d ls

  cut_length : length cut ≤ d
  cut_length = rw (length-take d ls) (min-le_left d (length ls))

  cut_at : at (eight (at cut)) ≡ at cut
  cut_at = padded_at cut (omega (arith, cut_length))

  cut_same : (t : ℕ) → t < d → at (eight (at cut)) t ≡ at ls t
  cut_same t h = ap (λ (f : ℕ → ℕ). f t) cut_at ∙ get_or-take d ls t 0 h

  pub cut_past : (t : ℕ) → d ≤ t → at (eight (at cut)) t ≡ 0
  cut_past t h = ap (λ (f : ℕ → ℕ). f t) cut_at ∙ get_or-eq_default cut 0 (omega (arith, cut_length))

  pub cut_sum : sum_to (at (eight (at cut))) d ≡ sum_to (at ls) d
  cut_sum = sum_to_cong (at (eight (at cut))) (at ls) d cut_same

  pub cut_first : first_of d (at (eight (at cut))) ≡ first_of d (at ls)
  cut_first = first_of_cong d (at (eight (at cut))) (at ls) cut_same
