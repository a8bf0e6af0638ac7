-- What the steps of the whole calls leave: forward turns from an axis up, and back turns from an axis down until one is refused.
-- Assumes nothing.
use Rattle.std.specs.Prelude.{true, List, ◌≡◌, ℕ, zero, suc, ℤ, length, if◌then◌else◌, Ok}
use Rattle.naturals.specs.Test.{all}
use Rattle.integers.specs.Half.{content_at}
use Rattle.shapes.specs.declared.Shape.{Shape}
use Rattle.shapes.specs.Shapes.{points_of, check_shape}
use Rattle.grids.specs.Turned.{turned_table, former_table}
use Rattle.turns.specs.Turns.{is_accepted}

-- A table of a shape that the check passes, all values within the content limit.
pub record InTable (s : Shape) (xs : List ℤ) : Type 0 where
  pub shape : check_shape s ≡ Ok tt
  pub long : length xs ≡ points_of s
  pub contents : all (content_at xs) (length xs) ≡ true

-- The table after m forward turns, on places k, k + 1, .. (axes k + 1, k + 2, ..).
unfoldable pub ascent : ℕ → ℕ → Shape → List ℤ → List ℤ
ascent zero k s xs = xs
ascent (suc m) k s xs = ascent m (suc k) s (turned_table s k xs)

-- Where the turns back stopped: how many axes are still forward, and the table there.
pub record Gone : Type 0 where
  pub forward : ℕ
  pub table : List ℤ

abbrev pub gone : ℕ → List ℤ → Gone
gone k xs = record { forward = k; table = xs }

-- Back on axes k, k − 1, .., 1: the axes up to the one that is refused are still forward.
unfoldable pub descent : ℕ → Shape → List ℤ → Gone
descent zero s xs = gone 0 xs
descent (suc k) s xs =
    if is_accepted s k (former_table s k xs) then descent k s (former_table s k xs) else gone (suc k) xs
