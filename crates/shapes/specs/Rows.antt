-- Tables that counts are read from, with a row for each number of axes.
-- Assumes nothing.
use Rattle.std.specs.Prelude.{◌≡◌, List, [], ℕ, ◌+◌, ◌-◌, ◌≤◌, get_or}
use Rattle.numbering.specs.Count.{vectors, start, points}
use Rattle.faces.specs.Marked.{border_points}

-- What a table has in a row and a column.
abbrev pub entry : List (List ℕ) → ℕ → ℕ → ℕ
entry rows row column = get_or (get_or rows row []) column 0

-- The binomials: row d − 1, column j has the count of the level vectors of d axes with the level sum j.
pub record Binomials (rows : List (List ℕ)) : Type 0 where
  pub holds : (d j : ℕ) → 1 ≤ d → d ≤ 8 → j ≤ 8 → entry rows (d - 1) j ≡ vectors d j

-- Where the points of each level sum start: row d, column s has the count of the points of d axes with a level sum below s.
pub record Starts (rows : List (List ℕ)) : Type 0 where
  pub holds : (d s : ℕ) → d ≤ 8 → s ≤ 9 → entry rows d s ≡ start d s

-- The points of each shape: with a zero border row d − 1, column n has the count of those of d axes and top level n, with values on the border row d + 8.
pub record Counts (rows : List (List ℕ)) : Type 0 where
  pub plain : (d n : ℕ) → 1 ≤ d → d ≤ 8 → n ≤ 8 → entry rows (d - 1) n ≡ points d n
  pub bordered : (d n : ℕ) → d ≤ 4 → n ≤ 8 → entry rows (d + 8) n ≡ border_points d n
