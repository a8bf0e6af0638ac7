-- What the steps of a sweep ask and leave.
-- Assumes nothing.
use Rattle.std.specs.Prelude.{List, ℕ, ◌^◌, ◌≤◌, ◌<◌, ℤ}
use Rattle.numbering.specs.Point.{at}
use Rattle.component_sweeps.specs.declared.axis.Sweep.{Sweep}
use Rattle.component_sweeps.specs.Steps.{Turn, turn_of, Asked, Row, Along, First, Reaches}

module _ (s : Sweep) where
  abbrev pub turn : Turn
  turn = turn_of s.on.of s.on.axis

  -- A set of points of the box to be turned, from position q on, which is the first that has its places on the axes from j on.
  pub record From (j q : ℕ) (set : ℕ → Type 0) (xs : List ℤ) : Type 0 where
    pub first : First turn j q
    pub asked : Asked turn set xs

  -- The places of one reach on the lines of the band that starts at position q.
  abbrev pub InClass : ℕ → ℕ → ℕ → Type 0
  InClass q level = Along turn s.spread.from q (Reaches (2 ^ level))

  pub record Class (q level : ℕ) (xs : List ℤ) : Type 0 where
    pub from : From s.spread.from q (InClass q level) xs
    pub finer : level < at s.on.of.levels s.on.axis

  -- All lines of the box's points that have the places of position q from axis j on; from that of the band on it is one band's lines.
  abbrev pub InRows : ℕ → ℕ → ℕ → Type 0
  InRows j q = Row turn j q

  abbrev pub InLine : ℕ → ℕ → Type 0
  InLine q = InRows s.spread.from q

  abbrev pub Line : ℕ → List ℤ → Type 0
  Line q xs = From s.spread.from q (InLine q) xs

  pub record Rows (j q : ℕ) (xs : List ℤ) : Type 0 where
    pub from : From j q (InRows j q) xs
    pub least : s.spread.from ≤ j
    pub most : j ≤ s.on.of.grid.now.axes
