-- The level lists of a shape as a turn goes through them (document 02, d): a back turn from the lowest level sum up, a forward turn from the highest down.
-- Within a sum they are in document 01's order, or in the opposite one.
-- Assumes nothing.
use Rattle.std.specs.Prelude.{Bool, List, [], ◌∷◌, ◌++◌, ℕ, zero, suc, ◌+◌, ◌≤◌, eqb, if◌then◌else◌}
use Rattle.naturals.specs.Sum.{sum_to}
use Rattle.naturals.specs.Test.{all}
use Rattle.numbering.specs.Count.{vectors}
use Rattle.numbering.specs.Inverse.{level_of}

-- A level list: a level for each axis.
abbrev pub Levels : Type 0
Levels = ℕ → ℕ

-- ---- a back turn

-- Of the level lists of d axes with the level sum s, in order: m of them, from the one that r others come before.
unfoldable pub rising : ℕ → ℕ → ℕ → ℕ → List Levels
rising d s r zero = []
rising d s r (suc m) = level_of d s r ∷ rising d s (suc r) m

-- All those of the k sums s, s + 1, …, s + k − 1, the lowest sum first.
unfoldable pub rising_sums : ℕ → ℕ → ℕ → List Levels
rising_sums d s zero = []
rising_sums d s (suc k) = rising d s 0 (vectors d s) ++ rising_sums d (suc s) k

-- A back turn goes through all level lists of d axes and top level n: those of the sums 0, 1, …, n.
unfoldable pub walk_up : ℕ → ℕ → List Levels
walk_up d n = rising_sums d 0 (suc n)

-- ---- a forward turn

-- Of the level lists of d axes with the level sum s, the first r, the last of these first.
unfoldable pub falling : ℕ → ℕ → ℕ → List Levels
falling d s zero = []
falling d s (suc r) = level_of d s r ∷ falling d s r

-- All those of the sums below s, the highest sum first.
unfoldable pub falling_sums : ℕ → ℕ → List Levels
falling_sums d zero = []
falling_sums d (suc s) = falling d s (vectors d s) ++ falling_sums d s

-- A forward turn goes through all level lists of d axes and top level n: those of the sums n, n − 1, …, 0.
unfoldable pub walk_down : ℕ → ℕ → List Levels
walk_down d n = falling_sums d (suc n)

-- ---- what the promises of a walk speak of

-- Two level lists have the same level on axis t, and on each of d axes.
unfoldable pub same_level : Levels → Levels → ℕ → Bool
same_level l m t = eqb (l t) (m t)

unfoldable pub same_levels : ℕ → Levels → Levels → Bool
same_levels d l m = all (same_level l m) d

-- How often a walk meets the level list l of d axes.
unfoldable pub met : ℕ → Levels → List Levels → ℕ
met d l [] = 0
met d l (m ∷ ms) = (if same_levels d l m then 1 else 0) + met d l ms

-- From one to the next the level sum never falls, or never rises.
abbrev pub NeverFalls : ℕ → List Levels → Type 0
NeverFalls d [] = Unit {0}
NeverFalls d (l ∷ []) = Unit {0}
NeverFalls d (l ∷ m ∷ ms) = (sum_to l d ≤ sum_to m d) × NeverFalls d (m ∷ ms)

abbrev pub NeverRises : ℕ → List Levels → Type 0
NeverRises d [] = Unit {0}
NeverRises d (l ∷ []) = Unit {0}
NeverRises d (l ∷ m ∷ ms) = (sum_to m d ≤ sum_to l d) × NeverRises d (m ∷ ms)
