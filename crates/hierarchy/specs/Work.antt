-- Single steps of work in one table, in some order: what a sweep or a list of work items is made of.
-- Assumes nothing.
use Rattle.std.specs.Prelude.{◌≡◌, ◌⊎◌, List, [], ◌∷◌, ℕ, suc, leb, eqb, ℤ, ◌-ℤ◌, if◌then◌else◌}
use Rattle.integers.specs.Half.{half}
use Rattle.numbering.specs.declared.Side.{Side}
use Rattle.hierarchy.specs.Grid.{Neighbours, Still}
use Rattle.hierarchy.specs.Turns.{sum_on}

-- A function with another value at one place.
unfoldable pub put : {A : Type 0} → (ℕ → A) → ℕ → A → ℕ → A
put f p v q = if eqb q p then v else f q

-- A step of stage k at a point (a code).
pub record Item : Type 0 where
  pub stage : ℕ
  pub point : ℕ

-- Stages turn axes, each the axis that the function says.
module _ (nb : Neighbours) (axis : ℕ → ℕ) where
  -- One step in place: the value at the point becomes itself minus half the sum of its parents' values as they stand.
  unfoldable pub worked : Item → (ℕ → ℤ) → ℕ → ℤ
  worked i f = put f i.point (f i.point -ℤ half (sum_on nb (axis i.stage) f i.point))

  -- A point's count says how many stages are done there. A step is ready if its point has done the stages before, and so have exactly its parents, save
  -- that a parent which the stage does not move may have done it too.
  pub record Ready (i : Item) (count : ℕ → ℕ) : Type 0 where
    pub point : count i.point ≡ i.stage
    pub parents : (b : Side) →
        (nb (axis i.stage) b i.point ≡ 0)
        ⊎ (count (nb (axis i.stage) b i.point) ≡ i.stage)
        ⊎ ((count (nb (axis i.stage) b i.point) ≡ suc i.stage) × Still nb (axis i.stage) (nb (axis i.stage) b i.point))

  -- All steps of a list in turn, and the counts after them.
  unfoldable pub all_worked : List Item → (ℕ → ℤ) → ℕ → ℤ
  all_worked [] f = f
  all_worked (i ∷ is) f = all_worked is (worked i f)

  unfoldable pub counts_after : List Item → (ℕ → ℕ) → ℕ → ℕ
  counts_after [] c = c
  counts_after (i ∷ is) c = counts_after is (put c i.point (suc i.stage))

  -- A list is legal if each step is ready when its turn comes.
  abbrev pub Legal : List Item → (ℕ → ℕ) → Type 0
  Legal [] c = Unit {0}
  Legal (i ∷ is) c = Ready i c × Legal is (put c i.point (suc i.stage))

-- The first k points hold one table, the others another.
unfoldable pub mixed : ℕ → (ℕ → ℤ) → (ℕ → ℤ) → ℕ → ℤ
mixed k f g p = if leb p k then f p else g p
