-- What interpolation needs of the weights of a grid of neighbours, its hat functions: on each axis the weight of a point at another, and
-- whether the two are the same there.
-- Assumes nothing.
use Rattle.std.specs.Prelude.{Bool, true, ◌≡◌, ℕ, suc, ◌+◌, ◌*◌, ◌<◌, if◌then◌else◌}
use Rattle.numbering.specs.declared.Side.{Side}
use Rattle.numbering.specs.declared.Side.TheVariants.{Left, Right}
use Rattle.hierarchy.specs.Grid.{Neighbours}

-- 1 where a test passes, else 0.
abbrev pub indicator : Bool → ℕ
indicator b = if b then 1 else 0

-- On axis t: the weight of point number p at the coordinate of a code, and whether they are the same there.
abbrev pub Weights : Type 0
Weights = ℕ → ℕ → ℕ → ℕ

abbrev pub Agreement : Type 0
Agreement = ℕ → ℕ → ℕ → Bool

-- Hat functions on a grid of m points and d axes, with the unit u: a weight is 0 where there is no point; a move on another axis that comes to a point
-- changes neither weight nor agreement; on its own axis, twice a weight is the weights at the two neighbours, and twice the unit more at the point
-- itself; points that agree on every axis are one.
pub record Hats (m d u : ℕ) (nb : Neighbours) (w : Weights) (same : Agreement) : Type 0 where
  pub none : (t p : ℕ) → w t p 0 ≡ 0
  pub still : (t s : ℕ) (b : Side) (p q : ℕ) → t < d → s < d → (t ≡ s → ⊥) → p < m → q < m → (nb s b (suc q) ≡ 0 → ⊥) →
      w t p (nb s b (suc q)) ≡ w t p (suc q)
  pub still_same : (t s : ℕ) (b : Side) (p q : ℕ) → t < d → s < d → (t ≡ s → ⊥) → p < m → q < m → (nb s b (suc q) ≡ 0 → ⊥) →
      same t p (nb s b (suc q)) ≡ same t p (suc q)
  pub hat : (t p q : ℕ) → t < d → p < m → q < m →
      w t p (suc q) + w t p (suc q) ≡ w t p (nb t Left (suc q)) + w t p (nb t Right (suc q)) + indicator (same t p (suc q)) * (u + u)
  pub itself : (t p : ℕ) → t < d → p < m → same t p (suc p) ≡ true
  pub one_point : (p q : ℕ) → p < m → q < m → ((t : ℕ) → t < d → same t p (suc q) ≡ true) → p ≡ q
