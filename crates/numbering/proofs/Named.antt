-- A point with nothing past its axes is exactly what its number stands for: levels and indices read off its number are its own, on every axis.
-- Assumes nothing.
use mathlib.Core.Path.{◌≡◌, sym, ◌∙◌, fun_ext}
use Prim.Native.Nat.{ℕ, ◌≤◌, ◌<◌}
use Rattle.naturals.proofs.Cases.{le_or_lt}
use Rattle.numbering.specs.Count.{points}
use Rattle.numbering.specs.Point.{IsPoint}
use Rattle.numbering.specs.Number.{number}
use Rattle.numbering.specs.Inverse.{level_at, index_at}
use Rattle.numbering.proofs.Numbering.{level_of_number, index_of_number, level_zero, index_zero, point_of_number_lem}

-- A point of d axes and top level n with nothing past its axes.
pub record Named (d n : ℕ) (l i : ℕ → ℕ) : Type 0 where
  pub point : IsPoint d n l i
  pub levels : (t : ℕ) → d ≤ t → l t ≡ 0
  pub indices : (t : ℕ) → d ≤ t → i t ≡ 0

pub named : (d n p : ℕ) → p < points d n → Named d n (level_at d n p) (index_at d n p)
named d n p h =
    record {
      point = point_of_number_lem d n p h;
      levels = level_zero d n p;
      indices = index_zero d n p;
    }

pub levels_again : {d n : ℕ} {l i : ℕ → ℕ} → Named d n l i → level_at d n (number d l i) ≡ l
levels_again {d} {n} {l} {i} s =
    fun_ext λ t.
    le_or_lt d t
    (λ past. level_zero d n (number d l i) t past ∙ sym (s.levels t past))
    (λ h. level_of_number s.point t h)

pub indices_again : {d n : ℕ} {l i : ℕ → ℕ} → Named d n l i → index_at d n (number d l i) ≡ i
indices_again {d} {n} {l} {i} s =
    fun_ext λ t.
    le_or_lt d t
    (λ past. index_zero d n (number d l i) t past ∙ sym (s.indices t past))
    (λ h. index_of_number s.point t h)
