-- Forward turns, one after another from an axis up. Of a table that is the sweep of the axes before, they leave the sweep of all axes up to where they end, since
-- a sweep goes smallest axis first. So a loaded table becomes the coefficients. Each turn at most doubles the values, so from the content limit there is room
-- for eight.
-- Assumes nothing.
use mathlib.Core.Path.{◌≡◌, refl, ap, sym, ◌∙◌}
use mathlib.Core.List.{List, map}
use Prim.Native.Nat.{ℕ, zero, suc, ◌+◌, ◌-◌, ◌^◌, ◌≤◌, ◌<◌}
use native.Mathlib.Nat.{two-pow-succ}
use native.Mathlib.Numerals.{add-one}
use native.Mathlib.Omega.{arith}
use lib.IntN.{ℤ}
use lib.ListN.{length, length-map}
use lib.Pow.{pow_mono}
use Rattle.hierarchy.specs.Turns.{value_at, values_of, forward}
use Rattle.hierarchy.specs.Sets.{scaled, swept, table_of, every_axis}
use Rattle.hierarchy.proofs.Values.{values_of_value}
use Rattle.shapes.specs.declared.Shape.{Shape}
use Rattle.shapes.specs.Shapes.{points_of}
use Rattle.shapes.proofs.Checked.{InRange}
use Rattle.grids.specs.Grids.{neighbour}
use Rattle.grids.specs.Turned.{turned_table}
use Rattle.grids.proofs.Turned.{turned_length, turned_holds}
use Rattle.tables.specs.Tables.{times}
use Rattle.lists.specs.Steps.{NoLarger}
use Rattle.sweeps.proofs.Room.{turned_within}
use Rattle.turns.proofs.Accepting.{contents_within}
use Rattle.whole.specs.Whole.{coefficients_of}
use Rattle.whole.specs.Steps.{InTable, ascent}
use Rattle.whole.proofs.Loading.{loaded_holds}

module _ (s : Shape) where
  ascent_none : (k : ℕ) (xs : List ℤ) → ascent 0 k s xs ≡ xs
  unfolding ascent
  ascent_none k xs = refl

  ascent_next : (m k : ℕ) (xs : List ℤ) → ascent (suc m) k s xs ≡ ascent m (suc k) s (turned_table s k xs)
  unfolding ascent
  ascent_next m k xs = refl

  -- As the code counts: below the number of axes one turn more, and then none.
  pub up_more : (k : ℕ) (xs : List ℤ) → k < s.axes → ascent (s.axes - (k + 1)) (k + 1) s (turned_table s k xs) ≡ ascent (s.axes - k) k s xs
  up_more k xs h =
      let more : s.axes - k ≡ suc (s.axes - suc k) = omega arith in
      rw (add-one k, more) (sym (ascent_next (s.axes - suc k) k xs))

  pub up_ends : (k : ℕ) (xs : List ℤ) → s.axes ≤ k → xs ≡ ascent (s.axes - k) k s xs
  up_ends k xs h =
      let none : s.axes - k ≡ 0 = omega arith in
      rw none (sym (ascent_none k xs))

  swept_next : (k : ℕ) (f : ℕ → ℤ) → swept (neighbour s) every_axis (suc k) f ≡ forward (neighbour s) k (swept (neighbour s) every_axis k f)
  unfolding swept
  swept_next k f = refl

  pub ascends : (m k : ℕ) (f : ℕ → ℤ) (xs : List ℤ) → length xs ≡ points_of s → value_at xs ≡ swept (neighbour s) every_axis k f →
      ascent m k s xs ≡ values_of (points_of s) (swept (neighbour s) every_axis (k + m) f)
  ascends zero k f xs len e =
      let end : k ≡ k + 0 = omega arith in
      ascent_none k xs
      ∙ sym (values_of_value (points_of s) xs len)
      ∙ ap (values_of (points_of s)) (e ∙ ap (λ (n : ℕ). swept (neighbour s) every_axis n f) end)
  ascends (suc m) k f xs len e =
      let end : suc k + m ≡ k + suc m = omega arith in
      let turned : value_at (turned_table s k xs) ≡ swept (neighbour s) every_axis (suc k) f =
      turned_holds s k xs len ∙ ap (forward (neighbour s) k) e ∙ sym (swept_next k f) in
      ascent_next m k xs
      ∙ ascends m (suc k) f (turned_table s k xs) (turned_length s k xs) turned
      ∙ ap (λ (n : ℕ). values_of (points_of s) (swept (neighbour s) every_axis n f)) end

  -- A loaded table holds each rate times 2^d, the sweep of no axis.
  pub climbed : (xs : List ℤ) → length xs ≡ points_of s → ascent (s.axes - 0) 0 s (map (times s.axes) xs) ≡ coefficients_of s xs
  unfolding coefficients_of table_of swept
  climbed xs len =
      let all : 0 + (s.axes - 0) ≡ s.axes = omega arith in
      ascends (s.axes - 0) 0 (scaled s.axes (value_at xs)) (map (times s.axes) xs) (length-map xs (times s.axes) ∙ len) (loaded_holds s xs)
      ∙ ap (λ (n : ℕ). values_of (points_of s) (swept (neighbour s) every_axis n (scaled s.axes (value_at xs)))) all

-- ---- room for a turn

module _ (s : Shape) (k : ℕ) (xs : List ℤ) where
  pub room_first : InTable s xs → NoLarger (2 ^ (47 + k)) xs
  room_first i code = omega (arith, contents_within xs i.contents code, pow_mono {i = 47} {j = 47 + k} (omega arith))

  pub room_next : length xs ≡ points_of s → NoLarger (2 ^ (47 + k)) xs → NoLarger (2 ^ (47 + (k + 1))) (turned_table s k xs)
  room_next len w code =
      let next : 47 + (k + 1) ≡ suc (47 + k) = omega arith in
      omega (arith, turned_within s k xs (2 ^ (47 + k)) len w code, ap (λ (n : ℕ). 2 ^ n) next, two-pow-succ (47 + k))

  -- There is room on each of eight axes.
  pub room_there : InRange s → k < s.axes → NoLarger (2 ^ (47 + k)) xs → NoLarger (2 ^ 59) xs
  room_there range h w code = omega (arith, w code, pow_mono {i = 47 + k} {j = 59} (omega (arith, range.high)))
