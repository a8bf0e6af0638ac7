-- The walk over the axes that takes one point of a level list: after t axes it has the position that their cells give, their joint weight, whether their
-- weights are all above zero, and the sum of their levels. True since each axis adds its cell, shifted by the levels before it, multiplies by its weight, and
-- keeps the bit where that is above zero. No shift loses a bit, since a cell is below 2^level, and no product overflows, since weights and joint weights are
-- at most the unit.
-- Assumes nothing.
use mathlib.Core.Path.{◌≡◌, refl, ap, ap₂, sym, ◌∙◌}
use Prim.Native.Nat.{ℕ, zero, suc, ◌+◌, ◌*◌, ◌%◌, ◌^◌, ◌≤◌, ◌<◌}
use native.Mathlib.Nat.{mul_comm, mul-le-mul}
use native.Mathlib.Omega.{arith}
use lib.Arith.{digits_lt}
use lib.Dec.{ltb}
use lib.Pow.{pow_pos, pow_mono, shl_exact}
use Rattle.naturals.specs.Sum.{sum_to}
use Rattle.naturals.proofs.Tests.{all_zero, all_suc}
use Rattle.naturals.proofs.Sums.{sum_to_zero, sum_to_suc, sum_to_mono}
use Rattle.numbering.proofs.Position.{pow_sum}
use Rattle.interpolation.specs.Hats.{indicator}
use Rattle.surfaces.specs.Weights.{unit}
use Rattle.surfaces.proofs.Unit.{unit_bits, unit_is}
use Rattle.surfaces.proofs.Joint.{joint_zero, joint_suc, joint_le}
use Rattle.faces.specs.Packing.{before}
use Rattle.faces.proofs.Packing.{before_inner, before_border, before_borders}
use Rattle.evaluation.specs.declared.Hat.{Hat}
use Rattle.evaluation.specs.declared.Passed.{Passed}
use Rattle.evaluation.specs.Steps.{weight_at, reached_on, joint_of, reached_of, step_of, position_of, Found, Bounded, none_passed, Room, passed_with, term_passed, whole}
use Rattle.evaluation.proofs.Bits.{bit_above, bit_of_both}
use Rattle.evaluation.proofs.Lists.{whole_inner, whole_border}

pub position_zero : (h : ℕ → Hat) (l : ℕ → ℕ) → position_of h l 0 ≡ 0
unfolding position_of
position_zero h l = sum_to_zero (step_of h l)

pub position_suc : (h : ℕ → Hat) (l : ℕ → ℕ) (k : ℕ) → position_of h l (suc k) ≡ position_of h l k + (h k).cell * 2 ^ sum_to l k
unfolding position_of step_of
position_suc h l k = sum_to_suc (step_of h l) k

module _ {h : ℕ → Hat} {l : ℕ → ℕ} {d : ℕ} (bounded : Bounded h l d) where
  level_le : (t : ℕ) → t < d → l t ≤ 8
  level_le t lt = omega (arith, sum_to_mono l (suc t) d lt, sum_to_suc l t, bounded.levels)

  joint_small : (k : ℕ) → k ≤ d → joint_of h k ≤ unit
  joint_small k le = joint_le unit (weight_at h) k (λ t lt. bounded.weight t (omega arith))

  pub position_lt : (k : ℕ) → k ≤ d → position_of h l k < 2 ^ sum_to l k
  position_lt zero le = omega (arith, position_zero h l, pow_pos (sum_to l 0))
  position_lt (suc k) le =
      omega (
        arith,
        position_suc h l k,
        pow_sum l k,
        mul_comm (2 ^ sum_to l k) (2 ^ l k),
        digits_lt (bounded.cell k le) (position_lt k (omega arith)),
      )

-- ---- axis by axis

pub record Taken (h : ℕ → Hat) (l : ℕ → ℕ) (d t : ℕ) (passed : Passed) : Type 0 where
  pub axis : t ≤ d
  pub total : passed.sum ≡ sum_to l t
  pub packed : passed.position ≡ position_of h l t
  pub weighed : passed.joint ≡ joint_of h t
  pub reaches : passed.reached ≡ indicator (reached_of h t)

pub taken_starts : (h : ℕ → Hat) (l : ℕ → ℕ) (d : ℕ) → Taken h l d 0 none_passed
taken_starts h l d =
    record {
      axis = omega arith;
      total = sym (sum_to_zero l);
      packed = sym (position_zero h l);
      weighed = sym (joint_zero unit (weight_at h));
      reaches = ap indicator (sym (all_zero (reached_on h)));
    }

module _ {h : ℕ → Hat} {l : ℕ → ℕ} {d t : ℕ} {passed : Passed} (bounded : Bounded h l d) (state : Taken h l d t passed) (lt : t < d) where
  pub level_small : l t ≤ 8
  level_small = level_le bounded t lt

  sum_fits : passed.sum + l t ≤ 8
  sum_fits = omega (arith, sum_to_mono l (suc t) d lt, sum_to_suc l t, state.total, bounded.levels)

  turned : passed.position + (h t).cell * 2 ^ passed.sum ≡ position_of h l (suc t)
  turned = omega (arith, position_suc h l t, state.packed, ap (λ (s : ℕ). (h t).cell * 2 ^ s) state.total)

  position_fits : passed.position + (h t).cell * 2 ^ passed.sum < 256
  position_fits =
      omega (
        arith,
        turned,
        position_lt bounded (suc t) lt,
        pow_mono {i = sum_to l (suc t)} {j = 8} (omega (arith, sum_to_mono l (suc t) d lt, bounded.levels)),
      )

  joint_fits : passed.joint * (h t).weight ≤ unit * unit
  joint_fits = mul-le-mul (omega (arith, state.weighed, joint_small bounded t state.axis)) (bounded.weight t lt)

  pub taken_room : Room passed (h t) (l t)
  taken_room =
      record {
        sum = sum_fits;
        cell = bounded.cell t lt;
        position = position_fits;
        joint = joint_fits;
      }

  -- One axis more.
  pub taken_steps : Taken h l d (suc t) (passed_with passed (h t) (l t))
  taken_steps =
      record {
        axis = lt;
        total = omega (arith, state.total, sum_to_suc l t);
        packed = turned;
        weighed = rw (joint_suc unit (weight_at h) t, ← state.weighed) refl;
        reaches =
            rw (all_suc (reached_on h) t, state.reaches)
            (bit_of_both (reached_of h t) ((h t).above) (bounded.above t lt));
      }

-- Past the last axis.
pub taken_ends : {h : ℕ → Hat} {l : ℕ → ℕ} {d t : ℕ} {passed : Passed} → Taken h l d t passed → d ≤ t → Found h l d (term_passed passed)
taken_ends {h} {l} {d} {t} {passed} state past =
    let last : t ≡ d = omega (arith, past, state.axis) in
    record {
      position = state.packed ∙ ap (position_of h l) last;
      joint = state.weighed ∙ ap (joint_of h) last;
      reached =
          ap (ltb 0) (state.reaches ∙ ap (λ (k : ℕ). indicator (reached_of h k)) last) ∙ bit_above (reached_of h d);
    }

-- ---- one axis, as the code adds it

module _ {passed : Passed} {g : Hat} {a : ℕ} (room : Room passed g a) where
  pub cell_shifted : g.cell * 2 ^ passed.sum % 2 ^ 64 ≡ g.cell * 2 ^ passed.sum
  cell_shifted = shl_exact {a = g.cell} a passed.sum 64 room.cell (omega (arith, room.sum))

  pub product_fits : passed.joint * g.weight ≤ 2 ^ (unit_bits + unit_bits)
  product_fits = omega (arith, room.joint, ap₂ ◌*◌ unit_is unit_is)

-- ---- on a face

-- Of the axes passed not more are inner.
pub place_le : (m : ℕ → ℕ) (t : ℕ) → before m t ≤ t
place_le m t = omega (arith, before_borders m t)

module _ (m : ℕ → ℕ) (t : ℕ) where
  pub next_inner : m t ≡ 0 → (place : ℕ) → place ≡ before m t → place + 1 ≡ before m (suc t)
  next_inner e place is = omega (arith, is, before_inner m t e)

  pub next_border : (m t ≡ 0 → ⊥) → (place : ℕ) → place ≡ before m t → place ≡ before m (suc t)
  next_border ne place is = is ∙ sym (before_border m t (omega arith))

-- The level of an inner axis stands at its place, and that of a border axis is 0.
module _ (d : ℕ) (m v : ℕ → ℕ) (t : ℕ) (lt : t < d) where
  pub inner_level : m t ≡ 0 → (place : ℕ) → place ≡ before m t → v place ≡ whole d m v t
  inner_level e place is = ap v is ∙ sym (whole_inner d m v t lt e)

  pub border_level : (m t ≡ 0 → ⊥) → 0 ≡ whole d m v t
  border_level ne = sym (whole_border d m v t lt (omega arith))
