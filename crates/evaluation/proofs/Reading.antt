-- What the hats give for a level list of a face is the point taken there, its joint weight, and whether it is reached: axis by axis.
-- Assumes nothing.
use mathlib.Core.Path.{◌≡◌, ap, ◌∙◌}
use Prim.Native.Nat.{ℕ, ◌*◌, ◌^◌, ◌<◌}
use lib.Dec.{ltb}
use Rattle.naturals.specs.Sum.{sum_to}
use Rattle.naturals.proofs.Tests.{all_cong}
use Rattle.naturals.proofs.Sums.{sum_to_cong}
use Rattle.surfaces.specs.Weights.{unit, joint}
use Rattle.surfaces.specs.Margin.{above_zero, is_reached}
use Rattle.surfaces.proofs.Joint.{joint_cong}
use Rattle.evaluation.specs.declared.Hat.{Hat}
use Rattle.evaluation.specs.Steps.{weight_at, reached_on, joint_of, reached_of, step_of, position_of}
use Rattle.evaluation.proofs.Bits.{bit_above}
use Rattle.evaluation.proofs.Blocks.{weights_of, taken_index, taken_step, taken_at}
use Rattle.evaluation.proofs.Tabulating.{HatsAt}

module _ (x m l : ℕ → ℕ) (d : ℕ) (h : ℕ → Hat) (hats : HatsAt x m l d h) where
  step_taken : (t : ℕ) → t < d → step_of h l t ≡ taken_step x m l t
  unfolding step_of taken_step
  step_taken t lt = ap (λ (p : ℕ). p * 2 ^ sum_to l t) ((ap (λ (g : Hat). g.cell) (hats t lt)))

  pub position_taken : position_of h l d ≡ taken_at x m l d
  unfolding position_of taken_at
  position_taken = sum_to_cong (step_of h l) (taken_step x m l) d step_taken

  weight_taken : (t : ℕ) → t < d → weight_at h t ≡ weights_of x m l (taken_index x m l) t
  unfolding taken_index
  weight_taken t lt = ap (λ (g : Hat). g.weight) (hats t lt)

  pub joint_taken : joint_of h d ≡ joint unit (weights_of x m l (taken_index x m l)) d
  joint_taken = joint_cong unit (weight_at h) (weights_of x m l (taken_index x m l)) d weight_taken

  reached_taken_on : (t : ℕ) → t < d → reached_on h t ≡ ltb 0 (weights_of x m l (taken_index x m l) t)
  unfolding taken_index
  reached_taken_on t lt =
      ap (λ (g : Hat). ltb 0 g.above) (hats t lt) ∙ bit_above (ltb 0 (weights_of x m l (taken_index x m l) t))

  pub reached_taken : reached_of h d ≡ is_reached d (weights_of x m l (taken_index x m l))
  unfolding is_reached above_zero
  reached_taken = all_cong (reached_on h) (above_zero (weights_of x m l (taken_index x m l))) d reached_taken_on
