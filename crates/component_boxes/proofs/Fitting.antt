-- How often the box's half width goes into the place of its middle point on an axis; and a box that fits by such numbers.
-- Assumes nothing.
use Rattle.std.proofs.Common.{◌≡◌, ℕ, ◌*◌, ◌/◌, ◌%◌, ◌^◌, ◌≤◌, ◌<◌, ap, ◌∙◌, arith}
use Rattle.std.proofs.Math.Nat.{mul-mod_left, div-add-mod'}
use Rattle.component_grids.specs.Component.{points_to, place_at}
use Rattle.component_boxes.specs.Boxes.{Fits}

module _ (d : ℕ) (tops k : ℕ → ℕ) (c : ℕ) where
  abbrev pub times_on : ℕ → ℕ
  times_on t = place_at tops c t / 2 ^ k t

  pub on_multiple : Fits d tops k c → (t : ℕ) → t < d → place_at tops c t ≡ times_on t * 2 ^ k t
  on_multiple fits t axis = omega (arith, fits.aligned t axis, div-add-mod' (place_at tops c t) (2 ^ k t))

  pub fits_by : c < points_to tops d → ((t : ℕ) → t < d → k t ≤ tops t) → (times : ℕ → ℕ) → ((t : ℕ) → t < d → place_at tops c t ≡ times t * 2 ^ k t) →
      Fits d tops k c
  fits_by inside within times multiple =
      record {
        inside = inside;
        within = within;
        aligned = λ t axis. ap (λ (x : ℕ). x % 2 ^ k t) (multiple t axis) ∙ mul-mod_left (times t) (2 ^ k t);
      }
