-- What load, adopt and unload answer, and what they leave in the table (document 01, "Parents and turns" and refusals).
-- Assumes nothing.
use Rattle.refusals.specs.declared.Refusal.{Refusal}
use Rattle.std.specs.Prelude.{ℕ, suc, ◌-◌, ◌%◌, ◌^◌, Bool, true, ◌&&◌, List, map, length, ℤ, pos, ◌*ℤ◌, ◌==◌, nat_le, unsigned_abs, Result, Ok, Err}
use Rattle.naturals.specs.Test.{all}
use Rattle.naturals.specs.FirstFailing.{first_failing}
use Rattle.refusals.specs.declared.Refusal.TheVariants.{Rate, Contents, StillForward}
use Rattle.refusals.specs.Checks.{unless, ◌and_then◌, answer, Verdict}
use Rattle.integers.specs.Half.{content_at, is_rate}
use Rattle.integers.specs.Floor.{floor}
use Rattle.hierarchy.specs.Turns.{value_at}
use Rattle.shapes.specs.declared.Shape.{Shape}
use Rattle.shapes.specs.Shapes.{check_shape, check_length}
use Rattle.states.specs.declared.State.{State}
use Rattle.states.specs.After.{After, after, kept, Left, left_by}
use Rattle.states.specs.States.{check_axes, check_state}

-- A table handed in with a shape: refused with 1, 2, 19 or 3.
unfoldable pub check_table : Shape → List ℤ → Verdict
check_table s xs = check_shape s and_then check_length s (length xs)

-- The value at point p is a rate.
unfoldable pub rate_at : List ℤ → ℕ → Bool
rate_at xs p = is_rate (value_at xs (suc p))

-- A rate out of range is refused with 4, and the smallest such point number.
unfoldable pub check_rates : List ℤ → Verdict
check_rates xs = unless (nat_le (length xs) (first_failing (rate_at xs) (length xs))) (Rate (first_failing (rate_at xs) (length xs)))

-- A table of rates handed in with a shape: refused with 1, 2, 19, 3 or 4.
abbrev pub check_rated : Shape → List ℤ → Verdict
check_rated s xs = check_table s xs and_then check_rates xs

-- A value times 2^d.
unfoldable pub times : ℕ → ℤ → ℤ
times d z = z *ℤ pos (2 ^ d)

-- Load: rates to a loaded table, each times 2^d, no axis forward.
unfoldable pub load : Shape → List ℤ → After
load s xs =
    answer (kept xs) (check_rated s xs)
    (after (Ok (record { shape = s; forward = 0 })) (map (times s.axes) xs))

-- The state of an adopted table: all axes forward.
abbrev pub adopted : Shape → State
adopted s = record { shape = s; forward = 2 ^ s.axes - 1 }

-- Adopt: coefficients, unchanged, all axes forward.
unfoldable pub adopt : Shape → List ℤ → Result State Refusal
adopt s xs =
    answer Err (check_table s xs and_then unless (all (content_at xs) (length xs)) Contents)
    (Ok (adopted s))

-- A value divided by 2^d, rounded down.
unfoldable pub quotient : ℕ → ℤ → ℤ
quotient d z = floor (2 ^ d) z

-- The value is 2^d times a rate: it is divisible, and the quotient is a rate.
unfoldable pub is_scaled : ℕ → ℤ → Bool
is_scaled d z = unsigned_abs z % 2 ^ d == 0 && is_rate (quotient d z)

unfoldable pub scaled_at : ℕ → List ℤ → ℕ → Bool
scaled_at d xs p = is_scaled d (value_at xs (suc p))

-- No axis is forward, else refused with 18 and the first that is.
unfoldable pub check_sampled : State → Verdict
check_sampled s = check_axes true StillForward s

-- Unload: a table with no axis forward becomes rates, each value divided by 2^d. Refused with 1, 2, 14, 19, 3, 18 (first forward axis) or 10.
unfoldable pub unload : State → List ℤ → Left
unload s xs =
    left_by xs
    (check_state s (length xs)
    and_then check_sampled s
    and_then unless (all (scaled_at s.shape.axes xs) (length xs)) Contents)
    (map (quotient s.shape.axes) xs)
