-- The state of a table (document 01, "Parents and turns"): its shape and a set of forward axes, bit t − 1 for axis t.
-- Assumes nothing.
use Rattle.std.specs.Prelude.{Bool, not, ℕ, suc, ◌+◌, ◌-◌, ◌/◌, ◌%◌, ◌^◌, leb, ltb, eqb, Option, Some, None, if◌then◌else◌}
use Rattle.std.specs.Bool.{beq}
use Rattle.naturals.specs.FirstFailing.{first_failing}
use Rattle.refusals.specs.declared.Refusal.{Refusal}
use Rattle.refusals.specs.declared.Refusal.TheVariants.{StrayBit}
use Rattle.refusals.specs.Checks.{unless, ◌and_then◌, Verdict}
use Rattle.shapes.specs.Shapes.{check_limits, check_size, check_length}
use Rattle.states.specs.declared.State.{State}

-- The set has place t (axis t + 1): bit t of the byte.
unfoldable pub has : ℕ → ℕ → Bool
has byte t = eqb (byte / 2 ^ t % 2) 1

-- The state with bit t set, where it was clear, and with bit t cleared, where it was set.
abbrev pub marked : State → ℕ → State
marked s t = record { shape = s.shape; forward = s.forward + 2 ^ t }

abbrev pub cleared : State → ℕ → State
cleared s t = record { shape = s.shape; forward = s.forward - 2 ^ t }

-- The state with bit t changed.
unfoldable pub toggled : State → ℕ → State
toggled s t = if has s.forward t then cleared s t else marked s t

-- Bit t is not the bit that is looked for.
unfoldable pub is_other : Bool → ℕ → ℕ → Bool
is_other bit byte t = not (beq (has byte t) bit)

-- The first axis whose bit is the one looked for, counted from 0, or d.
unfoldable pub first_axis : Bool → State → ℕ
first_axis bit s = first_failing (is_other bit s.forward) s.shape.axes

-- The same axis, where there is one.
unfoldable pub found_axis : Bool → State → Option ℕ
found_axis bit s = if ltb (first_axis bit s) s.shape.axes then Some (first_axis bit s) else None

-- No axis has the bit that is looked for, else refused; the place is the first axis that has it.
unfoldable pub check_axes : Bool → (ℕ → Refusal) → State → Verdict
check_axes bit refusal s = unless (leb s.shape.axes (first_axis bit s)) (refusal (suc (first_axis bit s)))

-- No bit is set above axis d, else refused with 14.
unfoldable pub check_bits : State → Verdict
check_bits s = unless (ltb s.forward (2 ^ s.shape.axes)) StrayBit

-- A state and a table of that many places: refused with 1, 2, 14, 19 or 3.
unfoldable pub check_state : State → ℕ → Verdict
check_state s places = check_limits s.shape and_then check_bits s and_then check_size s.shape and_then check_length s.shape places
