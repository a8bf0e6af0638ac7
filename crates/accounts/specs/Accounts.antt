-- The account of four offices (document 02, i): the shapes of their open tables, by office and tag, and the points that these take. The offices 1 to 4 have the
-- places 0 to 3 here.
-- Assumes nothing.
use Rattle.std.specs.Prelude.{Bool, ◌||◌, List, [], ◌∷◌, ℕ, ◌+◌, ◌-◌, ◌*◌, ◌/◌, ◌%◌, eqb, if◌then◌else◌, replicate, set}
use Rattle.naturals.specs.Sum.{sum_to}
use Rattle.naturals.specs.Test.{all}
use Rattle.refusals.specs.Checks.{passes}
use Rattle.numbering.specs.Point.{at}
use Rattle.shapes.specs.declared.Shape.{Shape}
use Rattle.shapes.specs.Shapes.{sparse, points_of, check_shape}
use Rattle.accounts.specs.declared.Account.{Account}

-- An account, from its slots.
abbrev pub account_of : List ℕ → Account
account_of slots = record { slots = slots }

-- How many offices there are, and how many tags each has.
abbrev pub offices : ℕ
offices = 4

abbrev pub tags : ℕ
tags = 8

-- The points of the account; those that each office has of its own, and those that are common.
abbrev pub account_points : ℕ
account_points = 65536

abbrev pub own_points : ℕ
own_points = 4096

abbrev pub common_points : ℕ
common_points = 49152

-- A slot is a byte: 0 where nothing is open, and 16 × d + n where a zero-border table of d axes and top level n is.
abbrev pub byte_of : ℕ → ℕ → ℕ
byte_of d n = 16 * d + n

abbrev pub shape_in : ℕ → Shape
shape_in byte = sparse (byte / 16) (byte % 16)

-- Nothing is open in a slot.
abbrev pub is_free : ℕ → Bool
is_free byte = eqb byte 0

-- What a slot may hold: nothing, or a shape that is not refused with 1, 2 or 19.
unfoldable pub is_slot : ℕ → Bool
is_slot byte = is_free byte || passes (check_shape (shape_in byte))

-- The points open in a slot.
unfoldable pub points_in : ℕ → ℕ
points_in byte = if is_free byte then 0 else points_of (shape_in byte)

-- The slots stand in a row, those of the first office first, in the order of their tags. What the office at place o has under a tag:
abbrev pub slot : ℕ → ℕ → ℕ
slot o tag = o * tags + tag

abbrev pub under : Account → ℕ → ℕ → ℕ
under a o tag = at a.slots (slot o tag)

-- The points that an office has open: over its tags.
unfoldable pub points_under : Account → ℕ → ℕ → ℕ
points_under a o tag = points_in (under a o tag)

unfoldable pub held : Account → ℕ → ℕ
held a o = sum_to (points_under a o) tags

-- The same of each office in order.
abbrev pub by_office : (ℕ → ℕ) → List ℕ
by_office f = f 0 ∷ f 1 ∷ f 2 ∷ f 3 ∷ []

abbrev pub held_by : Account → List ℕ
held_by a = by_office (held a)

-- The points open: over the offices.
unfoldable pub total : Account → ℕ
total a = sum_to (held a) offices

-- What an office has open above its own points.
unfoldable pub above : Account → ℕ → ℕ
above a o = held a o - own_points

-- The common points in use: over the offices.
unfoldable pub common : Account → ℕ
common a = sum_to (above a) offices

-- Each slot of an office holds what a slot may hold.
unfoldable pub slot_passes : Account → ℕ → ℕ → Bool
slot_passes a o tag = is_slot (under a o tag)

unfoldable pub office_passes : Account → ℕ → Bool
office_passes a o = all (slot_passes a o) tags

-- Nothing is open.
abbrev pub empty : Account
empty = account_of (replicate (offices * tags) 0)

-- The account with another byte in a slot.
abbrev pub put : Account → ℕ → ℕ → ℕ → Account
put a o tag byte = account_of (set a.slots (slot o tag) byte)
