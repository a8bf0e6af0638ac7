-- The numbers and places of the refusals, row by row as document 01's two tables have them ("Refused because of the input", "Refused because
-- of the state"), and then those of document 02.
-- Assumes nothing.
use Rattle.std.specs.Prelude.{ℕ}
use Rattle.refusals.specs.declared.Refusal.{Refusal}
use Rattle.refusals.specs.declared.Refusal.TheVariants.{Axes, Level, TableLength, Rate, Axis, PointNumber, ListLength, Coordinate, NoPoint, Contents, FileEnds, FiledNumber, BytesLeft, StrayBit, AlreadyForward, NotForward, StillSampled, StillForward, TooManyPoints, Allowance, Tag, NoSlot}

abbrev pub number_of : Refusal → ℕ
number_of Axes = 1  -- d outside 1 to 8
number_of Level = 2  -- n above 8
number_of TableLength = 3  -- table buffer not of N places (reader: fewer than N)
number_of (Rate point) = 4  -- a rate out of range; place: smallest such point number
number_of (Axis axis) = 5  -- axis outside 1 to d; place: the axis given
number_of PointNumber = 6  -- point number N or more
number_of ListLength = 7  -- a list of coordinates, levels or indices not of length d (a run: lists not of one length)
number_of (Coordinate axis) = 8  -- a coordinate too large; place: first such axis
number_of NoPoint = 9  -- levels and indices that name no point of the shape
number_of Contents = 10  -- contents not accepted
number_of FileEnds = 11  -- the file ends inside or before a number
number_of FiledNumber = 12  -- a filed number of more than 5 bytes or too large
number_of BytesLeft = 13  -- bytes after the last rate
number_of StrayBit = 14  -- a bit set above axis d
number_of (AlreadyForward axis) = 15  -- forward on an axis already forward; place: the axis
number_of (NotForward axis) = 16  -- back on an axis not forward; place: the axis
number_of (StillSampled axis) = 17  -- estimate while an axis is not forward; place: first such axis
number_of (StillForward axis) = 18  -- unload while an axis is forward; place: first such axis
number_of TooManyPoints = 19  -- more than 32,768 points (document 02, c and h)
number_of Allowance = 20  -- an account that no history gives; an opening would take the common points above 49,152 (document 02, i)
number_of Tag = 21  -- opening under an open tag, or closing one not open
number_of NoSlot = 22  -- office outside 1 to 4 or tag above 7

-- The place is 0 unless the row names one.
abbrev pub place_of : Refusal → ℕ
place_of Axes = 0
place_of Level = 0
place_of TableLength = 0
place_of (Rate point) = point
place_of (Axis axis) = axis
place_of PointNumber = 0
place_of ListLength = 0
place_of (Coordinate axis) = axis
place_of NoPoint = 0
place_of Contents = 0
place_of FileEnds = 0
place_of FiledNumber = 0
place_of BytesLeft = 0
place_of StrayBit = 0
place_of (AlreadyForward axis) = axis
place_of (NotForward axis) = axis
place_of (StillSampled axis) = axis
place_of (StillForward axis) = axis
place_of TooManyPoints = 0
place_of Allowance = 0
place_of Tag = 0
place_of NoSlot = 0
