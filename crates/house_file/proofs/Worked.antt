-- Worked files: document 01's example, and the readings of damaged or long numbers, decided by computing the definition.
-- Assumes nothing.
use Rattle.std.specs.Prelude.{Ok, Err}
use mathlib.Core.Path.{◌≡◌, refl}
use mathlib.Core.List.{[], ◌∷◌}
use lib.IntN.{pos}
use Rattle.naturals.specs.Sum.{sum_to}
use Rattle.refusals.specs.declared.Refusal.TheVariants.{Axes, TableLength, FileEnds, FiledNumber, BytesLeft}
use Rattle.numbering.specs.Binomial.{choose}
use Rattle.numbering.specs.Count.{vectors, shell, start, points}
use Rattle.shapes.specs.Shapes.{sparse, check_limits, check_size, check_shape, points_of}
use Rattle.house_numbers.specs.Reading.{got}
use Rattle.house_numbers.specs.Numbers.{below, groups, largest, limited, read_number, rate_of}
use Rattle.house_rates.specs.Rates.{prepended, read_rates}
use Rattle.house_file.specs.Files.{read_head, ended, read_table, read_contents, after_reading, read_file}

-- 01 01 06 0A 0E, in a buffer of one place more.
pub example_read :
    read_file (1 ∷ 1 ∷ 6 ∷ 10 ∷ 14 ∷ []) (pos 0 ∷ pos 0 ∷ pos 0 ∷ pos 9 ∷ [])
    ≡ after_reading (Ok (sparse 1 1)) (pos 3 ∷ pos 5 ∷ pos 7 ∷ pos 9 ∷ [])
unfolding read_file read_contents read_head read_table read_rates prepended ended read_number groups below limited largest rate_of check_limits check_size check_shape points_of points start shell vectors sum_to choose
example_read = refl

-- The same with two places, with a byte more, and with a byte less: the buffer stays.
pub example_unplaced : read_file (1 ∷ 1 ∷ 6 ∷ 10 ∷ 14 ∷ []) (pos 8 ∷ pos 9 ∷ []) ≡ after_reading (Err TableLength) (pos 8 ∷ pos 9 ∷ [])
unfolding read_file read_contents read_head read_table read_rates prepended ended read_number groups below limited largest rate_of check_limits check_size check_shape points_of points start shell vectors sum_to choose
example_unplaced = refl

pub example_too_long :
    read_file (1 ∷ 1 ∷ 6 ∷ 10 ∷ 14 ∷ 0 ∷ []) (pos 7 ∷ pos 8 ∷ pos 9 ∷ []) ≡ after_reading (Err BytesLeft) (pos 7 ∷ pos 8 ∷ pos 9 ∷ [])
unfolding read_file read_contents read_head read_table read_rates prepended ended read_number groups below limited largest rate_of check_limits check_size check_shape points_of points start shell vectors sum_to choose
example_too_long = refl

pub example_too_short :
    read_file (1 ∷ 1 ∷ 6 ∷ 10 ∷ []) (pos 7 ∷ pos 8 ∷ pos 9 ∷ []) ≡ after_reading (Err FileEnds) (pos 7 ∷ pos 8 ∷ pos 9 ∷ [])
unfolding read_file read_contents read_head read_table read_rates prepended ended read_number groups below limited largest rate_of check_limits check_size check_shape points_of points start shell vectors sum_to choose
example_too_short = refl

-- 09; 09 00; FF FF FF FF 0F 00; 09 80 80 80 80 80.
pub second_missing : read_file (9 ∷ []) [] ≡ after_reading (Err FileEnds) []
unfolding read_file read_contents read_head read_table read_number groups below limited largest check_limits check_size check_shape
second_missing = refl

pub axes_refused : read_file (9 ∷ 0 ∷ []) [] ≡ after_reading (Err Axes) []
unfolding read_file read_contents read_head read_table read_number groups below limited largest check_limits check_size check_shape
axes_refused = refl

pub largest_axes_refused : read_file (255 ∷ 255 ∷ 255 ∷ 255 ∷ 15 ∷ 0 ∷ []) [] ≡ after_reading (Err Axes) []
unfolding read_file read_contents read_head read_table read_number groups below limited largest check_limits check_size check_shape
largest_axes_refused = refl

pub five_follow : read_file (9 ∷ 128 ∷ 128 ∷ 128 ∷ 128 ∷ 128 ∷ []) [] ≡ after_reading (Err FiledNumber) []
unfolding read_file read_contents read_head read_table read_number groups below limited largest check_limits check_size check_shape
five_follow = refl

-- FF FF FF FF 10 is too large, four bytes that all say that another follows end too early, and 81 80 80 80 00 reads as 1.
pub too_large : read_file (255 ∷ 255 ∷ 255 ∷ 255 ∷ 16 ∷ []) [] ≡ after_reading (Err FiledNumber) []
unfolding read_file read_contents read_head read_table read_number groups below limited largest check_limits check_size check_shape
too_large = refl

pub four_follow : read_file (255 ∷ 255 ∷ 255 ∷ 255 ∷ []) [] ≡ after_reading (Err FileEnds) []
unfolding read_file read_contents read_head read_table read_number groups below limited largest check_limits check_size check_shape
four_follow = refl

pub needless_groups : read_number (129 ∷ 128 ∷ 128 ∷ 128 ∷ 0 ∷ []) ≡ got 1 []
unfolding read_number groups below limited largest
needless_groups = refl
