-- Worked files: document 01's example written and rewritten, the ends of the rates, and the order of the last two refusals, decided by computing the
-- definitions.
-- Assumes nothing.
use Rattle.std.specs.Prelude.{Ok, Err}
use mathlib.Core.Path.{◌≡◌, refl}
use mathlib.Core.List.{[], ◌∷◌}
use lib.IntN.{pos, negsuc}
use Rattle.naturals.specs.Sum.{sum_to}
use Rattle.naturals.specs.FirstFailing.{first_failing}
use Rattle.refusals.specs.declared.Refusal.TheVariants.{TableLength, Rate, BytesLeft}
use Rattle.integers.specs.Half.{is_rate}
use Rattle.numbering.specs.Binomial.{choose}
use Rattle.numbering.specs.Count.{vectors, shell, start, points}
use Rattle.hierarchy.specs.Turns.{value_at}
use Rattle.shapes.specs.Shapes.{sparse, check_limits, check_size, check_shape, points_of, check_length}
use Rattle.tables.specs.Tables.{check_table, rate_at, check_rates}
use Rattle.house_numbers.specs.Numbers.{below, groups, largest, limited, read_number, filed, rate_of}
use Rattle.house_rates.specs.Rates.{prepended, read_rates}
use Rattle.house_file.specs.Files.{read_head, ended, read_table, read_contents}
use Rattle.house_file.specs.Written.{fewest, written, written_rates, written_file}
use Rattle.house_writer.specs.Writing.{after_writing, check_room, put_file, write_file}
use Rattle.house_writer.specs.Rewriting.{rewrite_file}

-- The rates 3, 5, 7 on one axis, top level 1, into six bytes: 01 01 06 0A 0E, and the sixth byte stays.
pub example_written :
    write_file 1 1 (pos 3 ∷ pos 5 ∷ pos 7 ∷ []) (9 ∷ 9 ∷ 9 ∷ 9 ∷ 9 ∷ 9 ∷ [])
    ≡ after_writing (Ok 5) (1 ∷ 1 ∷ 6 ∷ 10 ∷ 14 ∷ 9 ∷ [])
unfolding write_file check_room check_table check_limits check_size check_shape check_length check_rates rate_at first_failing is_rate value_at points_of points start shell vectors sum_to choose written_file written_rates written fewest filed
example_written = refl

-- Into exactly five bytes, and into four.
pub example_exact :
    write_file 1 1 (pos 3 ∷ pos 5 ∷ pos 7 ∷ []) (9 ∷ 9 ∷ 9 ∷ 9 ∷ 9 ∷ []) ≡ after_writing (Ok 5) (1 ∷ 1 ∷ 6 ∷ 10 ∷ 14 ∷ [])
unfolding write_file check_room check_table check_limits check_size check_shape check_length check_rates rate_at first_failing is_rate value_at points_of points start shell vectors sum_to choose written_file written_rates written fewest filed
example_exact = refl

pub example_short :
    write_file 1 1 (pos 3 ∷ pos 5 ∷ pos 7 ∷ []) (9 ∷ 9 ∷ 9 ∷ 9 ∷ []) ≡ after_writing (Err TableLength) (9 ∷ 9 ∷ 9 ∷ 9 ∷ [])
unfolding write_file check_room check_table check_limits check_size check_shape check_length check_rates rate_at first_failing is_rate value_at points_of points start shell vectors sum_to choose written_file written_rates written fewest filed
example_short = refl

-- A number that is no rate comes before a buffer that is too short.
pub rate_before_room :
    write_file 1 1 (pos 3 ∷ pos 2147483648 ∷ pos 7 ∷ []) [] ≡ after_writing (Err (Rate 1)) []
unfolding write_file check_room check_table check_limits check_size check_shape check_length check_rates rate_at first_failing is_rate value_at points_of points start shell vectors sum_to choose written_file written_rates written fewest filed
rate_before_room = refl

-- −2,147,483,648, 2,147,483,647 and −64: 4,294,967,295, 4,294,967,294 and 127.
pub ends_written :
    written_file (sparse 1 1) (negsuc 2147483647 ∷ pos 2147483647 ∷ negsuc 63 ∷ [])
    ≡ 1 ∷ 1 ∷ 255 ∷ 255 ∷ 255 ∷ 255 ∷ 15 ∷ 254 ∷ 255 ∷ 255 ∷ 255 ∷ 15 ∷ 127 ∷ []
unfolding written_file written_rates written fewest filed
ends_written = refl

-- The same table with needless zero groups, in twelve bytes, is rewritten to five; with a byte more it is refused, and the buffer stays.
pub example_rewritten :
    rewrite_file 3 (129 ∷ 0 ∷ 129 ∷ 128 ∷ 0 ∷ 134 ∷ 128 ∷ 0 ∷ 10 ∷ 142 ∷ 128 ∷ 0 ∷ []) (9 ∷ 9 ∷ 9 ∷ 9 ∷ 9 ∷ 9 ∷ [])
    ≡ after_writing (Ok 5) (1 ∷ 1 ∷ 6 ∷ 10 ∷ 14 ∷ 9 ∷ [])
unfolding rewrite_file put_file check_room read_contents read_head read_table read_rates prepended ended read_number groups below limited largest rate_of check_limits check_size check_shape points_of points start shell vectors sum_to choose written_file written_rates written fewest filed
example_rewritten = refl

pub example_left :
    rewrite_file 3 (129 ∷ 0 ∷ 1 ∷ 6 ∷ 10 ∷ 14 ∷ 0 ∷ []) (9 ∷ 9 ∷ []) ≡ after_writing (Err BytesLeft) (9 ∷ 9 ∷ [])
unfolding rewrite_file put_file check_room read_contents read_head read_table read_rates prepended ended read_number groups below limited largest rate_of check_limits check_size check_shape points_of points start shell vectors sum_to choose written_file written_rates written fewest filed
example_left = refl
