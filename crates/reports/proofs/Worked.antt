-- Document 01's example of the program, character by character, and two files more: each is what the definition of a report computes to.
-- Assumes nothing.
use mathlib.Core.Path.{◌≡◌, refl}
use mathlib.Core.List.{[], ◌∷◌}
use lib.Count.{count_trailing_zeros}
use Rattle.naturals.specs.Sum.{sum_to}
use Rattle.integers.specs.Half.{half}
use Rattle.numbering.specs.Binomial.{choose}
use Rattle.numbering.specs.Count.{vectors, shell, start, points}
use Rattle.numbering.specs.Number.{ending, rank, digit, position, first_of, number}
use Rattle.numbering.specs.Inverse.{block, last_level, level_of, sum_at, within, level_at, index_of, index_at}
use Rattle.numbering.specs.Parent.{is_border, twos, parent_level, parent_index, update}
use Rattle.hierarchy.specs.Turns.{value_at, values_of, sum_on, forward}
use Rattle.hierarchy.specs.Sets.{scaled, swept, table_of}
use Rattle.numbered.specs.Neighbours.{move, moved, beside, code_of}
use Rattle.numbered.specs.Neighbours as numbered_points
use Rattle.shapes.specs.Shapes.{check_limits, check_size, check_shape, points_of}
use Rattle.grids.specs.Grids.{number_of, mark_on, level_on, index_on, neighbour}
use Rattle.whole.specs.Whole.{coefficients_of}
use Rattle.house_numbers.specs.Numbers.{below, groups, largest, limited, read_number, rate_of}
use Rattle.house_rates.specs.Rates.{prepended, read_rates}
use Rattle.house_file.specs.Files.{read_head, ended, read_table, read_contents}
use Rattle.texts.specs.Text.{digits_of, decimal, signed, heading_of, point_line, point_lines, refused_line}
use Rattle.reports.specs.Report.{table_text, report}

-- 01 01 06 0A 0E: "axes 1 level 1 points 3", "0 6", "1 7", "2 11".
abbrev pub Example : Type 0
Example = report (1 ∷ 1 ∷ 6 ∷ 10 ∷ 14 ∷ []) ≡ 97 ∷ 120 ∷ 101 ∷ 115 ∷ 32 ∷ 49 ∷ 32 ∷ 108 ∷ 101 ∷ 118 ∷ 101 ∷ 108 ∷ 32 ∷ 49 ∷ 32 ∷ 112 ∷ 111 ∷ 105 ∷ 110 ∷ 116 ∷ 115 ∷ 32 ∷ 51 ∷ 10 ∷ 48 ∷ 32 ∷ 54 ∷ 10 ∷ 49 ∷ 32 ∷ 55 ∷ 10 ∷ 50 ∷ 32 ∷ 49 ∷ 49 ∷ 10 ∷ []

-- 01 00 01, the rate −1: "axes 1 level 0 points 1", "0 -2".
abbrev pub Negative : Type 0
Negative = report (1 ∷ 0 ∷ 1 ∷ []) ≡ 97 ∷ 120 ∷ 101 ∷ 115 ∷ 32 ∷ 49 ∷ 32 ∷ 108 ∷ 101 ∷ 118 ∷ 101 ∷ 108 ∷ 32 ∷ 48 ∷ 32 ∷ 112 ∷ 111 ∷ 105 ∷ 110 ∷ 116 ∷ 115 ∷ 32 ∷ 49 ∷ 10 ∷ 48 ∷ 32 ∷ 45 ∷ 50 ∷ 10 ∷ []

-- 09, which ends before n: "refused 11".
abbrev pub Cut : Type 0
Cut = report (9 ∷ []) ≡ 114 ∷ 101 ∷ 102 ∷ 117 ∷ 115 ∷ 101 ∷ 100 ∷ 32 ∷ 49 ∷ 49 ∷ 10 ∷ []

pub worked_reports : Example × Negative × Cut
unfolding digits_of decimal signed heading_of point_line point_lines refused_line table_text report sum_to choose vectors shell start points points_of check_limits check_size check_shape number_of mark_on level_on index_on block last_level level_of sum_at within level_at index_of index_at ending rank digit position first_of number is_border twos parent_level parent_index update count_trailing_zeros half value_at values_of sum_on forward scaled swept table_of numbered_points.across move moved beside code_of numbered_points.neighbour neighbour coefficients_of below groups largest limited read_number rate_of prepended read_rates ended read_table read_contents read_head
worked_reports = (refl, refl, refl)
