-- What the inner functions of the account's calls answer.
-- Assumes nothing.
use Rattle.std.specs.Prelude.{List, ℕ, ◌+◌, ◌-◌, leb, set, if◌then◌else◌}
use Rattle.naturals.specs.Sum.{sum_to}
use Rattle.refusals.specs.declared.Refusal.TheVariants.{Allowance}
use Rattle.refusals.specs.Checks.{unless, Verdict}
use Rattle.numbering.specs.Point.{at}
use Rattle.accounts.specs.declared.Account.{Account}
use Rattle.accounts.specs.declared.Answered.{Answered}
use Rattle.accounts.specs.Accounts.{account_of, offices, own_points, common_points, tags, by_office, is_slot, points_in, under}

-- The points open in a slot and for an office, where a slot that holds what it may not counts as 65,535: more than the points of any shape, and more than the
-- common points and an office's own together.
abbrev pub no_shape : ℕ
no_shape = 65535

unfoldable pub weight : ℕ → ℕ
weight byte = if is_slot byte then points_in byte else no_shape

unfoldable pub weight_under : Account → ℕ → ℕ → ℕ
weight_under a o tag = weight (under a o tag)

unfoldable pub weighed : Account → ℕ → ℕ
weighed a o = sum_to (weight_under a o) tags

abbrev pub weighed_by : Account → List ℕ
weighed_by a = by_office (weighed a)

-- The common points that offices with so many points open use.
abbrev pub above_at : List ℕ → ℕ → ℕ
above_at points o = at points o - own_points

unfoldable pub common_over : List ℕ → ℕ
common_over points = sum_to (above_at points) offices

-- The common points in use, were so many points more open for the office at place o, are no more than there are: else refused with 20.
unfoldable pub check_more : List ℕ → ℕ → ℕ → Verdict
check_more points o more = unless (leb (common_over (set points o (at points o + more))) common_points) Allowance

-- What a call leaves that works in a lent account.
abbrev pub answered : Verdict → List ℕ → Answered
answered v slots = record { verdict = v; account = account_of slots }
