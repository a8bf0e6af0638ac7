-- The points that a list of calls opens and closes, as sums over the calls that were not refused (document 02, i).
-- Assumes nothing.
use Rattle.std.specs.Prelude.{List, [], ◌∷◌, ℕ, ◌+◌, ◌-◌}
use Rattle.refusals.specs.declared.Refusal.{Refusal}
use Rattle.refusals.specs.Checks.{answer, Verdict}
use Rattle.shapes.specs.Shapes.{sparse, points_of}
use Rattle.accounts.specs.declared.Account.{Account}
use Rattle.accounts.specs.Accounts.{points_under}
use Rattle.histories.specs.Histories.{Call, opening, closing, carried_out}

-- So many points where the call was not refused, else none.
abbrev pub none : Refusal → ℕ
none r = 0

abbrev pub unrefused : Verdict → ℕ → ℕ
unrefused v points = answer none v points

-- The points that one call opens: those of its shape. Those that it closes: those that were open under its tag.
unfoldable pub opens : Call → Account → ℕ
opens (opening office tag axes level) a = unrefused (carried_out (opening office tag axes level) a).verdict (points_of (sparse axes level))
opens (closing office tag) a = 0

unfoldable pub closes : Call → Account → ℕ
closes (opening office tag axes level) a = 0
closes (closing office tag) a = unrefused (carried_out (closing office tag) a).verdict (points_under a (office - 1) tag)

-- The same of a list of calls, from an account on.
unfoldable pub all_opened : List Call → Account → ℕ
all_opened [] a = 0
all_opened (call ∷ calls) a = opens call a + all_opened calls (carried_out call a).account

unfoldable pub all_closed : List Call → Account → ℕ
all_closed [] a = 0
all_closed (call ∷ calls) a = closes call a + all_closed calls (carried_out call a).account
