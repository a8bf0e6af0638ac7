-- Histories of an account (document 02, i): calls in a row, the first handed an empty account, and each later one the account that the call before it left. The
-- calls are the very definitions of opening and closing.
-- Assumes nothing.
use Rattle.std.specs.Prelude.{◌≡◌, List, [], ◌∷◌, ℕ}
use Rattle.refusals.specs.Checks.{Verdict}
use Rattle.accounts.specs.declared.Account.{Account}
use Rattle.accounts.specs.declared.Answered.{Answered}
use Rattle.accounts.specs.Accounts.{empty}
use Rattle.accounts.specs.Calls.{open_table, close_table}

pub data Call : Type 0 where
  -- office, tag, axes and top level
  opening : ℕ → ℕ → ℕ → ℕ → Call
  -- office and tag
  closing : ℕ → ℕ → Call

-- One call.
abbrev pub carried_out : Call → Account → Answered
carried_out (opening office tag axes level) a = open_table a office tag axes level
carried_out (closing office tag) a = close_table a office tag

-- What a list of calls leaves: the answers in order, and the account.
pub record Ran : Type 0 where
  pub answers : List Verdict
  pub account : Account

abbrev pub answering : Verdict → Ran → Ran
answering v r = record { answers = v ∷ r.answers; account = r.account }

unfoldable pub run : List Call → Account → Ran
run [] a = record { answers = []; account = a }
run (call ∷ calls) a = answering (carried_out call a).verdict (run calls (carried_out call a).account)

-- A history: from an empty account.
abbrev pub history : List Call → Ran
history calls = run calls empty

-- Some history gives this account.
pub record Given (a : Account) : Type 0 where
  pub calls : List Call
  pub leaves : (history calls).account ≡ a
