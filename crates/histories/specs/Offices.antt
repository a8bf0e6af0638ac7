-- The calls of one office among those of all, their answers, and whether the office ever tries to have more open than its own points (document 02, i).
-- Assumes nothing.
use Rattle.std.specs.Prelude.{Bool, true, false, not, ◌&&◌, ◌≡◌, List, [], ◌∷◌, ℕ, ◌+◌, ◌-◌, ltb, eqb, if◌then◌else◌, Err}
use Rattle.refusals.specs.declared.Refusal.TheVariants.{Allowance}
use Rattle.refusals.specs.Checks.{passes, Verdict}
use Rattle.shapes.specs.Shapes.{sparse, points_of}
use Rattle.accounts.specs.declared.Account.{Account}
use Rattle.accounts.specs.Accounts.{own_points, held}
use Rattle.accounts.specs.Calls.{check_opening}
use Rattle.histories.specs.Histories.{Call, opening, closing, carried_out}

-- The office that a call names, whatever number it is.
abbrev pub office_of : Call → ℕ
office_of (opening office tag axes level) = office
office_of (closing office tag) = office

abbrev pub is_by : ℕ → Call → Bool
is_by office call = eqb (office_of call) office

-- The calls of an office, in their order.
unfoldable pub own : ℕ → List Call → List Call
own office [] = []
own office (call ∷ calls) = if is_by office call then call ∷ own office calls else own office calls

-- Of the answers to a list of calls, those to the calls of an office.
unfoldable pub answers_to : ℕ → List Call → List Verdict → List Verdict
answers_to office [] answers = []
answers_to office (call ∷ calls) [] = []
answers_to office (call ∷ calls) (v ∷ answers) =
    if is_by office call then v ∷ answers_to office calls answers else answers_to office calls answers

-- A call tries to have more open than the office's own points: an opening that nothing but the allowance could refuse, and with which its office would have more.
unfoldable pub tries : Call → Account → Bool
tries (opening office tag axes level) a =
    passes (check_opening a office tag axes level) && ltb own_points (held a (office - 1) + points_of (sparse axes level))
tries (closing office tag) a = false

-- No call of the office tries, each on the account that it is handed.
unfoldable pub never_tries : ℕ → List Call → Account → Bool
never_tries office [] a = true
never_tries office (call ∷ calls) a = not (is_by office call && tries call a) && never_tries office calls (carried_out call a).account

-- None of these answers is 20.
abbrev pub NoneWants : List Verdict → Type 0
NoneWants [] = Unit {0}
NoneWants (v ∷ answers) = (v ≡ Err Allowance → ⊥) × NoneWants answers
