-- `turns::try_on` meets its contract, by `Trying`.
-- Assumes nothing.
use mathlib.Core.Path.{sym, ◌∙◌}
use mathlib.Core.Logic.{inl, inr}
use Rattle.lists.proofs.Blocks.{on_line}
use Rattle.turns.proofs.Trying.{sweep_room, undo_room, turn_long, try_done, try_refused}
use Rattle.turns.proofs.try_on.Goals.{then-sweep-eq0+else-all_in_limit, else-sweep-eq0}
use Rattle.turns.proofs.try_on.Goals as goal

pub sweep-requires : goal.sweep-requires
sweep-requires g c = (c.requires.0, sweep_room (on_line c.args.line c.requires.0) c.requires.1)

pub returns-then-all_in_limit : goal.returns-then-all_in_limit
returns-then-all_in_limit g c =
    try_done (on_line c.args.line c.requires.0) c.requires.1 g.D.Direction.ahead c.sweep.ensures.turned
    (sym c.sweep.ensures.odds ∙ c.if-sweep-eq0.true)
    (sym c.all_in_limit.ensures ∙ c.if-all_in_limit.true)

pub undo-requires : goal.undo-requires
undo-requires g c =
    let on = on_line c.args.line c.requires.0 in
    rw c.sweep.ensures.turned (turn_long on c.requires.1 g.D.Direction.ahead, undo_room on c.requires.1 g.D.Direction.ahead)

pub returns : goal.returns
returns g c =
    let on = on_line c.args.line c.requires.0 in
    elim c.if-sweep-eq0.branch [
      | then-sweep-eq0+else-all_in_limit w ↦
          try_refused on c.requires.1 g.D.Direction.ahead c.sweep.ensures.turned (inr (sym w.all_in_limit.ensures ∙ w.if-all_in_limit.false)) c.undo.ensures
      | else-sweep-eq0 w ↦
          try_refused on c.requires.1 g.D.Direction.ahead c.sweep.ensures.turned (inl (λ none. w.if-sweep-eq0.false (c.sweep.ensures.odds ∙ none)))
          c.undo.ensures
    ]
