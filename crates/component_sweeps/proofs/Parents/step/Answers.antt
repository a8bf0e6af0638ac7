-- `Parents::step` meets its contract: what is stored is the value less half the sum of the two that were read.
-- Assumes nothing.
use mathlib.Core.Path.{◌≡◌, ap, ap₂, sym, ◌∙◌}
use mathlib.Core.List.{List}
use Prim.Native.Nat.{ℕ, suc, ◌+◌, ◌-◌}
use native.Mathlib.Omega.{arith}
use lib.IntN.{ℤ, pos, ◌+ℤ◌, ◌-ℤ◌}
use lib.ListN.{get_or, set}
use mir.Syntax.{w64}
use mir.Val.{to_z, of_z}
use mir.ValLaws.{to_z-of_z}
use Rattle.integers.specs.Half.{half, in_limit}
use Rattle.hierarchy.specs.Turns.{value_at}
use Rattle.hierarchy.proofs.Values.{value_zero, value_suc}
use Rattle.component_sweeps.specs.Steps.{behind, ahead, lowered}
use Rattle.component_sweeps.proofs.Parents.step.Goals.{After-v-1, in-Some, in-None, in-Some-right, in-None-right}
use Rattle.component_sweeps.proofs.Parents.step.Goals as goal

module _ (c : After-v-1) where
  abbrev xs : List ℤ
  xs = c.args.table.now

  abbrev p : ℕ
  p = c.args.p

  own_is : to_z w64 (of_z w64 (get_or xs p (pos 0))) ≡ value_at xs (suc p)
  own_is = to_z-of_z w64 (get_or xs p (pos 0)) (record { sfits = omega arith }) ∙ sym (value_suc xs p)

  behind_is : to_z w64 c.match-self.a-bits ≡ value_at xs (behind p c.args.self.left)
  behind_is =
      elim c.match-self.branch [
        | in-Some w ↦
            w.a-is
            ∙ to_z-of_z w64 (get_or xs (p - w.in-Some.far) (pos 0)) (record { sfits = omega arith })
            ∙ sym (value_suc xs (p - w.in-Some.far))
            ∙ ap (λ o. value_at xs (behind p o)) (sym w.in-Some.is)
        | in-None w ↦ w.a-is ∙ sym (value_zero xs) ∙ ap (λ o. value_at xs (behind p o)) (sym w.in-None.is)
      ]

  ahead_is : to_z w64 c.match-self-2.b-bits ≡ value_at xs (ahead p c.args.self.right)
  ahead_is =
      elim c.match-self-2.branch [
        | in-Some-right w ↦
            w.b-is
            ∙ to_z-of_z w64 (get_or xs (p + w.in-Some-right.far) (pos 0)) (record { sfits = omega arith })
            ∙ sym (value_suc xs (p + w.in-Some-right.far))
            ∙ ap (λ o. value_at xs (ahead p o)) (sym w.in-Some-right.is)
        | in-None-right w ↦ w.b-is ∙ sym (value_zero xs) ∙ ap (λ o. value_at xs (ahead p o)) (sym w.in-None-right.is)
      ]

pub less_half-requires : goal.less_half-requires
less_half-requires c =
    let read = (goal.at.less_half-requires c).After-v-1 in (
      ap in_limit (own_is read) ∙ c.requires.own,
      ap in_limit (behind_is read) ∙ c.requires.behind_in,
      ap in_limit (ahead_is read) ∙ c.requires.ahead_in,
    )

pub returns : goal.returns
unfolding lowered
returns c =
    let read = (goal.at.returns c).After-v-1 in
    ap (set c.args.table.now c.args.p)
    (to_z-of_z w64 c.less_half.result (record { sfits = c.less_half.type_inv })
    ∙ c.less_half.ensures
    ∙ ap₂ (λ (v w : ℤ). v -ℤ half w) (own_is read) (ap₂ ◌+ℤ◌ (behind_is read) (ahead_is read)))
