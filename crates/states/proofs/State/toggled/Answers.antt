-- `states::State::toggled` meets its contract: exclusive or with a bit changes it.
-- Assumes nothing.
use Rattle.std.proofs.Common.{ℕ, ap, ◌∙◌, bit_xor}
use Rattle.naturals.proofs.Shifts.{one_shifted}
use Rattle.states.proofs.Bits.{xor_toggles}
use Rattle.states.proofs.State.toggled.Goals as goal

pub returns : goal.returns
returns c =
    let s = c.args.self in
    ap (λ (n : ℕ). record { shape = s.shape; forward = bit_xor s.forward n }) (one_shifted 8 c.args.t c.requires) ∙ xor_toggles s c.args.t
