-- `Factor::seen_scaled` meets its contract: what is gathered is in range and divided by 2^d only where all that it is gathered of are.
-- Assumes nothing.
use Rattle.std.proofs.Common.{◌≡◌, ℕ, ◌+◌, ◌*◌, ◌<◌, ◌%◌, ◌^◌, ap, sym, ◌∙◌, pos, get_or, arith, eqb-true}
use Rattle.naturals.proofs.Shifts.{one_shifted}
use Rattle.hierarchy.proofs.Values.{value_suc}
use Rattle.tables.specs.Tables.{is_scaled, scaled_at}
use Rattle.tables.proofs.Divisible.{scaled_within}
use Rattle.tables.proofs.Factor.seen_scaled.Goals as goal

pub returns-then-bits-axes : goal.returns-then-bits-axes
unfolding scaled_at
returns-then-bits-axes c e p h =
    let d = c.args.self.axes in
    let xs = c.args.table.now in
    let bits = c.gathered-bits.result in
    let small : bits < 2 ^ (31 + d + 1) =
    omega (arith, one_shifted 64 (32 + d) (omega arith), ap (λ (n : ℕ). 2 ^ n) (let k : 32 + d ≡ 31 + d + 1 = omega arith in k)) in
    let divided : bits % 2 ^ d ≡ 0 = ap (λ (n : ℕ). bits % n) (sym (one_shifted 64 d (omega arith))) ∙ eqb-true (bits % (1 * 2 ^ d % 2 ^ 64)) 0 e in
    ap (is_scaled d) (value_suc xs p)
    ∙ scaled_within d (get_or xs p (pos 0)) (c.gathered-bits.ensures.within small p h) (c.gathered-bits.ensures.divided d (omega arith) divided p h)
