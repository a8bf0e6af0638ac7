use mathlib.Core.Path.{◌≡◌, refl}
use Prim.Native.Nat.{◌+◌, ◌-◌, ◌*◌, ◌%◌, ◌^◌}
use native.Mathlib.Nat.{zero-add}
use native.Mathlib.Omega.{arith}
use lib.Pow.{pow_pos}
use Rattle.numbering.specs.declared.Side.TheVariants.{Left, Right}
use Rattle.numbering.specs.Point.{at}
use Rattle.neighbours.proofs.Beside.{bits}
use Rattle.neighbours.proofs.Seeing.{seen}
use Rattle.lists.proofs.Blocks.{Here, Edge, Between, beyond_small, shift_small, near_is, start_small_lem, end_small, long_small, odds_few, edge_asks, between_asks, run_done, first_run, one_pair, numerator_small, numerator_inside, up_run, down_run, next_near, last_run, block_done}
use Rattle.lists.proofs.block.Given.{Over}
use Rattle.lists.proofs.block.Goals.{Start, After-parent_run-far, After-run_between-odd, After-loop-j}
use Rattle.lists.proofs.block.Goals as goal

-- ---- shifts

pub overflow_shl-pairs : goal.overflow_shl-pairs
overflow_shl-pairs g c = omega (arith, bits (seen c.args.v))

pub overflow_add-near : goal.overflow_add-near
overflow_add-near g c = omega (arith, bits (seen c.args.v))

pub overflow_shl-near : goal.overflow_shl-near
overflow_shl-near g c = omega (arith, bits (seen c.args.v))

pub overflow_add-near-2 : goal.overflow_add-near-2
overflow_add-near-2 g c =
    let w = c.requires.0 in
    let b = c.requires.1 in
    omega (arith, near_is w b, start_small_lem w b c.requires.2, shift_small w b)

-- ---- the first run

here : (g : Over) (c : Start g) → let a = c.args in Here a.v a.starts.now a.first a.beyond a.width a.table.now
here g c = record { work = c.requires.0; block = c.requires.1; wide = c.requires.3 }

first : (g : Over) (c : Start g) →
    let a = c.args in
    let near = at a.starts.now 1 + a.beyond * 2 ^ (a.v.low + a.v.own - 1) % 2 ^ 64 in
    Edge g.D.Direction.ahead a.v Left a.rims a.first a.width a.table.now 0 a.first near 0 a.table.now
first g c = rw c.requires.4 (first_run (here g c) c.requires.2 (near_is c.requires.0 c.requires.1))

pub edge_run-odd-requires : goal.edge_run-odd-requires
edge_run-odd-requires g c = edge_asks (first g (goal.at.edge_run-odd-requires g c).Start)

pub loop-j-init : goal.loop-j-init
loop-j-init g c =
    let start = (goal.at.loop-j-init g c).Start in
    let r = first g start in
    let done = run_done r.next c.edge_run-odd.ensures r.sums 1 refl in
    (rw zero-add at done, near_is c.requires.0 c.requires.1)

-- ---- a turn of the loop

pub overflow_mul-j : goal.overflow_mul-j
overflow_mul-j g c = omega (arith, numerator_small (here g (goal.at.overflow_mul-j g c).Start) c.requires.2 c.loop-j.auto.j c.loop-j-test.true)

pub parent_run-far-requires : goal.parent_run-far-requires
parent_run-far-requires g c =
    let h = here g (goal.at.parent_run-far-requires g c).Start in
    let some = c.loop-j.auto.j in
    let inside = numerator_inside h c.requires.2 some c.loop-j-test.true in
    (h.work.below, beyond_small h.work h.block, omega arith, omega (arith, some), omega (arith, inside))

-- The run with the digit 2j − 1.
up : (g : Over) (c : After-parent_run-far g) →
    let a = c.args in
    let s = c.loop-j in
    let width = a.width in
    Between g.D.Direction.ahead a.v a.first width a.table.now (2 * s.j - 1) (s.x + width) s.near c.parent_run-far.result s.odd s.table
up g c =
    let s = c.loop-j.invariant in
    up_run (here g (goal.at.After-parent_run-far g c).Start) c.requires.2 c.loop-j.auto.j c.loop-j-test.true c.parent_run-far.ensures s.0 s.1

pub overflow_add-x : goal.overflow_add-x
overflow_add-x g c = omega (arith, end_small (up g (goal.at.overflow_add-x g c).After-parent_run-far).next)

pub run_between-odd-requires : goal.run_between-odd-requires
run_between-odd-requires g c = between_asks (up g (goal.at.run_between-odd-requires g c).After-parent_run-far)

pub overflow_add-odd : goal.overflow_add-odd
overflow_add-odd g c = omega (arith, odds_few (up g (goal.at.overflow_add-odd g c).After-parent_run-far).next c.run_between-odd.ensures)

-- The run with the digit 2j.
down : (g : Over) (c : After-run_between-odd g) →
    let a = c.args in
    let s = c.loop-j in
    let width = a.width in
    let far = c.parent_run-far.result in
    let run = c.run_between-odd in
    Between g.D.Direction.ahead a.v a.first width a.table.now (2 * s.j) (s.x + width + width) far (s.near + width) (s.odd + run.result) run.new.table
down g c =
    let s = c.loop-j.invariant in
    let before = goal.at.After-run_between-odd g c in
    let r = up g before.After-parent_run-far in
    let done = run_done r.next c.run_between-odd.ensures r.sums (2 * c.loop-j.j) (omega (arith, c.loop-j.auto.j)) in
    down_run (here g before.Start) c.requires.2 c.loop-j.auto.j c.loop-j-test.true c.parent_run-far.ensures done (next_near (here g before.Start) c.requires.2 c.loop-j.auto.j c.loop-j-test.true s.1)

pub overflow_add-x-in-loop-j : goal.overflow_add-x-in-loop-j
overflow_add-x-in-loop-j g c = omega (arith, end_small (down g (goal.at.overflow_add-x-in-loop-j g c).After-run_between-odd).next)

pub overflow_add-near-in-loop-j : goal.overflow_add-near-in-loop-j
overflow_add-near-in-loop-j g c =
    let r = down g (goal.at.overflow_add-near-in-loop-j g c).After-run_between-odd in
    omega (arith, r.right.inside, long_small r.next)

pub run_between-odd-requires-in-loop-j : goal.run_between-odd-requires-in-loop-j
run_between-odd-requires-in-loop-j g c = between_asks (down g (goal.at.run_between-odd-requires-in-loop-j g c).After-run_between-odd)

pub overflow_add-odd-in-loop-j : goal.overflow_add-odd-in-loop-j
overflow_add-odd-in-loop-j g c =
    omega (arith, odds_few (down g (goal.at.overflow_add-odd-in-loop-j g c).After-run_between-odd).next c.run_between-odd-in-loop-j.ensures)

pub loop-j-preserved : goal.loop-j-preserved
loop-j-preserved g c =
    let s = c.loop-j.invariant in
    let before = goal.at.loop-j-preserved g c in
    let r = down g before.After-run_between-odd in
    let done = run_done r.next c.run_between-odd-in-loop-j.ensures r.sums (2 * (c.loop-j.j + 1) - 1) (omega arith) in
    let same : c.loop-j.j + 1 - 1 ≡ c.loop-j.j = omega arith in
    (done, rw same (next_near (here g before.Start) c.requires.2 c.loop-j.auto.j c.loop-j-test.true s.1))

-- ---- the last run

last : (g : Over) (c : After-loop-j g) →
    let a = c.args in
    let s = c.loop-j in
    let width = a.width in
    Edge g.D.Direction.ahead a.v Right a.rims a.first width a.table.now (2 ^ a.v.own - 1) (s.x + width) s.near s.odd s.table
last g c =
    let s = c.loop-j.invariant in
    let h = here g (goal.at.After-loop-j g c).Start in
    rw c.requires.4 (last_run h c.requires.2 c.loop-j.auto.j (c.loop-j.auto.j-end (one_pair h c.requires.2)) c.loop-j-test.false s.0 s.1)

pub overflow_add-x-2 : goal.overflow_add-x-2
overflow_add-x-2 g c = omega (arith, end_small (last g (goal.at.overflow_add-x-2 g c).After-loop-j).next)

pub edge_run-requires : goal.edge_run-requires
edge_run-requires g c = edge_asks (last g (goal.at.edge_run-requires g c).After-loop-j)

pub overflow_add-result : goal.overflow_add-result
overflow_add-result g c = omega (arith, odds_few (last g (goal.at.overflow_add-result g c).After-loop-j).next c.edge_run.ensures)

pub returns : goal.returns
returns g c =
    let r = last g (goal.at.returns g c).After-loop-j in
    block_done r.next (omega (arith, pow_pos c.args.v.own)) c.edge_run.ensures r.sums
