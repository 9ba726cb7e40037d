use native.Mathlib.Omega.{arith}
use Rattle.table.proofs.EntryLaws.{count_within, count_step, count_ends}
use Rattle.table.proofs.entries.count.Goals as goal

pub returns-then-numbers-n-eq0 : goal.returns-then-numbers-n-eq0
returns-then-numbers-n-eq0 c = count_ends _ c.loop-n.n c.loop-n.invariant c.if-numbers-n-eq0.true

pub loop-n-preserved : goal.loop-n-preserved
loop-n-preserved c = count_step _ c.loop-n.n c.loop-n.invariant c.if-numbers-n-eq0.false

pub returns : goal.returns
returns c =
    let within = count_within c.args.numbers.now in
    let below = c.loop-n.invariant in
    omega arith
