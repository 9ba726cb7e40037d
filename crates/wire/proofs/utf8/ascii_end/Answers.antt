use native.Mathlib.Omega.{arith}
use Rattle.wire.proofs.Longest.{ascii_more, ascii_over, ascii_none}
use Rattle.wire.proofs.utf8.ascii_end.Goals as goal

pub returns-then-b-gt127 : goal.returns-then-b-gt127
returns-then-b-gt127 c =
    let over = ascii_over c.args.s.now c.loop-i.i (omega arith) c.if-b-gt127.true in
    omega (arith, over, c.loop-i.invariant)

pub loop-i-preserved : goal.loop-i-preserved
loop-i-preserved c =
    let more = ascii_more c.args.s.now c.loop-i.i (omega arith) (omega (arith, c.if-b-gt127.false)) in
    omega (arith, more, c.loop-i.invariant)

pub returns : goal.returns
returns c =
    let none = ascii_none c.args.s.now c.loop-i.i (omega arith) in
    omega (arith, none, c.loop-i.invariant)
