use native.Mathlib.Omega.{arith}
use mathlib.Core.Path.{sym, ◌∙◌}
use Rattle.table.proofs.ByteLaws.{greatest-step, greatest-end}
use Rattle.table.proofs.bytes.greatest_byte.Goals as goal

pub loop-i-init : goal.loop-i-init
loop-i-init c = (omega arith, omega arith)

pub loop-i-preserved : goal.loop-i-preserved
loop-i-preserved c =
    let l = c.loop-i in
    let a = c.args in
    (rw (c.max-most.ensures, c.max.ensures) (l.invariant.0 ∙ greatest-step a.a.now a.b.now l.i l.most (omega arith) (omega arith)), omega arith)

pub returns : goal.returns
returns c =
    let l = c.loop-i in
    let a = c.args in
    sym (l.invariant.0 ∙ greatest-end a.a.now a.b.now l.i l.most (omega arith) (omega arith))
