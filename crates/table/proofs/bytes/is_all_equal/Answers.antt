use native.Mathlib.Omega.{arith}
use mathlib.Core.Path.{refl, sym, ◌∙◌}
use Rattle.table.proofs.ByteLaws.{equal_step, equal_end}
use Rattle.table.proofs.bytes.is_all_equal.Goals as goal

pub loop-i-init : goal.loop-i-init
loop-i-init c = (omega arith, refl)

pub loop-i-preserved : goal.loop-i-preserved
loop-i-preserved c =
    let l = c.loop-i in
    let a = c.args in
    (omega arith, (l.invariant.1 ∙ equal_step a.a.now a.b.now l.i l.equal (omega arith) (omega arith)))

pub returns : goal.returns
returns c =
    let l = c.loop-i in
    let a = c.args in
    sym (l.invariant.1 ∙ equal_end a.a.now a.b.now l.i l.equal (omega arith) (omega arith))
