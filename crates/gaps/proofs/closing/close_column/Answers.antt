use native.Mathlib.Omega.{arith}
use mathlib.Core.Path.{◌∙◌}
use lib.ListN.{get_or, length-set}
use Rattle.gaps.proofs.ClosingLaws.{close_step, close_end, step-inside}
use Rattle.gaps.proofs.closing.close_column.Goals as goal

pub loop-i-preserved : goal.loop-i-preserved
loop-i-preserved g c =
    let l = c.loop-i in
    let m = c.args.marks.now in
    let v = c.index-column-i.result in
    let small = step-inside (get_or m l.i 0) _ c.step-to.ensures in
    (rw c.step-to.ensures (close_step m l.column l.i l.to v v c.index-column-i.is l.invariant.1 (omega arith) (omega arith) ∙ l.invariant.0), omega arith, omega arith, simp length-set l.invariant.3)

pub returns : goal.returns
returns g c =
    let l = c.loop-i in
    let a = c.args in
    close_end a.zero a.marks.now a.column.now l.column c.fill.new.part l.i l.to l.invariant.0 l.invariant.3 (omega arith) (omega arith) c.fill.ensures
