use native.Mathlib.Omega.{arith}
use mathlib.Core.Path.{refl, ◌∙◌}
use lib.ListN.{length-set}
use Rattle.table.specs.Changes.{due_marks}
use Rattle.table.proofs.ByteLaws.{copy_more, copy_end}
use Rattle.gaps.proofs.ClosingLaws.{due_length, due_at_lem}
use Rattle.changes.proofs.mark_due.Goals as goal

pub loop-i-init : goal.loop-i-init
loop-i-init c = (refl, omega arith, refl)

pub loop-i-preserved : goal.loop-i-preserved
loop-i-preserved c =
    let a = c.args in
    let l = c.loop-i in
    let marks = due_marks a.clock a.t.now.readings a.t.now.seconds a.t.now.limited in
    let long = due_length a.clock a.t.now.readings a.t.now.seconds a.t.now.limited in
    let at = due_at_lem a.clock a.t.now.readings a.t.now.seconds a.t.now.limited l.i (omega arith) in
    (rw (c.flag_of.ensures, c.is_due.ensures, ← at, l.invariant.0) (copy_more marks a.marks.now l.i (omega arith) (omega arith)), omega arith, simp length-set l.invariant.2)

pub returns : goal.returns
returns c =
    let a = c.args in
    let l = c.loop-i in
    let marks = due_marks a.clock a.t.now.readings a.t.now.seconds a.t.now.limited in
    let long = due_length a.clock a.t.now.readings a.t.now.seconds a.t.now.limited in
    l.invariant.0 ∙ copy_end marks a.marks.now l.i (omega arith) (omega arith)
