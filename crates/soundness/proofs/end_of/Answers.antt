use native.Mathlib.Omega.{arith}
use mathlib.Core.Path.{sym}
use Rattle.table.proofs.EntryLaws.{start_none}
use Rattle.soundness.proofs.SoundnessLaws.{start-more}
use Rattle.soundness.proofs.end_of.Goals as goal

pub loop-i-init : goal.loop-i-init
loop-i-init c = (omega arith, sym (start_none _ _ _), omega arith)

pub loop-i-preserved : goal.loop-i-preserved
loop-i-preserved c =
    let (_, _, limits) = c.requires in
    let (blob, fields, comment) = limits c.loop-i.i (omega arith) in
    (omega arith, start-more _ _ _ c.loop-i.i _ c.loop-i.invariant.1, omega arith)
