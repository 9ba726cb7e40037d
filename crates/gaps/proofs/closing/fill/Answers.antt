use native.Mathlib.Omega.{arith}
use mathlib.Core.Path.{◌∙◌}
use lib.ListN.{replicate}
use lib.Seq.{paste-zero}
use Rattle.gaps.proofs.ClosingLaws.{filled-more, filled-all}
use Rattle.gaps.proofs.closing.fill.Goals as goal

pub loop-i-init : goal.loop-i-init
loop-i-init g c = paste-zero c.args.part.now 0 (replicate 0 c.args.value)

pub loop-i-preserved : goal.loop-i-preserved
loop-i-preserved g c = let l = c.loop-i in rw l.invariant (filled-more c.args.part.now c.args.value l.i (omega arith))

pub returns : goal.returns
returns g c = let l = c.loop-i in l.invariant ∙ filled-all c.args.part.now c.args.value l.i (omega arith)
