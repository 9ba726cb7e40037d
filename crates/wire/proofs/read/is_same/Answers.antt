-- What is left of the two lists is the same exactly where they are. Assumes nothing.
use native.Mathlib.Omega.{arith}
use Rattle.wire.proofs.Reading.{same-all, same-long, same_step, same_stop, same_end}
use Rattle.wire.proofs.read.is_same.Goals as goal

pub returns-then-a-b : goal.returns-then-a-b
returns-then-a-b c = same-long _ _ (λ e. omega arith)

pub loop-i-init : goal.loop-i-init
loop-i-init c = (omega arith, same-all _ _)

pub returns-then-a-i : goal.returns-then-a-i
returns-then-a-i c = same_stop _ _ _ _ c.loop-i.invariant.1 (omega arith) (omega arith) c.if-a-i.true

pub loop-i-preserved : goal.loop-i-preserved
loop-i-preserved c = (omega arith, same_step _ _ _ _ c.loop-i.invariant.1 (omega arith) (omega arith) c.if-a-i.false)

pub returns : goal.returns
returns c = same_end _ _ _ _ c.loop-i.invariant.1 (omega arith) (omega arith)
