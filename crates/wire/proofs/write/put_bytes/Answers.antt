use native.Mathlib.Omega.{arith}
use mathlib.Core.Path.{refl}
use Rattle.wire.proofs.Writing.{copied_none, copied_more, copied_all, write-part}
use Rattle.wire.proofs.write.put_bytes.Goals as goal

pub loop-i-init : goal.loop-i-init
loop-i-init c = copied_none _ _ _

pub loop-i-preserved : goal.loop-i-preserved
loop-i-preserved c = copied_more _ _ _ _ _ c.loop-i.invariant (omega arith) (omega arith)

pub returns-after-loop-i : goal.returns-after-loop-i
returns-after-loop-i c = (refl, copied_all _ _ _ _ _ c.loop-i.invariant (omega arith))

pub returns-in_default : goal.returns-in_default
returns-in_default c = (refl, write-part _ _ _ _ _ c.copy_from_slice.ensures.after (omega arith))
