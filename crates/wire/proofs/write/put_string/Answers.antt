-- The length is written, and the bytes behind it. Assumes nothing.
use native.Mathlib.Omega.{arith}
use Rattle.wire.proofs.Writing.{write-behind}
use Rattle.wire.proofs.write.put_string.Goals as goal

pub returns : goal.returns
returns c = (omega arith, write-behind _ _ _ _ _ _ _ c.put_number-from.ensures.1 c.put_bytes.ensures.1 (omega arith) (omega arith))
