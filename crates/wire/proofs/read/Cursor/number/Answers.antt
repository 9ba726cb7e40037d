-- Fewer than four bytes are a fault; else the four that stand there are joined as the definition joins them. Assumes nothing.
use native.Mathlib.Omega.{arith}
use Rattle.wire.specs.Numbers.{be_at}
use Rattle.wire.proofs.Reading.{number_cut, number_there}
use Rattle.wire.proofs.read.Cursor.number.Goals as goal

pub returns-then-s-at : goal.returns-then-s-at
returns-then-s-at c = number_cut _ _ (omega arith)

pub returns : goal.returns
unfolding be_at
returns c = rw c.join-n.ensures (number_there _ _ (omega arith))
