-- Parts of one length whose last bytes differ are not the same; else all bytes are compared. Assumes nothing.
use native.Mathlib.Omega.{arith}
use Rattle.table.proofs.ByteLaws.{same-long}
use Rattle.table.proofs.ByteLaws.{differ_at, none_same}
use Rattle.table.proofs.bytes.is_equal.Goals as goal

pub returns-then-n-b : goal.returns-then-n-b
returns-then-n-b c = same-long _ _ c.if-n-b.true

pub returns-then-n-eq0 : goal.returns-then-n-eq0
returns-then-n-eq0 c = none_same _ _ (omega arith) (omega arith)

pub returns-then-a-n : goal.returns-then-a-n
returns-then-a-n c = differ_at _ _ _ c.if-a-n.true
