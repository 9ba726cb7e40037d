-- The test is the definition's, so each return is its case. Assumes nothing.
use Rattle.wire.proofs.Reading.{byte_there, byte_cut}
use Rattle.wire.proofs.read.Cursor.byte.Goals as goal

pub returns-then-s-at : goal.returns-then-s-at
returns-then-s-at c = byte_cut _ _ c.if-s-at.true

pub returns : goal.returns
returns c = byte_there _ _ c.if-s-at.false
