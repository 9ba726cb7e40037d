-- One store is a range of one byte. Assumes nothing.
use mathlib.Core.Path.{refl}
use Rattle.wire.proofs.Writing.{write-set}
use Rattle.wire.proofs.write.put_byte.Goals as goal

pub returns : goal.returns
returns c = (refl, write-set _ _ _ c.requires)
