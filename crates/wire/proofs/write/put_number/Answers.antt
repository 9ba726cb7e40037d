-- The four bytes of a number are what its form has. Assumes nothing.
use native.Mathlib.Omega.{arith}
use mathlib.Core.Path.{refl, ◌∙◌}
use Rattle.wire.proofs.Writing.{write-part}
use Rattle.wire.proofs.write.put_number.Goals as goal

pub returns : goal.returns
returns c = (refl, write-part _ _ _ _ _ (c.copy_from_slice.ensures.after ∙ c.to_be_bytes.ensures) (omega arith))
