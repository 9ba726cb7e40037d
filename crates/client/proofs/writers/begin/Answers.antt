-- The room is tested, and the length and the first byte are written one behind the other. Assumes nothing.
use mathlib.Core.Path.{refl}
use native.Mathlib.Omega.{arith}
use Rattle.client.proofs.WriteLaws.{too_long, too_short, met, more}
use Rattle.client.proofs.writers.begin.Goals as goal

pub returns-then-n-gt-PAYLOAD_LIMIT : goal.returns-then-n-gt-PAYLOAD_LIMIT
returns-then-n-gt-PAYLOAD_LIMIT c = too_long _ _ _ (omega arith)

pub returns-then-out-n : goal.returns-then-out-n
returns-then-out-n c = too_short _ _ _ (omega arith) (omega arith)

pub returns : goal.returns
returns c =
    met _ _ _ _ _
    (more (record { small = omega arith; fits = omega arith; place = c.put_number-at.ensures.0; holds = c.put_number-at.ensures.1 })
    _ _ _ _ c.put_byte.ensures.1 c.put_byte.ensures.0 refl (omega arith))
