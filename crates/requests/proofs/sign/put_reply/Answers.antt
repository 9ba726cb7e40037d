-- Length, 14 and the blob as a string, one behind the other. Assumes nothing.
use native.Mathlib.Omega.{arith}
use Rattle.requests.proofs.SignSteps.{signature_written}
use Rattle.requests.proofs.sign.put_reply.Goals as goal

pub returns : goal.returns
returns c =
    signature_written _ _ _ _ _ _ _ _ c.put_number-kind.ensures.1 c.put_number-kind.ensures.0 c.put_byte-at.ensures.1
    c.put_byte-at.ensures.0 c.put_string.ensures.1 c.put_string.ensures.0 (omega arith)
