-- The definition tests the same room, and writes the same string. Assumes nothing.
use native.Mathlib.Omega.{arith}
use Rattle.readers.proofs.SignatureLaws.{string-short, string-fits}
use Rattle.readers.proofs.signature.put_signature.Goals as goal

pub returns-then-out-lt4 : goal.returns-then-out-lt4
returns-then-out-lt4 c = string-short _ _ (omega arith)

pub returns : goal.returns
returns c = string-fits _ _ _ _ (omega arith) c.put_string.ensures.0 c.put_string.ensures.1
