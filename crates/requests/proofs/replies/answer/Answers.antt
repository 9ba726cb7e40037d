-- A length of 1 and the byte behind it are the five bytes. Assumes nothing.
use native.Mathlib.Omega.{arith}
use Rattle.requests.proofs.EndSteps.{five}
use Rattle.requests.proofs.replies.answer.Goals as goal

pub returns : goal.returns
returns c = five _ _ _ _ _ _ c.put_number-at.ensures.1 c.put_number-at.ensures.0 c.put_byte-len.ensures.1 c.put_byte-len.ensures.0 (omega arith)
