-- What is left of n behind its multiples of 64 is below 64, so twice the half of the next one is n or more. Assumes nothing.
use native.Mathlib.Omega.{arith}
use Rattle.wire.proofs.write.window.Goals as goal

pub returns-then-n-h : goal.returns-then-n-h
returns-then-n-h c = (omega arith, omega arith)

pub returns : goal.returns
returns c = (omega arith, omega arith)
