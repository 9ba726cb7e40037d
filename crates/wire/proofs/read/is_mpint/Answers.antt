-- The definition makes the same tests; a byte that is not there reads as 0. Assumes nothing.
use Prim.Native.Nat.{ℕ, ◌≤◌}
use mathlib.Core.Path.{◌≡◌}
use borrow.Author.Tests.{lt-ltb}
use native.Mathlib.Omega.{arith}
use Rattle.std.proofs.lemmas.Grind.{common_steps}
use Rattle.wire.specs.Mpint.{mpint}
use Rattle.wire.proofs.Reading.{mpint-none, mpint-single}
use Rattle.wire.proofs.read.is_mpint.Goals as goal

zero_of : {n : ℕ} → n ≤ 0 → n ≡ 0
zero_of h = omega arith

pub returns-in-len1-up : goal.returns-in-len1-up
unfolding mpint
returns-in-len1-up c = rw (lt-ltb _ _ c.if-a-gt0.true) (grind (arith, common_steps))

pub returns-in-len2-up : goal.returns-in-len2-up
unfolding mpint
returns-in-len2-up c = rw (zero_of c.if-a-gt0.false)

pub returns-in_default : goal.returns-in_default
returns-in_default c = mpint-none _ (omega arith)

pub returns-in_default-2 : goal.returns-in_default-2
returns-in_default-2 c = mpint-single _ (omega arith) c.if-a-gt0.false
