-- What is left of the two lists is the same exactly where they are. Assumes nothing.
use Prim.Native.Nat.{◌≤◌}
use mathlib.Core.Path.{◌≡◌}
use lib.ListN.{length}
use Rattle.wire.specs.Read.{same}
use Rattle.wire.proofs.Reading.{same_from}
use Rattle.wire.proofs.read.is_same.Given as goal

abbrev pub invariant-loop-i : goal.invariant-loop-i
invariant-loop-i l = (l.i ≤ length l.a) × (same_from l.i l.a l.b ≡ same l.a l.b)
