-- What is known of the bytes before place i, and the rest, say what the whole does. Assumes nothing.
use Prim.Native.Nat.{◌≤◌}
use mathlib.Core.Path.{◌≡◌}
use lib.ListN.{length}
use Rattle.wire.specs.Read.{same}
use Rattle.table.proofs.ByteLaws.{same_along}
use Rattle.table.proofs.bytes.is_all_equal.Given as goal

abbrev pub invariant-loop-i : goal.invariant-loop-i
invariant-loop-i l = (l.i ≤ length l.a) × (same l.a l.b ≡ same_along l.equal l.i l.a l.b)
