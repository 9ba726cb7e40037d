-- After each turn the first i bytes are written; the last N overlap them, and leave no byte out. The measure is what is left. Assumes nothing.
use mathlib.Core.Path.{◌≡◌}
use Prim.Native.Nat.{◌<◌, ◌-◌}
use lib.ListN.{length, take}
use Rattle.wire.specs.Write.{write}
use Rattle.wire.proofs.write.put_by.Given as goal

abbrev pub invariant-loop-i : goal.invariant-loop-i
invariant-loop-i g l = (l.i < length l.v) × (l.out ≡ write l.initial.out l.at (take l.i l.v))

abbrev pub decreases-loop-i : goal.decreases-loop-i
decreases-loop-i g l = length l.v - l.i
