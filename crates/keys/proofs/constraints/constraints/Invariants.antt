-- What is left to walk yields what the whole does: each byte is taken as the definition takes it. The measure is what is left. Assumes nothing.
use Prim.Native.Nat.{◌-◌}
use mathlib.Core.Path.{◌≡◌}
use mathlib.Core.Bool.{false}
use lib.ListN.{length, drop}
use Rattle.std.proofs.Common.{None}
use Rattle.keys.specs.Constraints.{walk_of}
use Rattle.keys.proofs.constraints.constraints.Given as goal

abbrev pub invariant-loop-at : goal.invariant-loop-at
invariant-loop-at l = walk_of l.at (drop l.at l.s) l.lifetime l.confirm ≡ walk_of l.from (drop l.from l.s) None false

abbrev pub decreases-loop-at : goal.decreases-loop-at
decreases-loop-at l = length l.s - l.at
