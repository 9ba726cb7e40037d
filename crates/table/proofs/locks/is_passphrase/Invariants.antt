-- What was gathered is 0 exactly where all bytes before place i are equal; with the rest it says what the whole does. Assumes nothing.
use Prim.Native.Nat.{◌≤◌}
use mathlib.Core.Path.{◌≡◌}
use lib.Dec.{eqb}
use lib.ListN.{take}
use Rattle.wire.specs.Read.{same}
use Rattle.table.proofs.ByteLaws.{same_along}
use Rattle.table.proofs.locks.is_passphrase.Given as goal

abbrev pub invariant-loop-i : goal.invariant-loop-i
invariant-loop-i l = (l.i ≤ l.len) × (same (take l.len l.bytes) l.p ≡ same_along (eqb l.differences 0) l.i (take l.len l.bytes) l.p)
