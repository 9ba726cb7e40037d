-- The greatest byte so far and the greatest of those left, in both parts, give the greatest of all. Assumes nothing.
use Prim.Native.Nat.{◌≤◌, max}
use mathlib.Core.Path.{◌≡◌}
use lib.ListN.{length, drop}
use Rattle.table.specs.Bytes.{greatest_byte}
use Rattle.table.proofs.bytes.greatest_byte.Given as goal

abbrev pub invariant-loop-i : goal.invariant-loop-i
invariant-loop-i l = (max (greatest_byte l.a) (greatest_byte l.b) ≡ max l.most (max (greatest_byte (drop l.i l.a)) (greatest_byte (drop l.i l.b)))) × (l.i ≤ length l.a)
