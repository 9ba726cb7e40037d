-- The bytes before place i are characters of their own, and those from it on say how many more. Assumes nothing.
use Prim.Native.Nat.{◌+◌}
use mathlib.Core.Path.{◌≡◌}
use lib.ListN.{drop}
use Rattle.wire.specs.Utf8.{ascii_end}
use Rattle.wire.proofs.utf8.ascii_end.Given as goal

abbrev pub invariant-loop-i : goal.invariant-loop-i
invariant-loop-i l = ascii_end l.s ≡ l.i + ascii_end (drop l.i l.s)
