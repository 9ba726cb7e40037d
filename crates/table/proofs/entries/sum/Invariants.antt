-- What is summed so far and what is left are the whole sum. Assumes nothing.
use Prim.Native.Nat.{◌+◌}
use mathlib.Core.Path.{◌≡◌}
use lib.ListN.{drop}
use Rattle.table.specs.Bytes.{sum_of}
use Rattle.table.proofs.entries.sum.Given as goal

abbrev pub invariant-loop-len : goal.invariant-loop-len
invariant-loop-len l = l.total + sum_of (drop l.len-index l.lens) ≡ sum_of l.lens
