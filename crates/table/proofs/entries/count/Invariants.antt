-- No number before n is 0, so the first one that is ends the count. Assumes nothing.
use Prim.Native.Nat.{◌≤◌}
use Rattle.table.specs.Entries.{count_of}
use Rattle.table.proofs.entries.count.Given as goal

abbrev pub invariant-loop-n : goal.invariant-loop-n
invariant-loop-n l = l.n ≤ count_of l.numbers
