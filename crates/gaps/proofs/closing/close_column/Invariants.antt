-- What stays before place `to`, and of what is left from place i on, is what stays of all; the end is zeroed. Assumes nothing.
use Prim.Native.Nat.{◌≤◌}
use mathlib.Core.Path.{◌≡◌}
use lib.ListN.{length}
use Rattle.table.specs.Changes.{unmarked}
use Rattle.gaps.proofs.ClosingLaws.{closing}
use Rattle.gaps.proofs.closing.close_column.Given as goal

abbrev pub invariant-loop-i : goal.invariant-loop-i
invariant-loop-i g l = (closing l.marks l.i l.to l.column ≡ unmarked l.marks l.initial.column) × (l.to ≤ l.i) × (l.i ≤ length l.initial.column) × (length l.column ≡ length l.initial.column)
