-- The marks before place i are those of the definition. Assumes nothing.
use Prim.Native.Nat.{◌≤◌}
use mathlib.Core.Path.{◌≡◌}
use mathlib.Core.List.{◌++◌}
use lib.ListN.{length, take, drop}
use Rattle.wire.specs.Limits.{entries_limit}
use Rattle.table.specs.Changes.{due_marks}
use Rattle.changes.proofs.mark_due.Given as goal

abbrev pub invariant-loop-i : goal.invariant-loop-i
invariant-loop-i l = (l.marks ≡ take l.i (due_marks l.clock l.t.readings l.t.seconds l.t.limited) ++ drop l.i l.initial.marks) × (l.i ≤ entries_limit) × (length l.marks ≡ length l.initial.marks)
