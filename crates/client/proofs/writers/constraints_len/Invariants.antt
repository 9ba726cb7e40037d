-- The loop's invariant: n is the length of the constraints so far, at most five bytes for each. Assumes nothing.
use Prim.Native.Nat.{◌*◌, ◌≤◌}
use mathlib.Core.Path.{◌≡◌}
use lib.ListN.{length, take}
use Rattle.wire.specs.Constraints.{constraint_forms}
use Rattle.client.proofs.writers.constraints_len.Given as goal

abbrev pub invariant-loop-c : goal.invariant-loop-c
invariant-loop-c l = record {
  counted : l.n ≡ length (constraint_forms (take l.c-index l.cs));
  few : l.n ≤ 5 * l.c-index;
}
