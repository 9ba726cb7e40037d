-- The entries left pass where all do. Assumes nothing.
use Prim.Native.Nat.{◌≤◌}
use Rattle.table.specs.Entries.{shown}
use Rattle.soundness.proofs.SoundnessLaws.{EntriesLeft}
use Rattle.soundness.proofs.are_entries_sound.Given as goal

abbrev pub invariant-loop-i : goal.invariant-loop-i
invariant-loop-i l = (l.i ≤ l.n) × EntriesLeft l.clock l.next (shown l.t) l.i
