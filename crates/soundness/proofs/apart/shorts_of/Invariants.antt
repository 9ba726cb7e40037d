-- The blob of entry i begins where those before it end, and the short numbers before place i are put. Assumes nothing.
use Prim.Native.Nat.{◌≤◌}
use mathlib.Core.Path.{◌≡◌}
use lib.ListN.{length, take}
use Rattle.wire.specs.Limits.{entries_limit}
use Rattle.table.specs.Entries.{start_in}
use Rattle.table.specs.Soundness.{shorts_in}
use Rattle.soundness.proofs.apart.shorts_of.Given as goal

abbrev pub invariant-loop-i : goal.invariant-loop-i
invariant-loop-i l = let t = l.t in
    (l.i ≤ l.n) × (l.at ≡ start_in t.blob_lens.now t.fields_lens.now t.comment_lens.now l.i) × (take l.i l.shorts ≡ shorts_in t.blob_lens.now t.fields_lens.now t.comment_lens.now l.i l.store) × (length l.shorts ≡ entries_limit)
