-- The entries left are distinct where all are. Assumes nothing.
use Prim.Native.Nat.{◌≤◌}
use mathlib.Core.Path.{◌≡◌}
use Rattle.table.specs.Entries.{start_in}
use Rattle.soundness.proofs.ApartLaws.{DistinctLeft}
use Rattle.soundness.proofs.apart.Entries.are_unlike.Given as goal

abbrev pub invariant-loop-i : goal.invariant-loop-i
invariant-loop-i l = let t = l.t in
    (l.i ≤ l.self.n) × (l.at ≡ start_in t.blob_lens.now t.fields_lens.now t.comment_lens.now l.i) × DistinctLeft t.numbers.now t.blob_lens.now t.fields_lens.now t.comment_lens.now l.self.store.now l.i
