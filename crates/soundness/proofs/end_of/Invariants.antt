-- So far the end is where entry i begins, and each entry adds at most what its limits allow. Assumes nothing.
use Prim.Native.Nat.{◌+◌, ◌*◌, ◌≤◌}
use mathlib.Core.Path.{◌≡◌}
use Rattle.wire.specs.Limits.{blob_limit, fields_limit, comment_limit}
use Rattle.table.specs.Entries.{start_in}
use Rattle.soundness.proofs.end_of.Given as goal

abbrev pub invariant-loop-i : goal.invariant-loop-i
invariant-loop-i l = (l.i ≤ l.n) × (l.end ≡ start_in l.t.blob_lens.now l.t.fields_lens.now l.t.comment_lens.now l.i) × (l.end ≤ (blob_limit + fields_limit + comment_limit) * l.i)
