-- The items of the first i entries stand in the reply, whichever sound state shows the columns. Assumes nothing.
use Prim.Native.Nat.{◌≤◌}
use mathlib.Core.Path.{◌≡◌}
use Rattle.wire.specs.Limits.{entries_limit}
use Rattle.table.specs.declared.State.{State}
use Rattle.table.specs.Entries.{start_in}
use Rattle.table.specs.Meaning.{gateway_of}
use Rattle.table.specs.Soundness.{Sound}
use Rattle.table.specs.Shown.{ShowsParts}
use Rattle.requests.proofs.ListSteps.{ItemsWritten}
use Rattle.requests.proofs.list.put_items.Given as goal

abbrev pub invariant-loop-i : goal.invariant-loop-i
invariant-loop-i l = ((l.i ≤ l.count) × (l.count ≤ entries_limit)) × (l.from ≡ start_in l.t.blob_lens.now l.t.fields_lens.now l.t.comment_lens.now l.i)
    × ((s : State) → ShowsParts l.t.numbers.now l.t.blob_lens.now l.t.fields_lens.now l.t.comment_lens.now s → Sound s l.store → ItemsWritten (gateway_of s l.store).entries l.at l.initial.reply l.i l.place l.reply)
