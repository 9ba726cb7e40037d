-- What is left of the search finds what the whole one finds. Assumes nothing.
use Prim.Native.Nat.{◌≤◌}
use mathlib.Core.Path.{◌≡◌}
use lib.ListN.{drop}
use Rattle.rule.specs.Gateway.{seek, holds}
use Rattle.table.specs.declared.State.{State}
use Rattle.table.specs.Entries.{start_in}
use Rattle.table.specs.Meaning.{gateway_of}
use Rattle.table.specs.Shown.{ShowsParts}
use Rattle.table.proofs.Shown.find_from.Given as goal

abbrev pub invariant-loop-i : goal.invariant-loop-i
invariant-loop-i l = (l.i ≤ l.n) × (l.at ≡ start_in l.self.blob_lens.now l.self.fields_lens.now l.self.comment_lens.now l.i)
    × ((s : State) → ShowsParts l.self.numbers.now l.self.blob_lens.now l.self.fields_lens.now l.self.comment_lens.now s
    → seek (holds l.blob) l.from (drop l.from (gateway_of s l.store).entries) ≡ seek (holds l.blob) l.i (drop l.i (gateway_of s l.store).entries))
