-- The short numbers are those of the blobs, and the fact of their rising is that of the first n numbers, so entries that are all unlike those behind them are distinct. Assumes nothing.
use native.Mathlib.Omega.{arith}
use mathlib.Core.Path.{sym}
use lib.Seq.{length-take-le}
use Rattle.table.proofs.EntryLaws.{count_within}
use Rattle.soundness.proofs.apart.is_distinct.Goals as goal

pub slice_bounds-is_rising-end : goal.slice_bounds-is_rising-end
slice_bounds-is_rising-end c =
    let n = c.count-n.ensures in
    let few = count_within c.args.t.numbers.now in
    sym (length-take-le _ c.args.t.numbers.now (omega arith))
