-- The two windows leave nothing out, so they are zero exactly where the whole is. Assumes nothing.
use mathlib.Core.Path.{sym}
use lib.Seq.{length-take-le}
use Rattle.table.proofs.ByteLaws.{windows_alike, windows_zero}
use Rattle.table.proofs.bytes.is_zero.Goals as goal

pub slice_bounds-greatest_byte-end : goal.slice_bounds-greatest_byte-end
slice_bounds-greatest_byte-end c = sym (length-take-le _ c.args.p.now c.window-h.ensures.0)

pub greatest_byte-requires : goal.greatest_byte-requires
greatest_byte-requires c =
    let w = c.window-h in
    windows_alike w.result c.args.p.now w.ensures.0

pub returns : goal.returns
returns c =
    let w = c.window-h in
    rw c.greatest_byte.ensures (windows_zero w.result c.args.p.now w.ensures.0 w.ensures.1)
