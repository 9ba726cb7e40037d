-- The figures at the index are written as the key is, and the comment lies behind blob and fields. Assumes nothing.
use native.Mathlib.Omega.{arith}
use mathlib.Core.Path.{◌≡◌, refl, ap, ◌∙◌}
use Prim.Native.Nat.{◌+◌}
use lib.ListN.{take, drop}
use Rattle.table.specs.declared.Columns.{Columns}
use Rattle.table.specs.Entries.{figures_at}
use Rattle.lookups.specs.Told.{kept}
use Rattle.lookups.proofs.EntryLaws.{Lies, lies, figures_are, begins, comment_is}
use Rattle.lookups.proofs.held.told_at.Goals.{After-start_of-from}
use Rattle.lookups.proofs.held.told_at.Goals as goal

figures : (c : After-start_of-from) → c.figures_at-f.result ≡ figures_at c.args.state.now.columns c.args.i
figures c = c.figures_at-f.ensures ∙ ap (λ (t : Columns). figures_at t c.args.i) c.show.ensures

-- where the bytes lie of what was c
there : (c : After-start_of-from) → Lies c.args.state.now c.args.store.now c.args.i c.figures_at-f.result c.start_of-from.result
there c = rw (figures c, c.start_of-from.ensures) (lies _ _ c.requires.1 _ c.requires.0)

pub figures_at-f-requires : goal.figures_at-f-requires
figures_at-f-requires c = rw c.show.ensures ((lies _ _ c.requires.1 _ c.requires.0).index, c.requires.1.long)

pub start_of-from-requires : goal.start_of-from-requires
start_of-from-requires c =
    let l = lies _ _ c.requires.1 _ c.requires.0 in
    let long = c.requires.1.long in
    let blobs = long.blobs in
    let fields = long.fields in
    let comments = long.comments in
    let index = l.index in
    (omega arith, omega arith, omega arith, omega arith)

pub comment_in-requires : goal.comment_in-requires
comment_in-requires c = let l = there (goal.at.comment_in-requires c).After-start_of-from in (omega arith, l.comment_fits)

pub told-requires : goal.told-requires
told-requires c = (there (goal.at.told-requires c).After-start_of-from).stored

pub returns : goal.returns
returns c k held =
    let s = c.args.state.now in
    let x = c.args.store.now in
    let S = c.requires.1 in
    let f = figures (goal.at.returns c).After-start_of-from in
    let at = c.start_of-from.ensures in
    let comment = c.comment_in.ensures ∙ (λ j. kept (take (f j).comment_len (drop (at j + ((f j).blob_len + (f j).fields_len)) x))) ∙ ap kept (comment_is s x S c.args.i k held) in
    c.told.ensures s c.args.i k refl (f ∙ figures_are s x S c.args.i k held) comment (at ∙ begins s x S c.args.i k held)
