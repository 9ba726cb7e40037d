-- One entry is marked, and goes. Assumes nothing.
use borrow.Author.Rules.{rules}
use mathlib.Core.Path.{refl}
use Rattle.changes.proofs.ChangeLaws.{shown_closable, one_gone}
use Rattle.changes.proofs.remove.Goals as goal

pub close-requires : goal.close-requires
close-requires c =
    let h = shown_closable _ _ c.requires.1 in
    (search rules, h.store_sized, h.room, h.end)

pub returns : goal.returns
returns c =
    let a = c.args in
    let x = c.close in
    let t = a.t.now in
    one_gone t a.store.now _ _ _ x.ensures.0 x.ensures.1 a.i refl
