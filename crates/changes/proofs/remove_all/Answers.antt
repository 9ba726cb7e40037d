-- All entries are marked, and go. Assumes nothing.
use borrow.Author.Rules.{rules}
use mathlib.Core.Path.{refl}
use Rattle.changes.proofs.ChangeLaws.{shown_closable, all-gone}
use Rattle.changes.proofs.remove_all.Goals as goal

pub close-requires : goal.close-requires
close-requires c =
    let h = shown_closable _ _ c.requires in
    (search rules, h.store_sized, h.room, h.end)

pub returns : goal.returns
returns c =
    let a = c.args in
    let x = c.close in
    let t = a.t.now in
    all-gone t a.store.now _ _ _ x.ensures.0 x.ensures.1 refl
