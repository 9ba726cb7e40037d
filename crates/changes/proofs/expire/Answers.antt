-- What is due is marked, and goes; where no mark is set all last, and without lifetimes none is. Assumes nothing.
use borrow.Author.Rules.{rules}
use mathlib.Core.Path.{sym, ◌∙◌}
use Rattle.changes.proofs.ChangeLaws.{shown_closable, due_gone, none_due, none_limited}
use Rattle.changes.proofs.expire.Goals.{After-mark_due, Start}
use Rattle.changes.proofs.expire.Goals as goal

-- A search over all that is known at the end stops before the entry, so it is taken from where the marks were made.
begun : After-mark_due → Start
begun c = search

pub returns-then-is_zero : goal.returns-then-is_zero
returns-then-is_zero c =
    let a = c.args in
    let t = a.t.now in
    none_limited a.clock t a.store.now (sym c.is_zero.ensures ∙ c.if-is_zero.true)

pub returns-then-is_zero-2 : goal.returns-then-is_zero-2
returns-then-is_zero-2 c =
    let a = c.args in
    let t = a.t.now in
    none_due a.clock t a.store.now _ c.mark_due.ensures (sym c.is_zero-2.ensures ∙ c.if-is_zero-2.true)

pub close-requires : goal.close-requires
close-requires c =
    let h = shown_closable _ _ c.requires in
    (search rules, h.store_sized, h.room, h.end)

pub returns : goal.returns
unfolding begun
returns c =
    let start = begun (goal.at.returns c).After-mark_due in
    let a = start.args in
    let x = c.close in
    let t = a.t.now in
    due_gone a.clock t a.store.now _ _ _ c.mark_due.ensures x.ensures.0 x.ensures.1
