use borrow.Author.Rules.{rules}
use native.Mathlib.Omega.{arith}
use mathlib.Core.Path.{refl, sym}
use Rattle.table.proofs.EntryLaws.{start_none}
use Rattle.table.proofs.ReadLaws.{Entered, entered}
use Rattle.soundness.proofs.ApartLaws.{distinct-on, distinct-out, distinct-end}
use Rattle.soundness.proofs.apart.Entries.are_unlike.Goals.{In-loop-i}
use Rattle.soundness.proofs.apart.Entries.are_unlike.Goals as goal

-- a turn is on an entry whose bytes lie in the store
here : (c : In-loop-i) → let t = c.args.self.t in Entered t.numbers.now t.blob_lens.now t.fields_lens.now t.comment_lens.now c.args.self.store.now c.loop-i.i c.loop-i.at
here c =
    let n = c.requires.counted in
    let more = c.loop-i-test.true in
    entered _ _ _ _ _ c.requires.housed c.loop-i.i (omega arith) c.loop-i.at c.loop-i.invariant.1

pub loop-i-init : goal.loop-i-init
loop-i-init c = (omega arith, sym (start_none _ _ _), λ s shows. refl)

pub returns-then-not-is_unlike : goal.returns-then-not-is_unlike
returns-then-not-is_unlike c =
    let l = c.loop-i in
    distinct-out _ _ _ _ _ l.i _ (here (goal.at.returns-then-not-is_unlike c).In-loop-i).held c.is_unlike.ensures c.if-not-is_unlike.true l.invariant.2

pub offset_bounds-t-i : goal.offset_bounds-t-i
offset_bounds-t-i c = let e = here (goal.at.offset_bounds-t-i c).In-loop-i in search rules

pub bounds-t-i : goal.bounds-t-i
bounds-t-i c = let e = here (goal.at.bounds-t-i c).In-loop-i in search rules

pub offset_bounds-t-i-in-loop-i : goal.offset_bounds-t-i-in-loop-i
offset_bounds-t-i-in-loop-i c = let e = here (goal.at.offset_bounds-t-i-in-loop-i c).In-loop-i in search rules

pub bounds-t-i-in-loop-i : goal.bounds-t-i-in-loop-i
bounds-t-i-in-loop-i c = let e = here (goal.at.bounds-t-i-in-loop-i c).In-loop-i in search rules

pub offset_bounds-t-i-in-loop-i-2 : goal.offset_bounds-t-i-in-loop-i-2
offset_bounds-t-i-in-loop-i-2 c = let e = here (goal.at.offset_bounds-t-i-in-loop-i-2 c).In-loop-i in search rules

pub bounds-t-i-in-loop-i-2 : goal.bounds-t-i-in-loop-i-2
bounds-t-i-in-loop-i-2 c = let e = here (goal.at.bounds-t-i-in-loop-i-2 c).In-loop-i in search rules

pub overflow_add-at : goal.overflow_add-at
overflow_add-at c = let e = here (goal.at.overflow_add-at c).In-loop-i in search rules

pub overflow_add-at-in-loop-i : goal.overflow_add-at-in-loop-i
overflow_add-at-in-loop-i c = let e = here (goal.at.overflow_add-at-in-loop-i c).In-loop-i in search rules

pub overflow_add-at-in-loop-i-2 : goal.overflow_add-at-in-loop-i-2
overflow_add-at-in-loop-i-2 c = let e = here (goal.at.overflow_add-at-in-loop-i-2 c).In-loop-i in search rules

pub loop-i-preserved : goal.loop-i-preserved
loop-i-preserved c =
    let l = c.loop-i in
    let e = here (goal.at.loop-i-preserved c).In-loop-i in
    let more = c.loop-i-test.true in
    (omega arith, e.next, distinct-on _ _ _ _ _ l.i _ e.held c.is_unlike.ensures c.if-not-is_unlike.false l.invariant.2)

pub returns : goal.returns
returns c =
    let n = c.requires.counted in
    let l = c.loop-i in
    let ended = c.loop-i-test.false in
    distinct-end _ _ _ _ _ l.i (omega arith) l.invariant.2
