use borrow.Author.Rules.{rules}
use native.Mathlib.Omega.{arith}
use mathlib.Core.Path.{◌≡◌, refl, sym}
use lib.ListN.{length-set}
use Rattle.table.proofs.EntryLaws.{start_none}
use Rattle.table.proofs.ReadLaws.{Entered, entered, index_within}
use Rattle.soundness.proofs.ApartLaws.{shorts_none, shorts_more}
use Rattle.soundness.proofs.apart.shorts_of.Goals.{In-loop-i}
use Rattle.soundness.proofs.apart.shorts_of.Goals as goal

-- a turn is on an entry whose bytes lie in the store
here : (c : In-loop-i) → Entered c.args.t.numbers.now c.args.t.blob_lens.now c.args.t.fields_lens.now c.args.t.comment_lens.now c.args.store.now c.loop-i.i c.loop-i.at
here c =
    let n = c.requires.2 in
    let more = c.loop-i-test.true in
    entered _ _ _ _ _ c.requires.0 c.loop-i.i (omega arith) c.loop-i.at c.loop-i.invariant.1

pub loop-i-init : goal.loop-i-init
loop-i-init c = (omega arith, sym (start_none _ _ _), shorts_none _ _ _ _, refl)

pub offset_bounds-t-i : goal.offset_bounds-t-i
offset_bounds-t-i c = let e = here (goal.at.offset_bounds-t-i c).In-loop-i in search rules

pub bounds-t-i : goal.bounds-t-i
bounds-t-i c = let e = here (goal.at.bounds-t-i c).In-loop-i in search rules

pub overflow_add-end : goal.overflow_add-end
overflow_add-end c = let e = here (goal.at.overflow_add-end c).In-loop-i in search rules

pub slice_bounds-short_of-end : goal.slice_bounds-short_of-end
slice_bounds-short_of-end c = let e = here (goal.at.slice_bounds-short_of-end c).In-loop-i in search rules

pub offset_bounds-t-i-in-loop-i : goal.offset_bounds-t-i-in-loop-i
offset_bounds-t-i-in-loop-i c = let e = here (goal.at.offset_bounds-t-i-in-loop-i c).In-loop-i in search rules

pub bounds-t-i-in-loop-i : goal.bounds-t-i-in-loop-i
bounds-t-i-in-loop-i c = let e = here (goal.at.bounds-t-i-in-loop-i c).In-loop-i in search rules

pub offset_bounds-t-i-in-loop-i-2 : goal.offset_bounds-t-i-in-loop-i-2
offset_bounds-t-i-in-loop-i-2 c = let e = here (goal.at.offset_bounds-t-i-in-loop-i-2 c).In-loop-i in search rules

pub bounds-t-i-in-loop-i-2 : goal.bounds-t-i-in-loop-i-2
bounds-t-i-in-loop-i-2 c = let e = here (goal.at.bounds-t-i-in-loop-i-2 c).In-loop-i in search rules

pub overflow_add-at : goal.overflow_add-at
overflow_add-at c = let e = here (goal.at.overflow_add-at c).In-loop-i in search rules

pub overflow_add-at-in-loop-i : goal.overflow_add-at-in-loop-i
overflow_add-at-in-loop-i c = let e = here (goal.at.overflow_add-at-in-loop-i c).In-loop-i in search rules

pub offset_bounds-shorts-i : goal.offset_bounds-shorts-i
offset_bounds-shorts-i c =
    let e = here (goal.at.offset_bounds-shorts-i c).In-loop-i in
    let within = index_within _ _ _ _ _ c.requires.0 c.loop-i.i e.held in
    search rules

pub bounds-shorts-i : goal.bounds-shorts-i
bounds-shorts-i c =
    let e = here (goal.at.bounds-shorts-i c).In-loop-i in
    let within = index_within _ _ _ _ _ c.requires.0 c.loop-i.i e.held in
    search rules

pub loop-i-preserved : goal.loop-i-preserved
loop-i-preserved c =
    let l = c.loop-i in
    let e = here (goal.at.loop-i-preserved c).In-loop-i in
    let within = index_within _ _ _ _ _ c.requires.0 l.i e.held in
    let next = e.next in
    let more = c.loop-i-test.true in (
      omega arith,
      omega arith,
      shorts_more _ _ _ _ l.i l.at _ _ (omega arith) l.invariant.1 c.short_of.ensures l.invariant.2,
      simp length-set l.invariant.3,
    )
