use native.Mathlib.Omega.{arith}
use borrow.Author.Rules.{rules}
use mathlib.Core.Path.{sym}
use Rattle.table.specs.declared.State.{State}
use Rattle.table.specs.Soundness.{Sound}
use Rattle.table.specs.Shown.{ShowsParts}
use Rattle.table.proofs.EntryLaws.{count_within, start_none}
use Rattle.table.proofs.ReadLaws.{Entered, entered, index_within}
use Rattle.table.proofs.WritingLaws.{sound-meaning}
use Rattle.requests.proofs.ListSteps.{list_fits, shown_count, item-shown, item-there, none_written, one_written, all-written}
use Rattle.requests.proofs.list.put_items.Goals.{In-loop-i}
use Rattle.requests.proofs.list.put_items.Goals as goal

-- a turn is on an entry whose bytes lie in the store
here : (c : In-loop-i)
    → Entered c.args.t.numbers.now c.args.t.blob_lens.now c.args.t.fields_lens.now c.args.t.comment_lens.now c.args.store.now c.loop-i.i c.loop-i.from
here c =
    let n = c.count-count.ensures in
    let more = c.loop-i-test.true in
    entered _ _ _ _ _ (list_fits c.requires.0).housed c.loop-i.i (omega arith) c.loop-i.from c.loop-i.invariant.1

pub loop-i-init : goal.loop-i-init
loop-i-init c =
    let n = c.count-count.ensures in
    let within = count_within c.args.t.numbers.now in
    let long = (list_fits c.requires.0).housed.long_numbers in
    ((omega arith, omega arith), sym (start_none _ _ _), λ s shows S. none_written _ _ _)

pub put_item-place-requires : goal.put_item-place-requires
put_item-place-requires c =
    let entry_here = here (goal.at.put_item-place-requires c).In-loop-i in
    let w = c.requires.0 in
    let fits = list_fits w in
    let written = c.loop-i.invariant.2 w.state w.shows w.sound in
    let index = index_within _ _ _ _ _ fits.housed _ entry_here.held in
    let room = c.requires.1 in
    (entry_here.within, fits.blobs_fit _ entry_here.held, fits.comments_fit _ entry_here.held, omega arith)

pub overflow_add-from : goal.overflow_add-from
overflow_add-from c = let e = here (goal.at.overflow_add-from c).In-loop-i in search rules

pub overflow_add-from-in-loop-i : goal.overflow_add-from-in-loop-i
overflow_add-from-in-loop-i c = let e = here (goal.at.overflow_add-from-in-loop-i c).In-loop-i in search rules

pub overflow_add-from-in-loop-i-2 : goal.overflow_add-from-in-loop-i-2
overflow_add-from-in-loop-i-2 c = let e = here (goal.at.overflow_add-from-in-loop-i-2 c).In-loop-i in search rules

pub loop-i-preserved : goal.loop-i-preserved
loop-i-preserved c =
    let entry_here = here (goal.at.loop-i-preserved c).In-loop-i in
    let next = entry_here.next in
    let more = c.loop-i-test.true in
    let put = c.put_item-place.ensures in (
      (omega arith, c.loop-i.invariant.0.1),
      omega arith,
      λ s shows S.
          let shown = item-shown s _ shows c.loop-i.i entry_here.held c.loop-i.from entry_here.starts in
          let there = item-there s c.args.store.now shows c.loop-i.i entry_here.held in
          one_written _ (sound-meaning _ _ S) _ _ _ _ _ (c.loop-i.invariant.2 s shows S) c.requires.1 _ _ _ _ there shown put.0 put.1,
    )

pub shape_of-reply : goal.shape_of-reply
shape_of-reply c =
    let w = c.requires.0 in
    (c.loop-i.invariant.2 w.state w.shows w.sound).size

pub returns : goal.returns
returns c =
    let w = c.requires.0 in
    let n = c.count-count.ensures in
    let ended = c.loop-i-test.false in
    let below = c.loop-i.invariant.0.0 in
    let inv = c.loop-i.invariant.2 in
    let all : (s : State) → ShowsParts c.args.t.numbers.now c.args.t.blob_lens.now c.args.t.fields_lens.now c.args.t.comment_lens.now s → Sound s c.args.store.now → _
    = λ s shows S. let many = shown_count s c.args.store.now shows in all-written _ (sound-meaning _ _ S) _ _ _ _ _ (inv s shows S) c.requires.1 (omega arith) (omega arith) in
    ((all w.state w.shows w.sound).2, λ s shows S. ((all s shows S).0, (all s shows S).1))
