use native.Mathlib.Omega.{arith}
use borrow.Author.Rules.{rules}
use Prim.Native.Nat.{◌+◌, ◌-◌}
use mathlib.Core.Path.{◌≡◌, refl, sym, ap, ◌∙◌}
use lib.ListN.{take, drop, get_or}
use mathlib.Core.Option.{some}
use Rattle.rule.specs.Gateway.{entry_at, holds}
use Rattle.table.specs.declared.State.{State}
use Rattle.table.specs.Entries.{count_of, start_in}
use Rattle.table.specs.Meaning.{gateway_of}
use Rattle.table.specs.Shown.{ShowsParts}
use Rattle.table.proofs.ReadLaws.{Entered, entered, shown_holds}
use Rattle.table.proofs.StateLaws.{key_at, state_count}
use Rattle.table.proofs.SeekLaws.{seek-step, seek_stop, seek-end}
use Rattle.table.proofs.Shown.find_from.Goals.{After-is_equal, In-loop-i}
use Rattle.table.proofs.Shown.find_from.Goals as goal

-- a turn is on an entry whose bytes lie in the store
here : (c : In-loop-i)
    → Entered c.args.self.numbers.now c.args.self.blob_lens.now c.args.self.fields_lens.now c.args.self.comment_lens.now c.args.store.now c.loop-i.i c.loop-i.at
here c =
    let n = c.count-n.ensures in
    let more = c.loop-i-test.true in
    entered _ _ _ _ _ c.requires.0 c.loop-i.i (omega arith) c.loop-i.at c.loop-i.invariant.1

-- what the turn's test says of the entry
told : (c : After-is_equal) (s : State) →
    ShowsParts c.args.self.numbers.now c.args.self.blob_lens.now c.args.self.fields_lens.now c.args.self.comment_lens.now s
    → (entry_at (gateway_of s c.args.store.now).entries c.loop-i.i ≡ some (key_at s c.args.store.now c.loop-i.i))
    × (holds c.args.blob.now (key_at s c.args.store.now c.loop-i.i) ≡ c.is_equal.result)
told c s shows =
    let n = c.count-n.ensures in
    let more = c.loop-i-test.true in
    let entry_here = entered _ _ _ _ _ c.requires.0 c.loop-i.i (omega arith) c.loop-i.at c.loop-i.invariant.1 in
    let at = c.loop-i.at in
    let len = get_or c.args.self.blob_lens.now c.loop-i.i 0 in
    let span : at + len - at ≡ len = omega arith in
    let part : take (at + len - at) (drop at c.args.store.now) ≡ take len (drop (start_in c.args.self.blob_lens.now c.args.self.fields_lens.now c.args.self.comment_lens.now c.loop-i.i) c.args.store.now)
    = λ j. take (span j) (drop (entry_here.starts j) c.args.store.now) in
    shown_holds s c.args.store.now _ _ _ _ shows c.loop-i.i entry_here.held c.is_equal.result c.args.blob.now _ part c.is_equal.ensures

pub loop-i-init : goal.loop-i-init
loop-i-init c =
    let n = c.count-n.ensures in
    let below = c.requires.1 in
    (omega arith, c.requires.2, λ s shows. refl)

pub offset_bounds-self-i : goal.offset_bounds-self-i
offset_bounds-self-i c = let e = here (goal.at.offset_bounds-self-i c).In-loop-i in search rules

pub bounds-self-i : goal.bounds-self-i
bounds-self-i c = let e = here (goal.at.bounds-self-i c).In-loop-i in search rules

pub overflow_add-end : goal.overflow_add-end
overflow_add-end c = let e = here (goal.at.overflow_add-end c).In-loop-i in search rules

pub slice_bounds-is_equal-count : goal.slice_bounds-is_equal-count
slice_bounds-is_equal-count c = let e = here (goal.at.slice_bounds-is_equal-count c).In-loop-i in search rules

pub slice_bounds-is_equal-start : goal.slice_bounds-is_equal-start
slice_bounds-is_equal-start c = let e = here (goal.at.slice_bounds-is_equal-start c).In-loop-i in search rules

pub slice_bounds-is_equal-end : goal.slice_bounds-is_equal-end
slice_bounds-is_equal-end c = let e = here (goal.at.slice_bounds-is_equal-end c).In-loop-i in search rules

pub returns-then-is_equal : goal.returns-then-is_equal
returns-then-is_equal c s shows =
    let (entry, test) = told (goal.at.returns-then-is_equal c).After-is_equal s shows in
    sym (c.loop-i.invariant.2 s shows ∙ seek_stop _ _ c.loop-i.i _ entry (test ∙ c.if-is_equal.true))

pub offset_bounds-self-i-in-loop-i : goal.offset_bounds-self-i-in-loop-i
offset_bounds-self-i-in-loop-i c = let e = here (goal.at.offset_bounds-self-i-in-loop-i c).In-loop-i in search rules

pub bounds-self-i-in-loop-i : goal.bounds-self-i-in-loop-i
bounds-self-i-in-loop-i c = let e = here (goal.at.bounds-self-i-in-loop-i c).In-loop-i in search rules

pub offset_bounds-self-i-in-loop-i-2 : goal.offset_bounds-self-i-in-loop-i-2
offset_bounds-self-i-in-loop-i-2 c = let e = here (goal.at.offset_bounds-self-i-in-loop-i-2 c).In-loop-i in search rules

pub bounds-self-i-in-loop-i-2 : goal.bounds-self-i-in-loop-i-2
bounds-self-i-in-loop-i-2 c = let e = here (goal.at.bounds-self-i-in-loop-i-2 c).In-loop-i in search rules

pub overflow_add-at : goal.overflow_add-at
overflow_add-at c = let e = here (goal.at.overflow_add-at c).In-loop-i in search rules

pub overflow_add-at-in-loop-i : goal.overflow_add-at-in-loop-i
overflow_add-at-in-loop-i c = let e = here (goal.at.overflow_add-at-in-loop-i c).In-loop-i in search rules

pub loop-i-preserved : goal.loop-i-preserved
loop-i-preserved c =
    let next = (here (goal.at.loop-i-preserved c).In-loop-i).next in
    let more = c.loop-i-test.true in (
      omega arith,
      omega arith,
      λ s shows.
          let (entry, test) = told (goal.at.loop-i-preserved c).After-is_equal s shows in
          c.loop-i.invariant.2 s shows ∙ seek-step _ _ c.loop-i.i _ entry (test ∙ c.if-is_equal.false),
    )

pub returns : goal.returns
returns c s shows =
    let n = c.count-n.ensures in
    let ended = c.loop-i-test.false in
    let all = state_count s c.args.store.now ∙ ap count_of shows.numbers_are in
    sym (c.loop-i.invariant.2 s shows ∙ seek-end _ _ c.loop-i.i (omega arith))
