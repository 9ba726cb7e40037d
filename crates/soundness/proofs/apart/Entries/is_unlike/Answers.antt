-- An entry whose number stands behind it is not unlike; where the short number of its blob does not stand behind it, it is; else the search for its blob
-- tells. Assumes nothing.
use borrow.Author.Rules.{rules}
use native.Mathlib.Omega.{arith}
use Prim.Native.Nat.{◌≤◌}
use mathlib.Core.Path.{sym, ◌∙◌}
use Rattle.wire.specs.Limits.{entries_limit}
use Rattle.table.proofs.EntryLaws.{count_within}
use Rattle.table.proofs.ReadLaws.{Entered, entered}
use Rattle.soundness.proofs.ApartLaws.{among_part, blob_here, told-by_number, told-by_short, told-by_blob, told-by_none}
use Rattle.soundness.proofs.apart.Entries.is_unlike.Goals.{Start}
use Rattle.soundness.proofs.apart.Entries.is_unlike.Goals as goal

-- entry i is held, and its bytes lie in the store
here : (c : Start) → let t = c.args.self.t in Entered t.numbers.now t.blob_lens.now t.fields_lens.now t.comment_lens.now c.args.self.store.now c.args.i c.args.at
here c =
    let counted = c.requires.0.counted in
    let below = c.requires.1 in
    entered _ _ _ _ _ c.requires.0.housed c.args.i (omega arith) c.args.at c.requires.2

within : (c : Start) → c.args.self.n ≤ entries_limit
within c =
    let counted = c.requires.0.counted in
    let long = c.requires.0.housed.long_numbers in
    omega (arith, count_within c.args.self.t.numbers.now)

pub returns-then-is_number_again : goal.returns-then-is_number_again
returns-then-is_number_again c s k shows held =
    let r = c.requires.0 in
    told-by_number _ _ _ _ _ _ _ _ r.counted c.requires.1 r.shorts_are s k shows held _ c.is_number_again.ensures c.if-is_number_again.true

pub offset_bounds-self-next : goal.offset_bounds-self-next
offset_bounds-self-next c =
    let w = within (goal.at.offset_bounds-self-next c).Start in
    let long = c.requires.0.long in
    let below = c.requires.1 in
    search rules

pub slice_bounds-is_among-end : goal.slice_bounds-is_among-end
slice_bounds-is_among-end c =
    let w = within (goal.at.slice_bounds-is_among-end c).Start in
    let long = c.requires.0.long in
    let below = c.requires.1 in
    search rules

pub offset_bounds-self-i : goal.offset_bounds-self-i
offset_bounds-self-i c =
    let w = within (goal.at.offset_bounds-self-i c).Start in
    let long = c.requires.0.long in
    let below = c.requires.1 in
    search rules

pub bounds-self-i : goal.bounds-self-i
bounds-self-i c =
    let w = within (goal.at.bounds-self-i c).Start in
    let long = c.requires.0.long in
    let below = c.requires.1 in
    search rules

pub returns-then-not-is_among : goal.returns-then-not-is_among
returns-then-not-is_among c s k shows held =
    let r = c.requires.0 in
    told-by_short _ _ _ _ _ _ _ _ r.counted c.requires.1 r.shorts_are s k shows held _ c.is_number_again.ensures c.if-is_number_again.false (sym (c.is_among.ensures ∙ among_part _ c.args.self.n _ _ (omega arith)) ∙ c.if-not-is_among.true)

pub overflow_add-end : goal.overflow_add-end
overflow_add-end c = let e = here (goal.at.overflow_add-end c).Start in search rules

pub overflow_add-start : goal.overflow_add-start
overflow_add-start c = let e = here (goal.at.overflow_add-start c).Start in search rules

pub overflow_add-start-2 : goal.overflow_add-start-2
overflow_add-start-2 c = let e = here (goal.at.overflow_add-start-2 c).Start in search rules

pub slice_bounds-find_from-end : goal.slice_bounds-find_from-end
slice_bounds-find_from-end c = let e = here (goal.at.slice_bounds-find_from-end c).Start in search rules

pub find_from-requires : goal.find_from-requires
find_from-requires c =
    let e = here (goal.at.find_from-requires c).Start in
    let next = e.next in
    let held = e.held in
    (c.requires.0.housed, omega arith, omega arith)

pub returns-in-Some : goal.returns-in-Some
returns-in-Some c s k shows held =
    let r = c.requires.0 in
    let blob = blob_here s _ _ _ _ _ shows c.args.i c.args.at k held c.requires.2 in
    told-by_blob _ _ _ _ _ _ _ _ r.counted c.requires.1 r.shorts_are s k shows held _ c.is_number_again.ensures c.if-is_number_again.false _ blob _ (c.find_from.ensures s shows) _ c.in-Some.is

pub returns-in-None : goal.returns-in-None
returns-in-None c s k shows held =
    let r = c.requires.0 in
    let blob = blob_here s _ _ _ _ _ shows c.args.i c.args.at k held c.requires.2 in
    told-by_none _ _ _ _ _ _ _ _ r.counted c.requires.1 r.shorts_are s k shows held _ c.is_number_again.ensures c.if-is_number_again.false _ blob _ (c.find_from.ensures s shows) c.in-None.is
