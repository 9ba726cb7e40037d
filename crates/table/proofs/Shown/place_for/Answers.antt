-- The entry that has the blob gives back its own bytes; a new key needs one of the 24, and its bytes beside all others'. Assumes nothing.
use native.Mathlib.Omega.{arith}
use Rattle.table.proofs.ReadLaws.{state_housed}
use Rattle.table.proofs.FoundLaws.{shown_roomy, shown_own, goes_replaced, goes_last, goes_nowhere}
use Rattle.table.proofs.Shown.place_for.Goals as goal

pub start_of-end-requires : goal.start_of-end-requires
start_of-end-requires c =
    let room = shown_roomy _ _ _ _ _ c.requires.0 in
    (room.blobs_long, room.fields_long, room.comments_long, room.fits)

pub find-requires : goal.find-requires
find-requires c =
    let shown = c.requires.0 in
    state_housed shown.state _ shown.sound _ _ _ _ shown.shows

pub size_at-own-requires : goal.size_at-own-requires
size_at-own-requires c =
    let room = shown_roomy _ _ _ _ _ c.requires.0 in
    let mine = shown_own _ _ _ _ _ c.requires.0 _ _ _ c.in-Some.is c.find.ensures in
    (omega arith, omega arith, omega arith, omega arith)

pub overflow_sub-end : goal.overflow_sub-end
overflow_sub-end c =
    let end = c.start_of-end.ensures in
    let size = c.size_at-own.ensures in
    let mine = shown_own _ _ _ _ _ c.requires.0 _ _ _ c.in-Some.is c.find.ensures in
    omega arith

pub fitting-requires : goal.fitting-requires
fitting-requires c =
    let end = c.start_of-end.ensures in
    let room = shown_roomy _ _ _ _ _ c.requires.0 in
    (omega arith, c.requires.1)

pub returns-then-n-eq-ENTRIES_LIMIT : goal.returns-then-n-eq-ENTRIES_LIMIT
returns-then-n-eq-ENTRIES_LIMIT c = goes_nowhere _ _ _ _ _ _ _ c.find.ensures _ _ c.count-n.ensures c.in-None.is c.if-n-eq-ENTRIES_LIMIT.true

pub fitting-requires-in-None : goal.fitting-requires-in-None
fitting-requires-in-None c =
    let end = c.start_of-end.ensures in
    let room = shown_roomy _ _ _ _ _ c.requires.0 in
    (omega arith, c.requires.1)

pub returns-in-Some : goal.returns-in-Some
returns-in-Some c = goes_replaced _ _ _ _ _ _ _ c.find.ensures _ _ _ _ c.in-Some.is c.start_of-end.ensures c.size_at-own.ensures _ c.fitting.ensures

pub returns-else-n-eq-ENTRIES_LIMIT : goal.returns-else-n-eq-ENTRIES_LIMIT
returns-else-n-eq-ENTRIES_LIMIT c =
    goes_last _ _ _ _ _ _ _ c.find.ensures _ _ c.count-n.ensures _ c.in-None.is c.if-n-eq-ENTRIES_LIMIT.false c.start_of-end.ensures _ c.fitting-in-None.ensures
