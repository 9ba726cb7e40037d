-- Refusals 1 to 3 by their tests; past them the state is sound, and the rest is `inner_lent`'s. Assumes nothing.
use Rattle.table.specs.declared.Columns.{Columns}
use Rattle.table.specs.Meaning.{held}
use Rattle.table.specs.Soundness.{sound_state}
use Rattle.server.proofs.CallLaws.{refused_as, refuses_1, refuses_2, refuses_3, sound-told}
use mathlib.Core.Path.{◌≡◌, ap, ◌∙◌}
use mathlib.Core.Bool.{not}
use Rattle.engine.proofs.call.call_lent.Goals.{After-is_sound, Start}
use Rattle.engine.proofs.call.call_lent.Goals as goal

-- the columns that are lent
abbrev lent-columns : Start → Columns
lent-columns start = start.args.t.now

-- the test is of the state whose columns are lent
tested : (c : After-is_sound) → c.is_sound.result ≡ sound_state (held c.args.t.now c.args.passphrase.now c.args.kept) c.args.store.now
tested c = c.is_sound.ensures ∙ ap (λ (t : Columns). sound_state (held t c.args.passphrase.now c.args.kept) c.args.store.now) c.show.ensures

pub returns-then-reply-lt-REPLY_ROOM : goal.returns-then-reply-lt-REPLY_ROOM
returns-then-reply-lt-REPLY_ROOM c =
    refuses_1 _ _ _ _ _ _ _ _ c.if-reply-lt-REPLY_ROOM.true (refused_as (lent-columns (goal.at.returns-then-reply-lt-REPLY_ROOM c).Start) c.args.passphrase.now _ _ _ c.refused.ensures)

pub returns-then-store-ne-STORE_SIZE : goal.returns-then-store-ne-STORE_SIZE
returns-then-store-ne-STORE_SIZE c =
    refuses_2 _ _ _ _ _ _ _ _ c.if-reply-lt-REPLY_ROOM.false c.if-store-ne-STORE_SIZE.true (refused_as (lent-columns (goal.at.returns-then-store-ne-STORE_SIZE c).Start) c.args.passphrase.now _ _ _ c.refused-then-store-ne-STORE_SIZE.ensures)

pub returns-then-not-is_sound : goal.returns-then-not-is_sound
returns-then-not-is_sound c =
    refuses_3 _ _ _ _ _ _ _ _ _ c.if-reply-lt-REPLY_ROOM.false c.if-store-ne-STORE_SIZE.false (ap not c.if-not-is_sound.true) (tested (goal.at.returns-then-not-is_sound c).After-is_sound) (refused_as (lent-columns (goal.at.returns-then-not-is_sound c).Start) c.args.passphrase.now _ _ _ c.refused-then-not-is_sound.ensures)

pub inner_lent-requires : goal.inner_lent-requires
inner_lent-requires c = sound-told _ _ _ (ap not c.if-not-is_sound.false) (tested (goal.at.inner_lent-requires c).After-is_sound)

pub returns : goal.returns
returns c = c.inner_lent.ensures.meets
