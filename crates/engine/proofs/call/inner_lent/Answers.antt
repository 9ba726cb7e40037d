-- The tests are the refusals in their order, but for 2 and 3; past them the clock is raised and the request served. On a sound state that is an
-- inner call. Assumes nothing.
use mathlib.Core.Path.{◌∙◌}
use Rattle.table.specs.declared.State.{State}
use Rattle.table.specs.Meaning.{held}
use Rattle.server.proofs.CallLaws.{refused_as, refuses_1, refuses_4, refuses_5, accepts, lent-short}
use Rattle.server.proofs.InnerLaws.{inner_meets}
use Rattle.engine.proofs.call.inner_lent.Goals.{Start}
use Rattle.engine.proofs.call.inner_lent.Goals as goal

-- the state whose columns are lent
abbrev lent-state : Start → State
lent-state start =
    let a = start.args in
    held a.t.now a.passphrase.now a.kept

pub returns-then-reply-lt-REPLY_ROOM : goal.returns-then-reply-lt-REPLY_ROOM
returns-then-reply-lt-REPLY_ROOM c =
    let a = c.args in
    inner_meets _ _ _ _ _ _ _ _ _ _ _ c.requires
    (refuses_1 _ _ _ _ _ _ _ _ c.if-reply-lt-REPLY_ROOM.true (refused_as (lent-state (goal.at.returns-then-reply-lt-REPLY_ROOM c).Start).columns a.passphrase.now _ _ _ c.refused.ensures))

pub returns-then-asked-gt-PAYLOAD_LIMIT : goal.returns-then-asked-gt-PAYLOAD_LIMIT
returns-then-asked-gt-PAYLOAD_LIMIT c =
    let a = c.args in
    inner_meets _ _ _ _ _ _ _ _ _ _ _ c.requires
    (refuses_4 _ _ _ _ _ _ _ c.if-reply-lt-REPLY_ROOM.false c.requires _ c.if-asked-gt-PAYLOAD_LIMIT.true (refused_as (lent-state (goal.at.returns-then-asked-gt-PAYLOAD_LIMIT c).Start).columns a.passphrase.now _ _ _ c.refused-then-asked-gt-PAYLOAD_LIMIT.ensures))

pub returns-then-lent_length-gt-SIGNATURE_LIMIT : goal.returns-then-lent_length-gt-SIGNATURE_LIMIT
returns-then-lent_length-gt-SIGNATURE_LIMIT c =
    let a = c.args in
    inner_meets _ _ _ _ _ _ _ _ _ _ _ c.requires
    (refuses_5 _ _ _ _ _ _ _ c.if-reply-lt-REPLY_ROOM.false c.requires _ c.if-asked-gt-PAYLOAD_LIMIT.false c.lent_length.ensures _ c.if-lent_length-gt-SIGNATURE_LIMIT.true
    (refused_as (lent-state (goal.at.returns-then-lent_length-gt-SIGNATURE_LIMIT c).Start).columns a.passphrase.now _ _ _ c.refused-then-lent_length-gt-SIGNATURE_LIMIT.ensures))

pub advance-raised-requires : goal.advance-raised-requires
advance-raised-requires c = record { bytes = c.args.passphrase.now; sound = c.requires }

pub respond-requires : goal.respond-requires
respond-requires c =
    let a = c.args in
    (c.if-reply-lt-REPLY_ROOM.false, lent-short a.asked.answers _ _ c.lent_length.ensures c.if-lent_length-gt-SIGNATURE_LIMIT.false, (c.advance-raised.ensures a.passphrase.now c.requires).sound)

pub shape_of-store : goal.shape_of-store
shape_of-store c = c.respond.auto.store ∙ c.advance-raised.auto.store

pub returns : goal.returns
returns c =
    inner_meets _ _ _ _ _ _ _ _ _ _ _ c.requires
    (accepts (lent-state (goal.at.returns c).Start) _ _ _ _ _ _ c.if-reply-lt-REPLY_ROOM.false c.requires _ c.if-asked-gt-PAYLOAD_LIMIT.false c.lent_length.ensures _ _ _ _ _ c.if-lent_length-gt-SIGNATURE_LIMIT.false
    (c.advance-raised.ensures c.args.passphrase.now c.requires) c.respond.ensures)
