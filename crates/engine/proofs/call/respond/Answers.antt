-- The row is the rule's, and the function of each row ends as its plan does, of the state whose columns are lent. Assumes nothing.
use native.Mathlib.Omega.{arith}
use mathlib.Core.Path.{refl, sym, subst, ◌∙◌}
use Rattle.table.specs.declared.Columns.{Columns}
use Rattle.table.specs.declared.State.{State}
use Rattle.table.specs.Meaning.{held}
use Rattle.table.specs.Shown.{SoundOf, ShowsParts, PartsOf, KeysOf}
use Rattle.table.proofs.ReadLaws.{state_locked}
use Rattle.requests.proofs.EndSteps.{answering, means_itself}
use Rattle.server.proofs.RowSteps.{check_lent, served-row, served-asks}
use Rattle.engine.proofs.call.respond.Goals.{Start}
use Rattle.engine.proofs.call.respond.Goals as goal

-- the state whose columns are lent
abbrev lent-state : Start → State
lent-state start =
    let a = start.args in
    held a.t.now a.passphrase.now a.kept

-- its columns are its own
its_own : {s : State} → ShowsParts s.columns.numbers s.columns.blob_lens s.columns.fields_lens s.columns.comment_lens s
its_own = record { numbers_are = refl; blobs_are = refl; fields_are = refl; comments_are = refl }

pub request_identities-requires : goal.request_identities-requires
request_identities-requires c =
    let lent : SoundOf (PartsOf c.args.t.now) c.args.store.now = record { state = lent-state (goal.at.request_identities-requires c).Start; shows = its_own; sound = c.requires.2 } in
    (subst (λ (t : Columns). SoundOf (PartsOf t) c.args.store.now) (sym c.show.ensures) lent, c.requires.0)

pub add_key-requires : goal.add_key-requires
add_key-requires c = (omega (arith, c.requires.0), record { bytes = c.args.passphrase.now; sound = c.requires.2 })

pub remove_identity-requires : goal.remove_identity-requires
remove_identity-requires c = (omega (arith, c.requires.0), record { state = lent-state (goal.at.remove_identity-requires c).Start; shows = refl; sound = c.requires.2 })

pub remove_all_identities-requires : goal.remove_all_identities-requires
remove_all_identities-requires c =
    (omega (arith, c.requires.0), record { state = lent-state (goal.at.remove_all_identities-requires c).Start; shows = refl; sound = c.requires.2 })

pub try_sign-requires : goal.try_sign-requires
try_sign-requires c =
    let lent : SoundOf (KeysOf c.args.t.now) c.args.store.now
    = record { state = lent-state (goal.at.try_sign-requires c).Start; shows = record { parts = its_own; confirm_is = refl }; sound = c.requires.2 } in
    (c.requires.0, c.requires.1, subst (λ (t : Columns). SoundOf (KeysOf t) c.args.store.now) (sym c.show-in-Sign.ensures) lent)

pub lock-requires : goal.lock-requires
lock-requires c =
    let a = c.args in
    (omega (arith, c.requires.0), record { columns = (lent-state (goal.at.lock-requires c).Start).columns; store = a.store.now; sound = c.requires.2 })

pub unlock-requires : goal.unlock-requires
unlock-requires c =
    let a = c.args in
    (omega (arith, c.requires.0), record { columns = (lent-state (goal.at.unlock-requires c).Start).columns; store = a.store.now; sound = c.requires.2 })

pub returns-in-Fails : goal.returns-in-Fails
returns-in-Fails c =
    let s = lent-state (goal.at.returns-in-Fails c).Start in
    served-row s _ _ _ _ _ _ _ _ _ _ (c.is_locked-locked.ensures ∙ state_locked s _ c.requires.2) c.row_in.ensures _ c.in-Fails.is
    (answering c.failure.ensures s _ _ (means_itself _ _ c.requires.2))

pub returns-in-Asks : goal.returns-in-Asks
returns-in-Asks c =
    let s = lent-state (goal.at.returns-in-Asks c).Start in
    served-asks s _ _ _ _ _ _ _ _ _ _ (c.is_locked-locked.ensures ∙ state_locked s _ c.requires.2) c.row_in.ensures _ c.in-Asks.is refl refl refl c.requires.2

pub returns-in-List : goal.returns-in-List
returns-in-List c =
    let s = lent-state (goal.at.returns-in-List c).Start in
    served-row s _ _ _ _ _ _ _ _ _ _ (c.is_locked-locked.ensures ∙ state_locked s _ c.requires.2) c.row_in.ensures _ c.in-List.is
    (c.request_identities.ensures s (subst (λ (t : Columns). PartsOf t s) (sym c.show.ensures) its_own) c.requires.2 _)

pub returns-in-Add : goal.returns-in-Add
returns-in-Add c =
    let s = lent-state (goal.at.returns-in-Add c).Start in
    served-row s _ _ _ _ _ _ _ _ _ _ (c.is_locked-locked.ensures ∙ state_locked s _ c.requires.2) c.row_in.ensures _ c.in-Add.is
    (c.add_key.ensures c.args.passphrase.now c.requires.2 _ (check_lent c.args.asked.answers _))

pub returns-in-Remove : goal.returns-in-Remove
returns-in-Remove c =
    let s = lent-state (goal.at.returns-in-Remove c).Start in
    served-row s _ _ _ _ _ _ _ _ _ _ (c.is_locked-locked.ensures ∙ state_locked s _ c.requires.2) c.row_in.ensures _ c.in-Remove.is
    (c.remove_identity.ensures s refl c.requires.2 _)

pub returns-in-RemoveAll : goal.returns-in-RemoveAll
returns-in-RemoveAll c =
    let s = lent-state (goal.at.returns-in-RemoveAll c).Start in
    served-row s _ _ _ _ _ _ _ _ _ _ (c.is_locked-locked.ensures ∙ state_locked s _ c.requires.2) c.row_in.ensures _ c.in-RemoveAll.is
    (c.remove_all_identities.ensures s refl c.requires.2 _)

pub returns-in-Sign : goal.returns-in-Sign
returns-in-Sign c =
    let s = lent-state (goal.at.returns-in-Sign c).Start in
    served-row s _ _ _ _ _ _ _ _ _ _ (c.is_locked-locked.ensures ∙ state_locked s _ c.requires.2) c.row_in.ensures _ c.in-Sign.is
    (c.try_sign.ensures s (subst (λ (t : Columns). KeysOf t s) (sym c.show-in-Sign.ensures) (record { parts = its_own; confirm_is = refl })) c.requires.2)

pub returns-in-Lock : goal.returns-in-Lock
returns-in-Lock c =
    let s = lent-state (goal.at.returns-in-Lock c).Start in
    served-row s _ _ _ _ _ _ _ _ _ _ (c.is_locked-locked.ensures ∙ state_locked s _ c.requires.2) c.row_in.ensures _ c.in-Lock.is
    (c.lock.ensures _ _ c.requires.2 _)

pub returns-in-Unlock : goal.returns-in-Unlock
returns-in-Unlock c =
    let s = lent-state (goal.at.returns-in-Unlock c).Start in
    served-row s _ _ _ _ _ _ _ _ _ _ (c.is_locked-locked.ensures ∙ state_locked s _ c.requires.2) c.row_in.ensures _ c.in-Unlock.is
    (c.unlock.ensures _ _ c.requires.2 _)
