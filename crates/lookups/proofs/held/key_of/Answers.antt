-- The definition goes by the same test and search; the place that is found holds the key. Assumes nothing.
use native.Mathlib.Omega.{arith}
use mathlib.Core.Path.{sym, ◌∙◌}
use Rattle.table.proofs.EntryLaws.{count_within}
use Rattle.table.proofs.TestLaws.{sound_state-rule}
use Rattle.lookups.proofs.NumberLaws.{number_at, number_nowhere}
use Rattle.lookups.proofs.ToldLaws.{key-unsound, key-absent, key-found, numbered-at, position_within}
use Rattle.lookups.proofs.held.key_of.Goals as goal

pub returns-then-not-is_state_sound : goal.returns-then-not-is_state_sound
returns-then-not-is_state_sound c = c.untold.ensures ∙ key-unsound c.args.state c.args.store.now c.args.number (sym c.is_state_sound.ensures ∙ c.if-not-is_state_sound.true)

pub shared_ref_as_front-find_number : goal.shared_ref_as_front-find_number
shared_ref_as_front-find_number c =
    let n = c.count-n.ensures in
    let within = count_within c.args.state.columns.numbers in
    let long = ((sound_state-rule c.args.state c.args.store.now).0 (sym c.is_state_sound.ensures ∙ c.if-not-is_state_sound.false)).long.numbers in
    omega arith

pub told_at-requires : goal.told_at-requires
told_at-requires c =
    let s = c.args.state in
    let x = c.args.store.now in
    let at = number_at s x c.args.number _ _ c.count-n.ensures c.find_number.ensures _ c.in-Some.is in
    (position_within s x c.args.number _ at, (sound_state-rule s x).0 (sym c.is_state_sound.ensures ∙ c.if-not-is_state_sound.false))

pub returns-in-Some : goal.returns-in-Some
returns-in-Some c =
    let s = c.args.state in
    let x = c.args.store.now in
    let n = c.args.number in
    let at = number_at s x n _ _ c.count-n.ensures c.find_number.ensures _ c.in-Some.is in
    let k = numbered-at s x n _ at in
    c.told_at.ensures k.key k.there ∙ key-found s x n (sym c.is_state_sound.ensures ∙ c.if-not-is_state_sound.false) _ k.key at k.there

pub returns-in-None : goal.returns-in-None
returns-in-None c =
    let s = c.args.state in
    let x = c.args.store.now in
    let nowhere = number_nowhere s x c.args.number _ _ c.count-n.ensures c.find_number.ensures c.in-None.is in
    c.untold-in-None.ensures ∙ key-absent s x c.args.number (sym c.is_state_sound.ensures ∙ c.if-not-is_state_sound.false) nowhere
