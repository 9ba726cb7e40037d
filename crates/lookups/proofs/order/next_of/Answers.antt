-- The definition goes by the same test, and the least of the numbers above is what it goes for. Assumes nothing.
use native.Mathlib.Omega.{arith}
use Prim.Native.Nat.{ℕ}
use mathlib.Core.Path.{sym, ap, ◌∙◌}
use Rattle.std.specs.Option.{unwrap_or}
use Rattle.std.specs.declared.option.Option.{Option}
use Rattle.table.proofs.EntryLaws.{count_within}
use Rattle.table.proofs.TestLaws.{sound_state-rule}
use Rattle.lookups.proofs.LeastLaws.{least_listed}
use Rattle.lookups.proofs.ToldLaws.{next_unsound, next_sound}
use Rattle.lookups.proofs.order.next_of.Goals as goal

pub returns-then-not-is_state_sound : goal.returns-then-not-is_state_sound
returns-then-not-is_state_sound c = next_unsound c.args.state c.args.store.now c.args.after (sym c.is_state_sound.ensures ∙ c.if-not-is_state_sound.true)

pub shared_ref_as_front-least_above : goal.shared_ref_as_front-least_above
shared_ref_as_front-least_above c =
    let n = c.count-n.ensures in
    let within = count_within c.args.state.columns.numbers in
    let long = ((sound_state-rule c.args.state c.args.store.now).0 (sym c.is_state_sound.ensures ∙ c.if-not-is_state_sound.false)).long.numbers in
    omega arith

pub returns : goal.returns
returns c =
    let s = c.args.state in
    let x = c.args.store.now in
    c.unwrap_or.ensures ∙ ap (λ (r : Option ℕ). unwrap_or r 0) c.least_above.ensures ∙ least_listed s x c.args.after _ c.count-n.ensures
    ∙ next_sound s x c.args.after (sym c.is_state_sound.ensures ∙ c.if-not-is_state_sound.false)
