-- The plan goes by the same steps; the passphrase is compared whole. Assumes nothing.
use Rattle.requests.proofs.EndSteps.{ends, answering, open_means}
use Rattle.rule.specs.Rule.{unlocking}
use Rattle.requests.proofs.lock.unlock.Goals as goal

pub returns-in_default : goal.returns-in_default
unfolding unlocking
returns-in_default c = λ t x S a. search (ends, answering c.failure.ensures) depth 16

pub set_lock-requires : goal.set_lock-requires
set_lock-requires c = search ends depth 16

pub returns-then-is_passphrase : goal.returns-then-is_passphrase
unfolding unlocking
returns-then-is_passphrase c =
    λ t x S a.
    let means = open_means _ _ _ _ _ _ _ c.cut-then-is_passphrase.ensures.bytes (c.set_lock.ensures.1 t x S) in
    search (
      ends,
      answering c.set_lock.ensures.0 _ _ _ means,
      c.if-is_passphrase.true,
      c.is_passphrase.ensures,
      c.cut.ensures.bytes,
      c.in-Ok.is,
      c.string.ensures,
    ) depth 16

pub returns : goal.returns
unfolding unlocking
returns c = λ t x S a. search (ends, answering c.failure-2.ensures) depth 16
