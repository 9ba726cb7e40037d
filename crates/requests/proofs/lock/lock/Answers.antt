-- The plan goes by the same steps. Assumes nothing.
use Rattle.requests.proofs.EndSteps.{ends, answering, lock_means}
use Rattle.rule.specs.Rule.{locking}
use Rattle.requests.proofs.lock.lock.Goals as goal

pub returns-in_default : goal.returns-in_default
unfolding locking
returns-in_default c = λ t x S a. search (ends, answering c.failure.ensures) depth 16

pub overflow_sub-to : goal.overflow_sub-to
overflow_sub-to c = search ends depth 16

pub returns-then-to-from-gt-PASSPHRASE_LIMIT : goal.returns-then-to-from-gt-PASSPHRASE_LIMIT
unfolding locking
returns-then-to-from-gt-PASSPHRASE_LIMIT c = λ t x S a. search (ends, answering c.failure-then-to-from-gt-PASSPHRASE_LIMIT.ensures) depth 16

pub set_lock-requires : goal.set_lock-requires
set_lock-requires c = search ends depth 16

pub returns : goal.returns
unfolding locking
returns c =
    λ t x S a.
    let means = lock_means _ _ _ _ _ _ _ c.cut.ensures.bytes (c.set_lock.ensures.1 t x S) in
    search (ends, answering c.set_lock.ensures.0 _ _ _ means, c.if-to-from-gt-PASSPHRASE_LIMIT.false, c.in-Ok.is, c.string.ensures) depth 16
