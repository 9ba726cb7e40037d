-- What is due at the raised clock is gone, and that clock is kept. Assumes nothing.
use Rattle.changes.proofs.ChangeLaws.{advanced}
use Rattle.changes.proofs.advance.Goals as goal

pub returns : goal.returns
returns c =
    let a = c.args in
    let t = a.t.now in
    advanced t a.store.now _ _ a.kept _ a.reading (λ j. record { clock = c.later-clock.ensures j; next = a.kept.next; locked = a.kept.locked }) (rw c.later-clock.ensures at c.expire.ensures)
