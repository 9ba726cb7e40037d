-- Each way out returns what the definition says of the state that was matched. Assumes nothing.
use borrow.Author.Tests.{ne_eqb}
use Rattle.wire.specs.Utf8.{ended}
use Rattle.wire.proofs.utf8.end_at.Goals as goal

pub returns-in-Some : goal.returns-in-Some
unfolding ended
returns-in-Some c = rw (c.in-Some.is, c.if-t-eq0.true)

pub returns-in_default : goal.returns-in_default
unfolding ended
returns-in_default c = rw (c.in-Some.is, ne_eqb _ _ c.if-t-eq0.false)

pub returns-in_default-2 : goal.returns-in_default-2
unfolding ended
returns-in_default-2 c = rw c.in_default.is
