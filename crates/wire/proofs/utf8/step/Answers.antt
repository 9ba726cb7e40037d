-- Each way out returns what the definition says of the state that was taken and the tests that were passed. Assumes nothing.
use borrow.Author.Tests.{ne_eqb, le-leb, lt-leb}
use mathlib.Core.Logic.{⊎_elim}
use Rattle.wire.specs.Utf8.{step_of}
use Rattle.wire.proofs.utf8.step.Goals as goal

pub returns-in_err-t : goal.returns-in_err-t
unfolding step_of
returns-in_err-t c = rw (c.in_err-t.was, c.from_residual.ensures)

pub returns-then-t-eq0 : goal.returns-then-t-eq0
unfolding step_of
returns-then-t-eq0 c = rw (c.in_ok-t.was, c.if-t-eq0.true) c.lead.ensures

pub returns-then-b-t : goal.returns-then-b-t
unfolding step_of
returns-then-b-t c =
    rw (c.in_ok-t.was, ne_eqb _ _ c.if-t-eq0.false)
    (⊎_elim (λ h. rw (lt-leb _ _ h)) (λ h. rw (le-leb _ _ h.0, lt-leb _ _ h.1)) c.then-b-t.either)

pub returns : goal.returns
unfolding step_of
returns c = rw (c.in_ok-t.was, ne_eqb _ _ c.if-t-eq0.false, le-leb _ _ c.if-b-t.false, le-leb _ _ c.if-t-b.false) c.wants.ensures
