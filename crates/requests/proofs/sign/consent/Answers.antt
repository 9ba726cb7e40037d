-- Without Confirm yes is said; with it, what counts for the key's number. Assumes nothing.
use Rattle.requests.specs.Outcomes.{agreed}
use Rattle.requests.proofs.sign.consent.Goals as goal

pub returns-then-not-is_set : goal.returns-then-not-is_set
unfolding agreed
returns-then-not-is_set c = rw (← c.is_set.ensures, c.if-not-is_set.true)

pub returns : goal.returns
unfolding agreed
returns c = rw (← c.is_set.ensures, c.if-not-is_set.false) c.confirmed_for.ensures
