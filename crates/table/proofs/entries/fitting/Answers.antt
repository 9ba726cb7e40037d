-- The test is the definition's own. Assumes nothing.
use borrow.Author.Tests.{le-leb, lt-leb}
use Rattle.table.proofs.entries.fitting.Goals as goal

pub returns-then-others-size-gt-STORE_SIZE : goal.returns-then-others-size-gt-STORE_SIZE
returns-then-others-size-gt-STORE_SIZE c = rw (lt-leb _ _ c.if-others-size-gt-STORE_SIZE.true)

pub returns : goal.returns
returns c = rw (le-leb _ _ c.if-others-size-gt-STORE_SIZE.false)
