-- The definition goes by the same count, test and items. Assumes nothing.
use borrow.Author.Tests.{le-ltb, lt-ltb}
use Rattle.std.proofs.lemmas.Result.{err_from_is_err_and}
use Rattle.readers.specs.Reaches.{reach}
use Rattle.readers.specs.Identities.{counted, item_of}
use Rattle.readers.proofs.identities.identity.Goals as goal

pub returns-in_err-count : goal.returns-in_err-count
unfolding item_of counted
returns-in_err-count c =
    let p = err_from_is_err_and c.from_residual.result c.from_residual.ensures.1 in
    rw (p.1, p.2, ← c.in_err-count.ensures)

pub returns-then-count-index : goal.returns-then-count-index
unfolding item_of counted
returns-then-count-index c = rw (← c.in_ok-count.ensures, le-ltb _ _ c.if-count-index.true)

pub returns-in_err-at : goal.returns-in_err-at
unfolding item_of counted reach
returns-in_err-at c =
    let p = err_from_is_err_and c.from_residual-in_err-at.result c.from_residual-in_err-at.ensures.1 in
    rw (p.1, p.2, ← c.in_ok-count.ensures, lt-ltb _ _ c.if-count-index.false, ← c.in_err-at.ensures)

pub returns : goal.returns
unfolding item_of counted reach
returns c = rw (← c.in_ok-count.ensures, lt-ltb _ _ c.if-count-index.false, ← c.in_ok-at.ensures) c.item_at.ensures
