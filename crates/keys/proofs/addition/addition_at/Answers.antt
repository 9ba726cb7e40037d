-- The definition goes by the same key fields. Assumes nothing.
use Rattle.std.proofs.lemmas.Result.{err_from_is_err_and}
use Rattle.keys.specs.Additions.{key, addition_at}
use Rattle.keys.proofs.addition.addition_at.Goals as goal

pub returns-in_err-places : goal.returns-in_err-places
unfolding addition_at key
returns-in_err-places c = let p = err_from_is_err_and c.from_residual.result c.from_residual.ensures.1 in rw (p.1, p.2, ← c.in_err-places.ensures)

pub returns : goal.returns
unfolding addition_at key
returns c = rw (← c.in_ok-places.ensures) c.commented.ensures
