-- The definition goes by the same string, part and test. Assumes nothing.
use Rattle.wire.specs.Read.{mpint_at}
use Rattle.wire.specs.Steps.{part}
use Rattle.wire.proofs.Steps.{all}
use Rattle.std.proofs.lemmas.Result.{err_from_is_err_and}
use Rattle.wire.proofs.read.Cursor.mpint.Goals as goal

pub returns-in_err-p : goal.returns-in_err-p
unfolding mpint_at part
returns-in_err-p c = let p = err_from_is_err_and c.from_residual.result c.from_residual.ensures.1 in rw (p.1, p.2, ← c.in_err-p.ensures)

pub returns-then-is_mpint : goal.returns-then-is_mpint
unfolding mpint_at
returns-then-is_mpint c = let h = c.in_ok-p.was in search all depth 16

pub returns : goal.returns
unfolding mpint_at
returns c = search (all, c.in_ok-p.was) depth 16
