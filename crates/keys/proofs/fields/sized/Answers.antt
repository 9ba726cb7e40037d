-- The definition goes by the same steps. Assumes nothing.
use Rattle.std.proofs.lemmas.Result.{err_from_is_err_and}
use Rattle.wire.specs.Steps.{part}
use Rattle.keys.specs.Fields.{sized_at}
use Rattle.keys.proofs.FieldSteps.{all}
use Rattle.keys.proofs.fields.sized.Goals as goal

pub returns-in_err-p : goal.returns-in_err-p
unfolding sized_at part
returns-in_err-p c = let p = err_from_is_err_and c.from_residual.result c.from_residual.ensures.1 in rw (p.1, p.2, ← c.in_err-p.ensures)

pub overflow_sub-p : goal.overflow_sub-p
unfolding sized_at
overflow_sub-p c = search (all, c.in_ok-p.was)

pub returns-then-p-n : goal.returns-then-p-n
unfolding sized_at
returns-then-p-n c = search (all, c.in_ok-p.was) depth 16

pub returns : goal.returns
unfolding sized_at
returns c = search (all, c.in_ok-p.was) depth 16
