-- The definition goes by the same byte and number. Assumes nothing.
use mathlib.Core.Path.{ap}
use Rattle.std.proofs.lemmas.Result.{err_from_is_err_and}
use Rattle.wire.specs.Steps.{faulted, number}
use Rattle.readers.specs.Signatures.{touched_end}
use Rattle.readers.proofs.ReadSteps.{byte_place, number_place}
use Rattle.readers.proofs.signature.touched_end.Goals as goal

pub returns-in_err-counter : goal.returns-in_err-counter
unfolding touched_end number
returns-in_err-counter c =
    let p = err_from_is_err_and c.from_residual.result c.from_residual.ensures.1 in
    rw (p.1, p.2, ← c.in_err-counter.ensures) (ap faulted (byte_place _ _ _ c.in_err-counter.ensures))

pub returns-in_err-end : goal.returns-in_err-end
unfolding touched_end number
returns-in_err-end c =
    let p = err_from_is_err_and c.from_residual-in_err-end.result c.from_residual-in_err-end.ensures.1 in
    rw (p.1, p.2, ← c.in_ok-counter.ensures, ← c.in_err-end.ensures) (ap faulted (number_place _ _ _ c.in_err-end.ensures))

pub returns : goal.returns
unfolding touched_end number
returns c = rw (← c.in_ok-counter.ensures, ← c.in_ok-end.ensures)
