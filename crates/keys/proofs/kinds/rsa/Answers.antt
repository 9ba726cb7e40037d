-- The definition goes by the same steps; the fault of a field is at its start. Assumes nothing.
use Rattle.std.proofs.lemmas.Result.{err_from_is_err_and}
use mathlib.Core.Path.{ap, ◌∙◌}
use Rattle.wire.specs.Steps.{faulted, part}
use Rattle.keys.specs.Kinds.{rsa_at}
use Rattle.keys.proofs.FieldSteps.{mpint-field}
use Rattle.keys.proofs.kinds.rsa.Goals as goal

pub returns-in_err-n : goal.returns-in_err-n
unfolding rsa_at part
returns-in_err-n c =
    let p = err_from_is_err_and c.from_residual.result c.from_residual.ensures.1 in
    rw (p.1, p.2, ← c.in_err-n.ensures) (ap faulted ((mpint-field _ _).fault _ c.in_err-n.ensures))

pub returns-in_err-e : goal.returns-in_err-e
unfolding rsa_at part
returns-in_err-e c =
    let p = err_from_is_err_and c.from_residual-in_err-e.result c.from_residual-in_err-e.ensures.1 in
    rw (p.1, p.2, ← c.in_ok-n.ensures, ← c.in_err-e.ensures)
    (ap faulted ((mpint-field _ _).fault _ c.in_err-e.ensures ∙ (mpint-field _ _).end _ c.in_ok-n.ensures))

pub returns-in_err-q : goal.returns-in_err-q
unfolding rsa_at part
returns-in_err-q c =
    let p = err_from_is_err_and c.from_residual-in_err-q.result c.from_residual-in_err-q.ensures.1 in
    rw (p.1, p.2, ← c.in_ok-n.ensures, ← c.in_ok-e.ensures, ← c.in_err-q.ensures)

pub returns : goal.returns
unfolding rsa_at part
returns c = rw (← c.in_ok-n.ensures, ← c.in_ok-e.ensures, ← c.in_ok-q.ensures)
