-- The definition goes by the same steps; the fault of a field is at its start. Assumes nothing.
use Rattle.std.proofs.lemmas.Result.{err_from_is_err_and}
use mathlib.Core.Path.{ap, ◌∙◌}
use Rattle.wire.specs.Steps.{faulted, part}
use Rattle.keys.specs.Kinds.{ecdsa_at}
use Rattle.keys.proofs.FieldSteps.{named_field, point_field, scalar-field}
use Rattle.keys.proofs.kinds.ecdsa.Goals as goal

pub returns-in_err-name : goal.returns-in_err-name
unfolding ecdsa_at part
returns-in_err-name c =
    let p = err_from_is_err_and c.from_residual.result c.from_residual.ensures.1 in
    rw (p.1, p.2, ← c.in_err-name.ensures) (ap faulted ((named_field _ _ _).fault _ c.in_err-name.ensures))

pub returns-in_err-q : goal.returns-in_err-q
unfolding ecdsa_at part
returns-in_err-q c =
    let p = err_from_is_err_and c.from_residual-in_err-q.result c.from_residual-in_err-q.ensures.1 in
    rw (p.1, p.2, ← c.in_ok-name.ensures, ← c.in_err-q.ensures)
    (ap faulted ((point_field _ _ _).fault _ c.in_err-q.ensures ∙ (named_field _ _ _).end _ c.in_ok-name.ensures))

pub returns-in_err-d : goal.returns-in_err-d
unfolding ecdsa_at part
returns-in_err-d c =
    let p = err_from_is_err_and c.from_residual-in_err-d.result c.from_residual-in_err-d.ensures.1 in
    rw (p.1, p.2, ← c.in_ok-name.ensures, ← c.in_ok-q.ensures, ← c.in_err-d.ensures)
    (ap faulted ((scalar-field _ _ _).fault _ c.in_err-d.ensures ∙ (point_field _ _ _).end _ c.in_ok-q.ensures))

pub returns : goal.returns
unfolding ecdsa_at part
returns c = rw (← c.in_ok-name.ensures, ← c.in_ok-q.ensures, ← c.in_ok-d.ensures)
