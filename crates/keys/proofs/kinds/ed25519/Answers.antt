-- The definition goes by the same steps; the fault of a field is at its start. Assumes nothing.
use Rattle.std.proofs.lemmas.Result.{err_from_is_err_and}
use mathlib.Core.Path.{ap, ◌∙◌}
use native.Mathlib.Omega.{arith}
use Rattle.wire.specs.Steps.{faulted, part}
use Rattle.keys.specs.Kinds.{ed25519_at}
use Rattle.keys.proofs.FieldSteps.{sized_field, sized_room}
use Rattle.keys.proofs.kinds.ed25519.Goals as goal

pub returns-in_err-a : goal.returns-in_err-a
unfolding ed25519_at part
returns-in_err-a c =
    let p = err_from_is_err_and c.from_residual.result c.from_residual.ensures.1 in
    rw (p.1, p.2, ← c.in_err-a.ensures) (ap faulted ((sized_field _ _ _).fault _ c.in_err-a.ensures))

pub returns-in_err-pair : goal.returns-in_err-pair
unfolding ed25519_at part
returns-in_err-pair c =
    let p = err_from_is_err_and c.from_residual-in_err-pair.result c.from_residual-in_err-pair.ensures.1 in
    rw (p.1, p.2, ← c.in_ok-a.ensures, ← c.in_err-pair.ensures)
    (ap faulted ((sized_field _ _ _).fault _ c.in_err-pair.ensures ∙ (sized_field _ _ _).end _ c.in_ok-a.ensures))

pub overflow_add-pair : goal.overflow_add-pair
unfolding ed25519_at part
overflow_add-pair c = sized_room _ _ _ 64 32 c.in_ok-pair.ensures (omega arith) (omega arith)

pub returns-then-is_same : goal.returns-then-is_same
unfolding ed25519_at part
returns-then-is_same c = rw (← c.in_ok-a.ensures, ← c.in_ok-pair.ensures, ← c.cut.ensures.bytes, ← c.cut-2.ensures.bytes, ← c.if-is_same.ensures)

pub returns : goal.returns
unfolding ed25519_at part
returns c = rw (← c.in_ok-a.ensures, ← c.in_ok-pair.ensures, ← c.cut.ensures.bytes, ← c.cut-2.ensures.bytes, ← c.if-is_same.ensures)
