-- The definition goes by the same string and text. Assumes nothing.
use mathlib.Core.Path.{ap}
use Rattle.std.proofs.lemmas.Result.{err_from_is_err_and}
use Rattle.wire.specs.Steps.{faulted, part}
use Rattle.readers.specs.Identities.{items_at}
use Rattle.readers.proofs.ReadSteps.{string_place}
use Rattle.readers.proofs.identities.item_end.Goals as goal

pub returns-in_err-blob : goal.returns-in_err-blob
unfolding items_at part
returns-in_err-blob c =
    let p = err_from_is_err_and c.from_residual.result c.from_residual.ensures.1 in
    rw (p.1, p.2, ← c.in_err-blob.ensures) (ap faulted (string_place _ _ _ c.in_err-blob.ensures))

pub returns-in_err-comment : goal.returns-in_err-comment
unfolding items_at part
returns-in_err-comment c =
    let p = err_from_is_err_and c.from_residual-in_err-comment.result c.from_residual-in_err-comment.ensures.1 in
    rw (p.1, p.2, ← c.in_ok-blob.ensures, ← c.in_err-comment.ensures)

pub returns : goal.returns
unfolding items_at part
returns c = rw (← c.in_ok-blob.ensures, ← c.in_ok-comment.ensures)
