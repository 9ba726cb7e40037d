-- The definition goes by the same string, and asks the same of its contents. Assumes nothing.
use mathlib.Core.Path.{ap}
use Rattle.std.specs.Prelude.{Err}
use Rattle.std.proofs.lemmas.Result.{err_from_is_err_and}
use Rattle.wire.specs.declared.refusal.Refusal.TheVariants.{Malformed}
use Rattle.wire.specs.Steps.{part}
use Rattle.readers.specs.Identities.{item_at}
use Rattle.readers.proofs.ReadSteps.{string_place}
use Rattle.readers.proofs.identities.item_at.Goals as goal

pub returns-in_err-blob : goal.returns-in_err-blob
unfolding item_at part
returns-in_err-blob c =
    let p = err_from_is_err_and c.from_residual.result c.from_residual.ensures.1 in
    rw (p.1, p.2, ← c.in_err-blob.ensures) (ap (λ at. Err (Malformed at)) (string_place _ _ _ c.in_err-blob.ensures))

pub returns : goal.returns
unfolding item_at part
returns c = rw (← c.in_ok-blob.ensures, ← c.cut.ensures.bytes, ← c.is_certificate_blob.ensures)
