-- The definition goes by the same string and test. Assumes nothing.
use mathlib.Core.Path.{ap}
use Rattle.std.proofs.lemmas.Result.{err_from_is_err_and}
use Rattle.wire.specs.Steps.{faulted, part}
use Rattle.readers.specs.Signatures.{signature_end}
use Rattle.readers.proofs.ReadSteps.{string_place}
use Rattle.readers.proofs.signature.signature_end.Goals as goal

pub returns-in_err-bytes : goal.returns-in_err-bytes
unfolding signature_end part
returns-in_err-bytes c =
    let p = err_from_is_err_and c.from_residual.result c.from_residual.ensures.1 in
    rw (p.1, p.2, ← c.in_err-bytes.ensures) (ap faulted (string_place _ _ _ c.in_err-bytes.ensures))

pub returns-then-touched : goal.returns-then-touched
unfolding signature_end part
returns-then-touched c = rw (← c.in_ok-bytes.ensures, c.if-touched.true) c.touched_end.ensures

pub returns : goal.returns
unfolding signature_end part
returns c = rw (← c.in_ok-bytes.ensures, c.if-touched.false)
