-- The definition goes by the same text, tests and end. Assumes nothing.
use mathlib.Core.Path.{sym, ◌∙◌}
use Rattle.std.proofs.lemmas.Result.{err_from_is_err_and}
use Rattle.wire.specs.Texts.{bytes}
use Rattle.wire.specs.Steps.{part}
use Rattle.readers.specs.Reaches.{reach}
use Rattle.readers.specs.Signatures.{signature_at}
use Rattle.readers.proofs.FormLaws.{starts_same}
use Rattle.readers.proofs.signature.signature_at.Goals as goal

pub returns-in_err-text : goal.returns-in_err-text
unfolding signature_at part
returns-in_err-text c =
    let p = err_from_is_err_and c.from_residual.result c.from_residual.ensures.1 in
    rw (p.1, p.2, ← c.in_err-text.ensures)

pub returns-then-not-is_fit : goal.returns-then-not-is_fit
unfolding signature_at part
returns-then-not-is_fit c =
    rw (← c.in_ok-text.ensures, ← c.cut-kind.ensures.bytes, ← c.if-not-is_fit.ensures)

pub returns-in_err-to : goal.returns-in_err-to
unfolding signature_at part reach
returns-in_err-to c =
    let p = err_from_is_err_and c.from_residual-in_err-to.result c.from_residual-in_err-to.ensures.1 in
    let starts = sym (c.starts_with.ensures.value ∙ starts_same c.cut-kind.result.now (bytes "sk-")) in
    rw (p.1, p.2, ← c.in_ok-text.ensures, ← c.cut-kind.ensures.bytes, ← c.if-not-is_fit.ensures, starts, ← c.in_err-to.ensures)

pub returns : goal.returns
unfolding signature_at part reach
returns c =
    let starts = sym (c.starts_with.ensures.value ∙ starts_same c.cut-kind.result.now (bytes "sk-")) in
    rw (← c.in_ok-text.ensures, ← c.cut-kind.ensures.bytes, ← c.if-not-is_fit.ensures, starts, ← c.in_ok-to.ensures)
