-- The definition goes by the same text and the same end. Assumes nothing.
use mathlib.Core.Path.{◌∙◌}
use Rattle.wire.specs.Steps.{part}
use Rattle.readers.specs.Identities.{certificate, certificate_end}
use Rattle.readers.proofs.FormLaws.{ends_same}
use Rattle.readers.proofs.identities.is_certificate_blob.Goals as goal

pub returns-in-Ok : goal.returns-in-Ok
unfolding certificate part
returns-in-Ok c = rw (← c.in-Ok.ensures, ← c.cut.ensures.bytes) (c.ends_with.ensures.value ∙ ends_same c.cut.result.now certificate_end)

pub returns-in-Err : goal.returns-in-Err
unfolding certificate part
returns-in-Err c = rw (← c.in-Err.ensures)
