-- The definition cuts the same part, or none, out of the payload. Assumes nothing.
use mathlib.Core.Path.{sym}
use Rattle.wire.proofs.Reading.{cut_none, from_none, part-as}
use Rattle.readers.specs.Identities.{blob_of_item, blob_from}
use Rattle.readers.proofs.identities.identity_blob.Goals as goal

pub returns-in-Ok : goal.returns-in-Ok
unfolding blob_of_item blob_from
returns-in-Ok c = rw (← c.in-Ok.ensures) c.cut.ensures

pub returns-in-Err : goal.returns-in-Err
unfolding blob_of_item blob_from
returns-in-Err c = rw (← c.in-Err.ensures) (part-as _ _ _ _ _ _ c.cut-in-Err.ensures (from_none _) (sym (cut_none _)))
