-- The definition cuts the same part out of the bytes. Assumes nothing.
use mathlib.Core.Logic.{⊎_elim}
use Rattle.wire.specs.Frames.{frame_payload, payload_from}
use Rattle.wire.proofs.frame.frame_payload.Goals as goal

pub returns-in-Frame : goal.returns-in-Frame
unfolding frame_payload payload_from
returns-in-Frame c = rw (← c.in-Frame.ensures) c.cut.ensures

pub returns-in-MoreNeeded : goal.returns-in-MoreNeeded
unfolding frame_payload payload_from
returns-in-MoreNeeded c =
    rw (← c.read_frame.ensures)
    (⊎_elim (λ e. rw e c.cut-in-MoreNeeded.ensures) (λ e. rw e c.cut-in-MoreNeeded.ensures) c.in-MoreNeeded.is)
