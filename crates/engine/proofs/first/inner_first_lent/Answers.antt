-- By the splitter's answer; of a whole frame, by the inner call on its payload, with nothing lent; and so on a sound state. Assumes nothing.
use Rattle.server.proofs.FirstSteps.{more_needed, too_long, begins}
use Rattle.server.proofs.InnerLaws.{inner_first_meets}
use Rattle.engine.proofs.first.inner_first_lent.Goals as goal

pub returns-in-MoreNeeded : goal.returns-in-MoreNeeded
returns-in-MoreNeeded c = inner_first_meets _ _ _ _ _ _ _ _ _ c.requires (more_needed _ _ _ _ _ _ c.read_frame.ensures c.in-MoreNeeded.is)

pub returns-in-TooLong : goal.returns-in-TooLong
returns-in-TooLong c = inner_first_meets _ _ _ _ _ _ _ _ _ c.requires (too_long _ _ _ _ _ _ c.read_frame.ensures c.in-TooLong.is)

pub returns-in-Frame : goal.returns-in-Frame
returns-in-Frame c =
    inner_first_meets _ _ _ _ _ _ _ _ _ c.requires
    (begins _ _ _ _ _ _ c.read_frame.ensures _ _ _ _ _ _ _ _ _ _ c.in-Frame.is c.frame_payload.ensures.bytes
    c.nothing_lent.ensures c.cut.ensures.bytes c.inner_lent-landed.ensures.meets c.first_in.ensures)
