-- By the splitter's answer; of a whole frame, by the call on its payload, with nothing lent. Assumes nothing.
use Rattle.server.proofs.FirstSteps.{more_needed, too_long, begins}
use Rattle.engine.proofs.first.first_lent.Goals as goal

pub returns-in-MoreNeeded : goal.returns-in-MoreNeeded
returns-in-MoreNeeded c = more_needed _ _ _ _ _ _ c.read_frame.ensures c.in-MoreNeeded.is

pub returns-in-TooLong : goal.returns-in-TooLong
returns-in-TooLong c = too_long _ _ _ _ _ _ c.read_frame.ensures c.in-TooLong.is

pub returns-in-Frame : goal.returns-in-Frame
returns-in-Frame c =
    begins _ _ _ _ _ _ c.read_frame.ensures _ _ _ _ _ _ _ _ _ _ c.in-Frame.is c.frame_payload.ensures.bytes
    c.nothing_lent.ensures c.cut.ensures.bytes c.call_lent-landed.ensures c.first_in.ensures
