-- A lifetime is its byte, and behind it the seconds. Assumes nothing.
use Rattle.client.proofs.ConstraintLaws.{lifetime_put}
use Rattle.client.proofs.writers.put_constraint.Goals as goal

pub returns-in-KeyLifetime : goal.returns-in-KeyLifetime
returns-in-KeyLifetime c =
    lifetime_put _ _ _ c.requires _ c.in-KeyLifetime.is _ _ _ _
    c.put_byte-next.ensures.1 c.put_byte-next.ensures.0 c.put_number.ensures.1 c.put_number.ensures.0
