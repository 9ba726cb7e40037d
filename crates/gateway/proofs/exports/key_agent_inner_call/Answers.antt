-- What the inner call ensures of the outcome is said of the flat one. Assumes nothing.
use Rattle.gateway.proofs.InnerFlat.{inner_flat}
use Rattle.gateway.proofs.exports.key_agent_inner_call.Goals as goal

pub returns : goal.returns
returns c =
    inner_flat _ _ _ _ _ _ _ _ _ _ _ _ c.flat_of.ensures (rw c.answers_of.ensures at c.serve_inner-outcome.ensures)
