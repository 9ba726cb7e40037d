-- What the first inner call ensures is said of the flat one. Assumes nothing.
use Rattle.gateway.proofs.InnerFlat.{inner_first_flat}
use Rattle.gateway.proofs.exports.key_agent_inner_first.Goals as goal

pub returns : goal.returns
returns c = inner_first_flat _ _ _ _ _ _ _ _ _ _ c.first_of.ensures c.serve_first_inner-first.ensures
