-- By the cases of the answer. Assumes nothing.
use Rattle.server.proofs.RowSteps.{lending}
use Rattle.server.proofs.call.lent_length.Goals as goal

pub returns-in-Missing : goal.returns-in-Missing
returns-in-Missing c = search lending depth 12

pub returns-in-Given : goal.returns-in-Given
returns-in-Given c = search lending depth 12
