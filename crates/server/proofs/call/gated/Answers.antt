-- The definition goes by the same tests. Assumes nothing.
use Rattle.server.specs.Rows.{gated_row}
use Rattle.server.proofs.RowSteps.{rowing}
use Rattle.server.proofs.call.gated.Goals as goal

pub returns-then-not-fit : goal.returns-then-not-fit
unfolding gated_row
returns-then-not-fit c = search rowing depth 12

pub returns-in-Missing : goal.returns-in-Missing
unfolding gated_row
returns-in-Missing c = search rowing depth 12

pub returns-in-No : goal.returns-in-No
unfolding gated_row
returns-in-No c = search rowing depth 12

pub returns-in-Yes : goal.returns-in-Yes
unfolding gated_row
returns-in-Yes c = search rowing depth 12
