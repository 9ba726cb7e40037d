-- The plan goes by the same answer, for the key's own number and Confirm. Assumes nothing.
use Rattle.requests.proofs.EndSteps.{answering}
use Rattle.requests.proofs.SignSteps.{signs}
use Rattle.requests.proofs.sign.sign_with.Goals as goal

pub returns-in-Missing : goal.returns-in-Missing
returns-in-Missing c =
    λ s x S k number confirm.
    search (signs, c.in-Missing.is, number, confirm, c.consent.ensures) depth 16

pub returns-in-No : goal.returns-in-No
returns-in-No c =
    λ s x S k number confirm.
    search (signs, answering c.failure.ensures, c.in-No.is, number, confirm, c.consent.ensures) depth 16

pub returns-in-Yes : goal.returns-in-Yes
returns-in-Yes c =
    λ s x S k number confirm.
    search (signs, c.sign_data.ensures s x S, c.in-Yes.is, number, confirm, c.consent.ensures) depth 16
