-- The plan goes by the same steps; a signature that counts is a lent one, so it is short. Assumes nothing.
use Rattle.rule.specs.Rule.{signing_data}
use Rattle.requests.proofs.EndSteps.{closing}
use Rattle.requests.proofs.SignSteps.{signs, signature_short}
use Rattle.requests.proofs.sign.sign_data.Goals as goal

pub returns-in_default : goal.returns-in_default
unfolding signing_data
returns-in_default c = λ s x S. search (signs, closing) depth 16

pub returns-in_default-number : goal.returns-in_default-number
unfolding signing_data
returns-in_default-number c = λ s x S. search (signs, closing) depth 16

pub put_reply-len-requires : goal.put_reply-len-requires
put_reply-len-requires c = (c.requires.0, signature_short c.args.asked.answers _ _ _ c.signed_for.ensures _ c.in-Yes.is c.requires.1)

pub returns-in-Missing : goal.returns-in-Missing
unfolding signing_data
returns-in-Missing c = λ s x S. search signs depth 16

pub returns-in-No : goal.returns-in-No
unfolding signing_data
returns-in-No c =
    λ s x S. search (
      signs,
      closing,
      c.in-No.is,
      c.signed_for.ensures,
      c.in-Ok-number.is,
      c.number.ensures,
      c.in-Ok.is,
      c.string.ensures,
    ) depth 16

pub returns-in-Yes : goal.returns-in-Yes
unfolding signing_data
returns-in-Yes c = λ s x S. search signs depth 16
