-- The list is the reply, and nothing changes. Assumes nothing.
use Rattle.rule.specs.Rule.{listing}
use mathlib.Core.Path.{refl}
use Rattle.requests.proofs.EndSteps.{landed, replied, means_itself}
use Rattle.requests.proofs.list.request_identities.Goals as goal

pub returns : goal.returns
unfolding listing
returns c s shows S a =
    let put = c.put_list-len.ensures s shows S in
    landed _ _ _ _ _ _ _ _ (replied _ _ _ _ _ s _ _ refl put.0 put.1 (means_itself s _ S))
