-- The definition goes by the same tests. Assumes nothing.
use Rattle.rule.specs.Rule.{hash_of}
use Rattle.wire.proofs.Steps.{steps}
use Rattle.requests.proofs.sign.hash_of.Goals as goal

pub returns-then-flags-eq1 : goal.returns-then-flags-eq1
unfolding hash_of
returns-then-flags-eq1 c = search steps depth 10

pub returns-then-flags-eq1-2 : goal.returns-then-flags-eq1-2
unfolding hash_of
returns-then-flags-eq1-2 c = search steps depth 10

pub returns : goal.returns
unfolding hash_of
returns c = search steps depth 10
