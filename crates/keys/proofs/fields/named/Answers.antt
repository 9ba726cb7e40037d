-- The closure tests what the definition does. Assumes nothing.
use borrow.Author.Rules.{rules}
use Rattle.wire.specs.Read.{same}
use Rattle.keys.specs.Fields.{passing_at, named_at}
use Rattle.keys.proofs.fields.named.Goals as goal

pub returns : goal.returns
unfolding named_at passing_at
returns c = c.passing.ensures (λ v. same v c.args.name.now) (λ x r q. rw (← q.shows) (search rules))
