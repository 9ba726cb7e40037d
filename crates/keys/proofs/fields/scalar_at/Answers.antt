-- The closure tests what the definition does. Assumes nothing.
use borrow.Author.Rules.{rules}
use Rattle.keys.specs.Fields.{passing_at, scalar_at, scalar}
use Rattle.keys.proofs.fields.scalar_at.Goals as goal

pub returns : goal.returns
unfolding scalar_at passing_at
returns c = c.passing.ensures (λ v. scalar v c.args.n) (λ x r q. rw (← q.shows) (search rules))
