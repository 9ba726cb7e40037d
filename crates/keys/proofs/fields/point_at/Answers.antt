-- The closure tests what the definition does. Assumes nothing.
use borrow.Author.Rules.{rules}
use Rattle.keys.specs.Fields.{passing_at, point_at, uncompressed}
use Rattle.keys.proofs.fields.point_at.Goals as goal

pub returns : goal.returns
unfolding point_at passing_at
returns c = c.passing.ensures (λ v. uncompressed v c.args.n) (λ x r q. rw (← q.shows) (search rules))
