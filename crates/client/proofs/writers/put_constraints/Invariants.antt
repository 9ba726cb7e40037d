-- The loop's invariant: the constraints so far stand one behind the other, up to `place`. Assumes nothing.
use Rattle.client.proofs.ConstraintLaws.{Standing}
use Rattle.client.proofs.writers.put_constraints.Given as goal

abbrev pub invariant-loop-c : goal.invariant-loop-c
invariant-loop-c l = Standing l.cs l.initial.out l.at l.c-index l.place l.out
