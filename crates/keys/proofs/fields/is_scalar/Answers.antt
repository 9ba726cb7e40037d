-- The definition goes by the same tests, in the same order. Assumes nothing.
use borrow.Author.Tests.{le-leb, lt-leb}
use Rattle.keys.specs.Fields.{scalar}
use Rattle.keys.proofs.fields.is_scalar.Goals as goal

pub returns-then-v-n : goal.returns-then-v-n
unfolding scalar
returns-then-v-n c = rw (← c.if-is_mpint.ensures, le-leb _ _ c.if-v-n.true)

pub returns-then-v-n-2 : goal.returns-then-v-n-2
unfolding scalar
returns-then-v-n-2 c = rw (← c.if-is_mpint.ensures, lt-leb _ _ c.if-v-n.false, le-leb _ _ c.if-v-n-2.true)

pub returns-else-v-n-2 : goal.returns-else-v-n-2
unfolding scalar
returns-else-v-n-2 c = rw (← c.if-is_mpint.ensures, lt-leb _ _ c.if-v-n.false, lt-leb _ _ c.if-v-n-2.false)

pub returns-else-is_mpint : goal.returns-else-is_mpint
unfolding scalar
returns-else-is_mpint c = rw (← c.if-is_mpint.ensures, c.if-is_mpint.false)
