-- The definition goes by the same comparisons. Assumes nothing.
use Rattle.keys.specs.Kinds.{kind_of}
use Rattle.keys.proofs.kinds.kind_of.Goals as goal

pub returns-then-is_same : goal.returns-then-is_same
unfolding kind_of
returns-then-is_same c = rw (← c.is_same.ensures, c.if-is_same.true)

pub returns-then-is_same-2 : goal.returns-then-is_same-2
unfolding kind_of
returns-then-is_same-2 c = rw (← c.is_same.ensures, c.if-is_same.false, ← c.is_same-2.ensures, c.if-is_same-2.true)

pub returns-then-is_same-3 : goal.returns-then-is_same-3
unfolding kind_of
returns-then-is_same-3 c = rw (← c.is_same.ensures, c.if-is_same.false, ← c.is_same-2.ensures, c.if-is_same-2.false, ← c.is_same-3.ensures, c.if-is_same-3.true)

pub returns-then-is_same-4 : goal.returns-then-is_same-4
unfolding kind_of
returns-then-is_same-4 c =
    rw (← c.is_same.ensures, c.if-is_same.false, ← c.is_same-2.ensures, c.if-is_same-2.false, ← c.is_same-3.ensures, c.if-is_same-3.false, ← c.is_same-4.ensures, c.if-is_same-4.true)

pub returns-then-is_same-5 : goal.returns-then-is_same-5
unfolding kind_of
returns-then-is_same-5 c =
    rw (← c.is_same.ensures, c.if-is_same.false, ← c.is_same-2.ensures, c.if-is_same-2.false, ← c.is_same-3.ensures, c.if-is_same-3.false, ← c.is_same-4.ensures, c.if-is_same-4.false, ← c.is_same-5.ensures, c.if-is_same-5.true)

pub returns : goal.returns
unfolding kind_of
returns c =
    rw (← c.is_same.ensures, c.if-is_same.false, ← c.is_same-2.ensures, c.if-is_same-2.false, ← c.is_same-3.ensures, c.if-is_same-3.false, ← c.is_same-4.ensures, c.if-is_same-4.false, ← c.is_same-5.ensures, c.if-is_same-5.false)
