-- The definition goes by the same string and the test. Assumes nothing.
use mathlib.Core.Path.{refl}
use Rattle.std.proofs.lemmas.Fn.{says_at}
use Rattle.std.proofs.lemmas.Result.{err_from_is_err_and}
use Rattle.wire.specs.Steps.{part}
use Rattle.keys.specs.Fields.{passing_at}
use Rattle.keys.proofs.fields.passing.Goals as goal

pub returns-in_err-p : goal.returns-in_err-p
unfolding passing_at part
returns-in_err-p g c = λ p h. let q = err_from_is_err_and c.from_residual.result c.from_residual.ensures.1 in rw (q.1, q.2, ← c.in_err-p.ensures)

pub returns-then-test : goal.returns-then-test
unfolding passing_at part
returns-then-test g c = λ p h. rw (← c.in_ok-p.ensures, ← c.cut.ensures.bytes, ← h c.cut.result.now _ (says_at g.F.Fn c.if-test.ensures refl))

pub returns : goal.returns
unfolding passing_at part
returns g c = λ p h. rw (← c.in_ok-p.ensures, ← c.cut.ensures.bytes, ← h c.cut.result.now _ (says_at g.F.Fn c.if-test.ensures refl))
