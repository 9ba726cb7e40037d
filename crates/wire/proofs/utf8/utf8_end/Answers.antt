use borrow.Author.Rules.{rules}
use native.Mathlib.Omega.{arith}
use Rattle.wire.proofs.Longest.{ascii_passed, passed_one, passed_all}
use Rattle.wire.proofs.utf8.utf8_end.Goals as goal

pub loop-i-init : goal.loop-i-init
loop-i-init c = ascii_passed _ _ c.wants-u.ensures _ (omega (arith, c.ascii_end-ascii.ensures))

pub loop-i-preserved : goal.loop-i-preserved
loop-i-preserved c = search (rules, passed_one)

pub returns : goal.returns
returns c = search (rules, passed_all)
