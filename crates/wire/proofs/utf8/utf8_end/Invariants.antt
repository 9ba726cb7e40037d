-- After i bytes the loop has their state and the longest part of them that is UTF-8. Assumes nothing.
use Rattle.wire.proofs.Longest.{Passed}
use Rattle.wire.proofs.utf8.utf8_end.Given as goal

abbrev pub invariant-loop-i : goal.invariant-loop-i
invariant-loop-i l = Passed l.s l.u l.end l.i
