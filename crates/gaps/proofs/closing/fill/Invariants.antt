-- The places before i hold the value, the others what they held. Assumes nothing.
use mathlib.Core.Path.{◌≡◌}
use lib.ListN.{replicate}
use lib.Seq.{paste}
use Rattle.gaps.proofs.closing.fill.Given as goal

abbrev pub invariant-loop-i : goal.invariant-loop-i
invariant-loop-i g l = l.part ≡ paste l.initial.part 0 (replicate l.i l.value) l.i
