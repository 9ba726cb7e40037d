-- Few bytes go one by one: after i turns the first i are written. Assumes nothing.
use mathlib.Core.Path.{◌≡◌}
use Rattle.wire.proofs.Writing.{copied}
use Rattle.wire.proofs.write.put_bytes.Given as goal

abbrev pub invariant-loop-i : goal.invariant-loop-i
invariant-loop-i l = l.out ≡ copied l.initial.out l.at l.v l.i
