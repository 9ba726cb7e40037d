-- Found is what stands among those so far. Assumes nothing.
use mathlib.Core.Path.{◌≡◌}
use lib.ListN.{take}
use Rattle.std.specs.List.{list_any}
use Rattle.soundness.proofs.apart.is_among.Given as goal

abbrev pub invariant-loop-x : goal.invariant-loop-x
invariant-loop-x g l = l.found ≡ list_any (λ x. g.T.PartialEq.eq x l.one) (take l.x-index l.all)
