-- All so far are this one. Assumes nothing.
use mathlib.Core.Path.{◌≡◌}
use lib.ListN.{take}
use Rattle.std.specs.List.{list_all}
use Rattle.soundness.proofs.unused.are_all.Given as goal

abbrev pub invariant-loop-x : goal.invariant-loop-x
invariant-loop-x g l = l.all ≡ list_all (λ x. g.T.PartialEq.eq x l.one) (take l.x-index l.column)
