-- What is left to go over yields what the whole does. Assumes nothing.
use Prim.Native.Nat.{◌-◌}
use mathlib.Core.Path.{◌≡◌}
use Rattle.readers.specs.Identities.{items_at}
use Rattle.readers.proofs.identities.items_end.Given as goal

abbrev pub invariant-loop : goal.invariant-loop
invariant-loop l = items_at (l.count - l.counter) l.s l.place ≡ items_at l.count l.s l.at
