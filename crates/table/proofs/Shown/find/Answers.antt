-- From the first entry on, whose bytes begin at 0. Assumes nothing.
use native.Mathlib.Omega.{arith}
use mathlib.Core.Path.{sym}
use Rattle.table.proofs.EntryLaws.{start_none}
use Rattle.table.proofs.Shown.find.Goals as goal

pub find_from-requires : goal.find_from-requires
find_from-requires c = (c.requires, omega arith, sym (start_none _ _ _))
