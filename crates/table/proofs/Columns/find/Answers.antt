-- The search of what is shown, which are these columns. Assumes nothing.
use mathlib.Core.Path.{sym, subst}
use Rattle.table.specs.declared.Columns.{Columns}
use Rattle.table.specs.Soundness.{HousedIn}
use Rattle.table.specs.Shown.{PartsOf}
use Rattle.table.proofs.Columns.find.Goals as goal

pub find-requires : goal.find-requires
find-requires c = subst (λ (t : Columns). HousedIn t c.args.store.now) (sym c.show.ensures) c.requires

pub returns : goal.returns
returns c s shows = c.find.ensures s (subst (λ (t : Columns). PartsOf t s) (sym c.show.ensures) shows)
