-- The search of what is shown, which are these columns. Assumes nothing.
use mathlib.Core.Path.{sym, subst}
use Rattle.table.specs.declared.Columns.{Columns}
use Rattle.table.specs.Shown.{SoundOf, PartsOf}
use Rattle.table.proofs.Columns.place_for.Goals as goal

pub place_for-requires : goal.place_for-requires
place_for-requires c = (subst (λ (t : Columns). SoundOf (PartsOf t) c.args.store.now) (sym c.show.ensures) c.requires.0, c.requires.1, c.requires.2)

pub returns : goal.returns
returns c s e shows = c.place_for.ensures s e (subst (λ (t : Columns). PartsOf t s) (sym c.show.ensures) shows)
