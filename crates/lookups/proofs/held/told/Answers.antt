-- The figures are written as the key is, and start and lengths give the parts. Assumes nothing.
use mathlib.Core.Path.{sym, ap, ◌∙◌}
use Rattle.rule.specs.declared.Millis.{Millis}
use Rattle.table.specs.Meaning.{lifetime_of}
use Rattle.lookups.specs.Told.{left_at}
use Rattle.lookups.proofs.EntryLaws.{told_is}
use Rattle.lookups.proofs.held.told.Goals as goal

pub returns : goal.returns
returns c s i k same-clock figures comment begins =
    let f = c.args.f in
    told_is s i _ c.args.from f c.args.comment k figures comment (c.left_at.ensures ∙ ap (λ (t : Millis). left_at t f.reading (lifetime_of f)) (sym same-clock)) begins
