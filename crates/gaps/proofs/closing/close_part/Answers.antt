-- A part that is marked stays where it is, and one that lies there already is the part that is written there. Assumes nothing.
use native.Mathlib.Omega.{arith}
use mathlib.Core.Path.{refl, sym, ◌∙◌}
use Rattle.gaps.proofs.ClosingLaws.{stays}
use Rattle.gaps.proofs.closing.close_part.Goals.{then-to-from, else-to-from}
use Rattle.gaps.proofs.closing.close_part.Goals as goal

pub returns-then-is_set : goal.returns-then-is_set
returns-then-is_set c = rw (sym c.is_set.ensures ∙ c.if-is_set.true) (refl, refl)

pub returns : goal.returns
returns c =
    let a = c.args in
    rw (sym c.is_set.ensures ∙ c.if-is_set.false)
    (refl, elim c.if-to-from.branch [ then-to-from w ↦ w.store-is ∙ w.move_down.ensures | else-to-from w ↦ w.store-is ∙ stays a.store.now a.from a.to a.n (omega arith) c.requires.0 c.requires.1 ])
