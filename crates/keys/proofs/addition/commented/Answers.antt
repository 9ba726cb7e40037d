-- The definition goes by the same text, and by the same walk where there are constraints. Assumes nothing.
use mathlib.Core.Path.{◌≡◌, ◌∙◌}
use Rattle.std.proofs.lemmas.Result.{err_from_is_err_and}
use Rattle.wire.specs.Steps.{part}
use Rattle.keys.specs.Additions.{constraints_at, commented_at}
use Rattle.keys.proofs.addition.commented.Goals as goal
use Rattle.keys.proofs.addition.commented.Goals.{then-constrained, else-constrained}

pub returns-in_err-text : goal.returns-in_err-text
unfolding commented_at part
returns-in_err-text c = let p = err_from_is_err_and c.from_residual.result c.from_residual.ensures.1 in rw (p.1, p.2, ← c.in_err-text.ensures)

pub returns : goal.returns
unfolding commented_at part
returns c =
    let walk : c.if-constrained.walk ≡ constraints_at c.args.s.now c.in_ok-text.text.next.at c.args.constrained =
    elim c.if-constrained.branch [
      | then-constrained w ↦ rw w.if-constrained.true (w.walk-is ∙ w.constraints-walk.ensures)
      | else-constrained w ↦ rw w.if-constrained.false w.walk-is
    ] in
    rw (← c.in_ok-text.ensures, ← walk, ← c.from-comment.ensures) c.limited.ensures
