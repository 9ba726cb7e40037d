-- The definition goes by the same tests and readers. Assumes nothing.
use mathlib.Core.Path.{◌≡◌, ap}
use native.Mathlib.Omega.{arith}
use borrow.Author.Tests.{le-ltb, lt-ltb, ne_eqb}
use lib.ListN.{length, get_or}
use Rattle.std.specs.Prelude.{Err}
use Rattle.std.proofs.lemmas.Result.{err_from_is_err_and}
use Rattle.wire.specs.declared.refusal.Refusal.TheVariants.{Malformed}
use Rattle.wire.specs.Steps.{number}
use Rattle.readers.specs.Reaches.{reach}
use Rattle.readers.specs.Identities.{count_of}
use Rattle.readers.proofs.ReadSteps.{number_place}
use Rattle.readers.proofs.identities.identities.Goals as goal

pub returns-in_default : goal.returns-in_default
unfolding count_of
returns-in_default c = rw (le-ltb 0 (length c.args.payload.now) (omega arith))

pub returns-in_default-2 : goal.returns-in_default-2
unfolding count_of
returns-in_default-2 c = rw (lt-ltb 0 (length c.args.payload.now) (omega arith), ne_eqb (get_or c.args.payload.now 0 0) 12 (λ e. omega arith))

pub returns-in_err-n : goal.returns-in_err-n
unfolding count_of number
returns-in_err-n c =
    let p = err_from_is_err_and c.from_residual.result c.from_residual.ensures.1 in
    let kind : get_or c.args.payload.now 0 0 ≡ 12 = omega arith in
    rw (p.1, p.2, lt-ltb 0 (length c.args.payload.now) (omega arith), kind, ← c.in_err-n.ensures) (ap (λ at. Err (Malformed at)) (number_place _ _ _ c.in_err-n.ensures))

pub returns-in_err-items_end : goal.returns-in_err-items_end
unfolding count_of number reach
returns-in_err-items_end c =
    let p = err_from_is_err_and c.from_residual-in_err-items_end.result c.from_residual-in_err-items_end.ensures.1 in
    let kind : get_or c.args.payload.now 0 0 ≡ 12 = omega arith in
    rw (p.1, p.2, lt-ltb 0 (length c.args.payload.now) (omega arith), kind, ← c.in_ok-n.ensures, ← c.in_err-items_end.ensures)

pub returns : goal.returns
unfolding count_of number reach
returns c =
    let kind : get_or c.args.payload.now 0 0 ≡ 12 = omega arith in
    rw (lt-ltb 0 (length c.args.payload.now) (omega arith), kind, ← c.in_ok-n.ensures, ← c.in_ok-items_end.ensures)
