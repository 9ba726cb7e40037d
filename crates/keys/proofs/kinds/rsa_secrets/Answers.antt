-- The definition goes by the same steps. Assumes nothing.
use Rattle.std.proofs.lemmas.Result.{err_from_is_err_and}
use Rattle.wire.specs.Steps.{part}
use Rattle.keys.specs.Kinds.{rsa_secrets_at}
use Rattle.keys.proofs.kinds.rsa_secrets.Goals as goal

pub returns-in_err-d : goal.returns-in_err-d
unfolding rsa_secrets_at part
returns-in_err-d c = let p = err_from_is_err_and c.from_residual.result c.from_residual.ensures.1 in rw (p.1, p.2, ← c.in_err-d.ensures)

pub returns-in_err-iqmp : goal.returns-in_err-iqmp
unfolding rsa_secrets_at part
returns-in_err-iqmp c =
    let p = err_from_is_err_and c.from_residual-in_err-iqmp.result c.from_residual-in_err-iqmp.ensures.1 in
    rw (p.1, p.2, ← c.in_ok-d.ensures, ← c.in_err-iqmp.ensures)

pub returns-in_err-p : goal.returns-in_err-p
unfolding rsa_secrets_at part
returns-in_err-p c =
    let p = err_from_is_err_and c.from_residual-in_err-p.result c.from_residual-in_err-p.ensures.1 in
    rw (p.1, p.2, ← c.in_ok-d.ensures, ← c.in_ok-iqmp.ensures, ← c.in_err-p.ensures)

pub returns : goal.returns
unfolding rsa_secrets_at part
returns c = rw (← c.in_ok-d.ensures, ← c.in_ok-iqmp.ensures, ← c.in_ok-p.ensures) c.mpint-4.ensures
