-- The type is read and named as the definition has it; each arm is the definition's kind. Assumes nothing.
use Rattle.std.proofs.lemmas.Result.{err_from_is_err_and}
use mathlib.Core.Path.{sym, ap}
use Rattle.wire.specs.Steps.{faulted, part}
use Rattle.wire.proofs.Laws.{string-fault_place}
use Rattle.keys.specs.Kinds.{key_at}
use Rattle.keys.proofs.kinds.key_at.Goals as goal

pub returns-in_err-name : goal.returns-in_err-name
unfolding key_at part
returns-in_err-name c =
    let p = err_from_is_err_and c.from_residual.result c.from_residual.ensures.1 in
    rw (p.1, p.2, ← c.in_err-name.ensures) (ap faulted (string-fault_place _ _ _ (sym c.in_err-name.ensures)))

pub returns-in-Ed25519 : goal.returns-in-Ed25519
unfolding key_at part
returns-in-Ed25519 c = rw (← c.in_ok-name.ensures, ← c.cut.ensures.bytes, ← c.in-Ed25519.ensures) c.ed25519.ensures

pub returns-in-Nistp256 : goal.returns-in-Nistp256
unfolding key_at part
returns-in-Nistp256 c = rw (← c.in_ok-name.ensures, ← c.cut.ensures.bytes, ← c.in-Nistp256.ensures) c.ecdsa.ensures

pub returns-in-Nistp384 : goal.returns-in-Nistp384
unfolding key_at part
returns-in-Nistp384 c = rw (← c.in_ok-name.ensures, ← c.cut.ensures.bytes, ← c.in-Nistp384.ensures) c.ecdsa-in-Nistp384.ensures

pub returns-in-Nistp521 : goal.returns-in-Nistp521
unfolding key_at part
returns-in-Nistp521 c = rw (← c.in_ok-name.ensures, ← c.cut.ensures.bytes, ← c.in-Nistp521.ensures) c.ecdsa-in-Nistp521.ensures

pub returns-in-Rsa : goal.returns-in-Rsa
unfolding key_at part
returns-in-Rsa c = rw (← c.in_ok-name.ensures, ← c.cut.ensures.bytes, ← c.in-Rsa.ensures) c.rsa.ensures

pub returns-in-Other : goal.returns-in-Other
unfolding key_at part
returns-in-Other c = rw (← c.in_ok-name.ensures, ← c.cut.ensures.bytes, ← c.in-Other.ensures)
