-- The definition cuts the same part out of the payload and writes it as a string. It lies in a string, so it is no longer than one can be.
-- Assumes nothing.
use mathlib.Core.Path.{refl, sym}
use native.Mathlib.Omega.{arith}
use Rattle.std.proofs.lemmas.Result.{err_from_is_err_and}
use Rattle.readers.specs.Signatures.{signature_answer, signature_left}
use Rattle.readers.proofs.SignatureLaws.{reply_small}
use Rattle.readers.proofs.signature.write_signature.Goals as goal

pub returns-in_err-found : goal.returns-in_err-found
unfolding signature_answer signature_left
returns-in_err-found c =
    let p = err_from_is_err_and c.from_residual.result c.from_residual.ensures.1 in
    rw (p.1, p.2, ← c.in_err-found.ensures) (refl, refl)

pub put_signature-requires : goal.put_signature-requires
put_signature-requires c =
    rw c.of.ensures.bytes (reply_small c.args.payload.now _ _ _ (λ i. omega (arith, c.type_inv.payload i)) (sym c.in_ok-found.ensures))

pub returns : goal.returns
unfolding signature_answer signature_left
returns c = rw (← c.in_ok-found.ensures, ← c.of.ensures.bytes) c.put_signature.ensures
