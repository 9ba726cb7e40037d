-- The definition goes by the same first byte and string. Assumes nothing.
use mathlib.Core.Path.{◌≡◌, ap}
use native.Mathlib.Omega.{arith}
use borrow.Author.Tests.{le-ltb, lt-ltb, ne_eqb}
use lib.ListN.{length, get_or}
use Rattle.std.specs.Prelude.{Err}
use Rattle.std.proofs.lemmas.Result.{err_from_is_err_and}
use Rattle.wire.specs.declared.refusal.Refusal.TheVariants.{Malformed}
use Rattle.wire.specs.Steps.{part}
use Rattle.readers.specs.Signatures.{reply_at}
use Rattle.readers.proofs.ReadSteps.{string_place}
use Rattle.readers.proofs.signature.reply_at.Goals as goal

pub returns-in_err-whole-in-14 : goal.returns-in_err-whole-in-14
unfolding reply_at part
returns-in_err-whole-in-14 c =
    let p = err_from_is_err_and c.from_residual.result c.from_residual.ensures.1 in
    let kind : get_or c.args.payload.now 0 0 ≡ 14 = omega arith in
    rw (p.1, p.2, lt-ltb 0 (length c.args.payload.now) (omega arith), kind, ← c.in_err-whole-in-14.ensures) (ap (λ at. Err (Malformed at)) (string_place _ _ _ c.in_err-whole-in-14.ensures))

pub returns-in_ok-whole-in-14 : goal.returns-in_ok-whole-in-14
unfolding reply_at part
returns-in_ok-whole-in-14 c =
    let kind : get_or c.args.payload.now 0 0 ≡ 14 = omega arith in
    rw (lt-ltb 0 (length c.args.payload.now) (omega arith), kind, ← c.in_ok-whole-in-14.ensures, ← c.cut.ensures.bytes) c.signature_at.ensures

pub returns-in-5 : goal.returns-in-5
unfolding reply_at
returns-in-5 c = let kind : get_or c.args.payload.now 0 0 ≡ 5 = omega arith in rw (lt-ltb 0 (length c.args.payload.now) (omega arith), kind)

pub returns-in_default : goal.returns-in_default
unfolding reply_at
returns-in_default c = rw (le-ltb 0 (length c.args.payload.now) (omega arith))

pub returns-in_default-2 : goal.returns-in_default-2
unfolding reply_at
returns-in_default-2 c =
    let kind = get_or c.args.payload.now 0 0 in
    rw (lt-ltb 0 (length c.args.payload.now) (omega arith), ne_eqb kind 5 (λ e. omega arith), ne_eqb kind 14 (λ e. omega arith))
