-- The flags stand behind the two strings. Assumes nothing.
use native.Mathlib.Omega.{arith}
use lib.ListN.{length-append}
use Rattle.client.specs.Requests.{sign_request}
use Rattle.client.proofs.WriteLaws.{whole, stage, refused, stage_size, more, behind-two}
use Rattle.client.proofs.writers.prepare_sign_request.Goals as goal

pub returns-in_err-at : goal.returns-in_err-at
returns-in_err-at c = refused _ _ _ _ _ c.two_strings.ensures _ c.in_err-at.was _ _ (simp length-append (omega arith)) _ c.from_residual.ensures.1

pub put_number-requires : goal.put_number-requires
put_number-requires c =
    let s = stage _ _ _ _ _ c.two_strings.ensures _ c.in_ok-at.was in
    let l = stage_size s (simp length-append (omega arith)) in
    omega (arith, simp length-append at s.place)

pub returns : goal.returns
returns c =
    let a = c.args in
    let s = stage _ _ _ _ _ c.two_strings.ensures _ c.in_ok-at.was in
    let t = more s _ _ _ (sign_request a.blob.now a.bytes.now a.flags) c.put_number.ensures.1 c.put_number.ensures.0
    (behind-two 13 a.blob.now a.bytes.now _) (simp length-append (omega arith)) in
    whole _ _ _ _ _ t (simp length-append (omega arith))
