-- The payload is as long as was counted, and the string stands behind the first byte. Assumes nothing.
use mathlib.Core.Path.{refl}
use native.Mathlib.Omega.{arith}
use Rattle.client.proofs.WriteLaws.{too_long, whole, stage, refused, stage_size, string-more}
use Rattle.client.proofs.writers.one_string.Goals as goal

pub returns-then-v-gt-PAYLOAD_LIMIT : goal.returns-then-v-gt-PAYLOAD_LIMIT
returns-then-v-gt-PAYLOAD_LIMIT c = too_long _ _ _ (omega arith)

pub returns-in_err-at : goal.returns-in_err-at
returns-in_err-at c = refused _ _ _ _ _ c.begin.ensures _ c.in_err-at.was _ _ (omega arith) _ c.from_residual.ensures.1

pub put_string-requires : goal.put_string-requires
put_string-requires c =
    let s = stage _ _ _ _ _ c.begin.ensures _ c.in_ok-at.was in
    let l = stage_size s (omega arith) in
    omega arith

pub returns : goal.returns
returns c =
    let s = stage _ _ _ _ _ c.begin.ensures _ c.in_ok-at.was in
    let t = string-more s c.args.v.now _ _ _ c.put_string.ensures.1 c.put_string.ensures.0 refl (omega arith) in
    whole _ _ _ _ _ t (omega arith)
