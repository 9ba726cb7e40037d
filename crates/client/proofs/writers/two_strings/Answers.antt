-- The length is as was counted, and the strings stand one behind the other. Assumes nothing.
use mathlib.Core.Path.{refl}
use native.Mathlib.Omega.{arith}
use lib.ListN.{length-append}
use Rattle.client.proofs.WriteLaws.{too_long, met, stage, refused, stage_size, string-more}
use Rattle.client.proofs.writers.two_strings.Goals as goal

pub returns-then-a-gt-PAYLOAD_LIMIT : goal.returns-then-a-gt-PAYLOAD_LIMIT
returns-then-a-gt-PAYLOAD_LIMIT c = too_long _ _ _ (omega arith)

pub returns-then-b-gt-PAYLOAD_LIMIT : goal.returns-then-b-gt-PAYLOAD_LIMIT
returns-then-b-gt-PAYLOAD_LIMIT c = too_long _ _ _ (omega arith)

pub returns-in_err-at : goal.returns-in_err-at
returns-in_err-at c = refused _ _ _ _ _ c.begin.ensures _ c.in_err-at.was _ _ refl _ c.from_residual.ensures.1

pub put_string-second-requires : goal.put_string-second-requires
put_string-second-requires c =
    let s = stage _ _ _ _ _ c.begin.ensures _ c.in_ok-at.was in
    let l = stage_size s (omega arith) in
    omega arith

pub put_string-requires : goal.put_string-requires
put_string-requires c =
    let s = stage _ _ _ _ _ c.begin.ensures _ c.in_ok-at.was in
    let t = string-more s c.args.a.now _ _ _ c.put_string-second.ensures.1 c.put_string-second.ensures.0 refl (omega arith) in
    let l = stage_size t (omega arith) in
    omega arith

pub returns : goal.returns
returns c =
    let s = stage _ _ _ _ _ c.begin.ensures _ c.in_ok-at.was in
    let t = string-more s c.args.a.now _ _ _ c.put_string-second.ensures.1 c.put_string-second.ensures.0 refl (omega arith) in
    let u = string-more t c.args.b.now _ _ _ c.put_string.ensures.1 c.put_string.ensures.0 refl (simp length-append (omega arith)) in
    met _ _ _ _ _ u
