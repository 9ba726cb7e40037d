-- The tests come in the definition's order, and each payload is its own writer's. Assumes nothing.
use native.Mathlib.Omega.{arith}
use Rattle.client.proofs.SmartcardLaws.{two_whole, too_many, add_malformed, add_plain, add_constrained}
use Rattle.client.proofs.writers.add_smartcard_key.Goals as goal

pub returns-then-count-gt4 : goal.returns-then-count-gt4
returns-then-count-gt4 c = too_many _ _ _ _ _ (omega arith)

pub returns-then-valid-id : goal.returns-then-valid-id
returns-then-valid-id c = add_malformed _ _ _ _ c.utf8_end-valid.ensures _ _ (omega arith) c.if-valid-id.true

pub returns-then-count-eq0 : goal.returns-then-count-eq0
returns-then-count-eq0 c =
    let w = two_whole 20 c.args.id.now c.args.pin.now _ _ _ c.two_strings.ensures in
    add_plain _ _ _ _ c.utf8_end-valid.ensures _ _ (omega arith) c.if-valid-id.false _ _ c.if-count-eq0.true w

pub returns : goal.returns
returns c = add_constrained _ _ _ _ c.utf8_end-valid.ensures _ _ (omega arith) c.if-valid-id.false _ _ c.if-count-eq0.false c.add_constrained.ensures
