-- The id is tested first, and the payload is two strings. Assumes nothing.
use Rattle.client.proofs.SmartcardLaws.{two_whole, remove_malformed, remove_written}
use Rattle.client.proofs.writers.remove_smartcard_key.Goals as goal

pub returns-then-end-id : goal.returns-then-end-id
returns-then-end-id c = remove_malformed _ _ _ _ c.utf8_end-end.ensures c.if-end-id.true

pub returns : goal.returns
returns c =
    let w = two_whole 21 c.args.id.now c.args.pin.now _ _ _ c.two_strings.ensures in
    remove_written _ _ _ _ c.utf8_end-end.ensures c.if-end-id.false _ _ w
