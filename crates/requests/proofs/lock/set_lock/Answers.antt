-- What is kept is the passphrase as it is written, and the rest of the state stays. Assumes nothing.
use Rattle.table.proofs.WritingLaws.{relocked}
use Rattle.requests.proofs.lock.set_lock.Goals as goal

pub returns : goal.returns
returns c = (c.success.ensures, λ t x S. relocked _ _ _ _ S c.requires.2 c.keep_passphrase-locked.ensures)
