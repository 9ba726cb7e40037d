-- The bytes are the passphrase's, padded, and the length is its own. Assumes nothing.
use Rattle.table.specs.Meaning.{lock_of}
use Rattle.table.proofs.locks.keep_passphrase.Goals as goal

pub returns : goal.returns
unfolding lock_of
returns c = rw (c.pad.ensures, c.requires.0)
