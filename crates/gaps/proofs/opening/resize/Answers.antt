-- What lies behind the part is moved to its new end; what is freed is zeroed. Assumes nothing.
use native.Mathlib.Omega.{arith}
use Rattle.gaps.proofs.OpeningLaws.{grown, shrunk}
use Rattle.gaps.proofs.opening.resize.Goals as goal

pub returns-then-to-from : goal.returns-then-to-from
returns-then-to-from c =
    let a = c.args in
    shrunk a.store.now a.at a.old a.new a.end c.requires.0 c.requires.1 c.requires.2 c.requires.3 c.move_bytes.new.store c.wipe.new.p (omega arith)
    c.move_bytes.ensures c.wipe.ensures

pub returns-else-to-from : goal.returns-else-to-from
returns-else-to-from c =
    let a = c.args in
    grown a.store.now a.at a.old a.new a.end c.requires.0 c.requires.1 c.requires.2 c.requires.3 c.move_bytes.new.store (omega arith) c.move_bytes.ensures
