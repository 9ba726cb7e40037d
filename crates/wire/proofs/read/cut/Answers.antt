-- The ways out are the part, and none of the bytes; the places go the same way. Assumes nothing.
use mathlib.Core.Logic.{⊎_elim}
use Rattle.wire.proofs.Reading.{cut_there, cut_past, cut_back, from_there, from_past, from_back}
use Rattle.wire.proofs.Steps.{all}
use Rattle.wire.proofs.read.cut.Goals as goal

pub returns-then-to-s : goal.returns-then-to-s
returns-then-to-s c =
    let a = c.args in
    record { bytes = cut_there a.s.now a.from a.to c.if-from-to.true c.if-to-s.true; block = search all; place = rw (from_there a.s.now a.from a.to c.if-from-to.true c.if-to-s.true) (search all) }

pub returns-else-from-to : goal.returns-else-from-to
returns-else-from-to c =
    let a = c.args in
    ⊎_elim
    (λ h. record { bytes = cut_past a.s.now a.from a.to h.0 h.1; block = search all; place = rw (from_past a.s.now a.from a.to h.0 h.1) (search all) })
    (λ h. record { bytes = cut_back a.s.now a.from a.to h; block = search all; place = rw (from_back a.s.now a.from a.to h) (search all) })
    c.else-from-to.either
