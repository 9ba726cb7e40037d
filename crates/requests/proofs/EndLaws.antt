-- What ends as a result is that result laid out, since a sound state and store are the one writing of their meaning.
use mathlib.Core.Path.{sym, ap, ◌∙◌}
use Rattle.table.specs.Meaning.{state_of, layout}
use Rattle.table.proofs.WritingLaws.{sound-canonical}
use Rattle.requests.specs.Ends.{EndsLaidOut, EndsDecides}

pub ends_laid_out : EndsLaidOut
ends_laid_out buffer r x out result h =
    let c = sound-canonical r.state x h.means.sound in
    let g = h.means.gateway in
    ((λ j. record { outcome = h.outcome j; state = (c.state ∙ ap state_of g) j }), c.store ∙ ap layout g, h.bytes)

pub ends_decides : EndsDecides
ends_decides buffer result r s x y out other a b =
    let l = ends_laid_out buffer r x out result a in
    let m = ends_laid_out buffer s y other result b in
    (l.0 ∙ sym m.0, l.1 ∙ sym m.1, l.2 ∙ sym m.2)
