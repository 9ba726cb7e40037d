-- The constraints stand straight behind the two strings, as long as was counted. Assumes nothing.
use Rattle.client.proofs.WriteLaws.{stage}
use Rattle.client.proofs.SmartcardLaws.{head_of, constrained_refused, constraints_room, constrained_written}
use Rattle.client.proofs.writers.add_constrained.Goals as goal

pub returns-in_err-at : goal.returns-in_err-at
returns-in_err-at c =
    let a = c.args in
    constrained_refused a.id.now a.pin.now a.cs.now _ _ c.constraints_len-extra.ensures.0 _ _ c.two_strings.ensures _
    c.in_err-at.was _ c.from_residual.ensures.1

pub put_constraints-requires : goal.put_constraints-requires
put_constraints-requires c =
    let a = c.args in
    let s = stage _ (head_of a.id.now a.pin.now) _ _ _ c.two_strings.ensures _ c.in_ok-at.was in
    constraints_room a.id.now a.pin.now a.cs.now _ a.out.now c.constraints_len-extra.ensures.0 _ _ s

pub returns : goal.returns
returns c =
    let a = c.args in
    let s = stage _ (head_of a.id.now a.pin.now) _ _ _ c.two_strings.ensures _ c.in_ok-at.was in
    constrained_written a.id.now a.pin.now a.cs.now _ a.out.now c.constraints_len-extra.ensures.0 _ _ s _ _
    c.put_constraints.ensures.0 c.put_constraints.ensures.1
