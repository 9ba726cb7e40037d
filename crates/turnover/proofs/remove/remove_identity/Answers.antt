-- The plan goes by the same steps; the search ends at one of 24. Assumes nothing.
use native.Mathlib.Omega.{arith}
use Rattle.turnover.proofs.RemoveSteps.{shown_housed, shown_within, unread, one_removed, none_held}
use Rattle.turnover.proofs.remove.remove_identity.Goals as goal

pub returns-in_default : goal.returns-in_default
returns-in_default c = unread _ _ _ _ _ _ _ c.string.ensures _ c.in_default.is c.failure.ensures

pub find-requires : goal.find-requires
find-requires c = shown_housed _ _ c.requires.1

pub remove-requires : goal.remove-requires
remove-requires c = (shown_within _ _ c.requires.1 _ _ _ c.find.ensures c.in-Some.is, c.requires.1)

pub success-requires : goal.success-requires
success-requires c =
    let long = c.requires.0 in
    omega (arith, long)

pub returns-in-Some : goal.returns-in-Some
returns-in-Some c =
    let a = c.args in
    let t = a.t.now in
    let u = c.remove.new.t in
    one_removed t _ _ _ _ _ _ c.string.ensures _ c.in-Ok.is _ _ c.cut.ensures.bytes c.find.ensures
    u _ _ c.in-Some.is c.remove.ensures c.success.ensures

pub returns-in-None : goal.returns-in-None
returns-in-None c =
    none_held _ _ _ _ _ _ _ c.string.ensures _ c.in-Ok.is _ _ c.cut.ensures.bytes c.find.ensures
    c.in-None.is c.failure-in-None.ensures
