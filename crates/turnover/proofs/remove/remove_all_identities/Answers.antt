-- The plan lands where the table is empty. Assumes nothing.
use Rattle.turnover.proofs.RemoveSteps.{all-removed}
use Rattle.turnover.proofs.remove.remove_all_identities.Goals as goal

pub returns : goal.returns
returns c =
    let a = c.args in
    let t = a.t.now in
    let u = c.remove_all.new.t in
    all-removed t _ _ _ _ u _ c.remove_all.ensures c.success.ensures
