-- The plan goes by the same steps. Assumes nothing.
use Rattle.turnover.proofs.AddSteps.{fault_ends, whole_ends}
use Rattle.turnover.proofs.add.add_key.Goals as goal

pub returns-in-Err : goal.returns-in-Err
returns-in-Err c =
    let a = c.args in
    let t = a.t.now in
    fault_ends t a.store.now a.kept a.check a.reply.now a.payload.now
    a.constrained _ c.addition_at.ensures _ _ _ c.in-Err.is c.failure.ensures

pub returns-in-Ok : goal.returns-in-Ok
returns-in-Ok c =
    let a = c.args in
    let t = a.t.now in
    let u = c.store_fields.new.t in
    whole_ends t a.store.now a.kept a.check a.reply.now a.payload.now
    a.constrained _ c.addition_at.ensures _ c.store_fields.new.reply u c.store_fields.new.store _ _ c.in-Ok.is c.store_fields.ensures
