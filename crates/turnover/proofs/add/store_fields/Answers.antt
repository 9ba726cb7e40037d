-- A blob that stands in the payload as it is is the one that would be derived. Assumes nothing.
use mathlib.Core.Path.{◌∙◌}
use Rattle.turnover.proofs.AddSteps.{in_one, stored_as}
use Rattle.turnover.proofs.add.store_fields.Goals as goal

pub returns-then-is_in_one : goal.returns-then-is_in_one
returns-then-is_in_one c =
    let a = c.args in
    let t = a.t.now in
    let u = c.store_key.new.t in
    stored_as t a.store.now a.kept a.check a.reply.now a.payload.now a.carried
    _ _ _ c.store_key.new.reply u c.store_key.new.store _ (c.cut.ensures.bytes ∙ in_one a.payload.now a.carried.places _ c.is_in_one.ensures c.if-is_in_one.true) c.store_key.ensures

pub returns : goal.returns
returns c = c.store_derived.ensures
