use Rattle.wire.specs.declared.Constraint.TheVariants.{KeyLifetime}
use Rattle.client.proofs.ConstraintLaws.{none_standing, room_for_one, one_standing}
use Rattle.client.proofs.writers.put_constraints.Goals as goal

pub loop-c-init : goal.loop-c-init
loop-c-init c = none_standing _ _ _ c.requires

pub put_constraint-place-requires : goal.put_constraint-place-requires
put_constraint-place-requires c = room_for_one _ _ _ c.requires _ _ _ c.loop-c.invariant (KeyLifetime (record { count = 0 })) c.loop-c-test.true

pub loop-c-preserved : goal.loop-c-preserved
loop-c-preserved c =
    one_standing _ _ _ c.requires _ _ _ c.loop-c.invariant (KeyLifetime (record { count = 0 })) c.loop-c-test.true
    _ _ c.put_constraint-place.ensures.0 c.put_constraint-place.ensures.1
