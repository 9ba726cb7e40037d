use native.Mathlib.Omega.{arith}
use Rattle.wire.specs.declared.Constraint.TheVariants.{KeyLifetime}
use Rattle.client.proofs.ConstraintLaws.{five_at_most, length_more}
use Rattle.client.proofs.writers.constraints_len.Goals as goal

pub loop-c-preserved : goal.loop-c-preserved
loop-c-preserved c =
    let first = KeyLifetime (record { count = 0 }) in
    let more = five_at_most c.args.cs.now c.loop-c.c-index first _ c.constraint_len-n.ensures in
    record {
      counted = length_more c.args.cs.now c.loop-c.c-index first _ c.constraint_len-n.ensures _ c.loop-c.invariant.counted c.loop-c-test.true;
      few = omega arith;
    }
