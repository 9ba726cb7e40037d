use Rattle.keys.proofs.WalkLaws.{walk}
use Rattle.keys.proofs.constraints.constraints.Goals as goal

pub loop-at-smaller-in-Ok : goal.loop-at-smaller-in-Ok
loop-at-smaller-in-Ok c = search walk

pub loop-at-preserved-in-Ok : goal.loop-at-preserved-in-Ok
loop-at-preserved-in-Ok c = search walk

pub loop-at-preserved : goal.loop-at-preserved
loop-at-preserved c = search walk

pub returns-then-s-at : goal.returns-then-s-at
returns-then-s-at c = search walk

pub returns-then-is_some : goal.returns-then-is_some
returns-then-is_some c = search walk

pub returns-in-Err : goal.returns-in-Err
returns-in-Err c = search walk

pub returns-in_default : goal.returns-in_default
returns-in_default c = search walk
