use Prim.Native.Nat.{◌+◌, ◌-◌}
use native.Mathlib.Omega.{arith}
use mathlib.Core.Path.{refl, ◌∙◌}
use lib.ListN.{length}
use Rattle.wire.proofs.Writing.{write-none, Front, blocks_more, blocks_all}
use Rattle.wire.proofs.write.put_by.Goals as goal
use Rattle.wire.proofs.write.put_by.Goals.{else-loop-i-test, then-loop-i-test+else-i-step-i-end}

pub loop-i-init : goal.loop-i-init
loop-i-init g c = (omega arith, write-none _ _)

pub loop-i-preserved : goal.loop-i-preserved
loop-i-preserved g c =
    let block = c.copy_from_slice.ensures.after ∙ c.block.ensures in
    (omega arith, blocks_more g.row.N _ _ c.args.v.now _ c.loop-i.i c.loop-i.invariant.1 c.requires.2 _ _ (omega arith) block (omega arith))

pub returns : goal.returns
returns g c =
    let front : Front g.row.N c.args.out.now c.args.at c.args.v.now c.loop-i-test.out =
    elim c.loop-i-test.branch [
      | else-loop-i-test w ↦ record { count = c.loop-i.i; is = w.out-is ∙ c.loop-i.invariant.1; near = omega arith; inside = omega arith }
      | then-loop-i-test+else-i-step-i-end w ↦
          let block = w.copy_from_slice.ensures.after ∙ w.block.ensures in
          let more = blocks_more g.row.N _ _ c.args.v.now _ c.loop-i.i c.loop-i.invariant.1 c.requires.2 _ _ (omega arith) block (omega arith) in
          record { count = c.loop-i.i + g.row.N; is = w.out-is ∙ more; near = omega arith; inside = omega arith }
    ] in
    let last = length c.args.v.now - g.row.N in
    let block = c.copy_from_slice-2.ensures.after ∙ c.block-2.ensures in
    (refl, blocks_all g.row.N _ _ c.args.v.now _ front.count front.is c.requires.2 last _ _ _ (omega arith) (omega arith) block (omega arith) (omega (arith, front.near)) front.inside)
