-- The bytes up to the next multiple of 16 and those behind it are all from `end` on; it lies in the store, whose size is such a multiple. Assumes nothing.
use native.Mathlib.Omega.{arith}
use Prim.Native.Nat.{◌+◌, ◌*◌, ◌/◌}
use Rattle.soundness.proofs.SoundnessLaws.{rest_split}
use Rattle.soundness.proofs.is_rest_zero.Goals as goal

pub returns-then-is_zero : goal.returns-then-is_zero
returns-then-is_zero c =
    let parts = rest_split c.args.store.now c.args.end ((c.args.end + 15) / 16 * 16) (omega arith) in
    grind arith

pub returns-else-is_zero : goal.returns-else-is_zero
returns-else-is_zero c =
    let parts = rest_split c.args.store.now c.args.end ((c.args.end + 15) / 16 * 16) (omega arith) in
    grind arith
