-- Each part is put back with its bytes, one behind the other. Assumes nothing.
use native.Mathlib.Omega.{arith}
use mathlib.Core.Path.{refl}
use Rattle.table.proofs.ByteLaws.{put_back}
use Rattle.gaps.proofs.OpeningLaws.{filled}
use Rattle.gaps.proofs.opening.fill.Goals as goal

pub returns : goal.returns
returns c =
    let a = c.args in
    let blob = a.blob.now in
    let fields = a.fields.now in
    let comment = a.comment.now in
    filled a.store.now a.at blob fields comment _ _ _ c.requires
    (put_back _ _ _ _ c.copy_in.new.p _ refl (omega arith) (omega arith) c.copy_in.auto.p c.copy_in.ensures)
    (put_back _ _ _ _ c.copy_in-2.new.p _ refl (omega arith) (omega arith) c.copy_in-2.auto.p c.copy_in-2.ensures)
    (put_back _ _ _ _ c.copy_in-3.new.p _ refl (omega arith) (omega arith) c.copy_in-3.auto.p c.copy_in-3.ensures)
