-- As many bytes as there are, written elsewhere, are what `copy_within` pastes. Assumes nothing.
use native.Mathlib.Omega.{arith}
use Prim.Native.Nat.{◌-◌, ◌+◌}
use mathlib.Core.Path.{◌≡◌, sym, ◌∙◌}
use lib.ListN.{drop, length-drop}
use Rattle.gaps.proofs.ClosingLaws.{write-paste}
use Rattle.gaps.proofs.closing.move_bytes.Goals as goal

pub returns : goal.returns
returns c =
    let a = c.args in
    let many : a.from + a.n - a.from ≡ a.n = omega arith in
    c.copy_within.ensures.after ∙ rw many (sym (write-paste a.store.now (drop a.from a.store.now) a.to a.n (rw length-drop (omega arith))))
