use Prim.Native.Nat.{suc, ◌+◌, ◌-◌}
use mathlib.Core.Path.{◌≡◌}
use native.Mathlib.Omega.{arith}
use Rattle.std.proofs.lemmas.Result.{err_from_is_err_and}
use Rattle.readers.specs.Identities.{items_at}
use Rattle.readers.proofs.ItemLaws.{stopped, passed}
use Rattle.readers.proofs.identities.items_end.Goals as goal

pub returns-in_err-place : goal.returns-in_err-place
returns-in_err-place c =
    let p = err_from_is_err_and c.from_residual.result c.from_residual.ensures.1 in
    let left : suc (c.args.count - (c.loop.counter + 1)) ≡ c.args.count - c.loop.counter = omega arith in
    let e = rw (← left) at c.loop.invariant in
    rw (p.1, p.2) (stopped _ _ _ _ e _ c.in_err-place.ensures)

pub loop-preserved : goal.loop-preserved
loop-preserved c =
    let left : suc (c.args.count - (c.loop.counter + 1)) ≡ c.args.count - c.loop.counter = omega arith in
    let e = rw (← left) at c.loop.invariant in
    passed _ _ _ _ e _ c.in_ok-place.ensures

pub returns : goal.returns
unfolding items_at
returns c =
    let left : c.args.count - c.loop.counter ≡ 0 = omega arith in
    rw left at c.loop.invariant
