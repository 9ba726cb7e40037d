-- Blob and comment as strings, one behind the other; both lie in the store and have room. Assumes nothing.
use native.Mathlib.Omega.{arith}
use Prim.Native.Nat.{◌+◌, ◌-◌}
use mathlib.Core.Path.{◌≡◌}
use lib.ListN.{length, take, drop, length-drop}
use lib.Seq.{length-take-le}
use Rattle.requests.proofs.ListSteps.{item-written}
use Rattle.requests.proofs.list.put_item.Goals as goal

pub returns : goal.returns
returns c =
    let a = c.args in
    let x = a.store.now in
    let n : a.from + a.n - a.from ≡ a.n = omega arith in
    let lies : a.from + a.n + a.m ≡ a.from + (a.n + a.m) = omega arith in
    let k : a.from + a.n + a.m + a.c - (a.from + a.n + a.m) ≡ a.c = omega arith in
    let blob : length (take (a.from + a.n - a.from) (drop a.from x)) ≡ a.n = rw n (length-take-le a.n (drop a.from x) (rw length-drop (omega arith))) in
    let comment : length (take (a.from + a.n + a.m + a.c - (a.from + a.n + a.m)) (drop (a.from + a.n + a.m) x)) ≡ a.c
    = rw k (length-take-le a.c (drop (a.from + a.n + a.m) x) (rw length-drop (omega arith))) in
    item-written x a.from a.n a.m a.c a.at _ _ _ _ _ _ _ (λ j. take (n j) (drop a.from x)) (λ j. take (k j) (drop (lies j) x)) c.put_string-behind.ensures.1 c.put_string-behind.ensures.0 c.put_string.ensures.1 c.put_string.ensures.0 (omega arith)
