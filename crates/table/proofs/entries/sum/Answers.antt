use native.Mathlib.Omega.{arith}
use borrow.Author.Rules.{rules}
use Rattle.table.proofs.EntryLaws.{sum_more, sum-ended}
use Rattle.table.proofs.entries.sum.Goals as goal

pub overflow_add-total : goal.overflow_add-total
overflow_add-total c =
    let more = sum_more c.args.lens.now c.loop-len.len-index (search rules) in
    let so_far = c.loop-len.invariant in
    let fits = c.requires in
    omega arith

pub loop-len-preserved : goal.loop-len-preserved
loop-len-preserved c =
    let more = sum_more c.args.lens.now c.loop-len.len-index (search rules) in
    let so_far = c.loop-len.invariant in
    omega arith

pub returns : goal.returns
returns c =
    let none_left = sum-ended c.args.lens.now c.loop-len.len-index (search rules) in
    let so_far = c.loop-len.invariant in
    omega arith
