use native.Mathlib.Omega.{arith}
use lib.ListN.{get_or}
use Rattle.gaps.proofs.ClosingLaws.{size_at, start-within, part-closed, closing-begun, closing-within, closing-step, closing_end}
use Rattle.gaps.proofs.closing.close_store.Goals as goal

pub loop-i-init : goal.loop-i-init
loop-i-init c = closing-begun _ _ _ _ _

pub overflow_add-n : goal.overflow_add-n
overflow_add-n c =
    let a = c.args in
    let inside = start-within a.t.now.blob_lens a.t.now.fields_lens a.t.now.comment_lens c.loop-i.i (omega arith) in
    omega arith

pub overflow_add-n-in-loop-i : goal.overflow_add-n-in-loop-i
overflow_add-n-in-loop-i c =
    let a = c.args in
    let inside = start-within a.t.now.blob_lens a.t.now.fields_lens a.t.now.comment_lens c.loop-i.i (omega arith) in
    omega arith

pub close_part-to-requires : goal.close_part-to-requires
close_part-to-requires c =
    let a = c.args in
    let inside = start-within a.t.now.blob_lens a.t.now.fields_lens a.t.now.comment_lens c.loop-i.i (omega arith) in
    (c.loop-i.invariant.below, omega arith)

pub overflow_add-from : goal.overflow_add-from
overflow_add-from c =
    let a = c.args in
    let inside = start-within a.t.now.blob_lens a.t.now.fields_lens a.t.now.comment_lens c.loop-i.i (omega arith) in
    omega arith

pub loop-i-preserved : goal.loop-i-preserved
loop-i-preserved c =
    let a = c.args in
    let l = c.loop-i in
    let b = a.t.now.blob_lens in
    let f = a.t.now.fields_lens in
    let k = a.t.now.comment_lens in
    let inside = start-within b f k l.i (omega arith) in
    let p = c.close_part-to in
    let closed = part-closed (get_or a.marks.now l.i 0) l.from l.to (size_at b f k l.i) l.store p.result p.new.store l.invariant.below (omega arith) p.ensures.0 p.ensures.1 in
    closing-step b f k a.marks.now a.store.now l.store l.i l.from l.to l.invariant (omega arith) (omega arith) p.result p.new.store closed

pub slice_bounds-wipe-end : goal.slice_bounds-wipe-end
slice_bounds-wipe-end c =
    let a = c.args in
    let l = c.loop-i in
    let inside = closing-within a.t.now.blob_lens a.t.now.fields_lens a.t.now.comment_lens a.marks.now a.store.now l.store l.i l.from l.to l.invariant (omega arith) in
    omega arith

pub returns : goal.returns
returns c =
    let a = c.args in
    let l = c.loop-i in
    closing_end a.t.now.blob_lens a.t.now.fields_lens a.t.now.comment_lens a.marks.now a.store.now l.store c.wipe.new.p l.i l.from l.to
    l.invariant (omega arith) (omega arith) (omega arith) c.requires.2 c.wipe.ensures
