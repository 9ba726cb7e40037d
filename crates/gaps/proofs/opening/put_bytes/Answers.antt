-- The part of entry i is made as long as its new bytes are, and these are written there. Assumes nothing.
use native.Mathlib.Omega.{arith}
use Prim.Native.Nat.{◌+◌}
use mathlib.Core.Path.{◌≡◌}
use mathlib.Core.List.{◌++◌}
use lib.ListN.{length, length-append}
use Rattle.table.specs.Changes.{bytes_put}
use Rattle.gaps.proofs.ClosingLaws.{start-within}
use Rattle.gaps.proofs.opening.put_bytes.Goals as goal

pub start_of-at-requires : goal.start_of-at-requires
start_of-at-requires c =
    let a = c.args in
    let p = c.requires in
    let within = start-within a.t.blob_lens.now a.t.fields_lens.now a.t.comment_lens.now a.i p.inside in
    omega arith

pub size_at-old-requires : goal.size_at-old-requires
size_at-old-requires c =
    let a = c.args in
    let p = c.requires in
    let within = start-within a.t.blob_lens.now a.t.fields_lens.now a.t.comment_lens.now a.i p.inside in
    omega arith

pub overflow_add-new-2 : goal.overflow_add-new-2
overflow_add-new-2 c =
    let a = c.args in
    let p = c.requires in
    let within = start-within a.t.blob_lens.now a.t.fields_lens.now a.t.comment_lens.now a.i p.inside in
    omega arith

pub resize-requires : goal.resize-requires
resize-requires c =
    let a = c.args in
    let p = c.requires in
    let within = start-within a.t.blob_lens.now a.t.fields_lens.now a.t.comment_lens.now a.i p.inside in
    (omega arith, omega arith, omega arith, rw c.start_of-end.ensures p.end)

pub fill-requires : goal.fill-requires
fill-requires c =
    let a = c.args in
    let p = c.requires in
    let within = start-within a.t.blob_lens.now a.t.fields_lens.now a.t.comment_lens.now a.i p.inside in
    omega arith

pub returns : goal.returns
unfolding bytes_put
returns c =
    let a = c.args in
    let long : length (a.blob.now ++ (a.fields.now ++ a.comment.now)) ≡ length a.blob.now + (length a.fields.now + length a.comment.now) = rw (length-append, length-append) in
    rw (long, ← c.start_of-at.ensures, ← c.size_at-old.ensures, ← c.start_of-end.ensures, ← c.resize.ensures) c.fill.ensures
