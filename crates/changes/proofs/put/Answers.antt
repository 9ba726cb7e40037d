-- The entry's bytes and figures are those of the new key, and the next number is taken. Assumes nothing.
use native.Mathlib.Omega.{arith}
use Prim.Native.Nat.{◌+◌}
use mathlib.Core.Path.{refl, sym, ap, subst, ◌∙◌}
use mathlib.Core.List.{◌++◌}
use Rattle.rule.specs.Rule.{brought}
use lib.ListN.{length}
use Rattle.table.specs.declared.Columns.{Columns}
use Rattle.table.specs.declared.Figures.{Figures}
use Rattle.table.specs.Entries.{figures_set}
use Rattle.table.specs.Changes.{bytes_put, PutRoom}
use Rattle.changes.proofs.ChangeLaws.{may_put_room, key-put}
use Rattle.changes.proofs.put.Goals as goal

pub put_bytes-requires : goal.put_bytes-requires
put_bytes-requires c =
    let a = c.args in
    let n = length a.blob.now + (length c.cut.result.now + length c.cut-2.result.now) in
    subst (λ (t : Columns). PutRoom t.blob_lens t.fields_lens t.comment_lens a.store.now a.i n) (sym c.show.ensures)
    (rw (c.cut.ensures.bytes, c.cut-2.ensures.bytes) (may_put_room _ _ _ _ c.requires.may))

pub set_figures-requires : goal.set_figures-requires
set_figures-requires c = (may_put_room _ _ _ _ c.requires.may).inside

pub overflow_add-result : goal.overflow_add-result
overflow_add-result c =
    let left = c.requires.may.numbers_left in
    omega arith

pub returns : goal.returns
returns c =
    let a = c.args in
    let t = a.t.now in
    let new = brought a.payload.now a.carried a.blob.now in
    key-put t a.store.now _ _ a.kept _ a.i new refl
    (c.set_figures.ensures ∙ ap (λ (f : Figures). figures_set a.i f t) c.held_figures.ensures)
    (c.put_bytes.ensures
    ∙ (λ j. let t = c.show.ensures j in bytes_put t.blob_lens t.fields_lens t.comment_lens a.i (a.blob.now ++ (c.cut.ensures.bytes j ++ c.cut-2.ensures.bytes j)) a.store.now))
