-- A blob without room is over the limit; else it stands in the room, and the key is the entry. Assumes nothing.
use Prim.Native.Nat.{ℕ}
use lib.ListN.{length-replicate}
use Rattle.wire.specs.Limits.{blob_limit}
use Rattle.turnover.proofs.AddSteps.{blob_unfit, blob_over, blob_stands, unfit_ends, stored_as}
use Rattle.turnover.proofs.add.store_derived.Goals as goal

pub slice_bounds-room-end : goal.slice_bounds-room-end
slice_bounds-room-end c = (blob_stands _ _ _ _ _ c.put_blob.ensures.0 _ _ c.put_blob.ensures.1 c.in-Some.is).inside

pub slice_bounds-store_key-end : goal.slice_bounds-store_key-end
slice_bounds-store_key-end c = (blob_stands _ _ _ _ _ c.put_blob.ensures.0 _ _ c.put_blob.ensures.1 c.in-Some.is).size

pub returns-in-None : goal.returns-in-None
returns-in-None c =
    let over = blob_over _ _ _ _ _ c.put_blob.ensures.0 blob_limit (length-replicate {A = ℕ} blob_limit 0) c.in-None.is in
    let a = c.args in
    let t = a.t.now in
    unfit_ends t a.store.now a.kept a.check a.reply.now a.payload.now a.carried _ _ _ (blob_unfit _ _ _ over) c.failure.ensures

pub returns-in-Some : goal.returns-in-Some
returns-in-Some c =
    let stands = (blob_stands _ _ _ _ _ c.put_blob.ensures.0 _ _ c.put_blob.ensures.1 c.in-Some.is) in
    let a = c.args in
    let t = a.t.now in
    let u = c.store_key.new.t in
    stored_as t a.store.now a.kept a.check a.reply.now a.payload.now a.carried
    _ _ _ c.store_key.new.reply u c.store_key.new.store _ stands.blob c.store_key.ensures
