-- The room is tested part by part, and the parts are written one behind the other. Assumes nothing.
use Prim.Native.Nat.{◌+◌, ◌<◌}
use lib.ListN.{length}
use native.Mathlib.Omega.{arith}
use Rattle.keys.proofs.BlobLaws.{blob_long, blob_fits}
use Rattle.keys.proofs.kinds.put_blob.Goals as goal
use Rattle.keys.proofs.kinds.put_blob.Goals.{then-size-first-via-then-size-first, then-size-first-via-else-size-first+then-size-first-2, then-size-first-via-else-size-first+else-size-first-2+then-size-first-3}

pub returns-then-size-first : goal.returns-then-size-first
returns-then-size-first c =
    let short : length c.args.out.now < length c.cut-first.result.now + (length c.cut-second.result.now + length c.cut-third.result.now) =
    elim c.then-size-first.branch [
      | then-size-first-via-then-size-first w ↦ omega arith
      | then-size-first-via-else-size-first+then-size-first-2 w ↦ omega arith
      | then-size-first-via-else-size-first+else-size-first-2+then-size-first-3 w ↦ omega arith
    ] in
    blob_long _ _ _ _ _ _ _ c.cut-first.ensures.bytes c.cut-second.ensures.bytes c.cut-third.ensures.bytes short

pub returns : goal.returns
returns c =
    blob_fits _ _ _ _ _ _ _ c.cut-first.ensures.bytes c.cut-second.ensures.bytes c.cut-third.ensures.bytes _ _ _ _ _ _
    c.put_bytes-a.ensures.1 c.put_bytes-a.ensures.0
    c.put_bytes-b.ensures.1 c.put_bytes-b.ensures.0
    c.put_bytes.ensures.1 c.put_bytes.ensures.0
    (omega arith)
