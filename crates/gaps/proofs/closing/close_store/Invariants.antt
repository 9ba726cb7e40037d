-- Part by part, what stays of those that were passed and of those that are left is what stays of all; the end is zeroed. Assumes nothing.
use Rattle.gaps.proofs.ClosingLaws.{Closing}
use Rattle.gaps.proofs.closing.close_store.Given as goal

abbrev pub invariant-loop-i : goal.invariant-loop-i
invariant-loop-i l = Closing l.t.blob_lens l.t.fields_lens l.t.comment_lens l.marks l.initial.store l.store l.i l.from l.to
