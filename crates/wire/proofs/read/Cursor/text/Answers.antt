-- The definition goes by the same string and the same end of its UTF-8, which lies within the string. Assumes nothing.
use mathlib.Core.Path.{sym}
use native.Mathlib.Omega.{arith}
use borrow.Author.Tests.{eq-eqb, ne_eqb}
use Rattle.std.proofs.lemmas.Result.{err_from_is_err_and}
use Rattle.wire.specs.Steps.{part}
use Rattle.wire.specs.Read.{text_at}
use Rattle.wire.proofs.Reading.{string-read}
use Rattle.wire.proofs.Longest.{text_room}
use Rattle.wire.proofs.read.Cursor.text.Goals as goal

pub returns-in_err-p : goal.returns-in_err-p
unfolding text_at part
returns-in_err-p c = let p = err_from_is_err_and c.from_residual.result c.from_residual.ensures.1 in rw (p.1, p.2, ← c.in_err-p.ensures)

pub overflow_sub-p : goal.overflow_sub-p
overflow_sub-p c = let h = string-read _ _ _ _ _ (sym c.in_ok-p.ensures) in omega arith

pub returns-then-end-p : goal.returns-then-end-p
unfolding text_at part
returns-then-end-p c = rw (← c.in_ok-p.ensures, ← c.cut.ensures.bytes, ← c.utf8_end-end.ensures, eq-eqb _ _ c.if-end-p.true)

pub overflow_add-result : goal.overflow_add-result
overflow_add-result c = omega (arith, text_room _ _ _ _ _ c.in_ok-p.ensures c.cut.ensures.bytes c.utf8_end-end.ensures)

pub returns : goal.returns
unfolding text_at part
returns c = rw (← c.in_ok-p.ensures, ← c.cut.ensures.bytes, ← c.utf8_end-end.ensures, ne_eqb _ _ c.if-end-p.false)
