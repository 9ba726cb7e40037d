-- Where the number is cut, or more than what is left, so is the string; else it is there. Assumes nothing.
use native.Mathlib.Omega.{arith}
use mathlib.Core.Path.{sym}
use Rattle.std.proofs.lemmas.Result.{err_from_is_err_and}
use Rattle.wire.proofs.Reading.{number_read, string-no_number, string-cut, string-there}
use Rattle.wire.proofs.read.Cursor.string.Goals as goal

pub returns-in_err-n : goal.returns-in_err-n
returns-in_err-n c =
    let p = err_from_is_err_and c.from_residual.result c.from_residual.ensures.1 in
    rw (p.1, p.2) (string-no_number _ _ _ c.in_err-n.ensures)

pub overflow_sub-s : goal.overflow_sub-s
overflow_sub-s c = let h = number_read _ _ _ _ (sym c.in_ok-n.ensures) in omega arith

pub returns-then-s-from : goal.returns-then-s-from
returns-then-s-from c = let h = number_read _ _ _ _ (sym c.in_ok-n.ensures) in string-cut _ _ (omega arith)

pub returns : goal.returns
returns c = let h = number_read _ _ _ _ (sym c.in_ok-n.ensures) in rw (h.place, h.number) (string-there _ _ (omega arith))
