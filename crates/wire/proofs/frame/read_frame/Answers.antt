-- The definition goes by the same number and the same tests. Assumes nothing.
use mathlib.Core.Path.{sym}
use native.Mathlib.Omega.{arith}
use Rattle.wire.specs.Frames.{split_of}
use Rattle.wire.proofs.Reading.{number_read}
use Rattle.wire.proofs.Steps.{all}
use Rattle.wire.proofs.frame.read_frame.Goals as goal

pub number-requires : goal.number-requires
number-requires c = search all

pub returns-in_default : goal.returns-in_default
unfolding split_of
returns-in_default c = search all depth 16

pub returns-then-n-gt-LIMIT : goal.returns-then-n-gt-LIMIT
unfolding split_of
returns-then-n-gt-LIMIT c = search all depth 16

pub overflow_cast-to : goal.overflow_cast-to
overflow_cast-to c = search all

pub overflow_add-to : goal.overflow_add-to
overflow_add-to c = let h = number_read _ _ _ _ (sym c.in-Ok.ensures) in omega arith

pub returns-then-s-to : goal.returns-then-s-to
unfolding split_of
returns-then-s-to c = search all depth 16

pub returns : goal.returns
unfolding split_of
returns c = search all depth 16
