-- Each arm is what the definition has for its hash. Assumes nothing.
use native.Mathlib.Omega.{arith}
use Rattle.readers.proofs.SignatureLaws.{fits-any, fits-256, fits-512, fits-none}
use Rattle.readers.proofs.signature.is_fit.Goals as goal

pub returns-in-0 : goal.returns-in-0
returns-in-0 c = fits-any _ _ c.in-0.is

pub returns-in-2 : goal.returns-in-2
returns-in-2 c = fits-256 _ _ _ c.in-2.is c.is_same.ensures

pub returns-in-4 : goal.returns-in-4
returns-in-4 c = fits-512 _ _ _ c.in-4.is c.is_same-in-4.ensures

pub returns-in_default : goal.returns-in_default
returns-in_default c = fits-none _ _ (omega arith) (omega arith) (omega arith)
