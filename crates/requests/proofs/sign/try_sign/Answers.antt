-- The plan goes by the same steps, up to the place that was found. Assumes nothing.
use Rattle.rule.specs.Rule.{signing}
use Rattle.requests.proofs.EndSteps.{answering, closing, place-within}
use Rattle.requests.proofs.SignSteps.{signs, Inside, keys_inside, keys_housed}
use native.Mathlib.Omega.{arith}
use Rattle.requests.proofs.sign.try_sign.Goals.{In-Some}
use Rattle.requests.proofs.sign.try_sign.Goals as goal

-- number and flag at the position that was c are there
inside : (c : In-Some) → Inside c.args.t.numbers.now c.args.t.confirm.now c.in-Some.i
inside c =
    let keys = c.requires.2 in
    keys_inside _ _ _ _ _ _ keys _ (place-within keys.state _ _ _ _ c.in-Some.is (c.find.ensures keys.state keys.shows.parts))

pub returns-in_default : goal.returns-in_default
unfolding signing
returns-in_default c = λ s shown S. search (signs, closing) depth 16

pub find-requires : goal.find-requires
find-requires c = keys_housed _ _ _ _ _ _ c.requires.2

pub offset_bounds-t-i : goal.offset_bounds-t-i
offset_bounds-t-i c = let h = inside (goal.at.offset_bounds-t-i c).In-Some in record { fits = omega arith }

pub bounds-t-i : goal.bounds-t-i
bounds-t-i c = let h = inside (goal.at.bounds-t-i c).In-Some in omega arith

pub bounds-t-i-in-Some : goal.bounds-t-i-in-Some
bounds-t-i-in-Some c = let h = inside (goal.at.bounds-t-i-in-Some c).In-Some in omega arith

pub returns-in-None : goal.returns-in-None
unfolding signing
returns-in-None c =
    λ s shown S. search (
      signs,
      answering c.failure.ensures,
      c.in-None.is,
      c.find.ensures s shown.parts,
      c.cut.ensures.bytes,
      c.in-Ok.is,
      c.string.ensures,
    ) depth 16

pub returns-in-Some : goal.returns-in-Some
unfolding signing
returns-in-Some c =
    λ s shown S. search (
      signs,
      c.sign_with.ensures s _ S,
      c.in-Some.is,
      c.find.ensures s shown.parts,
      c.cut.ensures.bytes,
      c.in-Ok.is,
      c.string.ensures,
    ) depth 16
