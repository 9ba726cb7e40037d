-- Each arm is the definition's case, and the three faults are one arm. Assumes nothing.
use Prim.Native.Nat.{ℕ}
use mathlib.Core.Path.{◌≡◌}
use mathlib.Core.Logic.{◌⊎◌, ⊎_elim}
use Rattle.wire.specs.Steps.{faulted}
use Rattle.keys.specs.declared.kinds.Places.{Places}
use Rattle.keys.specs.declared.constraints.Walk.{Walk}
use Rattle.keys.specs.declared.constraints.Walk.TheVariants.{Duplicate, Unknown, Cut}
use Rattle.wire.specs.declared.read.Span.{Span}
use Rattle.keys.specs.Additions.{limits_of}
use Rattle.keys.proofs.addition.limited.Goals as goal

fault : (p : Places) (comment : Span) (w : Walk) (at : ℕ) → (w ≡ Duplicate at) ⊎ ((w ≡ Unknown at) ⊎ (w ≡ Cut at)) → faulted at ≡ limits_of p comment w
unfolding limits_of
fault p comment w at is = ⊎_elim (λ e. rw e) (⊎_elim (λ e. rw e) (λ e. rw e)) is

pub returns-in-Done : goal.returns-in-Done
unfolding limits_of
returns-in-Done c = rw c.in-Done.is

pub returns-in-Duplicate : goal.returns-in-Duplicate
returns-in-Duplicate c = fault _ _ _ _ c.in-Duplicate.is

pub returns-in-Duplicate-2 : goal.returns-in-Duplicate-2
returns-in-Duplicate-2 c = fault _ _ _ _ c.in-Duplicate.is

pub returns-in-Duplicate-3 : goal.returns-in-Duplicate-3
returns-in-Duplicate-3 c = fault _ _ _ _ c.in-Duplicate.is
