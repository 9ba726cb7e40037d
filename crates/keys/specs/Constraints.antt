-- The walk over constraints, on the bytes that are left; `at` is their place.
use Rattle.std.specs.Prelude.{ℕ, ◌+◌, List, [], ◌∷◌, Bool, true, cond, Option, Some, None, eqb}
use Rattle.wire.specs.declared.Seconds.{Seconds}
use Rattle.wire.specs.Numbers.{be}
use Rattle.keys.specs.declared.constraints.Walk.{Walk}
use Rattle.keys.specs.declared.constraints.Walk.TheVariants.{Done, Duplicate, Unknown, Cut}

-- without one a key stays
abbrev pub Lifetime : Type 0
Lifetime = Option Seconds

-- a lifetime counts once only
abbrev pub once : Lifetime → ℕ → Walk → Walk
once None at w = w
once (Some n) at w = Duplicate at

unfoldable mutual
  pub walk_of : ℕ → List ℕ → Lifetime → Bool → Walk
  walk_of at [] l c = Done l c
  walk_of at (b ∷ s) l c = cond (eqb b 1) (once l at (seconds_of (at + 1) s c)) (cond (eqb b 2) (walk_of (at + 1) s l true) (Unknown at))

  pub seconds_of : ℕ → List ℕ → Bool → Walk
  seconds_of at [] c = Cut at
  seconds_of at (w ∷ []) c = Cut at
  seconds_of at (w ∷ x ∷ []) c = Cut at
  seconds_of at (w ∷ x ∷ y ∷ []) c = Cut at
  seconds_of at (w ∷ x ∷ y ∷ z ∷ s) c = walk_of (at + 4) s (Some (record { count = be w x y z })) c
