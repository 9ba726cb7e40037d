-- "17, 25: key fields, comment string (UTF-8 ..), and for 25 constraints"
use Rattle.std.specs.Prelude.{ℕ, List, Bool, true, false, None, Result, Ok, Err, drop}
use Rattle.wire.specs.declared.read.Fault.{Fault}
use Rattle.wire.specs.Read.{text_at}
use Rattle.wire.specs.Steps.{faulted, part}
use Rattle.keys.specs.declared.kinds.Places.{Places}
use Rattle.keys.specs.declared.constraints.Walk.{Walk}
use Rattle.keys.specs.declared.constraints.Walk.TheVariants.{Done, Duplicate, Unknown, Cut}
use Rattle.keys.specs.declared.addition.Carried.{Carried}
use Rattle.wire.specs.declared.read.Span.{Span}
use Rattle.keys.specs.Kinds.{Key, key_at}
use Rattle.keys.specs.Constraints.{walk_of}

-- what the request carries, or the place of its fault
abbrev pub Addition : Type 0
Addition = Result Carried Fault

unfoldable pub limits_of : Places → Span → Walk → Addition
limits_of p comment (Done l c) = Ok (record { places = p; comment = comment; lifetime = l; confirm = c })
limits_of p comment (Duplicate at) = faulted at
limits_of p comment (Unknown at) = faulted at
limits_of p comment (Cut at) = faulted at

-- bytes behind the comment are constraints in 25, and are ignored in 17
abbrev pub constraints_at : List ℕ → ℕ → Bool → Walk
constraints_at s at true = walk_of at (drop at s) None false
constraints_at s at false = Done None false

unfoldable pub commented_at : List ℕ → Places → Bool → Addition
commented_at s p constrained = part faulted (text_at s p.end) λ f t k. limits_of p (record { from = f; to = t }) (constraints_at s k.at constrained)

-- what to do with the key fields that were read
unfoldable pub key : {A : Type 0} → (ℕ → A) → Key → (Places → A) → A
key z (Ok p) next = next p
key z (Err e) next = z e.at

unfoldable pub addition_at : List ℕ → ℕ → Bool → Addition
addition_at s at constrained = key faulted (key_at s at) λ p. commented_at s p constrained
