-- The values of each answer tell it from every other: each answer can be had back from its values.
use Prim.Native.Nat.{ℕ}
use mathlib.Core.Path.{◌≡◌, refl, sym, ap, ◌∙◌}
use mathlib.Core.Bool.{Bool}
use mathlib.Core.Option.{Option, none, some}
use mathlib.Core.List.{List}
use Rattle.keys.specs.declared.kinds.Kind.{Kind}
use Rattle.keys.specs.declared.constraints.Walk.{Walk}
use Rattle.keys.specs.declared.constraints.Walk.TheVariants.{Done, Duplicate, Unknown, Cut}
use Rattle.wire.specs.Read.{same}
use Rattle.std.proofs.Common.{Some, None}
use Rattle.keys.specs.Kinds.{Blob, kind_of}
use Rattle.keys.specs.Constraints.{Lifetime}
use Rattle.keys.specs.Values.{type_of, blob_says, seconds_in, Limits, Walked, ended, second_lifetime, unknown_byte, cut_seconds, walk_says}
use Rattle.keys.specs.Promises.{KeyAnswersApart}

-- what can be had back is told apart
had_back : {A B : Type 0} (values : A → B) (back : B → A) → ((a : A) → back (values a) ≡ a) → (a b : A) → values a ≡ values b → a ≡ b
had_back values back again a b e = sym (again a) ∙ ap back e ∙ again b

abbrev kind_back : Option (List ℕ) → Kind
kind_back none = Kind.Other
kind_back (some name) = kind_of name

kind_again : (k : Kind) → kind_back (type_of k) ≡ k
unfolding kind_of same
kind_again Kind.Ed25519 = refl
kind_again Kind.Nistp256 = refl
kind_again Kind.Nistp384 = refl
kind_again Kind.Nistp521 = refl
kind_again Kind.Rsa = refl
kind_again Kind.Other = refl

abbrev blob_back : Option ℕ → Blob
blob_back none = None
blob_back (some n) = Some n

blob_again : (b : Blob) → blob_back (blob_says b) ≡ b
blob_again (Some n) = refl
blob_again None = refl

abbrev lifetime_back : Option ℕ → Lifetime
lifetime_back none = None
lifetime_back (some n) = Some (record { count = n })

lifetime_again : (l : Lifetime) → lifetime_back (seconds_in l) ≡ l
lifetime_again None = refl
lifetime_again (Some seconds) = refl

abbrev walk_back : Walked → Walk
walk_back (ended limits) = Done (lifetime_back limits.seconds) limits.confirm
walk_back (second_lifetime at) = Duplicate at
walk_back (unknown_byte at) = Unknown at
walk_back (cut_seconds at) = Cut at

walk_again : (w : Walk) → walk_back (walk_says w) ≡ w
walk_again (Done l c) = ap (λ (l : Lifetime). Done l c) (lifetime_again l)
walk_again (Duplicate at) = refl
walk_again (Unknown at) = refl
walk_again (Cut at) = refl

pub key-answers_apart : KeyAnswersApart
key-answers_apart = record {
  kinds = had_back type_of kind_back kind_again;
  blobs = had_back blob_says blob_back blob_again;
  lifetimes = had_back seconds_in lifetime_back lifetime_again;
  walks = had_back walk_says walk_back walk_again;
}

-- the same limits are the same lifetime and Confirm
pub same-limits : (l m : Lifetime) (c d : Bool) → ◌≡◌ {A = Limits} (record { seconds = seconds_in l; confirm = c }) (record { seconds = seconds_in m; confirm = d }) → (l ≡ m) × (c ≡ d)
same-limits l m c d e = (key-answers_apart.lifetimes l m (ap (λ (r : Limits). r.seconds) e), ap (λ (r : Limits). r.confirm) e)
