-- Answers in 01's words and numbers.
use Rattle.std.specs.Prelude.{ℕ, Bool, List, Some, None, Ok, Err}
use Rattle.std.proofs.Math.Option.{Option, none, some}
use Rattle.wire.specs.Texts.{bytes}
use Rattle.wire.specs.Values.{Reading, read, fault, Span}
use Rattle.keys.specs.declared.kinds.Kind.{Kind}
use Rattle.keys.specs.declared.constraints.Walk.{Walk}
use Rattle.keys.specs.declared.constraints.Walk.TheVariants.{Done, Duplicate, Unknown, Cut}
use Rattle.keys.specs.Kinds.{Key, Blob, blob_of}
use Rattle.keys.specs.Constraints.{Lifetime}
use Rattle.keys.specs.Additions.{Addition}

-- the type string of each kind; "Other types are FAILURE."
abbrev pub type_of : Kind → Option (List ℕ)
type_of Kind.Ed25519 = some (bytes "ssh-ed25519")
type_of Kind.Nistp256 = some (bytes "ecdsa-sha2-nistp256")
type_of Kind.Nistp384 = some (bytes "ecdsa-sha2-nistp384")
type_of Kind.Nistp521 = some (bytes "ecdsa-sha2-nistp521")
type_of Kind.Rsa = some (bytes "ssh-rsa")
type_of Kind.Other = none

-- the blob of key fields at `at`, and the place behind them
abbrev pub key_reads : List ℕ → ℕ → Key → Reading (List ℕ)
key_reads s at (Ok p) = read (blob_of s at p) p.end
key_reads s at (Err e) = fault e.at

-- the blob's length, where it fits
abbrev pub blob_says : Blob → Option ℕ
blob_says (Some n) = some n
blob_says None = none

-- the seconds of a lifetime
abbrev pub seconds_in : Lifetime → Option ℕ
seconds_in None = none
seconds_in (Some seconds) = some seconds.count

-- "perhaps a lifetime, and Confirm or not"
pub record Limits : Type 0 where
  pub seconds : Option ℕ
  pub confirm : Bool

-- how a walk ends: at the end with the constraints' limits, or by a fault at a place
pub data Walked : Type 0 where
  ended : Limits → Walked
  second_lifetime : ℕ → Walked
  unknown_byte : ℕ → Walked
  cut_seconds : ℕ → Walked

abbrev pub walk_says : Walk → Walked
walk_says (Done l c) = ended (record { seconds = seconds_in l; confirm = c })
walk_says (Duplicate at) = second_lifetime at
walk_says (Unknown at) = unknown_byte at
walk_says (Cut at) = cut_seconds at

-- the place of a walk's fault
abbrev pub fault_of : Walked → Option ℕ
fault_of (ended limits) = none
fault_of (second_lifetime at) = some at
fault_of (unknown_byte at) = some at
fault_of (cut_seconds at) = some at

-- an add request's blob, where its comment lies, its limits, and where its key fields end, or a fault at a place
pub record Added : Type 0 where
  pub blob : List ℕ
  pub comment : Span
  pub limits : Limits

abbrev pub addition_reads : List ℕ → ℕ → Addition → Reading Added
addition_reads s at (Ok c) =
    read (record { blob = blob_of s at c.places; comment = record { from = c.comment.from; to = c.comment.to }; limits = record { seconds = seconds_in c.lifetime; confirm = c.confirm } }) c.places.end
addition_reads s at (Err e) = fault e.at
