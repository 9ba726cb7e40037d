-- What the readers of an add request promise, as statements; the proofs are in proofs/.
use Rattle.std.specs.Prelude.{ℕ, ◌+◌, ◌^◌, ◌≤◌, ◌<◌, ◌≡◌, List, [], ◌∷◌, ◌++◌, Bool, true, false, Some, None, ◌↔◌, ◌≢◌, length, drop}
use Rattle.std.proofs.Math.Option.{Option, none, some}
use Rattle.wire.specs.declared.Seconds.{Seconds}
use Rattle.wire.specs.declared.Constraint.{Constraint}
use Rattle.wire.specs.Numbers.{Bytes}
use Rattle.wire.specs.Values.{read, fault, Span, part_reads}
use Rattle.wire.specs.Promises.{OneToOne}
use Rattle.wire.specs.Read.{text_at}
use Rattle.wire.specs.Write.{write}
use Rattle.keys.specs.declared.kinds.Kind.{Kind}
use Rattle.keys.specs.declared.kinds.Places.{Places}
use Rattle.keys.specs.declared.constraints.Walk.{Walk}
use Rattle.keys.specs.Kinds.{Blob, kind_of, key_at, blob_of, blob_answer, blob_left}
use Rattle.keys.specs.Constraints.{Lifetime, walk_of}
use Rattle.keys.specs.Additions.{addition_at}
use Rattle.keys.specs.Values.{type_of, key_reads, blob_says, seconds_in, Walked, ended, second_lifetime, unknown_byte, cut_seconds, walk_says, fault_of, addition_reads}
use Rattle.keys.specs.Forms.{KeyFields, constraint_forms, Adds}
use Rattle.keys.specs.Faults.{KeyStops}

-- ## Keys

-- a type string names a kind exactly where it is that kind's
abbrev pub KindRule : Type 0
KindRule = (name : List ℕ) (k : Kind) → k ≢ Kind.Other → (kind_of name ≡ k) ↔ (type_of k ≡ some name)

-- Key fields are accepted at a place exactly where the draft's form of one of the five kinds stands there; then the reader finds where they
-- end, and their blob is that form's public part.
abbrev pub KeyRule : Type 0
KeyRule =
    (s : List ℕ) (at : ℕ) (blob : List ℕ) (end : ℕ) → Bytes s → length s < 2 ^ 32
    → (key_reads s at (key_at s at) ≡ read blob end)
    ↔ ((fields : List ℕ) × KeyFields fields blob × (drop at s ≡ fields ++ drop end s) × (end ≡ at + length fields))

-- Else the fault is at the start of the first string that does not stand as the draft asks.
abbrev pub KeyFault : Type 0
KeyFault = (s : List ℕ) (at place : ℕ) → Bytes s → length s < 2 ^ 32 → key_reads s at (key_at s at) ≡ fault place → KeyStops s at place

-- the accepted fields determine the blob
abbrev pub OneBlob : Type 0
OneBlob = (fields blob other : List ℕ) → Bytes fields → length fields < 2 ^ 32 → KeyFields fields blob → KeyFields fields other → blob ≡ other

-- the blob stands at the front of an output that it fits in, and its length is answered; else the output is untouched
pub record BlobWritten (s : List ℕ) (at : ℕ) (p : Places) (out : List ℕ) : Type 0 where
  pub fits : length (blob_of s at p) ≤ length out
      → (blob_says (blob_answer s at p out) ≡ some (length (blob_of s at p))) × (blob_left s at p out ≡ write out 0 (blob_of s at p))
  pub too_long : length out < length (blob_of s at p) → (blob_says (blob_answer s at p out) ≡ none) × (blob_left s at p out ≡ out)

abbrev pub BlobRule : Type 0
BlobRule = (s : List ℕ) (at : ℕ) (p : Places) (out : List ℕ) → BlobWritten s at p out

-- ## Constraints

-- What is left behind constraints that gave this lifetime and Confirm, and how it settles the walk: nothing is left; a lifetime comes a second time;
-- a byte is no constraint's; a lifetime's seconds are cut.
pub data Settles (at : ℕ) : List ℕ → Lifetime → Bool → Walked → Type 0 where
  end : (l : Lifetime) (c : Bool) → Settles at [] l c (ended (record { seconds = seconds_in l; confirm = c }))
  twice : (seconds : Seconds) (c : Bool) (rest : List ℕ) → Settles at (1 ∷ rest) (Some seconds) c (second_lifetime at)
  other : (l : Lifetime) (c : Bool) (byte : ℕ) (rest : List ℕ) → byte ≢ 1 → byte ≢ 2 → Settles at (byte ∷ rest) l c (unknown_byte at)
  short : (c : Bool) (rest : List ℕ) → length rest < 4 → Settles at (1 ∷ rest) None c (cut_seconds (at + 1))

-- "The walk over constraints stops at the first byte that settles it": it takes constraints as they are written, a lifetime once only, up to there.
abbrev pub ConstraintRule : Type 0
ConstraintRule =
    (at : ℕ) (s : List ℕ) (r : Walked) → Bytes s
    → (walk_says (walk_of at s None false) ≡ r)
    ↔ ((cs : List Constraint) × (l : Lifetime) × (c : Bool) × (rest : List ℕ) × (s ≡ constraint_forms cs ++ rest) × Adds None false cs l c
    × Settles (at + length (constraint_forms cs)) rest l c r)

-- ## Add requests: where the fault lies

-- in the key fields, in the comment behind them, or, for 25, in the constraints behind that
pub record AdditionFaults (s : List ℕ) (at : ℕ) (constrained : Bool) (place : ℕ) : Type 0 where
  pub key : key_reads s at (key_at s at) ≡ fault place → addition_reads s at (addition_at s at constrained) ≡ fault place
  pub comment : (blob : List ℕ) (end : ℕ) → key_reads s at (key_at s at) ≡ read blob end → part_reads (text_at s end) ≡ fault place
      → addition_reads s at (addition_at s at constrained) ≡ fault place
  pub constraints : (blob : List ℕ) (end : ℕ) (text : Span) (next : ℕ) → key_reads s at (key_at s at) ≡ read blob end → part_reads (text_at s end) ≡ read text next
      → constrained ≡ true → fault_of (walk_says (walk_of next (drop next s) None false)) ≡ some place
      → addition_reads s at (addition_at s at constrained) ≡ fault place

abbrev pub AdditionFault : Type 0
AdditionFault = (s : List ℕ) (at : ℕ) (constrained : Bool) (place : ℕ) → AdditionFaults s at constrained place

-- ## Answers

-- an answer's values tell it from every other answer
pub record KeyAnswersApart : Type 0 where
  pub kinds : OneToOne Kind (Option (List ℕ)) type_of
  pub blobs : OneToOne Blob (Option ℕ) blob_says
  pub lifetimes : OneToOne Lifetime (Option ℕ) seconds_in
  pub walks : OneToOne Walk Walked walk_says
