-- The promises of 17 and 25, over the draft's form of an add request.
use Rattle.std.specs.Prelude.{ℕ, ◌+◌, ◌-◌, ◌^◌, max, ◌≤◌, ◌<◌, ◌≡◌, ◌↔◌, ◌⊎◌, ◌≢◌, Bool, true, false, List, [], ◌∷◌, ◌++◌, length, None}
use Rattle.std.proofs.Math.Option.{some}
use Rattle.wire.specs.Limits.{blob_limit, fields_limit, comment_limit}
use Rattle.wire.specs.declared.Constraint.{Constraint}
use Rattle.wire.specs.Numbers.{Bytes}
use Rattle.wire.specs.Abnf.{Octets}
use Rattle.wire.specs.Values.{read, Span}
use Rattle.wire.specs.Write.{string}
use Rattle.keys.specs.Constraints.{Lifetime}
use Rattle.keys.specs.Additions.{addition_at}
use Rattle.keys.specs.Values.{seconds_in, Added, addition_reads}
use Rattle.keys.specs.Forms.{KeyFields, constraint_forms, Adds}
use Rattle.rule.specs.Gateway.{Entry, Gateway, locked, entry_at, NewKey, new_entry}
use Rattle.rule.specs.Rule.{check, FAILURE, SUCCESS}
use Rattle.rule.specs.Calls.{Call, asks, lands, call}
use Rattle.rule.specs.Words.{Begins, HeldAt, Held, at_call, payload_of, PastGate}

-- ## The request

-- what an add request carries, as the draft writes it: for 17 bytes behind the comment mean nothing, for 25 they are constraints
pub data LimitForm : ℕ → List ℕ → Lifetime → Bool → Type 0 where
  plain : (rest : List ℕ) → LimitForm 17 rest None false
  constrained : (cs : List Constraint) (l : Lifetime) (c : Bool) → Adds None false cs l c → LimitForm 25 (constraint_forms cs) l c

pub record AddRequest (payload : List ℕ) (k : NewKey) : Type 0 where
  pub byte : ℕ
  pub rest : List ℕ
  pub key : KeyFields k.fields k.blob
  pub text : Octets k.comment
  pub limits : LimitForm byte rest k.lifetime k.confirm
  pub shape : payload ≡ byte ∷ (k.fields ++ (string k.comment ++ rest))

-- which first byte, by whether constraints follow
abbrev pub add_byte : Bool → ℕ
add_byte false = 17
add_byte true = 25

-- where the comment lies: behind the first byte, the fields and its own length
abbrev pub comment_span : NewKey → Span
comment_span k = record { from = 1 + length k.fields + 4; to = 1 + length k.fields + 4 + length k.comment }

-- what a reader says of a request that brings this
abbrev pub added_of : NewKey → Added
added_of k = record { blob = k.blob; comment = comment_span k; limits = record { seconds = seconds_in k.lifetime; confirm = k.confirm } }

-- An add request is read exactly where it is one as the draft writes it: its blob, where its comment lies, its limits, and where its key fields end.
abbrev pub AdditionRule : Type 0
AdditionRule =
    (payload : List ℕ) (constrained : Bool) (a : Added) (end : ℕ) → Bytes payload → length payload < 2 ^ 32 → Begins (add_byte constrained) payload
    → (addition_reads payload 1 (addition_at payload 1 constrained) ≡ read a end)
    ↔ ((k : NewKey) × AddRequest payload k × (a ≡ added_of k) × (end ≡ 1 + length k.fields))

-- the entry that an add request makes at a call
abbrev pub made_by : Gateway → Call → NewKey → Entry
made_by g c k = new_entry g.next (record { count = max g.clock.count c.reading.count }) k

-- e stands at position i, everything else is as it was, and the next number is taken. A blob that was held keeps its position; a new one goes last.
pub record Put (before after : Gateway) (i : ℕ) (e : Entry) : Type 0 where
  pub there : HeldAt after i e
  pub others : (j : ℕ) → j ≢ i → entry_at after.entries j ≡ entry_at before.entries j
  pub lock : after.lock ≡ before.lock
  pub clock : after.clock ≡ before.clock
  pub next : after.next ≡ before.next + 1
  pub place : ((old : Entry) × HeldAt before i old × (old.blob ≡ e.blob))
      ⊎ ((i ≡ length before.entries) × ((old : Entry) → Held before old → old.blob ≢ e.blob))

-- ## Room

-- the entries that stay beside a key with this blob
pub data Beside (blob : List ℕ) : List Entry → List Entry → Type 0 where
  none_left : Beside blob [] []
  replaced : (e : Entry) {es os : List Entry} → e.blob ≡ blob → Beside blob es os → Beside blob (e ∷ es) os
  stays : (e : Entry) {es os : List Entry} → e.blob ≢ blob → Beside blob es os → Beside blob (e ∷ es) (e ∷ os)

-- the bytes that entries take
abbrev pub bytes_of : List Entry → ℕ
bytes_of [] = 0
bytes_of (e ∷ es) = length e.blob + length e.fields + length e.comment + bytes_of es

-- .. and a new key
abbrev pub new_bytes : NewKey → ℕ
new_bytes k = length k.blob + length k.fields + length k.comment

-- room beside these: fewer than 24 others, and lengths that do not pass 32,768
pub record Room (os : List Entry) (k : NewKey) : Type 0 where
  pub count : length os < 24
  pub bytes : bytes_of os + new_bytes k ≤ 32768

-- what is decided before the key check is asked: the limits, the numbers that are left, and room
pub record WithinLimits (before : Gateway) (k : NewKey) : Type 0 where
  pub blob_fits : length k.blob ≤ blob_limit
  pub fields_fit : length k.fields ≤ fields_limit
  pub comment_fits : length k.comment ≤ comment_limit
  pub numbers_left : before.next < 2 ^ 64 - 1

pub record MayStore (before : Gateway) (k : NewKey) : Type 0 where
  pub limits : WithinLimits before k
  pub room : (os : List Entry) → Beside k.blob before.entries os → Room os k

-- a well-formed add request within the limits, past a gate and with no key check's no, fails exactly where 24 others are held or the lengths after
-- the change would pass 32,768
abbrev pub RoomRule : Type 0
RoomRule =
    (g : Gateway) (c : Call) (k : NewKey) (os : List Entry) → Bytes (payload_of c) → PastGate g c → locked g ≡ false → AddRequest (payload_of c) k
    → WithinLimits (at_call g c) k → c.answers.check ≢ some false → Beside k.blob (at_call g c).entries os
    → ((call g c).outcome ≡ lands FAILURE) ↔ ((24 ≤ length os) ⊎ (32768 < bytes_of os + new_bytes k))

-- ## What is stored

-- what an add's SUCCESS did, and that the key check said yes
abbrev pub AddedOnly : Type 0
AddedOnly =
    (g : Gateway) (c : Call) → Bytes (payload_of c) → Begins 17 (payload_of c) ⊎ Begins 25 (payload_of c) → (call g c).outcome ≡ lands SUCCESS
    → (k : NewKey) × (i : ℕ) × AddRequest (payload_of c) k × Put (at_call g c) (call g c).gateway i (made_by g c k) × MayStore (at_call g c) k
    × (c.answers.check ≡ some true)

-- a well-formed add request within the limits, past gate and key check, is stored where there is room
abbrev pub AddedAlways : Type 0
AddedAlways =
    (g : Gateway) (c : Call) (k : NewKey) → Bytes (payload_of c) → PastGate g c → locked g ≡ false → AddRequest (payload_of c) k → MayStore (at_call g c) k
    → c.answers.check ≡ some true → (call g c).outcome ≡ lands SUCCESS

-- past the gate of an open gateway, the key check is asked of the fields alone, comment left out, and only where its yes would store the key
abbrev pub CheckAsks : Type 0
CheckAsks =
    (g : Gateway) (c : Call) (from to : ℕ) → Bytes (payload_of c) → (call g c).outcome ≡ asks (check from to)
    → PastGate g c × (locked g ≡ false) × (k : NewKey) × AddRequest (payload_of c) k × (from ≡ 1) × (to ≡ 1 + length k.fields) × MayStore (at_call g c) k
