-- What the exported calls promise, as statements; the proofs are in proofs/WithinLaws.antt, ExportLaws.antt, AskedLaws.antt, FirstLaws.antt and
-- InnerLaws.antt.
use Rattle.std.specs.Prelude.{ℕ, ◌+◌, ◌≤◌, ◌≡◌, ◌⊎◌, ◌≢◌, List, length}
use Rattle.wire.specs.Limits.{reply_room}
use Rattle.wire.specs.Numbers.{Bytes}
use Rattle.wire.specs.Frames.{split_of, split_number, frame_payload}
use Rattle.wire.specs.Promises.{LiesIn}
use Rattle.rule.specs.declared.Millis.{Millis}
use Rattle.rule.specs.Gateway.{zero_millis}
use Rattle.rule.specs.Examples.{one_key, sign_with}
use Rattle.table.specs.declared.State.{State}
use Rattle.table.specs.Soundness.{Sound, Means}
use Rattle.lookups.specs.Told.{key_told}
use Rattle.server.specs.Runs.{Step, CodePromises}
use Rattle.server.specs.FirstPromises.{FirstStep, FirstPromises}
use Rattle.server.specs.InnerPromises.{InnerPromises}
use Rattle.flat.specs.declared.FlatAnswers.{FlatAnswers}
use Rattle.flat.specs.declared.FlatOutcome.{FlatOutcome}
use Rattle.flat.specs.declared.FlatFirst.{FlatFirst}
use Rattle.flat.specs.Flat.{answers_of}
use Rattle.flat.specs.Promises.{flat_values, UnusedZero, flat_first_values, FirstUnusedZero}
use Rattle.gateway.specs.Exports.{FlatMeets, FlatInnerMeets, FlatFirstMeets, FlatInnerFirstMeets}

-- ## What an outcome names

-- what an outcome names lies in what was lent: a part of the reply buffer where it replies, else of the payload
pub record NamesWithin (payload buffer : List ℕ) (o : FlatOutcome) : Type 0 where
  pub ordered : o.from ≤ o.to
  pub of_payload : (o.kind ≡ 5 → ⊥) → o.to ≤ length payload
  pub of_reply : o.kind ≡ 5 → o.to ≤ length buffer

-- for every call, and the fields without meaning are 0; a state's two arrays have the lengths of their types
abbrev pub CallsNameWithin : Type 0
CallsNameWithin =
    (state : State) (store payload : List ℕ) (reading : Millis) (answers : FlatAnswers) (signature buffer : List ℕ) (outcome : FlatOutcome) (after : State)
    (store_after reply : List ℕ)
    → FlatMeets state store payload reading answers signature buffer outcome after store_after reply
    → NamesWithin payload buffer outcome × UnusedZero outcome

-- ## The exported call

-- a step gave what meets the contract of `key_agent_call`
pub record ByExport (state : State) (store : List ℕ) (k : Step) : Type 0 where
  pub answers : FlatAnswers
  pub outcome : FlatOutcome
  pub answers_are : k.answers ≡ answers_of answers
  pub ended_is : k.gave.ended ≡ flat_values outcome
  pub meets : FlatMeets state store k.payload k.reading answers k.signature k.buffer outcome k.gave.state k.gave.store k.gave.reply

-- runs of it, each call on the state and store that the one before it left: all that is promised of `call`
abbrev pub ExportPromises : Type 0
ExportPromises = CodePromises ByExport

-- the gate's yes, and no other answer
abbrev pub gate_yes : FlatAnswers
gate_yes = record { gate = 2; check = 0; confirmation = 0; signature = 0; confirmation_number = 0; signature_number = 0 }

-- with one key, the signer is asked for its number, no data and a hash of so many bits
abbrev pub TellsBits : ℕ → ℕ → Type 0
TellsBits flags bits =
    (state : State) (store signature buffer : List ℕ) (outcome : FlatOutcome) (after : State) (store_after reply : List ℕ)
    → Means state store one_key → length buffer ≡ reply_room
    → FlatMeets state store (sign_with flags) zero_millis gate_yes signature buffer outcome after store_after reply
    → outcome ≡ record { kind = 4; hash = bits; number = 1; from = 10; to = 10 }

-- "Flags 6: SHA-256. 4: SHA-512. 1: none."
pub record FlagsTold : Type 0 where
  pub flags_6 : TellsBits 6 256
  pub flags_4 : TellsBits 4 512
  pub flags_1 : TellsBits 1 0

-- ## What a question is about

-- `key_agent_key` tells of the number that was asked about, in the state and store that the call left
pub record AskedTold (outcome : FlatOutcome) (after : State) (store_after : List ℕ) : Type 0 where
  pub told : (key_told after store_after outcome.number).number ≢ 0
  pub number : (key_told after store_after outcome.number).number ≡ outcome.number
  pub confirm : outcome.kind ≡ 3 → (key_told after store_after outcome.number).confirm ≡ 1

-- for every confirmation and every signature that is asked for
abbrev pub AskedIsTold : Type 0
AskedIsTold =
    (state : State) (store payload : List ℕ) (reading : Millis) (answers : FlatAnswers) (signature buffer : List ℕ) (outcome : FlatOutcome) (after : State)
    (store_after reply : List ℕ)
    → Sound state store → Bytes payload → FlatMeets state store payload reading answers signature buffer outcome after store_after reply
    → (outcome.kind ≡ 3) ⊎ (outcome.kind ≡ 4) → AskedTold outcome after store_after

-- ## The first call

-- a first step gave what meets the contract of `key_agent_first`
pub record ByFirstExport (state : State) (store : List ℕ) (f : FirstStep) : Type 0 where
  pub first : FlatFirst
  pub ended_is : f.gave.ended ≡ flat_first_values first
  pub meets : FlatFirstMeets state store f.bytes f.reading f.buffer first f.gave.state f.gave.store f.gave.reply

-- all that is promised of `first_call`, also of runs of `key_agent_first` and `key_agent_call`
abbrev pub FirstExportPromises : Type 0
FirstExportPromises = FirstPromises ByFirstExport ByExport

-- field by field, for who reads them from C: the kind goes by what the splitter says; where a request has begun, its frame is used; what the outcome
-- names lies in the payload or, of a reply, in the reply buffer
pub record FirstFields (bytes buffer : List ℕ) (x : FlatFirst) : Type 0 where
  pub more_needed : split_number (split_of bytes) ≡ 0 → x.kind ≡ 0
  pub too_long : split_number (split_of bytes) ≡ 1 → x.kind ≡ 1
  pub whole : split_number (split_of bytes) ≡ 2 → (x.kind ≡ 2) ⊎ (x.kind ≡ 3)
  pub used : x.kind ≡ 3 → x.used ≡ 4 + length (frame_payload bytes)
  pub within : x.used ≤ length bytes
  pub names : NamesWithin (frame_payload bytes) buffer x.outcome
  pub unused : FirstUnusedZero x

abbrev pub FirstsTell : Type 0
FirstsTell =
    (state : State) (store bytes : List ℕ) (reading : Millis) (buffer : List ℕ) (x : FlatFirst) (after : State) (store_after reply : List ℕ)
    → FlatFirstMeets state store bytes reading buffer x after store_after reply → FirstFields bytes buffer x

-- and where a part that a call on the payload names lies in the connection's bytes: not behind the frame's end
abbrev pub CallPartsLie : Type 0
CallPartsLie =
    (state : State) (store bytes : List ℕ) (reading : Millis) (answers : FlatAnswers) (signature buffer : List ℕ) (outcome : FlatOutcome) (after : State)
    (store_after reply : List ℕ)
    → split_number (split_of bytes) ≡ 2
    → FlatMeets state store (frame_payload bytes) reading answers signature buffer outcome after store_after reply → outcome.kind ≢ 5
    → LiesIn bytes outcome.from outcome.to × (4 + outcome.to ≤ 4 + length (frame_payload bytes))

-- ## The inner calls (#113)

-- a step gave what meets the contract of `key_agent_inner_call`
pub record GaveInnerExport (state : State) (store : List ℕ) (k : Step) : Type 0 where
  pub answers : FlatAnswers
  pub outcome : FlatOutcome
  pub answers_are : k.answers ≡ answers_of answers
  pub ended_is : k.gave.ended ≡ flat_values outcome
  pub meets : FlatInnerMeets state store k.payload k.reading answers k.signature k.buffer outcome k.gave.state k.gave.store k.gave.reply

-- .. of `key_agent_inner_first`
pub record GaveInnerFirstExport (state : State) (store : List ℕ) (f : FirstStep) : Type 0 where
  pub first : FlatFirst
  pub ended_is : f.gave.ended ≡ flat_first_values first
  pub meets : FlatInnerFirstMeets state store f.bytes f.reading f.buffer first f.gave.state f.gave.store f.gave.reply

-- they require a sound state and store: on another nothing is known of what they gave
abbrev pub ByInnerExport : State → List ℕ → Step → Type 0
ByInnerExport state store k = Sound state store → GaveInnerExport state store k

abbrev pub ByInnerFirstExport : State → List ℕ → FirstStep → Type 0
ByInnerFirstExport state store f = Sound state store → GaveInnerFirstExport state store f

-- a run that starts with an exported outer call or from fresh and goes on with exported inner ones equals the run of outer ones, byte for byte
abbrev pub InnerExportPromises : Type 0
InnerExportPromises = InnerPromises ByFirstExport ByExport ByInnerFirstExport ByInnerExport
