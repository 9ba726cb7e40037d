-- The promises of 13, over the draft's form of a sign request: what is asked, what goes out, what closes and what fails.
use Rattle.std.specs.Prelude.{ℕ, ◌+◌, ◌%◌, ◌^◌, ◌≤◌, ◌<◌, ◌≡◌, ◌↔◌, ◌≢◌, true, false, List, ◌∷◌, ◌++◌, length}
use Rattle.std.proofs.Math.Option.{none, some}
use Rattle.wire.specs.Numbers.{Bytes, be32}
use Rattle.wire.specs.Write.{string}
use Rattle.rule.specs.declared.Hash.{Hash}
use Rattle.rule.specs.declared.Hash.TheVariants.{Plain, Sha256, Sha512}
use Rattle.rule.specs.Gateway.{Entry, Gateway, locked}
use Rattle.rule.specs.Rule.{confirmation, signature, reply, close, FAILURE}
use Rattle.rule.specs.Calls.{Call, asks, lands, call}
use Rattle.rule.specs.Words.{Begins, Carries, Held, at_call, payload_of, PastGate}

-- a sign request as the draft writes it; bytes behind the flags are ignored
pub record SignRequest (payload blob bytes : List ℕ) (flags : ℕ) : Type 0 where
  pub rest : List ℕ
  pub short : flags < 2 ^ 32
  pub shape : payload ≡ 13 ∷ (string blob ++ (string bytes ++ (be32 flags ++ rest)))

-- "Flag 2 set: SHA-256; else flag 4: SHA-512; else none."
pub record HashTable (flags : ℕ) (hash : Hash) : Type 0 where
  pub flag_2 : 2 ≤ flags % 4 → hash ≡ Sha256
  pub flag_4 : flags % 4 < 2 → 4 ≤ flags % 8 → hash ≡ Sha512
  pub neither : flags % 4 < 2 → flags % 8 < 4 → hash ≡ Plain

-- a yes that carries the key's own number, where the key has Confirm
abbrev pub Confirmed : Call → Entry → Type 0
Confirmed c e = e.confirm ≡ true → c.answers.confirmation ≡ some (record { number = e.number; answer = true })

-- Past the gate of an open gateway, the signer is asked for a held key's number, the data of the request and the hash that its flags choose, and
-- only after a Confirm key's yes. The data's part lies behind the first byte, the blob's string and the data's own length.
abbrev pub SignatureAsks : Type 0
SignatureAsks =
    (g : Gateway) (c : Call) (n from to : ℕ) (hash : Hash) → Bytes (payload_of c) → (call g c).outcome ≡ asks (signature n from to hash)
    → PastGate g c × (locked g ≡ false) × (e : Entry) × (bytes : List ℕ) × (flags : ℕ) × Held (at_call g c) e × (e.number ≡ n)
    × SignRequest (payload_of c) e.blob bytes flags × (from ≡ 1 + length (string e.blob) + 4) × (to ≡ from + length bytes)
    × HashTable flags hash × Confirmed c e

-- past the gate of an open gateway, a confirmation is asked where a sign request names a held key with Confirm, for that key's number
abbrev pub ConfirmationAsks : Type 0
ConfirmationAsks =
    (g : Gateway) (c : Call) (n : ℕ) → (call g c).outcome ≡ asks (confirmation n)
    → PastGate g c × (locked g ≡ false) × Begins 13 (payload_of c)
    × (e : Entry) × Held (at_call g c) e × (e.number ≡ n) × (e.confirm ≡ true) × Carries e.blob (payload_of c)

-- a signature goes out only for a held key, with the signer's own bytes for that key's number, and only after a Confirm key's yes
abbrev pub SignsOnly : Type 0
SignsOnly =
    (g : Gateway) (c : Call) (bytes : List ℕ) → Begins 13 (payload_of c) → (call g c).outcome ≡ lands (reply bytes) → reply bytes ≢ FAILURE
    → (e : Entry) × (blob : List ℕ) × Held (at_call g c) e × Carries e.blob (payload_of c)
    × (c.answers.signature ≡ some (record { number = e.number; answer = some blob })) × (bytes ≡ string (14 ∷ string blob)) × Confirmed c e

-- an open gateway answers a well-formed sign request for a held key when gate, confirmation and signer say yes
abbrev pub SignsAlways : Type 0
SignsAlways =
    (g : Gateway) (c : Call) (e : Entry) (bytes blob : List ℕ) (flags : ℕ) → Bytes (payload_of c) → PastGate g c → locked g ≡ false
    → Held (at_call g c) e → SignRequest (payload_of c) e.blob bytes flags → Confirmed c e
    → c.answers.signature ≡ some (record { number = e.number; answer = some blob })
    → (call g c).outcome ≡ lands (reply (string (14 ∷ string blob)))

-- why a sign request past the gate closes: its blob is malformed; its data or flags are, once a Confirm key has its yes; the signer gave none
pub data Closes (g : Gateway) (c : Call) : Type 0 where
  no_blob : ((v : List ℕ) → Carries v (payload_of c) → ⊥) → Closes g c
  no_data : (e : Entry) → Held (at_call g c) e → Carries e.blob (payload_of c) → Confirmed c e
      → ((bytes : List ℕ) (flags : ℕ) → SignRequest (payload_of c) e.blob bytes flags → ⊥) → Closes g c
  no_signature : (e : Entry) (bytes : List ℕ) (flags : ℕ) → Held (at_call g c) e → SignRequest (payload_of c) e.blob bytes flags → Confirmed c e
      → c.answers.signature ≡ some (record { number = e.number; answer = none }) → Closes g c

-- a call closes exactly so
abbrev pub CloseRule : Type 0
CloseRule =
    (g : Gateway) (c : Call) → Bytes (payload_of c)
    → ((call g c).outcome ≡ lands close) ↔ (PastGate g c × (locked g ≡ false) × Begins 13 (payload_of c) × Closes g c)

-- why a sign request past the gate fails: its key is absent, or its Confirm key got a no that carries its number
pub data SignFails (g : Gateway) (c : Call) : Type 0 where
  absent : (v : List ℕ) → Carries v (payload_of c) → ((e : Entry) → Held (at_call g c) e → e.blob ≢ v) → SignFails g c
  denied : (e : Entry) → Held (at_call g c) e → Carries e.blob (payload_of c) → e.confirm ≡ true
      → c.answers.confirmation ≡ some (record { number = e.number; answer = false }) → SignFails g c

abbrev pub SignFailRule : Type 0
SignFailRule =
    (g : Gateway) (c : Call) → PastGate g c → locked g ≡ false → Begins 13 (payload_of c)
    → ((call g c).outcome ≡ lands FAILURE) ↔ SignFails g c
