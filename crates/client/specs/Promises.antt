-- What writers promise, as statements; the proofs are in proofs/.
use Rattle.std.specs.Prelude.{ℕ, ◌+◌, ◌^◌, ◌≤◌, ◌<◌, ◌≡◌, List, [], ◌∷◌, ◌↔◌, Result, length, take, drop}
use Rattle.wire.specs.Limits.{payload_limit}
use Rattle.wire.specs.declared.Constraint.{Constraint}
use Rattle.wire.specs.Numbers.{Bytes, be32}
use Rattle.wire.specs.Abnf.{Octets}
use Rattle.wire.specs.Read.{cut_of, byte_at, string_at}
use Rattle.wire.specs.Values.{read, number_reads, part_reads}
use Rattle.wire.specs.Write.{string}
use Rattle.wire.specs.Promises.{Longest, Holds}
use Rattle.wire.specs.Constraints.{constraint_forms}
use Rattle.wire.specs.declared.refusal.Refusal.{Refusal}
use Rattle.wire.specs.Refusals.{Where, no_place, at_place, grants, refuses, wrote_says}
use Rattle.client.specs.Forms.{CardForm}
use Rattle.client.specs.Requests.{request_identities, sign_request, lock_request, unlock_request, plain_smartcard, constrained_smartcard, remove_smartcard, add_smartcard, answered, filled, remove_smartcard_answer, remove_smartcard_left, add_smartcard_answer, add_smartcard_left}

-- ## Writers

-- the first n bytes are the payload's frame, which the splitter finds; the output behind them stays
pub record Sent (payload out left : List ℕ) (n : ℕ) : Type 0 where
  pub bytes : take n left ≡ string payload
  pub behind : drop n left ≡ drop n out
  pub splits : Holds (take n left) payload

-- a writer sends its payload, or leaves the output as it was
pub record Writes (payload out : List ℕ) (answer : Result ℕ Refusal) (left : List ℕ) : Type 0 where
  pub sent : (n : ℕ) → wrote_says answer ≡ grants n → Sent payload out left n
  pub untouched : (n : ℕ) (place : Where) → wrote_says answer ≡ refuses n place → left ≡ out

abbrev pub WriterRule : Type 0
WriterRule = (payload out : List ℕ) → Writes payload out (answered payload out) (filled payload out)

abbrev pub RemoveSmartcardRule : Type 0
RemoveSmartcardRule = (id pin out : List ℕ) → Writes (remove_smartcard id pin) out (remove_smartcard_answer id pin out) (remove_smartcard_left id pin out)

abbrev pub AddSmartcardRule : Type 0
AddSmartcardRule =
    (id pin : List ℕ) (cs : List Constraint) (count : ℕ) (out : List ℕ)
    → Writes (add_smartcard id pin cs count) out (add_smartcard_answer id pin cs count out) (add_smartcard_left id pin cs count out)

-- when each answer comes: "writers 18, 12, 17, 11"

-- a payload's own writer
pub record Framed (payload out : List ℕ) (answer : Result ℕ Refusal) : Type 0 where
  pub too_long : payload_limit < length payload → wrote_says answer ≡ refuses 17 no_place
  pub too_short : length payload ≤ payload_limit → length out < 4 + length payload → wrote_says answer ≡ refuses 11 no_place
  pub written : length payload ≤ payload_limit → 4 + length payload ≤ length out → wrote_says answer ≡ grants (4 + length payload)

abbrev pub WriterTable : Type 0
WriterTable = (payload out : List ℕ) → Framed payload out (answered payload out)

-- how long a payload is, whatever is given: so what no length of four bytes can say is too long to write
pub record PayloadSizes : Type 0 where
  pub list : length request_identities ≡ 1
  pub sign : (blob bytes : List ℕ) (flags : ℕ) → length (sign_request blob bytes flags) ≡ 13 + length blob + length bytes
  pub lock : (v : List ℕ) → length (lock_request v) ≡ 5 + length v
  pub unlock : (v : List ℕ) → length (unlock_request v) ≡ 5 + length v
  pub plain : (id pin : List ℕ) → length (plain_smartcard id pin) ≡ 9 + length id + length pin
  pub remove : (id pin : List ℕ) → length (remove_smartcard id pin) ≡ 9 + length id + length pin
  pub constrained : (id pin : List ℕ) (cs : List Constraint) → length (constrained_smartcard id pin cs) ≡ 9 + length id + length pin + length (constraint_forms cs)

-- before it, an id that is not UTF-8: the fault is where its longest part of UTF-8 ends
pub record CardRemoved (id pin out : List ℕ) : Type 0 where
  pub no_text : (n : ℕ) → (Octets id → ⊥) → Longest id n → wrote_says (remove_smartcard_answer id pin out) ≡ refuses 12 (at_place n)
  pub framed : Octets id → Framed (remove_smartcard id pin) out (remove_smartcard_answer id pin out)

abbrev pub RemoveSmartcardTable : Type 0
RemoveSmartcardTable = (id pin out : List ℕ) → CardRemoved id pin out

-- and before that, too many constraints; "no constraints gives 20; one to four .. give 26"
pub record CardAdded (id pin : List ℕ) (cs : List Constraint) (count : ℕ) (out : List ℕ) : Type 0 where
  pub none_given : count ≡ 0 → add_smartcard id pin cs count ≡ plain_smartcard id pin
  pub some_given : 1 ≤ count → add_smartcard id pin cs count ≡ constrained_smartcard id pin (take count cs)
  pub too_many : 4 < count → wrote_says (add_smartcard_answer id pin cs count out) ≡ refuses 18 no_place
  pub no_text : (n : ℕ) → count ≤ 4 → (Octets id → ⊥) → Longest id n → wrote_says (add_smartcard_answer id pin cs count out) ≡ refuses 12 (at_place n)
  pub plain : count ≡ 0 → Octets id → Framed (plain_smartcard id pin) out (add_smartcard_answer id pin cs count out)
  pub constrained : 1 ≤ count → count ≤ 4 → Octets id
      → Framed (constrained_smartcard id pin (take count cs)) out (add_smartcard_answer id pin cs count out)

abbrev pub AddSmartcardTable : Type 0
AddSmartcardTable = (id pin : List ℕ) (cs : List Constraint) (count : ℕ) (out : List ℕ) → CardAdded id pin cs count out

-- ## 26 is the draft's: "demand 2 follows the draft at this place from then on"

-- the bytes are the draft's form of these constraints exactly where they are the definition's
abbrev pub CardFormRule : Type 0
CardFormRule = (id pin : List ℕ) (cs : List Constraint) (payload : List ℕ) → CardForm id pin cs payload ↔ (payload ≡ constrained_smartcard id pin cs)

-- a frame stands at the front of an output, and its length is answered
abbrev pub AtFront : List ℕ → Result ℕ Refusal → List ℕ → Type 0
AtFront frame answer left = (wrote_says answer ≡ grants (length frame)) × (take (length frame) left ≡ frame)

-- at most four constraints, an id of UTF-8, the draft's form of all that was given, within the limit, and room for its frame
pub record CardFits (id pin : List ℕ) (cs : List Constraint) (count : ℕ) (out payload : List ℕ) : Type 0 where
  pub few : count ≤ 4
  pub text : Octets id
  pub form : CardForm id pin (take count cs) payload
  pub small : length payload ≤ payload_limit
  pub fits : 4 + length payload ≤ length out

-- with a constraint or more given, the writer writes a payload's frame exactly where the payload fits so
abbrev pub CardWritten : Type 0
CardWritten =
    (id pin : List ℕ) (cs : List Constraint) (count : ℕ) (out payload : List ℕ) → 1 ≤ count
    → AtFront (string payload) (add_smartcard_answer id pin cs count out) (add_smartcard_left id pin cs count out) ↔ CardFits id pin cs count out payload

-- ## What any reader finds in a request

-- strings are read one behind the other, from one place up to another
pub data Strings (s : List ℕ) : ℕ → List (List ℕ) → ℕ → Type 0 where
  none : (at : ℕ) → Strings s at [] at
  one : (at from to next end : ℕ) (v : List ℕ) (vs : List (List ℕ)) → part_reads (string_at s at) ≡ read (record { from = from; to = to }) next
      → cut_of s from to ≡ v → Strings s next vs end → Strings s at (v ∷ vs) end

-- the number, behind it the strings, and behind them `rest`
pub record RequestReads (byte : ℕ) (payload : List ℕ) (vs : List (List ℕ)) (rest : List ℕ) : Type 0 where
  pub first : number_reads (byte_at payload 0) ≡ read byte 1
  pub end : ℕ
  pub strings : Strings payload 1 vs end
  pub behind : drop end payload ≡ rest

abbrev pub ListFound : Type 0
ListFound = RequestReads 11 request_identities [] []

abbrev pub LockFound : Type 0
LockFound = (v : List ℕ) → Bytes v → length v < 2 ^ 32 → RequestReads 22 (lock_request v) (v ∷ []) []

abbrev pub UnlockFound : Type 0
UnlockFound = (v : List ℕ) → Bytes v → length v < 2 ^ 32 → RequestReads 23 (unlock_request v) (v ∷ []) []

abbrev pub SignFound : Type 0
SignFound =
    (blob bytes : List ℕ) (flags : ℕ) → Bytes blob → Bytes bytes → length blob < 2 ^ 32 → length bytes < 2 ^ 32
    → RequestReads 13 (sign_request blob bytes flags) (blob ∷ bytes ∷ []) (be32 flags)

-- "20 and 26 (id, PIN), 21"; behind the PIN of 26 the constraints
pub record CardsRead (id pin : List ℕ) : Type 0 where
  pub add : RequestReads 20 (plain_smartcard id pin) (id ∷ pin ∷ []) []
  pub remove : RequestReads 21 (remove_smartcard id pin) (id ∷ pin ∷ []) []
  pub constrained : (cs : List Constraint) → RequestReads 26 (constrained_smartcard id pin cs) (id ∷ pin ∷ []) (constraint_forms cs)

abbrev pub SmartcardRead : Type 0
SmartcardRead = (id pin : List ℕ) → Bytes id → Bytes pin → length id < 2 ^ 32 → length pin < 2 ^ 32 → CardsRead id pin
