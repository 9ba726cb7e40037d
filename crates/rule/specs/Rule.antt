-- 01's "Rule by first byte" as a plan: what to ask, what to do with each answer, and how to land. Rows and steps stand in 01's order.
use Rattle.std.specs.Prelude.{ℕ, ◌-◌, ◌/◌, ◌%◌, Bool, true, false, cond, List, [], ◌∷◌, ◌++◌, length, get_or, leb, ltb, eqb, Ok, Err}
use Rattle.std.proofs.Math.Option.{Option, none, some}
use Rattle.wire.specs.Limits.{passphrase_limit, last_number}
use Rattle.wire.specs.Numbers.{be32}
use Rattle.wire.specs.Read.{cut_of, same, string_at, number_at}
use Rattle.wire.specs.Steps.{part, number}
use Rattle.wire.specs.Write.{string}
use Rattle.keys.specs.declared.addition.Carried.{Carried}
use Rattle.keys.specs.Additions.{Addition}
use Rattle.keys.specs.Kinds.{blob_of}
use Rattle.keys.specs.Additions.{addition_at}
use Rattle.rule.specs.declared.Hash.{Hash}
use Rattle.rule.specs.declared.Hash.TheVariants.{Plain, Sha256, Sha512}
use Rattle.rule.specs.Gateway.{Entry, Gateway, locked, opened, seek, holds, found, entry_with, place_for, with_lock, without, without_all, NewKey, new_entry, with_entry}
use Rattle.rule.specs.Soundness.{fit}

-- ## Questions, landings, plans ("One call, six outcomes")

pub data Question : Type 0 where
  gate : ℕ → Question  -- class
  check : ℕ → ℕ → Question  -- the key fields' part of the payload
  confirmation : ℕ → Question  -- insertion number
  signature : ℕ → ℕ → ℕ → Hash → Question  -- insertion number, data part, hash choice

abbrev pub Answer : Question → Type 0
Answer (gate class) = Bool
Answer (check from to) = Bool
Answer (confirmation n) = Bool
Answer (signature n from to hash) = Option (List ℕ)

pub data Landing : Type 0 where
  reply : List ℕ → Landing
  close : Landing

-- "FAILURE is 00 00 00 01 05, SUCCESS 00 00 00 01 06."
abbrev pub FAILURE : Landing
FAILURE = reply (0 ∷ 0 ∷ 0 ∷ 1 ∷ 5 ∷ [])

abbrev pub SUCCESS : Landing
SUCCESS = reply (0 ∷ 0 ∷ 0 ∷ 1 ∷ 6 ∷ [])

pub data Plan : Type 0 where
  land : Landing → Gateway → Plan
  ask : (q : Question) → (Answer q → Plan) → Plan

-- FAILURE and closing alter nothing
abbrev pub fails : Gateway → Plan
fails g = land FAILURE g

abbrev pub closes : Gateway → Plan
closes g = land close g

-- ## The bodies, past the gate: what follows the first byte starts at place 1

-- 11: "length, 12, count, then per entry in" list "order the blob as a string and" (#101) the comment "where the empty string stood"
abbrev pub item : Entry → List ℕ
item e = string e.blob ++ string e.comment

unfoldable pub items : List Entry → List ℕ
items [] = []
items (e ∷ es) = item e ++ items es

unfoldable pub listed : List Entry → List ℕ
listed es = string (12 ∷ (be32 (length es) ++ items es))

unfoldable pub listing : Gateway → Plan
listing g = land (reply (listed g.entries)) g

-- 18: "blob string; held: removed .., SUCCESS. Absent or malformed: FAILURE."
unfoldable pub removing : Gateway → List ℕ → Plan
removing g payload =
    part (λ _. fails g) (string_at payload 1) λ from to next.
    found (fails g) (seek (holds (cut_of payload from to)) 0 g.entries) λ i.
    land SUCCESS (without i g)

-- 19: "all removed .., SUCCESS"
unfoldable pub removing_all : Gateway → Plan
removing_all g = land SUCCESS (without_all g)

-- 22: "malformed or over 1,024 bytes: FAILURE; else stored, SUCCESS. An empty passphrase leaves it open."
unfoldable pub locking : Gateway → List ℕ → Plan
locking g payload =
    part (λ _. fails g) (string_at payload 1) λ from to next.
    cond (leb (to - from) passphrase_limit) (land SUCCESS (with_lock (cut_of payload from to) g)) (fails g)

-- 23: "equal to the stored one: zeroed, SUCCESS. Else, or malformed: FAILURE."
unfoldable pub unlocking : Gateway → List ℕ → Plan
unlocking g payload =
    part (λ _. fails g) (string_at payload 1) λ from to next.
    cond (same g.lock (cut_of payload from to)) (land SUCCESS (with_lock [] g)) (fails g)

-- "Flag 2 set: SHA-256; else flag 4: SHA-512; else none."
unfoldable pub hash_of : ℕ → Hash
hash_of flags = cond (eqb (flags / 2 % 2) 1) Sha256 (cond (eqb (flags / 4 % 2) 1) Sha512 Plain)

-- "Reply: length, 14, signature blob as a string."
unfoldable pub signature_reply : List ℕ → List ℕ
signature_reply blob = string (14 ∷ string blob)

-- "Ask the signer; none given: close."
unfoldable pub signed : Gateway → Option (List ℕ) → Plan
signed g none = closes g
signed g (some blob) = land (reply (signature_reply blob)) g

-- "Then data string and flags (u32); malformed: close."
unfoldable pub signing_data : Gateway → List ℕ → ℕ → ℕ → Plan
signing_data g payload n at =
    part (λ _. closes g) (string_at payload at) λ from to next.
    number (λ _. closes g) (number_at payload next.at) λ flags end.
    ask (signature n from to (hash_of flags)) (signed g)

-- "Absent: FAILURE. If Confirm: ask; no is FAILURE."
unfoldable pub confirming : Gateway → List ℕ → Option Entry → ℕ → Plan
confirming g payload none at = fails g
confirming g payload (some e) at =
    cond e.confirm
    (ask (confirmation e.number) λ granted. cond granted (signing_data g payload e.number at) (fails g))
    (signing_data g payload e.number at)

-- 13: "blob malformed: close."
unfoldable pub signing : Gateway → List ℕ → Plan
signing g payload =
    part (λ _. closes g) (string_at payload 1) λ from to next.
    confirming g payload (entry_with (cut_of payload from to) g.entries) next.at

-- going on with what an add request carries
unfoldable pub added : {A : Type 0} → A → Addition → (Carried → A) → A
added z (Ok c) next = next c
added z (Err e) next = z

-- what it brings, with the blob that was made of its fields
abbrev pub brought : List ℕ → Carried → List ℕ → NewKey
brought payload c blob = record {
  blob = blob;
  fields = cut_of payload 1 c.places.end;
  comment = cut_of payload c.comment.from c.comment.to;
  lifetime = c.lifetime;
  confirm = c.confirm;
}

-- the entry that it makes: the next number, the kept clock as reading
abbrev pub entry_of : Gateway → List ℕ → Carried → List ℕ → Entry
entry_of g payload c blob = new_entry g.next g.clock (brought payload c blob)

-- "FAILURE if a length limit is passed, the next insertion number is 2^64-1, or" there is no room (#112). "Then the key check; no is
-- FAILURE. Else stored, next number taken, SUCCESS."
unfoldable pub storing : Gateway → Entry → ℕ → Plan
storing g e to =
    cond (fit e.blob e.fields e.comment)
    (cond (ltb g.next last_number)
    (found (fails g) (place_for e g.entries) λ i.
    ask (check 1 to) λ granted. cond granted (land SUCCESS (with_entry i e g)) (fails g))
    (fails g))
    (fails g)

-- 17, 25: "key fields, comment string .., and for 25 constraints; any fault is FAILURE"
unfoldable pub adding : Bool → Gateway → List ℕ → Plan
adding constrained g payload =
    added (fails g) (addition_at payload 1 constrained) λ c.
    storing g (entry_of g payload c (blob_of payload 1 c.places)) c.places.end

-- ## The table by first byte

-- "wrong lock state: FAILURE, no question. Then the gate; no means FAILURE."
unfoldable pub gated : Gateway → Bool → ℕ → Plan → Plan
gated g fit class body = cond fit (ask (gate class) λ granted. cond granted body (fails g)) (fails g)

-- a row of the table: the byte, the lock state that it needs, the gate class, the body; else the rows below
unfoldable pub row : Gateway → ℕ → ℕ → Bool → ℕ → Plan → Plan → Plan
row g first byte fit class body below = cond (eqb first byte) (gated g fit class body) below

unfoldable pub table : Gateway → List ℕ → ℕ → Plan
table g payload first =
    row g first 11 (opened g) 1 (listing g)
    (row g first 17 (opened g) 2 (adding false g payload)
    (row g first 25 (opened g) 2 (adding true g payload)
    (row g first 18 (opened g) 3 (removing g payload)
    (row g first 19 (opened g) 4 (removing_all g)
    (row g first 13 (opened g) 5 (signing g payload)
    (row g first 22 (opened g) 6 (locking g payload)
    (row g first 23 (locked g) 7 (unlocking g payload)
    (fails g))))))))

-- "Empty payload, any other byte ..: FAILURE, no question."
unfoldable pub rule : Gateway → List ℕ → Plan
rule g payload = cond (ltb 0 (length payload)) (table g payload (get_or payload 0 0)) (fails g)
