-- What the readers of the two replies promise, as statements; the proofs are in proofs/.
use Rattle.std.specs.Prelude.{ℕ, ◌+◌, ◌^◌, ◌≤◌, ◌<◌, ◌≡◌, List, [], ◌∷◌, ◌++◌, Result, map, true, ◌↔◌, length, get_or, take}
use Rattle.wire.specs.Numbers.{Bytes, be32}
use Rattle.wire.specs.Texts.{bytes}
use Rattle.wire.specs.Abnf.{Octets}
use Rattle.wire.specs.Write.{write, string}
use Rattle.wire.specs.Promises.{OneToOne, NoString, Longest}
use Rattle.wire.specs.Refusals.{Where, no_place, at_place, Says, grants, refuses, wrote_says}
use Rattle.wire.specs.declared.refusal.Refusal.{Refusal}
use Rattle.readers.specs.declared.identities.Blob.{Blob}
use Rattle.readers.specs.Values.{listing_says, Identity, item_says}
use Rattle.readers.specs.Identities.{count_of, certificate, item_of, blob_of_item, blob_from}
use Rattle.readers.specs.Signatures.{fits, signature_answer, signature_left}

-- ## The list of keys

-- items as the draft writes them, beside their blobs: each is a blob and a comment of UTF-8
pub data ItemForms : List (List ℕ) → List ℕ → Type 0 where
  none : ItemForms [] []
  item : {blobs : List (List ℕ)} {forms : List ℕ} (blob comment : List ℕ) → length blob < 2 ^ 32 → length comment < 2 ^ 32 → Octets comment
      → ItemForms blobs forms → ItemForms (blob ∷ blobs) (string blob ++ (string comment ++ forms))

-- what stands behind the 12: a count, as many items, and anything
pub record ListForm (p : List ℕ) (blobs : List (List ℕ)) : Type 0 where
  pub forms : List ℕ
  pub rest : List ℕ
  pub few : length blobs < 2 ^ 32
  pub whole : ItemForms blobs forms
  pub shape : p ≡ be32 (length blobs) ++ (forms ++ rest)

-- n items are counted exactly where n items stand whole
abbrev pub CountRule : Type 0
CountRule = (p : List ℕ) (n : ℕ) → Bytes p → (listing_says (count_of (12 ∷ p)) ≡ grants n) ↔ ((blobs : List (List ℕ)) × ListForm p blobs × (length blobs ≡ n))

-- and each is handed out as its blob
abbrev pub ItemRule : Type 0
ItemRule = (p : List ℕ) (blobs : List (List ℕ)) → Bytes p → ListForm p blobs → (i : ℕ) → i < length blobs → blob_of_item (12 ∷ p) i ≡ get_or blobs i []

-- no item stands in bytes that begin at a place, and where the fault is: at a length, or where a comment's longest part of UTF-8 ends
pub data ItemFault (at : ℕ) : List ℕ → ℕ → Type 0 where
  blob_cut : (s : List ℕ) → NoString s → ItemFault at s at
  comment_cut : (blob s : List ℕ) → length blob < 2 ^ 32 → NoString s → ItemFault at (string blob ++ s) (at + 4 + length blob)
  comment_no_text : (blob comment rest : List ℕ) (n : ℕ) → length blob < 2 ^ 32 → length comment < 2 ^ 32 → (Octets comment → ⊥) → Longest comment n
      → ItemFault at (string blob ++ (string comment ++ rest)) (at + 4 + length blob + 4 + n)

-- behind the 12 stands no count, or behind whole items, fewer than the count says, no item
pub data ListFault : List ℕ → ℕ → Type 0 where
  count_cut : (p : List ℕ) → length p < 4 → ListFault p 1
  item-cut : {blobs : List (List ℕ)} {forms rest : List ℕ} (n place : ℕ) → n < 2 ^ 32 → length blobs < n → ItemForms blobs forms
      → ItemFault (5 + length forms) rest place → ListFault (be32 n ++ (forms ++ rest)) place

-- when each answer comes: "payload empty or not type 12: count 0"; "identities 12, 16"
pub record ListSays (payload : List ℕ) : Type 0 where
  pub other : ((p : List ℕ) → payload ≡ 12 ∷ p → ⊥) → listing_says (count_of payload) ≡ grants 0
  pub faulty : (p : List ℕ) → payload ≡ 12 ∷ p → ((blobs : List (List ℕ)) → ListForm p blobs → ⊥)
      → (place : ℕ) × (listing_says (count_of payload) ≡ refuses 12 (at_place place))
  pub fault_at : (p : List ℕ) (place : ℕ) → payload ≡ 12 ∷ p → ListFault p place → listing_says (count_of payload) ≡ refuses 12 (at_place place)
  pub counts : (p : List ℕ) (blobs : List (List ℕ)) → payload ≡ 12 ∷ p → ListForm p blobs → listing_says (count_of payload) ≡ grants (length blobs)

abbrev pub ListTable : Type 0
ListTable = (payload : List ℕ) → Bytes payload → ListSays payload

-- item i of a list: behind as many whole items stands its blob's length, and then its blob
pub record ItemLies (p : List ℕ) (blobs : List (List ℕ)) (i from : ℕ) : Type 0 where
  pub forms : List ℕ
  pub rest : List ℕ
  pub before : ItemForms (take i blobs) forms
  pub shape : p ≡ be32 (length blobs) ++ (forms ++ (string (get_or blobs i []) ++ rest))
  pub behind : from ≡ 5 + length forms + 4

-- an item is handed out: its blob, where it lies
pub record HandsOut (payload : List ℕ) (i : ℕ) (blob : List ℕ) (from : ℕ) : Type 0 where
  pub says : item_says (item_of payload i) ≡ grants (record { from = from; to = from + length blob; marked = certificate blob })
  pub bytes : blob_of_item payload i ≡ blob
  pub place : blob_from payload i ≡ from

-- and of each item; its blob is "empty unless granted", and then lies at the start
pub record ItemSays (payload : List ℕ) (i : ℕ) : Type 0 where
  pub faulty : (place : ℕ) → listing_says (count_of payload) ≡ refuses 12 (at_place place) → item_says (item_of payload i) ≡ refuses 12 (at_place place)
  pub beyond : (n : ℕ) → listing_says (count_of payload) ≡ grants n → n ≤ i → item_says (item_of payload i) ≡ refuses 16 no_place
  pub item : (p : List ℕ) (blobs : List (List ℕ)) → payload ≡ 12 ∷ p → ListForm p blobs → i < length blobs
      → (from : ℕ) × ItemLies p blobs i from × HandsOut payload i (get_or blobs i []) from
  pub else_empty : (n : ℕ) (w : Where) → item_says (item_of payload i) ≡ refuses n w → blob_of_item payload i ≡ []
  pub else_start : (n : ℕ) (w : Where) → item_says (item_of payload i) ≡ refuses n w → blob_from payload i ≡ 0

abbrev pub ItemTable : Type 0
ItemTable = (payload : List ℕ) (i : ℕ) → Bytes payload → ItemSays payload i

-- the values of a count and of an item tell it from every other
pub record ListingsApart : Type 0 where
  pub listings : OneToOne (Result ℕ Refusal) (Says ℕ) listing_says
  pub items : OneToOne (Result Blob Refusal) (Says Identity) item_says

-- ## Lists as they are written

-- an item: its blob and its comment
pub record Listed : Type 0 where
  pub blob : List ℕ
  pub comment : List ℕ

abbrev pub listed_forms : List Listed → List ℕ
listed_forms [] = []
listed_forms (e ∷ es) = string e.blob ++ (string e.comment ++ listed_forms es)

-- the payload of a list reply
abbrev pub list_payload : List Listed → List ℕ
list_payload es = 12 ∷ (be32 (length es) ++ listed_forms es)

abbrev pub listed_blobs : List Listed → List (List ℕ)
listed_blobs es = map (λ e. e.blob) es

-- where in it the blob of item i begins: behind the 12, the count, the items before it and its own length
abbrev pub listed_place : List Listed → ℕ → ℕ
listed_place es i = 5 + length (listed_forms (take i es)) + 4

-- the items are counted, and each is handed out as its blob, where it lies
pub record ReadsListed (payload : List ℕ) (es : List Listed) : Type 0 where
  pub count : listing_says (count_of payload) ≡ grants (length es)
  pub items : (i : ℕ) → i < length es → HandsOut payload i (get_or (listed_blobs es) i []) (listed_place es i)

-- an item that has the draft's form
pub record Listable (e : Listed) : Type 0 where
  pub bytes : Bytes e.blob
  pub text : Octets e.comment
  pub blob_small : length e.blob < 2 ^ 32
  pub comment_small : length e.comment < 2 ^ 32

abbrev pub Each : {A : Type 0} → (A → Type 0) → List A → Type 0
Each P [] = Unit {0}
Each P (e ∷ es) = P e × Each P es

abbrev pub WrittenListRead : Type 0
WrittenListRead = (es : List Listed) → Each Listable es → length es < 2 ^ 32 → ReadsListed (list_payload es) es

-- ## The mark

-- the first string is a text that ends as the type of a certificate does
pub record Marked (blob : List ℕ) : Type 0 where
  pub front : List ℕ
  pub rest : List ℕ
  pub small : length (front ++ bytes "-cert-v01@openssh.com") < 2 ^ 32
  pub text : Octets (front ++ bytes "-cert-v01@openssh.com")
  pub shape : blob ≡ string (front ++ bytes "-cert-v01@openssh.com") ++ rest

abbrev pub MarkRule : Type 0
MarkRule = (blob : List ℕ) → Bytes blob → (certificate blob ≡ true) ↔ Marked blob

-- ## The signature

-- a hash, and a type that fits it
pub data Fitting : ℕ → List ℕ → Type 0 where
  any : (t : List ℕ) → Fitting 0 t
  sha256 : Fitting 2 (bytes "rsa-sha2-256")
  sha512 : Fitting 4 (bytes "rsa-sha2-512")

abbrev pub FitRule : Type 0
FitRule = (hash : ℕ) (t : List ℕ) → (fits hash t ≡ true) ↔ Fitting hash t

-- a type, and a signature of it as the draft writes it: type and bytes, and for a type of a touch key a byte of flags and a counter
pub data SignatureForm : List ℕ → List ℕ → Type 0 where
  plain : (t sig : List ℕ) → Octets t → ((w : List ℕ) → t ≡ bytes "sk-" ++ w → ⊥) → SignatureForm t (string t ++ string sig)
  touched : (w sig : List ℕ) (flags counter : ℕ) → Octets (bytes "sk-" ++ w) → counter < 2 ^ 32
      → SignatureForm (bytes "sk-" ++ w) (string (bytes "sk-" ++ w) ++ (string sig ++ (flags ∷ be32 counter)))

-- a reply that carries one; what is left over inside its string and behind it is ignored
pub record CarriesSignature (payload : List ℕ) (t signature : List ℕ) : Type 0 where
  pub rest : List ℕ
  pub behind : List ℕ
  pub form : SignatureForm t signature
  pub small : length (signature ++ rest) < 2 ^ 32
  pub shape : payload ≡ 14 ∷ (string (signature ++ rest) ++ behind)

-- the signature with its length is written to the front of an output that it fits in
pub record WritesSignature (payload : List ℕ) (hash : ℕ) (signature out : List ℕ) : Type 0 where
  pub written : length (string signature) ≤ length out → wrote_says (signature_answer payload hash out) ≡ grants (length (string signature))
  pub left : length (string signature) ≤ length out → signature_left payload hash out ≡ write out 0 (string signature)
  pub short : length out < length (string signature) → wrote_says (signature_answer payload hash out) ≡ refuses 11 no_place
  pub untouched : length out < length (string signature) → signature_left payload hash out ≡ out

abbrev pub SignatureRule : Type 0
SignatureRule =
    (payload : List ℕ) (hash : ℕ) (t signature out : List ℕ) → Bytes payload → Fitting hash t → CarriesSignature payload t signature
    → WritesSignature payload hash signature out

-- a signature is written exactly where a reply carries it, its type fits the hash, and the output has room
abbrev pub WrittenRule : Type 0
WrittenRule =
    (payload : List ℕ) (hash : ℕ) (out : List ℕ) (n : ℕ) → Bytes payload
    → (wrote_says (signature_answer payload hash out) ≡ grants n)
    ↔ ((t : List ℕ) × (signature : List ℕ) × Fitting hash t × CarriesSignature payload t signature × (length (string signature) ≡ n) × (n ≤ length out))

-- a reply whose string starts with the text t, and holds anything behind it
pub record Typed (payload t : List ℕ) : Type 0 where
  pub rest : List ℕ
  pub behind : List ℕ
  pub text : Octets t
  pub small : length (string t ++ rest) < 2 ^ 32
  pub shape : payload ≡ 14 ∷ (string (string t ++ rest) ++ behind)

-- what stands behind the 14 is malformed, and where, as a place in the payload: no string; inside it no type, or a type that is not UTF-8; behind a
-- type that fits, no signature; behind that of a touch key no flags, or no counter
pub data SignatureFault (hash : ℕ) : List ℕ → ℕ → Type 0 where
  string-cut : (p : List ℕ) → NoString p → SignatureFault hash p 1
  type_cut : (v behind : List ℕ) → length v < 2 ^ 32 → NoString v → SignatureFault hash (string v ++ behind) 5
  type_no_text : (t rest behind : List ℕ) (n : ℕ) → length (string t ++ rest) < 2 ^ 32 → (Octets t → ⊥) → Longest t n
      → SignatureFault hash (string (string t ++ rest) ++ behind) (9 + n)
  signature_cut : (t rest behind : List ℕ) → length (string t ++ rest) < 2 ^ 32 → Octets t → Fitting hash t → NoString rest
      → SignatureFault hash (string (string t ++ rest) ++ behind) (9 + length t)
  flags_cut : (w sig behind : List ℕ) → length (string (bytes "sk-" ++ w) ++ string sig) < 2 ^ 32 → Octets (bytes "sk-" ++ w) → Fitting hash (bytes "sk-" ++ w)
      → SignatureFault hash (string (string (bytes "sk-" ++ w) ++ string sig) ++ behind) (9 + length (bytes "sk-" ++ w) + 4 + length sig)
  counter_cut : (w sig rest behind : List ℕ) (flags : ℕ) → length (string (bytes "sk-" ++ w) ++ (string sig ++ (flags ∷ rest))) < 2 ^ 32
      → Octets (bytes "sk-" ++ w) → Fitting hash (bytes "sk-" ++ w) → length rest < 4
      → SignatureFault hash (string (string (bytes "sk-" ++ w) ++ (string sig ++ (flags ∷ rest))) ++ behind) (9 + length (bytes "sk-" ++ w) + 4 + length sig + 1)

-- when each answer comes: "signature 14, 15, 12 (up to t), 13, 12, 11"; and no refusal touches the output
pub record SignatureSays (payload : List ℕ) (hash : ℕ) (out : List ℕ) : Type 0 where
  pub failure : (p : List ℕ) → payload ≡ 5 ∷ p → wrote_says (signature_answer payload hash out) ≡ refuses 14 no_place
  pub other : ((p : List ℕ) → payload ≡ 5 ∷ p → ⊥) → ((p : List ℕ) → payload ≡ 14 ∷ p → ⊥)
      → wrote_says (signature_answer payload hash out) ≡ refuses 15 no_place
  pub no_type : (p : List ℕ) → payload ≡ 14 ∷ p → ((t : List ℕ) → Typed payload t → ⊥)
      → (place : ℕ) × (wrote_says (signature_answer payload hash out) ≡ refuses 12 (at_place place))
  pub unfit : (t : List ℕ) → Typed payload t → (Fitting hash t → ⊥) → wrote_says (signature_answer payload hash out) ≡ refuses 13 no_place
  pub no_signature : (t : List ℕ) → Typed payload t → Fitting hash t → ((signature : List ℕ) → CarriesSignature payload t signature → ⊥)
      → (place : ℕ) × (wrote_says (signature_answer payload hash out) ≡ refuses 12 (at_place place))
  pub fault_at : (p : List ℕ) (place : ℕ) → payload ≡ 14 ∷ p → SignatureFault hash p place
      → wrote_says (signature_answer payload hash out) ≡ refuses 12 (at_place place)
  pub short : (t signature : List ℕ) → Fitting hash t → CarriesSignature payload t signature → length out < length (string signature)
      → wrote_says (signature_answer payload hash out) ≡ refuses 11 no_place
  pub written : (t signature : List ℕ) → Fitting hash t → CarriesSignature payload t signature → length (string signature) ≤ length out
      → wrote_says (signature_answer payload hash out) ≡ grants (length (string signature))
  pub untouched : (n : ℕ) (w : Where) → wrote_says (signature_answer payload hash out) ≡ refuses n w → signature_left payload hash out ≡ out

abbrev pub SignatureTable : Type 0
SignatureTable = (payload : List ℕ) (hash : ℕ) (out : List ℕ) → Bytes payload → SignatureSays payload hash out

-- a sign reply is read whole: all that stands behind the 14 is written
abbrev pub SignatureRead : Type 0
SignatureRead =
    (hash : ℕ) (t signature out : List ℕ) → Bytes signature → length signature < 2 ^ 32 → Fitting hash t → SignatureForm t signature
    → WritesSignature (14 ∷ string signature) hash signature out
