-- What the client writes the rule reads, and what the rule sends the client reads, as statements; the proofs are in proofs/.
use Rattle.std.specs.Prelude.{ℕ, ◌+◌, ◌^◌, ◌≤◌, ◌<◌, ◌≡◌, List, [], ◌∷◌, ◌++◌, None, map, ◌≢◌, Bool, true, false, length, get_or, take, drop}
use Rattle.std.proofs.Math.Option.{none, some}
use Rattle.wire.specs.declared.Seconds.{Seconds}
use Rattle.wire.specs.declared.Constraint.{Constraint}
use Rattle.wire.specs.declared.Constraint.TheVariants.{KeyLifetime, Confirm}
use Rattle.wire.specs.Numbers.{Bytes, be32}
use Rattle.wire.specs.Read.{cut_of, number_at, string_at}
use Rattle.wire.specs.Values.{read, number_reads, part_reads}
use Rattle.wire.specs.Write.{string}
use Rattle.wire.specs.Promises.{Holds}
use Rattle.wire.specs.Refusals.{grants, wrote_says}
use Rattle.wire.specs.Constraints.{constraint_forms}
use Rattle.keys.specs.Constraints.{walk_of}
use Rattle.keys.specs.Values.{Walked, ended, second_lifetime, walk_says}
use Rattle.rule.specs.Gateway.{Entry, Gateway, fresh}
use Rattle.rule.specs.Rule.{reply, FAILURE, signature_reply}
use Rattle.rule.specs.Calls.{Call, lands, call}
use Rattle.rule.specs.Runs.{end_of}
use Rattle.rule.specs.Words.{Begins, Carries, at_call, payload_of}
use Rattle.rule.specs.Listing.{item_forms}
use Rattle.rule.specs.Signing.{SignRequest}
use Rattle.rule.specs.Comments.{TextComments, ByteBlobs, BytesIn}
use Rattle.client.specs.Requests.{request_identities, sign_request, lock_request, unlock_request, add_smartcard_answer, add_smartcard_left}
use Rattle.client.specs.Promises.{RequestReads}
use Rattle.readers.specs.Values.{listing_says}
use Rattle.readers.specs.Identities.{count_of}
use Rattle.readers.specs.Promises.{HandsOut, Listed, Listable, Each}

-- ## What the gateway's rule reads from a request is what was given

abbrev pub ListRead : Type 0
ListRead = Begins 11 request_identities

abbrev pub LockRead : Type 0
LockRead = (v : List ℕ) → Bytes v → length v < 2 ^ 32 → Begins 22 (lock_request v) × Carries v (lock_request v)

abbrev pub UnlockRead : Type 0
UnlockRead = (v : List ℕ) → Bytes v → length v < 2 ^ 32 → Begins 23 (unlock_request v) × Carries v (unlock_request v)

-- behind the blob stand the data and the flags
pub record SignReads (payload blob bytes : List ℕ) (flags : ℕ) : Type 0 where
  pub byte : Begins 13 payload
  pub key : Carries blob payload
  pub from : ℕ
  pub to : ℕ
  pub next : ℕ
  pub end : ℕ
  pub data_read : part_reads (string_at payload key.next.at) ≡ read (record { from = from; to = to }) next
  pub data_is : cut_of payload from to ≡ bytes
  pub flags_read : number_reads (number_at payload next) ≡ read flags end
  pub form : SignRequest payload blob bytes flags

abbrev pub SignRead : Type 0
SignRead =
    (blob bytes : List ℕ) (flags : ℕ) → Bytes blob → Bytes bytes → length blob < 2 ^ 32 → length bytes < 2 ^ 32 → flags < 2 ^ 32
    → SignReads (sign_request blob bytes flags) blob bytes flags

-- ## Smartcards: the walk over the constraints of 26

-- the seconds of each lifetime, in their order
abbrev pub lifetimes_among : List Constraint → List ℕ
lifetimes_among [] = []
lifetimes_among (KeyLifetime seconds ∷ cs) = seconds.count ∷ lifetimes_among cs
lifetimes_among (Confirm ∷ cs) = lifetimes_among cs

-- Confirm is among them
abbrev pub confirm_among : List Constraint → Bool
confirm_among [] = false
confirm_among (KeyLifetime seconds ∷ cs) = confirm_among cs
confirm_among (Confirm ∷ cs) = true

-- the walk from `at` stops at the second lifetime, behind constraints with one
pub record StopsAtSecond (cs : List Constraint) (at : ℕ) (w : Walked) : Type 0 where
  pub before : List Constraint
  pub seconds : Seconds
  pub rest : List Constraint
  pub among : cs ≡ before ++ (KeyLifetime seconds ∷ rest)
  pub one_before : length (lifetimes_among before) ≡ 1
  pub says : w ≡ second_lifetime (at + length (constraint_forms before))

-- the walk gives constraints back, whatever their number and order: "1 then u32 seconds, once only; 2, repeats counting once"
pub record GivenBack (cs : List Constraint) (at : ℕ) (w : Walked) : Type 0 where
  pub no_lifetime : lifetimes_among cs ≡ [] → w ≡ ended (record { seconds = none; confirm = confirm_among cs })
  pub one_lifetime : (n : ℕ) → lifetimes_among cs ≡ n ∷ [] → w ≡ ended (record { seconds = some n; confirm = confirm_among cs })
  pub more_lifetimes : (n m : ℕ) (ns : List ℕ) → lifetimes_among cs ≡ n ∷ m ∷ ns → StopsAtSecond cs at w

-- bytes that were sent reach an agent: its splitter gives back a payload of 26, in it id and PIN are read, and behind them the walk gives back these
pub record ReachesAgent (sent id pin : List ℕ) (cs : List Constraint) : Type 0 where
  pub payload : List ℕ
  pub splits : Holds sent payload
  pub reads : RequestReads 26 payload (id ∷ pin ∷ []) (constraint_forms cs)
  pub walks : GivenBack cs reads.end (walk_says (walk_of reads.end (drop reads.end payload) None false))

-- so does all that the writer writes with constraints given
abbrev pub CardWalked : Type 0
CardWalked =
    (id pin : List ℕ) (cs : List Constraint) (count : ℕ) (out : List ℕ) (n : ℕ) → 1 ≤ count → Bytes pin → Each (λ s. s < 2 ^ 32) (lifetimes_among (take count cs))
    → wrote_says (add_smartcard_answer id pin cs count out) ≡ grants n → ReachesAgent (take n (add_smartcard_left id pin cs count out)) id pin (take count cs)

-- ## The agent's lists: what it sends, the client reads

-- the payload of the agent's list reply
abbrev pub list_reply : List Entry → List ℕ
list_reply es = 12 ∷ (be32 (length es) ++ item_forms es)

abbrev pub blobs_of : List Entry → List (List ℕ)
blobs_of es = map (λ e. e.blob) es

-- where in it the blob of entry i begins: behind the 12, the count, the items before it and its own length
abbrev pub blob_place : List Entry → ℕ → ℕ
blob_place es i = 5 + length (item_forms (take i es)) + 4

-- the entries are counted, and each is handed out as its blob, where it lies
pub record ReadsEntries (payload : List ℕ) (es : List Entry) : Type 0 where
  pub count : listing_says (count_of payload) ≡ grants (length es)
  pub items : (i : ℕ) → i < length es → HandsOut payload i (get_or (blobs_of es) i []) (blob_place es i)

-- as an item of a list
abbrev pub listed : Entry → Listed
listed e = record { blob = e.blob; comment = e.comment }

abbrev pub ListReplyRead : Type 0
ListReplyRead = (es : List Entry) → Each (λ e. Listable (listed e)) es → length es < 2 ^ 32 → ReadsEntries (list_reply es) es

-- bytes that were sent reach the client: its splitter gives back a payload, and its reader these entries in it
pub record ReachesClient (sent : List ℕ) (es : List Entry) : Type 0 where
  pub payload : List ℕ
  pub splits : Holds sent payload
  pub reads : ReadsEntries payload es

-- a list request that lands, and does not fail, sends the entries of this moment, in list order, to the client
abbrev pub SendsList : Gateway → Call → Type 0
SendsList g c =
    (sent : List ℕ) → Begins 11 (payload_of c) → (call g c).outcome ≡ lands (reply sent) → reply sent ≢ FAILURE
    → ReachesClient sent (at_call g c).entries

-- where every held comment is UTF-8, the client reads every list; a call that lands is of a sound gateway
abbrev pub AgentListRead : Type 0
AgentListRead = (g : Gateway) (c : Call) → TextComments g → ByteBlobs g → SendsList g c

-- so it does of every list from a fresh gateway on
abbrev pub FreshListRead : Type 0
FreshListRead = (cs : List Call) (c : Call) → BytesIn cs → SendsList (end_of fresh cs) c

-- ## The agent's signatures

-- its sign reply is the one that SignatureRead speaks of
abbrev pub SignatureReplyIs : Type 0
SignatureReplyIs = (signature : List ℕ) → signature_reply signature ≡ string (14 ∷ string signature)
