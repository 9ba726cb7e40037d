-- What the table promises, as statements; the proofs are in proofs/.
use Rattle.std.specs.Prelude.{ℕ, ◌+◌, ◌≤◌, ◌<◌, ◌≡◌, true, false, List, [], ◌∷◌, ◌↔◌, ◌⊎◌, ◌≢◌, length, take, drop, get_or, replicate}
use Rattle.std.proofs.Math.Option.{Option, some}
use Rattle.wire.specs.Limits.{store_size, passphrase_limit}
use Rattle.wire.specs.Promises.{OneToOne}
use Rattle.std.specs.Prelude.{Some, None}
use Rattle.rule.specs.Gateway.{Found}
use Rattle.rule.specs.Gateway.{Entry as Key, Gateway, fresh, entry_at, seek, holds, has_room, place_for}
use Rattle.rule.specs.Searches.{found_place}
use Rattle.rule.specs.Soundness as rule
use Rattle.table.specs.declared.State.{State}
use Rattle.table.specs.Entries.{columns}
use Rattle.table.specs.Meaning.{gateway_of, state_of, layout}
use Rattle.table.specs.Soundness.{sound_state, Sound, Means, short_of}

-- the test says the facts
abbrev pub SoundStateRule : Type 0
SoundStateRule = (s : State) (x : List ℕ) → (sound_state s x ≡ true) ↔ Sound s x

-- ## What a state says, by its own columns and its store

abbrev pub sum : List ℕ → ℕ
sum [] = 0
sum (n ∷ ns) = n + sum ns

-- the bytes of entry i begin behind those of the entries before it: blob, then fields, then comment
abbrev pub blob_from : State → ℕ → ℕ
blob_from s i = sum (take i s.columns.blob_lens) + sum (take i s.columns.fields_lens) + sum (take i s.columns.comment_lens)

abbrev pub fields_from : State → ℕ → ℕ
fields_from s i = blob_from s i + get_or s.columns.blob_lens i 0

abbrev pub comment_from : State → ℕ → ℕ
comment_from s i = fields_from s i + get_or s.columns.fields_lens i 0

-- what entry i says of its key, by the columns and the store; a flag of 1 is yes, of 0 no
pub record KeySays (s : State) (x : List ℕ) (i : ℕ) (k : Key) : Type 0 where
  pub number : k.number ≡ get_or s.columns.numbers i 0
  pub reading : k.reading.count ≡ get_or s.columns.readings i 0
  pub lifetime : get_or s.columns.limited i 0 ≡ 1 → k.lifetime ≡ Some (record { count = get_or s.columns.seconds i 0 })
  pub no_lifetime : get_or s.columns.limited i 0 ≡ 0 → k.lifetime ≡ None
  pub confirm : get_or s.columns.confirm i 0 ≡ 1 → k.confirm ≡ true
  pub no_confirm : get_or s.columns.confirm i 0 ≡ 0 → k.confirm ≡ false
  pub blob : k.blob ≡ take (get_or s.columns.blob_lens i 0) (drop (blob_from s i) x)
  pub fields : k.fields ≡ take (get_or s.columns.fields_lens i 0) (drop (fields_from s i) x)
  pub comment : k.comment ≡ take (get_or s.columns.comment_lens i 0) (drop (comment_from s i) x)

-- n entries stand before the first number that is 0
pub record Counts (numbers : List ℕ) (n : ℕ) : Type 0 where
  pub within : n ≤ length numbers
  pub held : (i : ℕ) → i < n → get_or numbers i 0 ≢ 0
  pub unused : get_or numbers n 0 ≡ 0

-- what a state and its store say
pub record StateSays (s : State) (x : List ℕ) : Type 0 where
  pub count : Counts s.columns.numbers (length (gateway_of s x).entries)
  pub entries : (i : ℕ) → i < length (gateway_of s x).entries → (k : Key) × (entry_at (gateway_of s x).entries i ≡ some k) × KeySays s x i k
  pub lock : (gateway_of s x).lock ≡ take s.lock.len s.lock.bytes
  pub clock : (gateway_of s x).clock ≡ s.clock
  pub next : (gateway_of s x).next ≡ s.next

abbrev pub StateRule : Type 0
StateRule = (s : State) (x : List ℕ) → StateSays s x

-- ## Soundness and the one writing

-- what is sound here means what is sound in the rule
abbrev pub SoundMeaning : Type 0
SoundMeaning = (s : State) (x : List ℕ) → Sound s x → rule.Sound (gateway_of s x)

-- what is sound is written in the one way that its meaning has
pub record Canonical (s : State) (x : List ℕ) : Type 0 where
  pub state : s ≡ state_of (gateway_of s x)
  pub store : x ≡ layout (gateway_of s x)

abbrev pub SoundCanonical : Type 0
SoundCanonical = (s : State) (x : List ℕ) → Sound s x → Canonical s x

-- so no second state and store mean the same
abbrev pub OneWriting : Type 0
OneWriting = (s t : State) (x y : List ℕ) → Sound s x → Sound t y → gateway_of s x ≡ gateway_of t y → (s ≡ t) × (x ≡ y)

-- and every sound gateway of the rule is meant by one
abbrev pub EveryGateway : Type 0
EveryGateway = (g : Gateway) → rule.Sound g → Means (state_of g) (layout g) g

-- "Fresh: all zero, next insertion number 1."
abbrev pub FreshMeans : Type 0
FreshMeans = Means (state_of fresh) (replicate store_size 0) fresh

abbrev pub FreshZero : Type 0
FreshZero =
    let zeros : List ℕ = replicate 24 0 in
    state_of fresh ≡ record {
      columns = columns zeros zeros zeros zeros zeros zeros zeros zeros;
      lock = record { bytes = replicate passphrase_limit 0; len = 0 };
      clock = record { count = 0 };
      next = 1;
    }

-- two blobs with different short numbers differ
abbrev pub ShortRule : Type 0
ShortRule = (a b : List ℕ) → short_of a ≢ short_of b → a ≢ b

-- ## Searches

-- an answer says whether there is a position, and which
abbrev pub FoundsApart : Type 0
FoundsApart = OneToOne Found (Option ℕ) found_place

abbrev pub HoldsBlob : List Key → List ℕ → ℕ → Type 0
HoldsBlob ks blob i = (k : Key) × (entry_at ks i ≡ some k) × (k.blob ≡ blob)

-- the search for a blob ends at the entry that has it
abbrev pub FindRule : Type 0
FindRule = (s : State) (x blob : List ℕ) (i : ℕ) → Sound s x → (found_place (seek (holds blob) 0 (gateway_of s x).entries) ≡ some i) ↔ HoldsBlob (gateway_of s x).entries blob i

-- there is a place exactly where there is room: that of the entry that has the blob, else behind the last one
abbrev pub PlaceForRule : Type 0
PlaceForRule =
    (s : State) (x : List ℕ) (e : Key) (i : ℕ) → Sound s x → let ks = (gateway_of s x).entries in
    (found_place (place_for e ks) ≡ some i) ↔ ((has_room e ks ≡ true) × (HoldsBlob ks e.blob i ⊎ (((j : ℕ) → HoldsBlob ks e.blob j → ⊥) × (i ≡ length ks))))
