-- The gateway in 01's words ("Table, store and clock"), with no bytes: layout is the table's.
use Rattle.std.specs.Prelude.{ℕ, zero, suc, ◌+◌, ◌-◌, ◌*◌, max, Bool, false, not, cond, ◌&&◌, List, [], ◌∷◌, length, leb, ltb, None, Some, Option as RustOption}
use Rattle.std.proofs.Math.Option.{Option, none, some}
use Rattle.wire.specs.Limits.{entries_limit, store_size}
use Rattle.wire.specs.declared.Seconds.{Seconds}
use Rattle.wire.specs.Read.{same}
use Rattle.keys.specs.Constraints.{Lifetime}
use Rattle.rule.specs.declared.Millis.{Millis}

-- "An entry has an insertion number, the reading at insertion, perhaps a lifetime, and Confirm or not", the key's two byte strings, and
-- (#101) its comment
pub record Entry : Type 0 where
  pub number : ℕ
  pub reading : Millis
  pub lifetime : Lifetime
  pub confirm : Bool
  pub blob : List ℕ
  pub fields : List ℕ
  pub comment : List ℕ

-- #112: the entries "in list order"
pub record Gateway : Type 0 where
  pub entries : List Entry
  pub lock : List ℕ  -- the passphrase, empty while open
  pub clock : Millis  -- the kept clock
  pub next : ℕ  -- the next insertion number

-- a clock's zero
abbrev pub zero_millis : Millis
zero_millis = record { count = 0 }

-- "Fresh: all zero, next insertion number 1."
abbrev pub fresh : Gateway
fresh = record { entries = []; lock = []; clock = zero_millis; next = 1 }

-- "Locked means length above 0."
abbrev pub locked : Gateway → Bool
locked g = ltb 0 (length g.lock)

abbrev pub opened : Gateway → Bool
opened g = not (locked g)

-- ## Clock and expiry

-- "Lifetimes count seconds and the clock counts milliseconds."
abbrev pub millis_of : Seconds → Millis
millis_of seconds = record { count = seconds.count * 1000 }

-- "each entry with lifetime L is removed .. if clock minus insertion reading is at least 1,000 L"
unfoldable pub due_at : Millis → Millis → Lifetime → Bool
due_at clock reading None = false
due_at clock reading (Some seconds) = leb (millis_of seconds).count (clock.count - reading.count)

unfoldable pub lasting : Millis → List Entry → List Entry
lasting clock [] = []
lasting clock (e ∷ es) = cond (due_at clock e.reading e.lifetime) (lasting clock es) (e ∷ lasting clock es)

unfoldable pub at_clock : Millis → Gateway → Gateway
at_clock clock g = record { entries = lasting clock g.entries; lock = g.lock; clock = clock; next = g.next }

-- the later of two readings
abbrev pub later : Millis → Millis → Millis
later a b = record { count = max a.count b.count }

-- "An accepted call first raises the kept clock .. to its reading; a lower reading counts as the kept one. Then each entry .. is removed"
unfoldable pub advance : Millis → Gateway → Gateway
advance reading g = at_clock (later g.clock reading) g

-- ## Positions

-- the entry at a position of the list, from 0 on
abbrev pub entry_at : List Entry → ℕ → Option Entry
entry_at [] i = none
entry_at (e ∷ es) zero = some e
entry_at (e ∷ es) (suc i) = entry_at es i

-- where a search over the entries ended
abbrev pub Found : Type 0
Found = RustOption ℕ

-- the first position, from number i on, whose entry passes a test
abbrev pub seek : (Entry → Bool) → ℕ → List Entry → Found
seek test i [] = None
seek test i (e ∷ es) = cond (test e) (Some i) (seek test (suc i) es)

abbrev pub holds : List ℕ → Entry → Bool
holds blob e = same e.blob blob

-- going on by where a search ended
unfoldable pub found : {A : Type 0} → A → Found → (ℕ → A) → A
found z (Some i) next = next i
found z None next = z

-- the entry that has a blob, if one has it
unfoldable pub entry_with : List ℕ → List Entry → Option Entry
entry_with blob [] = none
entry_with blob (e ∷ es) = cond (holds blob e) (some e) (entry_with blob es)

-- ## Room

-- what an entry takes of the store: "blobs, fields and comments .. without gaps"
unfoldable pub lengths_of : Entry → ℕ
lengths_of e = length e.blob + (length e.fields + length e.comment)

unfoldable pub all_lengths : List Entry → ℕ
all_lengths [] = 0
all_lengths (e ∷ es) = lengths_of e + all_lengths es

-- the entries beside a key with this blob
unfoldable pub others : List ℕ → List Entry → List Entry
others blob [] = []
others blob (e ∷ es) = cond (holds blob e) (others blob es) (e ∷ others blob es)

-- "exactly when 24 others are held or the lengths after the change would pass 32,768" there is none
unfoldable pub has_room : Entry → List Entry → Bool
has_room e es = ltb (length (others e.blob es)) entries_limit && leb (all_lengths (others e.blob es) + lengths_of e) store_size

-- "A new entry goes last." "A replaced entry keeps its list position"
unfoldable pub position_for : List ℕ → List Entry → ℕ
position_for blob es = found (length es) (seek (holds blob) 0 es) λ i. i

unfoldable pub place_for : Entry → List Entry → Found
place_for e es = cond (has_room e es) (Some (position_for e.blob es)) None

-- ## New states

abbrev pub with_entries : List Entry → Gateway → Gateway
with_entries es g = record { entries = es; lock = g.lock; clock = g.clock; next = g.next }

abbrev pub with_lock : List ℕ → Gateway → Gateway
with_lock passphrase g = record { entries = g.entries; lock = passphrase; clock = g.clock; next = g.next }

-- "Removal and expiry close the gap"
unfoldable pub remove_at : ℕ → List Entry → List Entry
remove_at i [] = []
remove_at zero (e ∷ es) = es
remove_at (suc i) (e ∷ es) = e ∷ remove_at i es

-- "removed", one and all
abbrev pub without : ℕ → Gateway → Gateway
without i g = with_entries (remove_at i g.entries) g

abbrev pub without_all : Gateway → Gateway
without_all g = with_entries [] g

-- e stands at position i; behind the last one it is added
unfoldable pub put_at : ℕ → Entry → List Entry → List Entry
put_at i e [] = e ∷ []
put_at zero e (x ∷ xs) = e ∷ xs
put_at (suc i) e (x ∷ xs) = x ∷ put_at i e xs

-- what an add request brings, and the entry keeps of it
pub record NewKey : Type 0 where
  pub blob : List ℕ
  pub fields : List ℕ
  pub comment : List ℕ
  pub lifetime : Lifetime
  pub confirm : Bool

-- the entry of a new key, by its number and reading
abbrev pub new_entry : ℕ → Millis → NewKey → Entry
new_entry number reading k = record {
  number = number;
  reading = reading;
  lifetime = k.lifetime;
  confirm = k.confirm;
  blob = k.blob;
  fields = k.fields;
  comment = k.comment;
}

-- "stored, next number taken"
abbrev pub with_entry : ℕ → Entry → Gateway → Gateway
with_entry i e g = record { entries = put_at i e g.entries; lock = g.lock; clock = g.clock; next = g.next + 1 }
