-- 01's soundness of a state and its store, test by test, and the facts that the tests say.
use Rattle.std.specs.Prelude.{ℕ, ◌-◌, ◌≤◌, ◌<◌, ◌≡◌, Bool, true, false, ◌&&◌, ◌||◌, cond, List, [], ◌∷◌, map, length, take, drop, get_or, leb, ltb, eqb}
use Rattle.wire.specs.Limits.{entries_limit, store_size, blob_limit, fields_limit, comment_limit, passphrase_limit, last_number}
use Rattle.wire.specs.Numbers.{within, be_at}
use Rattle.wire.specs.declared.Seconds.{Seconds}
use Rattle.rule.specs.declared.Millis.{Millis}
use Rattle.rule.specs.Gateway.{Gateway}
use Rattle.rule.specs.Soundness.{distinct, Distinct}
use Rattle.table.specs.declared.Columns.{Columns}
use Rattle.table.specs.declared.Figures.{Figures}
use Rattle.table.specs.declared.LockRecord.{LockRecord}
use Rattle.table.specs.declared.State.{State}
use Rattle.table.specs.Bytes.{all_zero, Zeros}
use Rattle.table.specs.Entries.{Long, count_of, up_to, entries_in, start_in}
use Rattle.table.specs.Meaning.{is_set, entries_of, view, gateway_of, end_of}

-- ## The tests

-- the columns are of 24 entries, as the arrays' types are
unfoldable pub long_columns : Columns → Bool
long_columns t =
    eqb (length t.numbers) entries_limit
    && (eqb (length t.readings) entries_limit
    && (eqb (length t.blob_lens) entries_limit
    && (eqb (length t.fields_lens) entries_limit
    && (eqb (length t.comment_lens) entries_limit
    && (eqb (length t.seconds) entries_limit
    && (eqb (length t.limited) entries_limit
    && eqb (length t.confirm) entries_limit))))))

-- unused entries are zero: behind the first n, in every column
unfoldable pub zero_behind : ℕ → Columns → Bool
zero_behind n t =
    all_zero (drop n t.numbers)
    && (all_zero (drop n t.readings)
    && (all_zero (drop n t.blob_lens)
    && (all_zero (drop n t.fields_lens)
    && (all_zero (drop n t.comment_lens)
    && (all_zero (drop n t.seconds)
    && (all_zero (drop n t.limited)
    && all_zero (drop n t.confirm)))))))

-- a flag is a byte, 0 or 1
abbrev pub is_flag : ℕ → Bool
is_flag b = leb b 1

-- "perhaps a lifetime, and Confirm or not"
unfoldable pub sound_flags : ℕ → ℕ → Bool
sound_flags limited confirm = is_flag limited && is_flag confirm

-- no seconds without a lifetime
unfoldable pub sound_lifetime : ℕ → Seconds → Bool
sound_lifetime limited seconds = is_set limited || eqb seconds.count 0

-- "lengths within limits"
unfoldable pub sound_lengths : Figures → Bool
sound_lengths f = within 1 blob_limit f.blob_len && (within 1 fields_limit f.fields_len && leb f.comment_len comment_limit)

-- "insertion numbers .. below the next one, .. insertion readings not above the kept clock"
unfoldable pub sound_figures : Millis → ℕ → Figures → Bool
sound_figures clock next f = ltb f.number next && (leb f.reading.count clock.count && (sound_flags f.limited f.confirm && (sound_lifetime f.limited f.seconds && sound_lengths f)))

unfoldable pub all : List Bool → Bool
all [] = true
all (b ∷ bs) = b && all bs

unfoldable pub sound_entries : Millis → ℕ → List Figures → Bool
sound_entries clock next fs = all (map (sound_figures clock next) fs)

-- the lengths do not pass 32,768, and what is behind their bytes is zero
unfoldable pub sound_store : List Figures → List ℕ → Bool
sound_store fs x = leb (end_of fs) store_size && all_zero (drop (end_of fs) x)

-- "The passphrase is kept with its length, at most 1,024 bytes, the rest zero."
unfoldable pub sound_lock : LockRecord → Bool
sound_lock l = eqb (length l.bytes) passphrase_limit && (leb l.len passphrase_limit && all_zero (drop l.len l.bytes))

-- columns and store: unused entries, each entry by itself, the store's end, the entries side by side
unfoldable pub sound_keys : Millis → ℕ → Columns → List ℕ → Bool
sound_keys clock next t x =
    zero_behind (count_of t.numbers) t
    && (sound_entries clock next (entries_in t)
    && (sound_store (entries_in t) x
    && distinct (view (entries_in t) x)))

unfoldable pub sound_state : State → List ℕ → Bool
sound_state s x =
    eqb (length x) store_size
    && (long_columns s.columns
    && (within 1 last_number s.next
    && (sound_lock s.lock
    && sound_keys s.clock s.next s.columns x)))

-- a short number of a blob: what four of its last twelve bytes spell, 0 of a blob that has fewer. Blobs whose short numbers differ are not the same.
unfoldable pub short_of : List ℕ → ℕ
short_of blob = cond (ltb (length blob) 12) 0 (be_at blob (length blob - 12))

-- .. of the blobs of n entries, by the columns of lengths
unfoldable pub shorts_in : List ℕ → List ℕ → List ℕ → ℕ → List ℕ → List ℕ
shorts_in blobs fields comments n x = up_to (λ i. short_of (take (get_or blobs i 0) (drop (start_in blobs fields comments i) x))) n

-- ## The facts

pub record ZeroBehind (n : ℕ) (t : Columns) : Type 0 where
  pub numbers : Zeros (drop n t.numbers)
  pub readings : Zeros (drop n t.readings)
  pub blobs : Zeros (drop n t.blob_lens)
  pub fields : Zeros (drop n t.fields_lens)
  pub comments : Zeros (drop n t.comment_lens)
  pub seconds : Zeros (drop n t.seconds)
  pub limited : Zeros (drop n t.limited)
  pub confirm : Zeros (drop n t.confirm)

abbrev pub Flag : ℕ → Type 0
Flag b = b ≤ 1

pub record SoundFigures (clock : Millis) (next : ℕ) (f : Figures) : Type 0 where
  pub number_taken : f.number < next
  pub reading_past : f.reading.count ≤ clock.count
  pub limited_is_flag : Flag f.limited
  pub confirm_flag : Flag f.confirm
  pub no_seconds : is_set f.limited ≡ false → f.seconds.count ≡ 0
  pub blob_some : 1 ≤ f.blob_len
  pub blob_fits : f.blob_len ≤ blob_limit
  pub fields_some : 1 ≤ f.fields_len
  pub fields_fit : f.fields_len ≤ fields_limit
  pub comment_fits : f.comment_len ≤ comment_limit

abbrev pub EveryFigures : (Figures → Type 0) → List Figures → Type 0
EveryFigures P [] = Unit {0}
EveryFigures P (f ∷ fs) = P f × EveryFigures P fs

pub record SoundLock (l : LockRecord) : Type 0 where
  pub record_size : length l.bytes ≡ passphrase_limit
  pub lock_fits : l.len ≤ passphrase_limit
  pub lock_rest : Zeros (drop l.len l.bytes)

pub record Sound (s : State) (x : List ℕ) : Type 0 where
  pub long : Long s.columns
  pub store_sized : length x ≡ store_size
  pub next_first : 1 ≤ s.next
  pub next_last : s.next ≤ last_number
  pub lock : SoundLock s.lock
  pub unused : ZeroBehind (count_of s.columns.numbers) s.columns
  pub entries : EveryFigures (SoundFigures s.clock s.next) (entries_of s)
  pub room : end_of (entries_of s) ≤ store_size
  pub end : Zeros (drop (end_of (entries_of s)) x)
  pub distinct : Distinct (view (entries_of s) x)

-- numbers and lengths of up to 24 entries, and a store in which their bytes lie
pub record Housed (numbers blobs fields comments x : List ℕ) : Type 0 where
  pub long_numbers : length numbers ≡ entries_limit
  pub long_blobs : length blobs ≡ entries_limit
  pub long_fields : length fields ≡ entries_limit
  pub long_comments : length comments ≡ entries_limit
  pub room : start_in blobs fields comments (count_of numbers) ≤ length x

abbrev pub HousedIn : Columns → List ℕ → Type 0
HousedIn t = Housed t.numbers t.blob_lens t.fields_lens t.comment_lens

-- a state and store that mean this gateway, and are sound
pub record Means (s : State) (x : List ℕ) (g : Gateway) : Type 0 where
  pub gateway : gateway_of s x ≡ g
  pub sound : Sound s x
