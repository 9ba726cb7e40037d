-- What a state and its store mean, and the one way in which a gateway is written.
use Rattle.std.specs.Prelude.{ℕ, ◌+◌, Bool, true, false, cond, List, [], ◌∷◌, ◌++◌, map, length, take, drop, eqb}
use Rattle.wire.specs.Limits.{store_size, comment_limit, passphrase_limit}
use Rattle.wire.specs.declared.Seconds.{Seconds}
use Rattle.keys.specs.Constraints.{Lifetime}
use Rattle.std.specs.Prelude.{Some, None}
use Rattle.rule.specs.Gateway.{Entry as Key, Gateway, zero_millis}
use Rattle.table.specs.declared.Columns.{Columns}
use Rattle.table.specs.declared.Figures.{Figures}
use Rattle.table.specs.declared.Kept.{Kept}
use Rattle.table.specs.declared.LockRecord.{LockRecord}
use Rattle.table.specs.declared.State.{State}
use Rattle.table.specs.Bytes.{padded}
use Rattle.table.specs.Entries.{entries_in, columns_of}
use Rattle.table.specs.Each.{each, offset, share}

-- #112: "Pack blobs, fields and comments .. without gaps": what an entry takes
unfoldable pub size : Figures → ℕ
size f = f.blob_len + (f.fields_len + f.comment_len)

-- ## What is meant

-- a flag is a byte: 1 is yes, 0 is no, and any other is unsound
abbrev pub is_set : ℕ → Bool
is_set flag = eqb flag 1

-- "perhaps a lifetime"
abbrev pub limited_lifetime : ℕ → Seconds → Lifetime
limited_lifetime limited seconds = cond (is_set limited) (Some seconds) None

abbrev pub lifetime_of : Figures → Lifetime
lifetime_of f = limited_lifetime f.limited f.seconds

-- blob, fields and comment lie behind each other
abbrev pub key_of : Figures → List ℕ → Key
key_of f p = record {
  number = f.number;
  reading = f.reading;
  lifetime = lifetime_of f;
  confirm = is_set f.confirm;
  blob = take f.blob_len p;
  fields = take f.fields_len (drop f.blob_len p);
  comment = take f.comment_len (drop f.fields_len (drop f.blob_len p));
}

-- the keys of entries, "in list order"
abbrev pub view : List Figures → List ℕ → List Key
view fs x = each key_of size fs x

-- "The passphrase is kept with its length"
abbrev pub passphrase : LockRecord → List ℕ
passphrase l = take l.len l.bytes

abbrev pub entries_of : State → List Figures
entries_of s = entries_in s.columns

unfoldable pub gateway_of : State → List ℕ → Gateway
gateway_of s x = record { entries = view (entries_of s) x; lock = passphrase s.lock; clock = s.clock; next = s.next }

-- all zero
abbrev pub no_figures : Figures
no_figures = record {
  number = 0;
  reading = zero_millis;
  blob_len = 0;
  fields_len = 0;
  comment_len = 0;
  seconds = record { count = 0 };
  limited = 0;
  confirm = 0;
}

-- ## Where it lies

-- the bytes of entry i begin behind those of the entries before it
abbrev pub start_of : List Figures → ℕ → ℕ
start_of fs i = offset size fs i

-- the bytes of all entries end where one more would begin
abbrev pub end_of : List Figures → ℕ
end_of fs = start_of fs (length fs)

-- the bytes of entry i
abbrev pub part_at : List Figures → List ℕ → ℕ → List ℕ
part_at fs x i = share size fs x i no_figures

-- ## How it is written

abbrev pub flag_of : Bool → ℕ
flag_of false = 0
flag_of true = 1

abbrev pub limited_flag : Lifetime → ℕ
limited_flag None = 0
limited_flag (Some seconds) = 1

abbrev pub kept_seconds : Lifetime → Seconds
kept_seconds None = record { count = 0 }
kept_seconds (Some seconds) = seconds

unfoldable pub figures_for : Key → Figures
figures_for k = record {
  number = k.number;
  reading = k.reading;
  blob_len = length k.blob;
  fields_len = length k.fields;
  comment_len = length k.comment;
  seconds = kept_seconds k.lifetime;
  limited = limited_flag k.lifetime;
  confirm = flag_of k.confirm;
}

unfoldable pub bytes_for : Key → List ℕ
bytes_for k = k.blob ++ (k.fields ++ k.comment)

unfoldable pub laid : List Key → List ℕ
laid [] = []
laid (k ∷ ks) = bytes_for k ++ laid ks

-- a comment out of the store, "up to 255 bytes", the rest zero
unfoldable pub kept_comment : List ℕ → List ℕ
kept_comment c = padded comment_limit c

-- "at most 1,024 bytes, the rest zero"
unfoldable pub lock_of : List ℕ → LockRecord
lock_of p = record { bytes = padded passphrase_limit p; len = length p }

unfoldable pub state_of : Gateway → State
state_of g = record {
  columns = columns_of (map figures_for g.entries);
  lock = lock_of g.lock;
  clock = g.clock;
  next = g.next;
}

-- "Pack .. into the same 32,768 bytes without gaps, in list order", the rest zero
unfoldable pub layout : Gateway → List ℕ
layout g = padded store_size (laid g.entries)

-- ## A state whose columns are lent

-- the state of lent columns and passphrase, and of what goes by value beside them
abbrev pub held : Columns → List ℕ → Kept → State
held t bytes k = record { columns = t; lock = record { bytes = bytes; len = k.locked }; clock = k.clock; next = k.next }

-- what goes by value beside the arrays of a state
abbrev pub kept_in : State → Kept
kept_in s = record { clock = s.clock; next = s.next; locked = s.lock.len }

-- a state with other columns
abbrev pub with_table : Columns → State → State
with_table t s = record { columns = t; lock = s.lock; clock = s.clock; next = s.next }
