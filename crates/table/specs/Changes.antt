-- What the changes do to columns and store, and what they ask for.
use Rattle.std.specs.Prelude.{ℕ, ◌+◌, ◌-◌, ◌<◌, ◌≤◌, ◌≡◌, cond, List, [], ◌∷◌, ◌++◌, length, take, drop, replicate, get_or}
use Rattle.wire.specs.Limits.{entries_limit, store_size, last_number}
use Rattle.wire.specs.Write.{write}
use Rattle.std.specs.Prelude.{Some}
use Rattle.rule.specs.declared.Millis.{Millis}
use Rattle.rule.specs.Gateway.{Entry as Key, due_at, place_for, NewKey, new_entry}
use Rattle.rule.specs.Soundness.{Fits}
use Rattle.table.specs.declared.Columns.{Columns}
use Rattle.table.specs.declared.Kept.{Kept}
use Rattle.table.specs.declared.State.{State}
use Rattle.table.specs.Bytes.{Zeros, padded}
use Rattle.table.specs.Entries.{columns, up_to, start_in}
use Rattle.table.specs.Meaning.{is_set, limited_lifetime, flag_of, gateway_of, held}
use Rattle.table.specs.Soundness.{Sound}

-- ## Keys that go

-- what stays of a list where the marked ones go: a mark for each, 1 where it goes
unfoldable pub unmarked : {A : Type 0} → List ℕ → List A → List A
unmarked [] xs = []
unmarked (m ∷ ms) [] = []
unmarked (m ∷ ms) (x ∷ xs) = cond (is_set m) (unmarked ms xs) (x ∷ unmarked ms xs)

-- .. and of bytes, in parts of these sizes
unfoldable pub unmarked_parts : List ℕ → List ℕ → List ℕ → List ℕ
unmarked_parts [] ns x = []
unmarked_parts (m ∷ ms) [] x = []
unmarked_parts (m ∷ ms) (n ∷ ns) x = cond (is_set m) (unmarked_parts ms ns (drop n x)) (take n x ++ unmarked_parts ms ns (drop n x))

-- the sizes of 24 entries, by the columns of lengths
unfoldable pub sizes_in : List ℕ → List ℕ → List ℕ → List ℕ
sizes_in blobs fields comments = up_to (λ i. get_or blobs i 0 + (get_or fields i 0 + get_or comments i 0)) entries_limit

-- "Removal and expiry close the gap and zero the freed end", in a column and in the store
unfoldable pub closed : {A : Type 0} → A → List ℕ → List A → List A
closed none marks column = unmarked marks column ++ replicate (length column - length (unmarked marks column)) none

unfoldable pub closed_parts : List ℕ → List ℕ → List ℕ → List ℕ
closed_parts marks sizes x = padded (length x) (unmarked_parts marks sizes x)

abbrev pub closed_columns : List ℕ → Columns → Columns
closed_columns marks t = columns
    (closed 0 marks t.numbers)
    (closed 0 marks t.readings)
    (closed 0 marks t.blob_lens)
    (closed 0 marks t.fields_lens)
    (closed 0 marks t.comment_lens)
    (closed 0 marks t.seconds)
    (closed 0 marks t.limited)
    (closed 0 marks t.confirm)

-- a mark for each of 24 entries that is due
unfoldable pub due_marks : Millis → List ℕ → List ℕ → List ℕ → List ℕ
due_marks clock readings seconds limited =
    up_to (λ i. flag_of (due_at clock (record { count = get_or readings i 0 }) (limited_lifetime (get_or limited i 0) (record { count = get_or seconds i 0 })))) entries_limit

-- ## A key that comes

-- the bytes from `at + old` to `end` lie at `at + new`, and the rest behind them is zero
unfoldable pub resized : ℕ → ℕ → ℕ → ℕ → List ℕ → List ℕ
resized at old new end x = padded (length x) (take (at + new) x ++ drop (at + old) (take end x))

-- entry i has these bytes, and the others the bytes that they had
unfoldable pub bytes_put : List ℕ → List ℕ → List ℕ → ℕ → List ℕ → List ℕ → List ℕ
bytes_put blobs fields comments i bytes x =
    let at = start_in blobs fields comments i in
    write (resized at (get_or blobs i 0 + (get_or fields i 0 + get_or comments i 0)) (length bytes) (start_in blobs fields comments entries_limit) x) at bytes

-- room for n bytes in the place of entry i
pub record PutRoom (blobs fields comments x : List ℕ) (i n : ℕ) : Type 0 where
  pub inside : i < entries_limit
  pub long_blobs : length blobs ≡ entries_limit
  pub long_fields : length fields ≡ entries_limit
  pub long_comments : length comments ≡ entries_limit
  pub store_sized : length x ≡ store_size
  pub room : start_in blobs fields comments entries_limit ≤ store_size
  pub new_room : start_in blobs fields comments entries_limit + n ≤ store_size + (get_or blobs i 0 + (get_or fields i 0 + get_or comments i 0))
  pub end : Zeros (drop (start_in blobs fields comments entries_limit) x)

abbrev pub NewFits : NewKey → Type 0
NewFits k = Fits k.blob k.fields k.comment

-- the entry that a key makes of a state: the next number, the kept clock as reading
abbrev pub made : State → NewKey → Key
made s k = new_entry s.next s.clock k

pub record MayPut (s : State) (x : List ℕ) (i : ℕ) (k : NewKey) : Type 0 where
  pub sound : Sound s x
  pub numbers_left : s.next < last_number
  pub lengths : NewFits k
  pub place : place_for (made s k) (gateway_of s x).entries ≡ Some i

-- of lent columns, whatever the passphrase
pub record MayPutWith (t : Columns) (kept : Kept) (x : List ℕ) (i : ℕ) (k : NewKey) : Type 0 where
  pub bytes : List ℕ
  pub may : MayPut (held t bytes kept) x i k
