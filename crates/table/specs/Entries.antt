-- The columns side by side: the figures of an entry are what they have at one index. Entries are those before the first number that is 0.
use Rattle.std.specs.Prelude.{ℕ, zero, suc, ◌+◌, ◌≡◌, cond, List, [], ◌∷◌, map, length, take, get_or, set, eqb}
use Rattle.wire.specs.Limits.{entries_limit}
use Rattle.table.specs.declared.Columns.{Columns}
use Rattle.table.specs.declared.Figures.{Figures}
use Rattle.table.specs.declared.Shown.{Shown}
use Rattle.table.specs.Bytes.{sum_of, padded}

-- ## What the columns show

abbrev pub columns : List ℕ → List ℕ → List ℕ → List ℕ → List ℕ → List ℕ → List ℕ → List ℕ → Columns
columns numbers readings blobs fields comments seconds limited confirm = record {
  numbers = numbers;
  readings = readings;
  blob_lens = blobs;
  fields_lens = fields;
  comment_lens = comments;
  seconds = seconds;
  limited = limited;
  confirm = confirm;
}

-- the columns that are read
abbrev pub shown : Shown → Columns
shown t = columns t.numbers.now t.readings.now t.blob_lens.now t.fields_lens.now t.comment_lens.now t.seconds.now t.limited.now t.confirm.now

-- each column has 24 numbers
pub record Long (t : Columns) : Type 0 where
  pub numbers : length t.numbers ≡ entries_limit
  pub readings : length t.readings ≡ entries_limit
  pub blobs : length t.blob_lens ≡ entries_limit
  pub fields : length t.fields_lens ≡ entries_limit
  pub comments : length t.comment_lens ≡ entries_limit
  pub seconds : length t.seconds ≡ entries_limit
  pub limited : length t.limited ≡ entries_limit
  pub confirm : length t.confirm ≡ entries_limit

abbrev pub figures_at : Columns → ℕ → Figures
figures_at t i = record {
  number = get_or t.numbers i 0;
  reading = record { count = get_or t.readings i 0 };
  blob_len = get_or t.blob_lens i 0;
  fields_len = get_or t.fields_lens i 0;
  comment_len = get_or t.comment_lens i 0;
  seconds = record { count = get_or t.seconds i 0 };
  limited = get_or t.limited i 0;
  confirm = get_or t.confirm i 0;
}

-- how many numbers stand before the first 0; no key has that number
unfoldable pub count_of : List ℕ → ℕ
count_of [] = 0
count_of (n ∷ ns) = cond (eqb n 0) 0 (suc (count_of ns))

-- f of each number below n
unfoldable pub up_to : {A : Type 0} → (ℕ → A) → ℕ → List A
up_to f zero = []
up_to f (suc n) = f 0 ∷ up_to (λ i. f (suc i)) n

unfoldable pub entries_in : Columns → List Figures
entries_in t = up_to (figures_at t) (count_of t.numbers)

-- what the first i entries take of the store, by the columns of lengths
unfoldable pub start_in : List ℕ → List ℕ → List ℕ → ℕ → ℕ
start_in blobs fields comments i = sum_of (take i blobs) + (sum_of (take i fields) + sum_of (take i comments))

-- ## How entries are written in columns

unfoldable pub columns_of : List Figures → Columns
columns_of fs = columns
    (padded entries_limit (map (λ f. f.number) fs))
    (padded entries_limit (map (λ f. f.reading.count) fs))
    (padded entries_limit (map (λ f. f.blob_len) fs))
    (padded entries_limit (map (λ f. f.fields_len) fs))
    (padded entries_limit (map (λ f. f.comment_len) fs))
    (padded entries_limit (map (λ f. f.seconds.count) fs))
    (padded entries_limit (map (λ f. f.limited) fs))
    (padded entries_limit (map (λ f. f.confirm) fs))

-- the figures at one index written anew
abbrev pub figures_set : ℕ → Figures → Columns → Columns
figures_set i f t = columns
    (set t.numbers i f.number)
    (set t.readings i f.reading.count)
    (set t.blob_lens i f.blob_len)
    (set t.fields_lens i f.fields_len)
    (set t.comment_lens i f.comment_len)
    (set t.seconds i f.seconds.count)
    (set t.limited i f.limited)
    (set t.confirm i f.confirm)
