-- What is asked of columns that are lent: with the store they are a sound state's, whatever it has besides.
use Rattle.std.specs.Prelude.{◌≡◌, List, ℕ}
use Rattle.table.specs.declared.Columns.{Columns}
use Rattle.table.specs.declared.Kept.{Kept}
use Rattle.table.specs.declared.State.{State}
use Rattle.table.specs.Meaning.{held}
use Rattle.table.specs.Soundness.{Sound}

pub record SoundOf (Shows : State → Type 0) (x : List ℕ) : Type 0 where
  pub state : State
  pub shows : Shows state
  pub sound : Sound state x

-- what a list and a search read: the numbers, and where the bytes lie
pub record ShowsParts (numbers blobs fields comments : List ℕ) (s : State) : Type 0 where
  pub numbers_are : s.columns.numbers ≡ numbers
  pub blobs_are : s.columns.blob_lens ≡ blobs
  pub fields_are : s.columns.fields_lens ≡ fields
  pub comments_are : s.columns.comment_lens ≡ comments

-- what a signature reads
pub record ShowsKeys (numbers confirm blobs fields comments : List ℕ) (s : State) : Type 0 where
  pub parts : ShowsParts numbers blobs fields comments s
  pub confirm_is : s.columns.confirm ≡ confirm

-- .. of columns
abbrev pub PartsOf : Columns → State → Type 0
PartsOf t = ShowsParts t.numbers t.blob_lens t.fields_lens t.comment_lens

abbrev pub KeysOf : Columns → State → Type 0
KeysOf t = ShowsKeys t.numbers t.confirm t.blob_lens t.fields_lens t.comment_lens

-- what a removal writes
abbrev pub ShowsTable : Columns → State → Type 0
ShowsTable t s = s.columns ≡ t

-- what an addition writes, and the clock; the passphrase is all that they leave out
pub record SoundWith (t : Columns) (kept : Kept) (x : List ℕ) : Type 0 where
  pub bytes : List ℕ
  pub sound : Sound (held t bytes kept) x

-- what a lock writes: all but columns and store
pub record SoundKept (bytes : List ℕ) (kept : Kept) : Type 0 where
  pub columns : Columns
  pub store : List ℕ
  pub sound : Sound (held columns bytes kept) store
