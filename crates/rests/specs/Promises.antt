-- What no entry uses is zero, said of a sound state by its own columns and its store.
use Rattle.std.specs.Prelude.{ℕ, ◌≤◌, ◌≡◌, List, length, get_or}
use Rattle.table.specs.declared.State.{State}
use Rattle.table.specs.Meaning.{gateway_of}
use Rattle.table.specs.Soundness.{Sound}
use Rattle.table.specs.Promises.{blob_from}

-- "zero the freed end": each column behind the last entry, the store behind its bytes, the lock record behind the passphrase
pub record RestZero (s : State) (x : List ℕ) : Type 0 where
  pub numbers : (i : ℕ) → length (gateway_of s x).entries ≤ i → get_or s.columns.numbers i 0 ≡ 0
  pub readings : (i : ℕ) → length (gateway_of s x).entries ≤ i → get_or s.columns.readings i 0 ≡ 0
  pub blobs : (i : ℕ) → length (gateway_of s x).entries ≤ i → get_or s.columns.blob_lens i 0 ≡ 0
  pub fields : (i : ℕ) → length (gateway_of s x).entries ≤ i → get_or s.columns.fields_lens i 0 ≡ 0
  pub comments : (i : ℕ) → length (gateway_of s x).entries ≤ i → get_or s.columns.comment_lens i 0 ≡ 0
  pub seconds : (i : ℕ) → length (gateway_of s x).entries ≤ i → get_or s.columns.seconds i 0 ≡ 0
  pub limited : (i : ℕ) → length (gateway_of s x).entries ≤ i → get_or s.columns.limited i 0 ≡ 0
  pub confirm : (i : ℕ) → length (gateway_of s x).entries ≤ i → get_or s.columns.confirm i 0 ≡ 0
  pub store : (i : ℕ) → blob_from s (length (gateway_of s x).entries) ≤ i → get_or x i 0 ≡ 0
  pub lock : (i : ℕ) → s.lock.len ≤ i → get_or s.lock.bytes i 0 ≡ 0

abbrev pub RestRule : Type 0
RestRule = (s : State) (x : List ℕ) → Sound s x → RestZero s x
