-- What a sound state says of what is read of it: where the bytes of its entries lie, and what stands at one index.
use Prim.Native.Nat.{ℕ, zero, suc, ◌+◌, ◌≤◌, ◌<◌}
use mathlib.Core.Path.{◌≡◌, sym, ap, ◌∙◌}
use mathlib.Core.Bool.{Bool}
use mathlib.Core.Option.{some}
use mathlib.Core.List.{List, [], ◌∷◌}
use native.Mathlib.Omega.{arith}
use native.Mathlib.Nat.{not-suc-le-zero, le_of_suc-le-suc}
use lib.Dec.{ltb}
use lib.ListN.{length, take, drop, get_or}
use lib.Seq.{length-take-le}
use Rattle.wire.specs.Limits.{entries_limit, store_size}
use Rattle.wire.specs.Read.{same}
use Rattle.rule.specs.Gateway.{Entry as Key, locked, holds, entry_at}
use Rattle.table.specs.declared.Figures.{Figures}
use Rattle.table.specs.declared.State.{State}
use Rattle.table.specs.Each.{offset}
use Rattle.table.specs.Entries.{figures_at, count_of, start_in}
use Rattle.table.specs.Meaning.{size, is_set, entries_of, gateway_of, no_figures, end_of}
use Rattle.table.specs.Soundness.{SoundFigures, EveryFigures, Sound, Housed}
use Rattle.table.specs.Shown.{ShowsParts}
use Rattle.table.proofs.EntryLaws.{count_within, entries_length, entries_at, start_is, start-step, start-mono, start-all}
use Rattle.table.proofs.StateLaws.{key_at, state_entry, state_held, blob_lies}

pub every_figures_at : (P : Figures → Type 0) (fs : List Figures) → EveryFigures P fs → (i : ℕ) (d : Figures) → i < length fs → P (get_or fs i d)
every_figures_at P [] all i d h = absurd (not-suc-le-zero h)
every_figures_at P (f ∷ fs) all zero d h = all.0
every_figures_at P (f ∷ fs) all (suc i) d h = every_figures_at P fs all.1 i d (le_of_suc-le-suc h)

-- ## A sound state

module _ (s : State) (x : List ℕ) (S : Sound s x) where
  abbrev from : ℕ → ℕ
  from i = start_in s.columns.blob_lens s.columns.fields_lens s.columns.comment_lens i

  pub figures_at_lem : (i : ℕ) → i < count_of s.columns.numbers → SoundFigures s.clock s.next (figures_at s.columns i)
  figures_at_lem i h =
      let long = entries_length s.columns in
      rw (entries_at s.columns i no_figures h) at (every_figures_at _ (entries_of s) S.entries i no_figures (omega arith))

  -- the bytes of all entries end within the store
  pub state_end : from (count_of s.columns.numbers) ≤ store_size
  state_end =
      let long = entries_length s.columns in
      let end : end_of (entries_of s) ≡ from (count_of s.columns.numbers) = ap (λ n. offset size (entries_of s) n) long ∙ start_is s.columns (count_of s.columns.numbers) (omega arith) in
      let r = S.room in
      omega arith

  -- .. and so by the columns whole, since unused entries add nothing
  pub state_whole_end : from entries_limit ≡ from (count_of s.columns.numbers)
  state_whole_end = start-all s.columns S.long (count_of s.columns.numbers) S.unused

  pub state_few : count_of s.columns.numbers ≤ entries_limit
  state_few = let w = count_within s.columns.numbers in let l = S.long.numbers in omega arith

  pub state_housed : (numbers blobs fields comments : List ℕ) → ShowsParts numbers blobs fields comments s → Housed numbers blobs fields comments x
  state_housed numbers blobs fields comments shows =
      rw (← shows.numbers_are, ← shows.blobs_are, ← shows.fields_are, ← shows.comments_are) (record {
        long_numbers = S.long.numbers;
        long_blobs = S.long.blobs;
        long_fields = S.long.fields;
        long_comments = S.long.comments;
        room = let e = state_end in let l = S.store_sized in omega arith;
      })

  pub state_locked : ltb 0 s.lock.len ≡ locked (gateway_of s x)
  unfolding gateway_of
  state_locked = let h = S.lock.lock_fits in let l = S.lock.record_size in ap (ltb 0) (sym (length-take-le s.lock.len s.lock.bytes (omega arith)))

-- ## What stands at one index of any state

module _ (s : State) (x : List ℕ) (i : ℕ) (k : Key) (held : entry_at (gateway_of s x).entries i ≡ some k) where
  pub held-inside : i < count_of s.columns.numbers
  held-inside = (state_held s x i k held).0

  pub held_number : k.number ≡ get_or s.columns.numbers i 0
  held_number = ap (λ (y : Key). y.number) (state_held s x i k held).1

  pub held-confirm : k.confirm ≡ is_set (get_or s.columns.confirm i 0)
  held-confirm = ap (λ (y : Key). y.confirm) (state_held s x i k held).1

-- the blob of entry i, where it lies
pub held-blob : (s : State) (x : List ℕ) (i : ℕ) → i < count_of s.columns.numbers
    → (key_at s x i).blob ≡ take (get_or s.columns.blob_lens i 0) (drop (start_in s.columns.blob_lens s.columns.fields_lens s.columns.comment_lens i) x)
held-blob s x i h = blob_lies s x i h

-- ## Bytes within the store, by the columns of lengths

-- entry i, whose bytes begin at `at`: each column has it, and its bytes lie in the store
pub record Entered (numbers blobs fields comments x : List ℕ) (i at : ℕ) : Type 0 where
  pub held : i < count_of numbers
  pub numbered : i < length numbers
  pub blobs_have : i < length blobs
  pub fields_have : i < length fields
  pub comments_have : i < length comments
  pub starts : at ≡ start_in blobs fields comments i
  pub within : at + (get_or blobs i 0 + (get_or fields i 0 + get_or comments i 0)) ≤ length x
  pub next : at + (get_or blobs i 0 + (get_or fields i 0 + get_or comments i 0)) ≡ start_in blobs fields comments (i + 1)

module _ (numbers blobs fields comments x : List ℕ) (H : Housed numbers blobs fields comments x) (i : ℕ) (h : i < count_of numbers) where
  pub part-within : start_in blobs fields comments i + (get_or blobs i 0 + (get_or fields i 0 + get_or comments i 0)) ≤ length x
  part-within =
      let s = start-step blobs fields comments i in
      let m = start-mono blobs fields comments (suc i) (count_of numbers) (omega arith) in
      let r = H.room in
      omega arith

  pub index_within : i < entries_limit
  index_within = let w = count_within numbers in let l = H.long_numbers in omega arith

  pub entered : (at : ℕ) → at ≡ start_in blobs fields comments i → Entered numbers blobs fields comments x i at
  entered at starts =
      let inside = index_within in
      let part = part-within in
      let next = start-step blobs fields comments i in
      let suc-is : i + 1 ≡ suc i = omega arith in
      record {
        held = h;
        numbered = let l = H.long_numbers in omega arith;
        blobs_have = let l = H.long_blobs in omega arith;
        fields_have = let l = H.long_fields in omega arith;
        comments_have = let l = H.long_comments in omega arith;
        starts = starts;
        within = omega arith;
        next = rw suc-is (omega arith);
      }

-- of a state with these columns: entry i has the blob that lies there, and another is told from it by the bytes
pub shown_holds : (s : State) (x numbers blobs fields comments : List ℕ) → ShowsParts numbers blobs fields comments s → (i : ℕ) → i < count_of numbers
    → (b : Bool) (blob part : List ℕ) → part ≡ take (get_or blobs i 0) (drop (start_in blobs fields comments i) x) → b ≡ same part blob
    → (entry_at (gateway_of s x).entries i ≡ some (key_at s x i)) × (holds blob (key_at s x i) ≡ b)
shown_holds s x numbers blobs fields comments shows i h b blob part part-is test =
    let inside : i < count_of s.columns.numbers = rw shows.numbers_are h in
    let lies : (key_at s x i).blob ≡ take (get_or blobs i 0) (drop (start_in blobs fields comments i) x)
    = blob_lies s x i inside ∙ (λ j. take (get_or (shows.blobs_are j) i 0) (drop (start_in (shows.blobs_are j) (shows.fields_are j) (shows.comments_are j) i) x)) in
    (state_entry s x i inside, ap (λ (l : List ℕ). same l blob) (lies ∙ sym part-is) ∙ sym test)
