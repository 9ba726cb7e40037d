-- 01's soundness, as far as it is not byte layout: as facts, and as the test that refusal 3 makes.
use Rattle.std.specs.Prelude.{ℕ, ◌≤◌, ◌<◌, ◌≢◌, Bool, true, ◌&&◌, not, List, [], ◌∷◌, length, leb, ltb, eqb}
use Rattle.wire.specs.Limits.{entries_limit, store_size, blob_limit, fields_limit, comment_limit, passphrase_limit, last_number}
use Rattle.wire.specs.Numbers.{within}
use Rattle.wire.specs.Read.{same}
use Rattle.rule.specs.declared.Millis.{Millis}
use Rattle.rule.specs.Gateway.{Entry, Gateway, all_lengths}

-- ## The facts

abbrev pub EveryEntry : (Entry → Type 0) → List Entry → Type 0
EveryEntry P [] = Unit {0}
EveryEntry P (e ∷ es) = P e × EveryEntry P es

-- "blobs distinct, insertion numbers distinct"
pub record Apart (e x : Entry) : Type 0 where
  pub blobs : e.blob ≢ x.blob
  pub numbers : e.number ≢ x.number

abbrev pub Distinct : List Entry → Type 0
Distinct [] = Unit {0}
Distinct (e ∷ es) = EveryEntry (Apart e) es × Distinct es

-- "lengths within limits"
pub record Fits (blob fields comment : List ℕ) : Type 0 where
  pub blob_some : 1 ≤ length blob
  pub blob_fits : length blob ≤ blob_limit
  pub fields_some : 1 ≤ length fields
  pub fields_fit : length fields ≤ fields_limit
  pub comment_fits : length comment ≤ comment_limit

pub record SoundEntry (clock : Millis) (next : ℕ) (e : Entry) : Type 0 where
  pub lengths : Fits e.blob e.fields e.comment
  pub number_first : 1 ≤ e.number
  pub number_taken : e.number < next
  pub reading_past : e.reading.count ≤ clock.count

pub record Sound (g : Gateway) : Type 0 where
  pub few : length g.entries ≤ entries_limit
  pub room : all_lengths g.entries ≤ store_size
  pub entries : EveryEntry (SoundEntry g.clock g.next) g.entries
  pub distinct : Distinct g.entries
  pub lock_fits : length g.lock ≤ passphrase_limit
  pub next_first : 1 ≤ g.next
  pub next_last : g.next ≤ last_number

-- ## The test

unfoldable pub every_entry : (Entry → Bool) → List Entry → Bool
every_entry test [] = true
every_entry test (e ∷ es) = test e && every_entry test es

abbrev pub apart : Entry → Entry → Bool
apart e x = not (same e.blob x.blob) && not (eqb e.number x.number)

unfoldable pub distinct : List Entry → Bool
distinct [] = true
distinct (e ∷ es) = every_entry (apart e) es && distinct es

unfoldable pub fit : List ℕ → List ℕ → List ℕ → Bool
fit blob fields comment = within 1 blob_limit (length blob) && (within 1 fields_limit (length fields) && leb (length comment) comment_limit)

abbrev pub sound_entry : Millis → ℕ → Entry → Bool
sound_entry clock next e =
    fit e.blob e.fields e.comment
    && ((leb 1 e.number && ltb e.number next) && leb e.reading.count clock.count)

unfoldable pub sound : Gateway → Bool
sound g =
    ((leb (length g.entries) entries_limit && leb (all_lengths g.entries) store_size) && every_entry (sound_entry g.clock g.next) g.entries)
    && (distinct g.entries && (leb (length g.lock) passphrase_limit && within 1 last_number g.next))
