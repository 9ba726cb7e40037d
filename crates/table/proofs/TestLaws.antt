-- Each test of soundness is passed exactly where its fact holds; so the whole test says soundness.
use Prim.Native.Nat.{ℕ, ◌≤◌}
use mathlib.Core.Path.{◌≡◌, refl, ap}
use mathlib.Core.Bool.{Bool, true, false, ◌||◌}
use mathlib.Core.List.{List, [], ◌∷◌}
use native.Mathlib.Omega.{arith}
use borrow.Author.Tests.{eqb-true, eq-eqb}
use lib.Dec.{eqb}
use lib.ListN.{length, drop}
use Rattle.wire.specs.Limits.{entries_limit, store_size, blob_limit, fields_limit, comment_limit, passphrase_limit, last_number}
use Rattle.wire.specs.declared.Seconds.{Seconds}
use Rattle.rule.proofs.SoundLaws.{Says, both_say, le_says, lt_says, eq_says, within-says, distinct-says}
use Rattle.rule.specs.declared.Millis.{Millis}
use Rattle.table.specs.declared.Columns.{Columns}
use Rattle.table.specs.declared.Figures.{Figures}
use Rattle.table.specs.declared.LockRecord.{LockRecord}
use Rattle.table.specs.Bytes.{Zeros}
use Rattle.table.specs.Entries.{Long, count_of}
use Rattle.table.specs.Meaning.{entries_of, is_set, view, end_of}
use Rattle.table.specs.Soundness.{is_flag, long_columns, zero_behind, sound_flags, sound_lifetime, sound_lengths, sound_figures, all, sound_entries, sound_store, sound_lock, sound_keys, sound_state, short_of, Flag, ZeroBehind, SoundFigures, EveryFigures, SoundLock}
use Rattle.table.specs.Promises.{SoundStateRule, ShortRule}
use Rattle.table.proofs.ByteLaws.{zeros_say}

flag_says : (b : ℕ) → Says (is_flag b) (Flag b)
flag_says b = le_says b _

flags_say : (limited confirm : ℕ) → Says (sound_flags limited confirm) (Flag limited × Flag confirm)
unfolding sound_flags
flags_say limited confirm = both_say _ _ _ _ (flag_says limited) (flag_says confirm)

lifetime_says : (limited : ℕ) (seconds : Seconds) → Says (sound_lifetime limited seconds) (is_set limited ≡ false → seconds.count ≡ 0)
unfolding sound_lifetime
lifetime_says limited seconds = by_limit (is_set limited)
  where
    by_limit : (set : Bool) → Says (set || eqb seconds.count 0) (set ≡ false → seconds.count ≡ 0)
    by_limit true = ((λ _ never. let z : ◌≡◌ {A = ℕ} 0 1 = cc in absurd (omega arith)), (λ _. refl))
    by_limit false = ((λ t _. eqb-true seconds.count 0 t), (λ f. eq-eqb seconds.count 0 (f refl)))

pub figures_say : (clock : Millis) (next : ℕ) (f : Figures) → Says (sound_figures clock next f) (SoundFigures clock next f)
unfolding sound_figures sound_lengths
figures_say clock next f =
    let tests =
    both_say _ _ _ _ (lt_says f.number next)
    (both_say _ _ _ _ (le_says f.reading.count clock.count)
    (both_say _ _ _ _ (flags_say f.limited f.confirm)
    (both_say _ _ _ _ (lifetime_says f.limited f.seconds)
    (both_say _ _ _ _ (within-says 1 blob_limit f.blob_len)
    (both_say _ _ _ _ (within-says 1 fields_limit f.fields_len) (le_says f.comment_len comment_limit)))))) in (
      (λ t.
          let (taken, (reading, (flags, (seconds, (blob, (fields, comment)))))) = tests.0 t in
          record {
            number_taken = taken;
            reading_past = reading;
            limited_is_flag = flags.0;
            confirm_flag = flags.1;
            no_seconds = seconds;
            blob_some = blob.0;
            blob_fits = blob.1;
            fields_some = fields.0;
            fields_fit = fields.1;
            comment_fits = comment;
          }),
      (λ s. tests.1 (s.number_taken, (s.reading_past, ((s.limited_is_flag, s.confirm_flag), (s.no_seconds, ((s.blob_some, s.blob_fits), ((s.fields_some, s.fields_fit), s.comment_fits))))))),
    )

pub entries_say : (clock : Millis) (next : ℕ) (fs : List Figures) → Says (sound_entries clock next fs) (EveryFigures (SoundFigures clock next) fs)
unfolding sound_entries all
entries_say clock next [] = ((λ _. tt), (λ _. refl))
entries_say clock next (f ∷ fs) = both_say _ _ _ _ (figures_say clock next f) (entries_say clock next fs)

store_says : (fs : List Figures) (x : List ℕ) → Says (sound_store fs x) ((end_of fs ≤ store_size) × Zeros (drop (end_of fs) x))
unfolding sound_store
store_says fs x = both_say _ _ _ _ (le_says (end_of fs) store_size) (zeros_say (drop (end_of fs) x))

lock_says : (l : LockRecord) → Says (sound_lock l) (SoundLock l)
unfolding sound_lock
lock_says l =
    let tests = both_say _ _ _ _ (eq_says (length l.bytes) passphrase_limit) (both_say _ _ _ _ (le_says l.len passphrase_limit) (zeros_say (drop l.len l.bytes))) in (
      (λ t. let (size, (fits, rest)) = tests.0 t in record { record_size = size; lock_fits = fits; lock_rest = rest }),
      (λ s. tests.1 (s.record_size, (s.lock_fits, s.lock_rest))),
    )

-- the columns are tested one after the other
pub long_says : (t : Columns) → Says (long_columns t) (Long t)
unfolding long_columns
long_says t =
    let tests =
    both_say _ _ _ _ (eq_says (length t.numbers) entries_limit)
    (both_say _ _ _ _ (eq_says (length t.readings) entries_limit)
    (both_say _ _ _ _ (eq_says (length t.blob_lens) entries_limit)
    (both_say _ _ _ _ (eq_says (length t.fields_lens) entries_limit)
    (both_say _ _ _ _ (eq_says (length t.comment_lens) entries_limit)
    (both_say _ _ _ _ (eq_says (length t.seconds) entries_limit)
    (both_say _ _ _ _ (eq_says (length t.limited) entries_limit) (eq_says (length t.confirm) entries_limit))))))) in (
      (λ b.
          let (numbers, (readings, (blobs, (fields, (comments, (seconds, (limited, confirm))))))) = tests.0 b in
          record {
            numbers = numbers;
            readings = readings;
            blobs = blobs;
            fields = fields;
            comments = comments;
            seconds = seconds;
            limited = limited;
            confirm = confirm;
          }),
      (λ e. tests.1 (e.numbers, (e.readings, (e.blobs, (e.fields, (e.comments, (e.seconds, (e.limited, e.confirm)))))))),
    )

pub unused_says : (n : ℕ) (t : Columns) → Says (zero_behind n t) (ZeroBehind n t)
unfolding zero_behind
unused_says n t =
    let tests =
    both_say _ _ _ _ (zeros_say (drop n t.numbers))
    (both_say _ _ _ _ (zeros_say (drop n t.readings))
    (both_say _ _ _ _ (zeros_say (drop n t.blob_lens))
    (both_say _ _ _ _ (zeros_say (drop n t.fields_lens))
    (both_say _ _ _ _ (zeros_say (drop n t.comment_lens))
    (both_say _ _ _ _ (zeros_say (drop n t.seconds))
    (both_say _ _ _ _ (zeros_say (drop n t.limited)) (zeros_say (drop n t.confirm)))))))) in (
      (λ b.
          let (numbers, (readings, (blobs, (fields, (comments, (seconds, (limited, confirm))))))) = tests.0 b in
          record {
            numbers = numbers;
            readings = readings;
            blobs = blobs;
            fields = fields;
            comments = comments;
            seconds = seconds;
            limited = limited;
            confirm = confirm;
          }),
      (λ e. tests.1 (e.numbers, (e.readings, (e.blobs, (e.fields, (e.comments, (e.seconds, (e.limited, e.confirm)))))))),
    )

pub sound_state-rule : SoundStateRule
unfolding sound_state sound_keys
sound_state-rule s x =
    let tests =
    both_say _ _ _ _ (eq_says (length x) store_size)
    (both_say _ _ _ _ (long_says s.columns)
    (both_say _ _ _ _ (within-says 1 last_number s.next)
    (both_say _ _ _ _ (lock_says s.lock)
    (both_say _ _ _ _ (unused_says (count_of s.columns.numbers) s.columns)
    (both_say _ _ _ _ (entries_say s.clock s.next (entries_of s))
    (both_say _ _ _ _ (store_says (entries_of s) x) (distinct-says (view (entries_of s) x)))))))) in (
      (λ t.
          let (store, (long, (next, (lock, (unused, (entries, (bytes, distinct))))))) = tests.0 t in
          record {
            long = long;
            store_sized = store;
            next_first = next.0;
            next_last = next.1;
            lock = lock;
            unused = unused;
            entries = entries;
            room = bytes.0;
            end = bytes.1;
            distinct = distinct;
          }),
      (λ s. tests.1 (s.store_sized, (s.long, ((s.next_first, s.next_last), (s.lock, (s.unused, (s.entries, ((s.room, s.end), s.distinct)))))))),
    )

pub short_rule : ShortRule
short_rule a b differ same = differ (ap short_of same)
