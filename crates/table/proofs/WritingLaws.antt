-- A sound state and store are written in one way: entry by entry, figures and bytes are those of what they mean, and a sound gateway written so is sound and
-- means itself.
use Prim.Native.Nat.{ℕ, zero, suc, ◌+◌, ◌≤◌, ◌<◌}
use mathlib.Core.Path.{◌≡◌, refl, sym, ap, ◌∙◌}
use mathlib.Core.Logic.{◌≢◌}
use mathlib.Core.Bool.{Bool, true, false, cond}
use mathlib.Core.List.{List, [], ◌∷◌, ◌++◌, map}
use native.Mathlib.Omega.{arith}
use native.Mathlib.Nat.{not-suc-le-zero, le_of_suc-le-suc}
use lib.ListN.{length, take, drop, replicate, get_or, length-drop, length-map, length-take, length-append, take-append-drop}
use lib.Seq.{length-take-le, take_at, drop_at, take-append-le, drop-append-le, take_all, take-add}
use Rattle.wire.specs.Limits.{entries_limit, store_size, passphrase_limit}
use Rattle.keys.specs.Constraints.{Lifetime}
use Rattle.std.specs.Prelude.{Some, None}
use Rattle.rule.specs.declared.Millis.{Millis}
use Rattle.rule.specs.Gateway.{Entry as Key, Gateway, fresh, lengths_of, all_lengths, with_lock}
use Rattle.rule.specs.Soundness.{EveryEntry, SoundEntry}
use Rattle.rule.specs.Soundness as rule
use Rattle.rule.proofs.SoundLaws.{fresh-sound, sound-lock}
use Rattle.table.specs.declared.Figures.{Figures}
use Rattle.table.specs.declared.LockRecord.{LockRecord}
use Rattle.table.specs.declared.State.{State}
use Rattle.table.specs.Bytes.{padded}
use Rattle.table.specs.Each.{each, offset}
use Rattle.table.specs.Entries.{count_of, entries_in, columns_of}
use Rattle.table.specs.Meaning.{size, is_set, lifetime_of, key_of, entries_of, view, passphrase, gateway_of, no_figures, end_of, flag_of, limited_flag, kept_seconds, figures_for, bytes_for, laid, lock_of, state_of, layout}
use Rattle.table.specs.Soundness.{Flag, SoundFigures, EveryFigures, SoundLock, Sound, Means}
use Rattle.table.specs.Promises.{SoundMeaning, SoundCanonical, OneWriting, EveryGateway, FreshMeans}
use Rattle.table.proofs.ByteLaws.{padded-size, padded-front, padded-rest, zeros_padded}
use Rattle.table.proofs.EachLaws.{each-length}
use Rattle.table.proofs.EntryLaws.{count_within, count_held, entries_length, entries_at, columns-written, columns-long, columns-unused, columns-count, entries_shown}

-- ## One entry

-- a sound flag is written as what it says
flag_kept : (flag : ℕ) → Flag flag → flag ≡ flag_of (is_set flag)
flag_kept zero h = refl
flag_kept (suc zero) h = refl
flag_kept (suc (suc n)) h = absurd (omega arith)

-- a lifetime is kept as a flag and seconds
lifetime_kept : (f : Figures) → Flag f.limited → (is_set f.limited ≡ false → f.seconds.count ≡ 0) → (f.limited ≡ limited_flag (lifetime_of f)) × (f.seconds ≡ kept_seconds (lifetime_of f))
lifetime_kept f flag none-without = by_limit (is_set f.limited) refl
  where
    by_limit : (b : Bool) → is_set f.limited ≡ b → (f.limited ≡ limited_flag (cond b (Some f.seconds) None)) × (f.seconds ≡ kept_seconds (cond b (Some f.seconds) None))
    by_limit true b = (flag_kept f.limited flag ∙ ap flag_of b, refl)
    by_limit false b = let zero-seconds : f.seconds.count ≡ 0 = none-without b in (flag_kept f.limited flag ∙ ap flag_of b, (λ j. record { count = zero-seconds j }))

-- sound figures and as many bytes as they say are those of the key that they mean, which is sound
pub record Seen (clock : Millis) (next : ℕ) (f : Figures) (p : List ℕ) : Type 0 where
  pub figures : f ≡ figures_for (key_of f p)
  pub bytes : p ≡ bytes_for (key_of f p)
  pub key : SoundEntry clock next (key_of f p)

module _ (clock : Millis) (next : ℕ) (f : Figures) (p : List ℕ) (whole : length p ≡ size f) where
  pub seen : f.number ≢ 0 → SoundFigures clock next f → Seen clock next f p
  unfolding size figures_for bytes_for
  seen number s =
      let rest : length (drop f.blob_len p) ≡ f.fields_len + f.comment_len = rw length-drop (omega arith) in
      let last : length (drop f.fields_len (drop f.blob_len p)) ≡ f.comment_len = rw length-drop (omega arith) in
      let blob : length (take f.blob_len p) ≡ f.blob_len = length-take-le _ p (omega arith) in
      let fields : length (take f.fields_len (drop f.blob_len p)) ≡ f.fields_len = length-take-le _ (drop f.blob_len p) (omega arith) in
      let comment : length (take f.comment_len (drop f.fields_len (drop f.blob_len p))) ≡ f.comment_len
      = length-take-le _ (drop f.fields_len (drop f.blob_len p)) (omega arith) in
      let lifetime = lifetime_kept f s.limited_is_flag s.no_seconds in
      let confirm = flag_kept f.confirm s.confirm_flag in
      let all-comment = take_all f.comment_len (drop f.fields_len (drop f.blob_len p)) (omega arith) in
      record {
        figures = λ j. record {
          number = f.number;
          reading = f.reading;
          blob_len = sym blob j;
          fields_len = sym fields j;
          comment_len = sym comment j;
          seconds = lifetime.1 j;
          limited = lifetime.0 j;
          confirm = confirm j;
        };
        bytes =
            sym (take-append-drop f.blob_len p)
            ∙ ap (λ (r : List ℕ). take f.blob_len p ++ r)
            (sym (take-append-drop f.fields_len (drop f.blob_len p)) ∙ ap (λ (r : List ℕ). take f.fields_len (drop f.blob_len p) ++ r) (sym all-comment));
        key = record {
          lengths = record {
            blob_some = rw blob s.blob_some;
            blob_fits = rw blob s.blob_fits;
            fields_some = rw fields s.fields_some;
            fields_fit = rw fields s.fields_fit;
            comment_fits = rw comment s.comment_fits;
          };
          number_first = omega arith;
          number_taken = s.number_taken;
          reading_past = s.reading_past;
        };
      }

-- ## From what is written to what is meant

pub record Writing (clock : Millis) (next : ℕ) (fs : List Figures) (x : List ℕ) (ks : List Key) : Type 0 where
  pub figures : fs ≡ map figures_for ks
  pub store : take (end_of fs) x ≡ laid ks
  pub keys : EveryEntry (SoundEntry clock next) ks

-- each entry has a number
abbrev pub Numbered : List Figures → Type 0
Numbered fs = (i : ℕ) → i < length fs → (get_or fs i no_figures).number ≢ 0

module _ (clock : Millis) (next : ℕ) where
  pub writing : (fs : List Figures) (x : List ℕ) → Numbered fs → end_of fs ≤ length x → EveryFigures (SoundFigures clock next) fs → Writing clock next fs x (view fs x)
  unfolding each offset laid
  writing [] x numbered room all = record { figures = refl; store = refl; keys = tt }
  writing (f ∷ fs) x numbered room all =
      let whole : length (take (size f) x) ≡ size f = length-take-le (size f) x (omega arith) in
      let rest : end_of fs ≤ length (drop (size f) x) = rw length-drop (omega arith) in
      let first = seen clock next f (take (size f) x) whole (numbered 0 (omega arith)) all.0 in
      let w = writing fs (drop (size f) x) (λ i h. numbered (suc i) (omega arith)) rest all.1 in
      record {
        figures = λ j. first.figures j ∷ w.figures j;
        store = take-add (size f) (end_of fs) x ∙ (λ j. first.bytes j ++ w.store j);
        keys = (first.key, w.keys);
      }

pub state_numbered : (s : State) → Numbered (entries_of s)
state_numbered s i h =
    let long = entries_length s.columns in
    let inside : i < count_of s.columns.numbers = omega arith in
    λ z. count_held s.columns.numbers i inside (sym (ap (λ (f : Figures). f.number) (entries_at s.columns i no_figures inside)) ∙ z)

pub sound-writing : (s : State) (x : List ℕ) → Sound s x → Writing s.clock s.next (entries_of s) x (view (entries_of s) x)
sound-writing s x S = writing s.clock s.next (entries_of s) x (state_numbered s) (let l = S.store_sized in let r = S.room in omega arith) S.entries

-- the bytes of entries are the lengths of their keys
pub end_lengths : (ks : List Key) → end_of (map figures_for ks) ≡ all_lengths ks
unfolding offset size figures_for all_lengths lengths_of
end_lengths [] = refl
end_lengths (k ∷ ks) = let r = end_lengths ks in omega arith

pub laid-length : (ks : List Key) → length (laid ks) ≡ all_lengths ks
unfolding laid bytes_for all_lengths lengths_of
laid-length [] = refl
laid-length (k ∷ ks) = simp length-append (let r = laid-length ks in omega arith)

pub entries_few : (s : State) (x : List ℕ) → Sound s x → length (view (entries_of s) x) ≤ entries_limit
entries_few s x S =
    let a = each-length size key_of (entries_of s) x in
    let b = entries_length s.columns in
    let c = count_within s.columns.numbers in
    let d = S.long.numbers in
    omega arith

pub sound-meaning : SoundMeaning
unfolding gateway_of
sound-meaning s x S =
    let w = sound-writing s x S in
    record {
      few = entries_few s x S;
      room = let a = end_lengths (view (entries_of s) x) in let b = ap end_of w.figures in let c = S.room in omega arith;
      entries = w.keys;
      distinct = S.distinct;
      lock_fits = let h = S.lock.lock_fits in let l = S.lock.record_size in rw length-take (omega arith);
      next_first = S.next_first;
      next_last = S.next_last;
    }

pub lock_written : (l : LockRecord) → SoundLock l → l ≡ lock_of (passphrase l)
unfolding lock_of
lock_written l L =
    let n : length (take l.len l.bytes) ≡ l.len = let h = L.lock_fits in let g = L.record_size in length-take-le l.len l.bytes (omega arith) in
    let bytes = zeros_padded passphrase_limit l.len l.bytes L.record_size L.lock_fits L.lock_rest in
    λ j. record { bytes = bytes j; len = sym n j }

pub sound-canonical : SoundCanonical
unfolding gateway_of state_of layout
sound-canonical s x S =
    let w = sound-writing s x S in
    let table = columns-written s.columns S.long S.unused ∙ ap columns_of w.figures in
    let lock = lock_written s.lock S.lock in
    record {
      state = λ j. record { columns = table j; lock = lock j; clock = s.clock; next = s.next };
      store = zeros_padded store_size (end_of (entries_of s)) x S.store_sized S.room S.end ∙ ap (padded store_size) w.store;
    }

pub one_writing : OneWriting
one_writing s t x y S T e =
    let a = sound-canonical s x S in
    let b = sound-canonical t y T in
    (a.state ∙ ap state_of e ∙ sym b.state, a.store ∙ ap layout e ∙ sym b.store)

-- ## From what is meant to what is written

flag_back : (b : Bool) → is_set (flag_of b) ≡ b
flag_back true = refl
flag_back false = refl

flag_sound : (b : Bool) → Flag (flag_of b)
flag_sound true = omega arith
flag_sound false = omega arith

limited_sound : (l : Lifetime) → Flag (limited_flag l)
limited_sound None = omega arith
limited_sound (Some seconds) = omega arith

lifetime_back_lem : (l : Lifetime) → cond (is_set (limited_flag l)) (Some (kept_seconds l)) None ≡ l
lifetime_back_lem None = refl
lifetime_back_lem (Some seconds) = refl

no_seconds_back : (l : Lifetime) → is_set (limited_flag l) ≡ false → (kept_seconds l).count ≡ 0
no_seconds_back None z = refl
no_seconds_back (Some seconds) z = let never : ◌≡◌ {A = ℕ} 0 1 = cc in absurd (omega arith)

key-size : (k : Key) → length (bytes_for k) ≡ size (figures_for k)
unfolding size figures_for bytes_for
key-size k = simp length-append refl

key_back : (k : Key) → key_of (figures_for k) (bytes_for k) ≡ k
unfolding figures_for bytes_for
key_back k =
    let behind = drop_at k.blob (k.fields ++ k.comment) (length k.blob) refl in
    λ j. record {
      number = k.number;
      reading = k.reading;
      lifetime = lifetime_back_lem k.lifetime j;
      confirm = flag_back k.confirm j;
      blob = take_at k.blob (k.fields ++ k.comment) (length k.blob) refl j;
      fields = (ap (take (length k.fields)) behind ∙ take_at k.fields k.comment (length k.fields) refl) j;
      comment = (ap (λ (r : List ℕ). take (length k.comment) (drop (length k.fields) r)) behind
          ∙ ap (take (length k.comment)) (drop_at k.fields k.comment (length k.fields) refl)
          ∙ take_all (length k.comment) k.comment (omega arith)) j;
    }

figures_sound : (clock : Millis) (next : ℕ) (k : Key) → SoundEntry clock next k → SoundFigures clock next (figures_for k)
unfolding figures_for
figures_sound clock next k s = record {
  number_taken = s.number_taken;
  reading_past = s.reading_past;
  limited_is_flag = limited_sound k.lifetime;
  confirm_flag = flag_sound k.confirm;
  no_seconds = no_seconds_back k.lifetime;
  blob_some = s.lengths.blob_some;
  blob_fits = s.lengths.blob_fits;
  fields_some = s.lengths.fields_some;
  fields_fit = s.lengths.fields_fit;
  comment_fits = s.lengths.comment_fits;
}

-- what lies behind the bytes of the entries is not read
view-back : (ks : List Key) (rest : List ℕ) → view (map figures_for ks) (laid ks ++ rest) ≡ ks
unfolding each laid
view-back [] rest = refl
view-back (k ∷ ks) rest =
    let l = key-size k in
    let front : take (size (figures_for k)) ((bytes_for k ++ laid ks) ++ rest) ≡ bytes_for k
    = take-append-le (size (figures_for k)) (bytes_for k ++ laid ks) rest (simp length-append (omega arith)) ∙ take_at (bytes_for k) (laid ks) (size (figures_for k)) l in
    let back : drop (size (figures_for k)) ((bytes_for k ++ laid ks) ++ rest) ≡ laid ks ++ rest
    = drop-append-le (size (figures_for k)) (bytes_for k ++ laid ks) rest (simp length-append (omega arith)) ∙ ap (λ (r : List ℕ). r ++ rest) (drop_at (bytes_for k) (laid ks) (size (figures_for k)) l) in
    λ j. ((ap (key_of (figures_for k)) front ∙ key_back k) j) ∷ ((ap (view (map figures_for ks)) back ∙ view-back ks rest) j)

view-padded : (ks : List Key) → view (map figures_for ks) (padded store_size (laid ks)) ≡ ks
unfolding padded
view-padded ks = view-back ks _

all-figures_sound : (clock : Millis) (next : ℕ) (ks : List Key) → EveryEntry (SoundEntry clock next) ks → EveryFigures (SoundFigures clock next) (map figures_for ks)
all-figures_sound clock next [] all = tt
all-figures_sound clock next (k ∷ ks) all = (figures_sound clock next k all.0, all-figures_sound clock next ks all.1)

pub keys_numbered : (clock : Millis) (next : ℕ) (ks : List Key) → EveryEntry (SoundEntry clock next) ks → Numbered (map figures_for ks)
unfolding figures_for
keys_numbered clock next [] all i h = absurd (not-suc-le-zero h)
keys_numbered clock next (k ∷ ks) all zero h = λ z. let f = all.0.number_first in omega arith
keys_numbered clock next (k ∷ ks) all (suc i) h = keys_numbered clock next ks all.1 i (le_of_suc-le-suc h)

lock_sound : (p : List ℕ) → length p ≤ passphrase_limit → SoundLock (lock_of p)
unfolding lock_of
lock_sound p h = record { record_size = padded-size passphrase_limit p h; lock_fits = h; lock_rest = padded-rest passphrase_limit p }

lock_back : (p : List ℕ) → passphrase (lock_of p) ≡ p
unfolding lock_of
lock_back p = padded-front passphrase_limit p

pub every_gateway : EveryGateway
unfolding gateway_of state_of layout
every_gateway g G =
    let ks = g.entries in
    let fs = map figures_for ks in
    let few : length fs ≤ entries_limit = let l = length-map ks figures_for in let h = G.few in omega arith in
    let numbered = keys_numbered g.clock g.next ks G.entries in
    let shown : entries_in (columns_of fs) ≡ fs = entries_shown fs few numbered in
    let counted : count_of (columns_of fs).numbers ≡ length fs = columns-count fs few numbered in
    let end : end_of fs ≡ length (laid ks) = end_lengths ks ∙ sym (laid-length ks) in
    let fits : length (laid ks) ≤ store_size = let h = G.room in let l = laid-length ks in omega arith in
    let view-is : view (entries_in (columns_of fs)) (padded store_size (laid ks)) ≡ ks = ap (λ l. view l (padded store_size (laid ks))) shown ∙ view-padded ks in
    record {
      gateway = λ j. record { entries = view-is j; lock = lock_back g.lock j; clock = g.clock; next = g.next };
      sound = record {
        long = columns-long fs few;
        store_sized = padded-size store_size (laid ks) fits;
        next_first = G.next_first;
        next_last = G.next_last;
        lock = lock_sound g.lock G.lock_fits;
        unused = rw counted (columns-unused fs few);
        entries = rw shown (all-figures_sound g.clock g.next ks G.entries);
        room = rw (shown, end) fits;
        end = rw (shown, end) (padded-rest store_size (laid ks));
        distinct = rw view-is G.distinct;
      };
    }

-- what is written as a sound gateway is means it
pub means_of : (s : State) (x : List ℕ) (g : Gateway) → rule.Sound g → s ≡ state_of g → x ≡ layout g → Means s x g
means_of s x g G a b = rw (a, b) (every_gateway g G)

-- another passphrase, and the rest as it was
pub relocked : (s : State) (x p : List ℕ) (l : LockRecord) → Sound s x → length p ≤ passphrase_limit → l ≡ lock_of p
    → Means (record { columns = s.columns; lock = l; clock = s.clock; next = s.next }) x (with_lock p (gateway_of s x))
unfolding gateway_of state_of layout
relocked s x p l S h lock =
    let c = sound-canonical s x S in
    let table = ap (λ (t : State). t.columns) c.state in
    means_of _ x (with_lock p (gateway_of s x)) (sound-lock p (gateway_of s x) h (sound-meaning s x S)) (λ j. record { columns = table j; lock = lock j; clock = s.clock; next = s.next }) c.store

fresh-zeros : replicate store_size 0 ≡ layout fresh
unfolding layout laid padded
fresh-zeros = refl

pub fresh-means : FreshMeans
fresh-means = means_of (state_of fresh) (replicate store_size 0) fresh fresh-sound refl fresh-zeros
