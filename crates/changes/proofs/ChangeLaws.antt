-- What a change leaves of a sound state and its store is what the rule's gateway after it is written as, so it means that gateway.
use Prim.Native.Nat.{ℕ, zero, suc, ◌+◌, ◌≤◌, ◌<◌}
use native.Mathlib.Omega.{arith}
use native.Mathlib.Nat.{le_of_suc-le-suc}
use mathlib.Core.Path.{◌≡◌, refl, sym, ap, ◌∙◌}
use mathlib.Core.Bool.{true}
use mathlib.Core.List.{List, [], ◌∷◌, ◌++◌, map}
use lib.ListN.{length, get_or, drop, set, replicate, length-append, length-replicate}
use lib.Seq.{ext_get_or}
use Rattle.wire.specs.Limits.{entries_limit, store_size}
use Rattle.rule.specs.declared.Millis.{Millis}
use Rattle.rule.specs.Gateway.{Entry as Key, due_at, lasting, at_clock, later, advance, remove_at, put_at, with_entries, without, without_all, NewKey, new_entry, with_entry}
use Rattle.rule.specs.Soundness as rule
use Rattle.rule.proofs.Effects.{Storable}
use Rattle.rule.proofs.RoomLaws.{has_place, place_inside}
use Rattle.rule.proofs.SoundLaws.{fit-says, sound-fewer, sound-advance, sound-entry, room_after}
use Rattle.table.specs.declared.Columns.{Columns}
use Rattle.table.specs.declared.Kept.{Kept}
use Rattle.table.specs.declared.State.{State}
use Rattle.table.specs.Bytes.{all_zero, Zeros}
use Rattle.table.specs.Entries.{Long, start_in, figures_set}
use Rattle.table.specs.Meaning.{flag_of, limited_lifetime, gateway_of, figures_for, bytes_for, laid, state_of, layout, held, with_table}
use Rattle.table.specs.Soundness.{Sound, Means}
use Rattle.table.specs.Changes.{unmarked, sizes_in, closed_parts, closed_columns, due_marks, bytes_put, PutRoom, made, MayPut}
use Rattle.table.specs.Shown.{SoundOf, ShowsTable}
use Rattle.table.proofs.ByteLaws.{zeros_say, padded-size, padded-rest}
use Rattle.table.proofs.EntryLaws.{columns-long}
use Rattle.table.proofs.WritingLaws.{laid-length, sound-meaning, sound-canonical, means_of}
use Rattle.gaps.proofs.ClosingLaws.{due_length, due_at_lem}
use Rattle.changes.proofs.WrittenLaws.{table_of, store_of, few_figures, size-shown, end_shown, unmarked-fewer, all-marked, none_marked, one_marked, due_lasting, columns-closed, store_closed, columns-put, put_size, store_put}

-- ## A sound state is written as its keys are

pub record Written (t : Columns) (x : List ℕ) (ks : List Key) : Type 0 where
  pub table : t ≡ table_of ks
  pub store : x ≡ store_of ks
  pub few : length ks ≤ entries_limit
  pub fits : length (laid ks) ≤ store_size

pub sound-written : (s : State) (x : List ℕ) → Sound s x → Written s.columns x (gateway_of s x).entries
unfolding state_of layout
sound-written s x S =
    let w = sound-canonical s x S in
    let g = sound-meaning s x S in
    record {
      table = ap (λ (s : State). s.columns) w.state;
      store = w.store;
      few = g.few;
      fits = let l = laid-length (gateway_of s x).entries in let r = g.room in omega arith;
    }

-- where the bytes of all end, by the columns
abbrev end_in : Columns → ℕ
end_in t = start_in t.blob_lens t.fields_lens t.comment_lens entries_limit

-- what is asked of columns and store that are closed
pub record Closable (t : Columns) (x : List ℕ) : Type 0 where
  pub long : Long t
  pub store_sized : length x ≡ store_size
  pub room : end_in t ≤ store_size
  pub end : Zeros (drop (end_in t) x)

pub written-closable : (t : Columns) (x : List ℕ) (ks : List Key) → Written t x ks → Closable t x
written-closable t x ks w =
    rw (w.table, w.store) (record {
      long = columns-long (map figures_for ks) (few_figures ks w.few);
      store_sized = padded-size store_size (laid ks) w.fits;
      room = let e = end_shown ks w.few in let f = w.fits in omega arith;
      end = rw (end_shown ks w.few) (padded-rest store_size (laid ks));
    })

pub shown_closable : (t : Columns) (x : List ℕ) → SoundOf (ShowsTable t) x → Closable t x
shown_closable t x shown = rw shown.shows at (written-closable _ x _ (sound-written shown.state x shown.sound))

-- ## Keys that go

-- a state with the columns and the store of other keys means the gateway with these
keys_meant : (s : State) (x : List ℕ) (u : Columns) (y : List ℕ) (ks : List Key) → Sound s x → rule.Sound (with_entries ks (gateway_of s x)) → u ≡ table_of ks → y ≡ store_of ks
    → Means (with_table u s) y (with_entries ks (gateway_of s x))
unfolding state_of layout
keys_meant s x u y ks S after e f =
    let w = sound-canonical s x S in
    means_of (with_table u s) y (with_entries ks (gateway_of s x)) after (λ j. with_table (e j) (w.state j)) f

module _ (t : Columns) (x marks : List ℕ) (u : Columns) (y : List ℕ) (e : u ≡ closed_columns marks t) (f : y ≡ closed_parts marks (sizes_in t.blob_lens t.fields_lens t.comment_lens) x) where
  closed-means : (s : State) → s.columns ≡ t → Sound s x → (os : List Key) → unmarked marks (gateway_of s x).entries ≡ os → Means (with_table u s) y (with_entries os (gateway_of s x))
  closed-means s shows S os is =
      let g = gateway_of s x in
      let ks = g.entries in
      let w = sound-written s x S in
      let table : u ≡ table_of os = e ∙ ap (closed_columns marks) (sym shows ∙ w.table) ∙ columns-closed marks ks w.few ∙ ap table_of is in
      let sizes : t ≡ table_of ks = sym shows ∙ w.table in
      let store : y ≡ store_of os
      = f ∙ (λ j. closed_parts marks (sizes_in (sizes j).blob_lens (sizes j).fields_lens (sizes j).comment_lens) (w.store j)) ∙ store_closed marks ks w.few w.fits ∙ ap store_of is in
      let fewer = rw is at (unmarked-fewer marks ks) in
      keys_meant s x u y os S (sound-fewer g (with_entries os g) fewer refl (omega arith) refl (sound-meaning s x S)) table store

  pub one_gone : (i : ℕ) → marks ≡ set (replicate entries_limit 0) i 1 → (s : State) → s.columns ≡ t → Sound s x → Means (with_table u s) y (without i (gateway_of s x))
  one_gone i one s shows S =
      let ks = (gateway_of s x).entries in
      closed-means s shows S (remove_at i ks) (ap (λ (ms : List ℕ). unmarked ms ks) one ∙ one_marked entries_limit i ks (sound-written s x S).few)

  pub all-gone : marks ≡ replicate entries_limit 1 → (s : State) → s.columns ≡ t → Sound s x → Means (with_table u s) y (without_all (gateway_of s x))
  all-gone all s shows S =
      let ks = (gateway_of s x).entries in
      closed-means s shows S [] (ap (λ (ms : List ℕ). unmarked ms ks) all ∙ all-marked entries_limit ks)

-- the keys whose mark is not set last
due_stay : (clock : Millis) (t : Columns) (s : State) (x marks : List ℕ) → marks ≡ due_marks clock t.readings t.seconds t.limited → s.columns ≡ t → Sound s x
    → unmarked marks (gateway_of s x).entries ≡ lasting clock (gateway_of s x).entries
due_stay clock t s x marks e shows S =
    let ks = (gateway_of s x).entries in
    let w = sound-written s x S in
    let table : t ≡ table_of ks = sym shows ∙ w.table in
    ap (λ (ms : List ℕ). unmarked ms ks) (e ∙ (λ j. due_marks clock (table j).readings (table j).seconds (table j).limited)) ∙ due_lasting clock ks w.few

pub due_gone : (clock : Millis) (t : Columns) (x marks : List ℕ) (u : Columns) (y : List ℕ) → marks ≡ due_marks clock t.readings t.seconds t.limited
    → u ≡ closed_columns marks t → y ≡ closed_parts marks (sizes_in t.blob_lens t.fields_lens t.comment_lens) x
    → (s : State) → s.columns ≡ t → Sound s x → Means (with_table u s) y (with_entries (lasting clock (gateway_of s x).entries) (gateway_of s x))
due_gone clock t x marks u y due e f s shows S = closed-means t x marks u y e f s shows S (lasting clock (gateway_of s x).entries) (due_stay clock t s x marks due shows S)

pub none_due : (clock : Millis) (t : Columns) (x marks : List ℕ) → marks ≡ due_marks clock t.readings t.seconds t.limited → all_zero marks ≡ true
    → (s : State) → s.columns ≡ t → Sound s x → Means (with_table t s) x (with_entries (lasting clock (gateway_of s x).entries) (gateway_of s x))
none_due clock t x marks due none s shows S =
    let ks = (gateway_of s x).entries in
    let long : length marks ≡ entries_limit = ap length due ∙ due_length clock t.readings t.seconds t.limited in
    let zeros : marks ≡ replicate entries_limit 0 = (zeros_say marks).0 none ∙ ap (λ (n : ℕ). replicate n 0) long in
    let all : lasting clock ks ≡ ks = sym (due_stay clock t s x marks due shows S) ∙ ap (λ (ms : List ℕ). unmarked ms ks) zeros ∙ none_marked entries_limit ks (sound-written s x S).few in
    rw (all, ← shows) (record { gateway = refl; sound = S })

-- where no flag of a lifetime is set no mark is
zero_at : (n i : ℕ) → ◌≡◌ {A = ℕ} (get_or (replicate n 0) i 0) 0
zero_at zero i = refl
zero_at (suc n) zero = refl
zero_at (suc n) (suc i) = zero_at n i

unlimited_unmarked : (clock : Millis) (readings seconds limited : List ℕ) → all_zero limited ≡ true → Zeros (due_marks clock readings seconds limited)
unfolding due_at
unlimited_unmarked clock readings seconds limited none =
    let marks = due_marks clock readings seconds limited in
    let long = due_length clock readings seconds limited in
    let unset : (i : ℕ) → get_or limited i 0 ≡ 0 = λ i. ap (λ (l : List ℕ). get_or l i 0) ((zeros_say limited).0 none) ∙ zero_at (length limited) i in
    ext_get_or 0 marks (replicate (length marks) 0) (sym (length-replicate (length marks) 0))
    (λ i h. due_at_lem clock readings seconds limited i (omega arith) ∙ ap (λ (f : ℕ). flag_of (due_at clock (record { count = get_or readings i 0 }) (limited_lifetime f (record { count = get_or seconds i 0 })))) (unset i) ∙ sym (zero_at (length marks) i))

pub none_limited : (clock : Millis) (t : Columns) (x : List ℕ) → all_zero t.limited ≡ true
    → (s : State) → s.columns ≡ t → Sound s x → Means (with_table t s) x (with_entries (lasting clock (gateway_of s x).entries) (gateway_of s x))
none_limited clock t x none = none_due clock t x _ refl ((zeros_say _).1 (unlimited_unmarked clock t.readings t.seconds t.limited none))

-- ## The clock

-- what is due at the raised clock is gone, and that clock is kept
pub advanced : (t : Columns) (x : List ℕ) (u : Columns) (y : List ℕ) (kept after : Kept) (reading : Millis)
    → after ≡ record { clock = later kept.clock reading; next = kept.next; locked = kept.locked }
    → ((s : State) → s.columns ≡ t → Sound s x → Means (with_table u s) y (with_entries (lasting (later kept.clock reading) (gateway_of s x).entries) (gateway_of s x)))
    → (b : List ℕ) → Sound (held t b kept) x → Means (held u b after) y (advance reading (gateway_of (held t b kept) x))
unfolding advance at_clock gateway_of state_of layout
advanced t x u y kept after reading e expired b S =
    let s = held t b kept in
    let g = gateway_of s x in
    let m = expired s refl S in
    let w = sound-canonical (with_table u s) y m.sound in
    let state = w.state ∙ ap state_of m.gateway in
    means_of (held u b after) y (advance reading g) (sound-advance reading g (sound-meaning s x S))
    (ap (held u b) e ∙ (λ j. record { columns = (state j).columns; lock = (state j).lock; clock = later kept.clock reading; next = kept.next }))
    (w.store ∙ ap layout m.gateway)

-- ## A key that comes

put_inside : (i : ℕ) (e : Key) (ks : List Key) → i ≤ length ks → i < length (put_at i e ks)
unfolding put_at
put_inside i e [] h = omega arith
put_inside zero e (k ∷ ks) h = omega arith
put_inside (suc i) e (k ∷ ks) h = let r = put_inside i e ks (le_of_suc-le-suc h) in omega arith

module _ (s : State) (x : List ℕ) (i : ℕ) (k : NewKey) (may : MayPut s x i k) where
  abbrev keys : List Key
  keys = (gateway_of s x).entries

  written : Written s.columns x keys
  written = sound-written s x may.sound

  -- room behind the last one or in the place of one
  pub put_room : (i ≤ length keys) × (i < entries_limit) × (length (laid (put_at i (made s k) keys)) ≤ store_size)
  put_room =
      let e = made s k in
      let at : i ≤ length keys = place_inside (has_place e keys i may.place).placed in
      let room = room_after e keys i (sound-meaning s x may.sound).distinct may.place in
      let long = laid-length (put_at i e keys) in
      let inside = put_inside i e keys at in
      (at, omega arith, omega arith)

  pub put_storable : Storable (gateway_of s x) (made s k) i
  unfolding gateway_of
  put_storable = record { fits = (fit-says k.blob k.fields k.comment).1 may.lengths; numbers_left = may.numbers_left; place = may.place; number = refl; reading = refl }

-- the bytes of a new key
key-bytes : (s : State) (k : NewKey) → length (bytes_for (made s k)) ≡ length k.blob + (length k.fields + length k.comment)
unfolding bytes_for
key-bytes s k = simp length-append refl

pub may_put_room : (s : State) (x : List ℕ) (i : ℕ) (k : NewKey) → MayPut s x i k
    → PutRoom s.columns.blob_lens s.columns.fields_lens s.columns.comment_lens x i (length k.blob + (length k.fields + length k.comment))
may_put_room s x i k may =
    let ks = (gateway_of s x).entries in
    let w = sound-written s x may.sound in
    let c = written-closable s.columns x ks w in
    let room = put_room s x i k may in
    let bytes = key-bytes s k in
    let all = put_size i (made s k) ks w.few room.0 in
    let end = end_shown ks w.few in
    let own = size-shown ks w.few i in
    record {
      inside = room.1;
      long_blobs = c.long.blobs;
      long_fields = c.long.fields;
      long_comments = c.long.comments;
      store_sized = c.store_sized;
      room = c.room;
      new_room = rw w.table (omega arith);
      end = c.end;
    }

pub key-put : (t : Columns) (x : List ℕ) (u : Columns) (y : List ℕ) (kept after : Kept) (i : ℕ) (k : NewKey)
    → after ≡ record { clock = kept.clock; next = kept.next + 1; locked = kept.locked }
    → u ≡ figures_set i (figures_for (new_entry kept.next kept.clock k)) t
    → y ≡ bytes_put t.blob_lens t.fields_lens t.comment_lens i (k.blob ++ (k.fields ++ k.comment)) x
    → (b : List ℕ) → MayPut (held t b kept) x i k → let g = gateway_of (held t b kept) x in
    Means (held u b after) y (with_entry i (new_entry g.next g.clock k) g)
unfolding gateway_of state_of layout bytes_for
key-put t x u y kept after i k e f p b may =
    let s = held t b kept in
    let g = gateway_of s x in
    let ks = g.entries in
    let new = made s k in
    let S = may.sound in
    let w = sound-written s x S in
    let room = put_room s x i k may in
    let state = (sound-canonical s x S).state in
    let table : u ≡ table_of (put_at i new ks) = f ∙ ap (figures_set i (figures_for new)) w.table ∙ columns-put i new ks room.0 room.1 in
    let store : y ≡ store_of (put_at i new ks)
    = p ∙ (λ j. bytes_put (w.table j).blob_lens (w.table j).fields_lens (w.table j).comment_lens i (bytes_for new) (w.store j)) ∙ store_put i new ks w.few room.0 w.fits room.2 in
    means_of (held u b after) y (with_entry i new g) (sound-entry g new i (put_storable s x i k may) (sound-meaning s x S))
    (ap (held u b) e ∙ (λ j. record { columns = table j; lock = (state j).lock; clock = kept.clock; next = kept.next + 1 }))
    store
