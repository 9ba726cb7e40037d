-- Where a search ends, in 01's values: at the entry that has the blob; and where a key goes, if there is room.
use Prim.Native.Nat.{ℕ, ◌+◌, ◌-◌, ◌≤◌, ◌<◌}
use mathlib.Core.Path.{◌≡◌, refl, sym, ap, ◌∙◌}
use mathlib.Core.Logic.{◌≢◌, ◌⊎◌, inl, inr}
use mathlib.Core.Bool.{true, cond}
use mathlib.Core.Option.{some}
use mathlib.Core.List.{List}
use native.Mathlib.Omega.{arith}
use borrow.Author.Tests.{lt-ltb, le-ltb}
use lib.Dec.{leb, ltb}
use lib.ListN.{length, drop, get_or, length-drop}
use lib.Seq.{length-take-le}
use Rattle.wire.specs.Limits.{entries_limit, store_size}
use Rattle.rule.specs.Gateway.{Found}
use Rattle.std.specs.Prelude.{Some, None}
use Rattle.rule.specs.Gateway.{Entry as Key, Gateway, entry_at, seek, holds, found, lengths_of, all_lengths, others, has_room, position_for, place_for}
use Rattle.rule.specs.Searches.{found_place}
use Rattle.rule.specs.Soundness as rule
use Rattle.rule.proofs.Cases.{cond_cases}
use Rattle.rule.proofs.PositionLaws.{some_not_none, every_at, every_of, found_at, absent_differs, differs_absent, held_found}
use Rattle.rule.proofs.RoomLaws.{remove_length, remove_lengths, others-absent, others-found, Placed, replacing, anew, has_place, room_place}
use Rattle.table.specs.declared.State.{State}
use Rattle.table.specs.Each.{offset}
use Rattle.table.specs.Entries.{count_of, start_in}
use Rattle.table.specs.Meaning.{size, entries_of, view, gateway_of, end_of}
use Rattle.table.specs.Soundness.{Sound}
use Rattle.table.specs.Shown.{SoundOf, ShowsParts}
use Rattle.table.specs.Promises.{FoundsApart, HoldsBlob, FindRule, PlaceForRule}
use Rattle.table.proofs.EntryLaws.{entries_length, start_is}
use Rattle.table.proofs.StateLaws.{state_count, state_held, blob_lies, fields_lie, comment_lies}
use Rattle.table.proofs.WritingLaws.{sound-writing, end_lengths, sound-meaning}
use Rattle.table.proofs.ReadLaws.{state_end, state_whole_end, state_few, state_housed, part-within}

pub founds_apart : FoundsApart
founds_apart (Some i) (Some j) e = cc
founds_apart (Some i) None e = absurd (some_not_none e)
founds_apart None (Some j) e = absurd (some_not_none (sym e))
founds_apart None None e = refl

pub at_place : (f : Found) (i : ℕ) → found_place f ≡ some i → f ≡ Some i
at_place f i e = founds_apart f (Some i) e

-- ## The entry that has a blob

module _ (g : Gateway) (G : rule.Sound g) (blob : List ℕ) where
  held_at : (i : ℕ) → seek (holds blob) 0 g.entries ≡ Some i → HoldsBlob g.entries blob i
  held_at i e = let f = found_at blob g.entries i e in (f.entry, f.there, f.is)

  at_held : (i : ℕ) → HoldsBlob g.entries blob i → seek (holds blob) 0 g.entries ≡ Some i
  at_held i (k, there, is) = rw is at (held_found g.entries G.distinct i k there)

  none_held : seek (holds blob) 0 g.entries ≡ None → (j : ℕ) → HoldsBlob g.entries blob j → ⊥
  none_held e j (k, there, is) = every_at (λ x. x.blob ≢ blob) g.entries (absent_differs blob g.entries e) j k there is

  held_none : ((j : ℕ) → HoldsBlob g.entries blob j → ⊥) → seek (holds blob) 0 g.entries ≡ None
  held_none absent = differs_absent blob g.entries (every_of (λ x. x.blob ≢ blob) g.entries (λ j k there is. absent j (k, there, is)))

pub find_rule : FindRule
find_rule s x blob i S =
    let g = gateway_of s x in
    let G = sound-meaning s x S in
    ((λ e. held_at g G blob i (at_place _ i e)), (λ h. ap found_place (at_held g G blob i h)))

-- ## Lengths in the store

module _ (s : State) (x : List ℕ) (S : Sound s x) where
  abbrev ks : List Key
  ks = (gateway_of s x).entries

  abbrev end : ℕ
  end = start_in s.columns.blob_lens s.columns.fields_lens s.columns.comment_lens entries_limit

  abbrev size_at : ℕ → ℕ
  size_at i = get_or s.columns.blob_lens i 0 + (get_or s.columns.fields_lens i 0 + get_or s.columns.comment_lens i 0)

  -- the bytes of all entries are the lengths of what they mean
  pub state_lengths : end ≡ all_lengths ks
  unfolding gateway_of
  state_lengths =
      let n = count_of s.columns.numbers in
      let whole : end_of (entries_of s) ≡ offset size (entries_of s) n = ap (offset size (entries_of s)) (entries_length s.columns) in
      state_whole_end s x S ∙ sym (start_is s.columns n (omega arith)) ∙ sym whole ∙ ap end_of (sound-writing s x S).figures ∙ end_lengths (view (entries_of s) x)

  -- .. and those of one entry
  pub entry_size : (i : ℕ) (k : Key) → entry_at ks i ≡ some k → size_at i ≡ lengths_of k
  unfolding lengths_of
  entry_size i k held =
      let (inside, is) = state_held s x i k held in
      let housed = state_housed s x S _ _ _ _ (record { numbers_are = refl; blobs_are = refl; fields_are = refl; comments_are = refl }) in
      let room = part-within _ _ _ _ x housed i inside in
      let at = start_in s.columns.blob_lens s.columns.fields_lens s.columns.comment_lens i in
      let b = get_or s.columns.blob_lens i 0 in
      let f = get_or s.columns.fields_lens i 0 in
      let c = get_or s.columns.comment_lens i 0 in
      let blob : length k.blob ≡ b = ap (λ (y : Key). length y.blob) is ∙ ap length (blob_lies s x i inside) ∙ length-take-le b (drop at x) (rw length-drop (omega arith)) in
      let fields : length k.fields ≡ f = ap (λ (y : Key). length y.fields) is ∙ ap length (fields_lie s x i inside) ∙ length-take-le f (drop (at + b) x) (rw length-drop (omega arith)) in
      let comment : length k.comment ≡ c = ap (λ (y : Key). length y.comment) is ∙ ap length (comment_lies s x i inside) ∙ length-take-le c (drop (at + (b + f)) x) (rw length-drop (omega arith)) in
      omega arith

  -- ## Where a key goes

  abbrev Fitting : ℕ → ℕ → ℕ → Found
  Fitting i beside own = cond (leb (beside + own) store_size) (Some i) None

  placed_by : (e : Key) (i : ℕ) (beside : ℕ) → position_for e.blob ks ≡ i → ltb (length (others e.blob ks)) entries_limit ≡ true → all_lengths (others e.blob ks) ≡ beside
      → Fitting i beside (lengths_of e) ≡ place_for e ks
  unfolding place_for has_room
  placed_by e i beside position count lengths = rw (position, count, lengths) (cond_cases (λ (f : Found). f ≡ cond (leb (beside + lengths_of e) store_size) (Some i) None) (leb (beside + lengths_of e) store_size) (λ t. rw t) (λ t. rw t))

  -- in the place of the entry that has the blob, beside all others
  pub replaced : (e : Key) (i : ℕ) → seek (holds e.blob) 0 ks ≡ Some i → Fitting i (end - size_at i) (lengths_of e) ≡ place_for e ks
  unfolding position_for found
  replaced e i at =
      let G = sound-meaning s x S in
      let f = found_at e.blob ks i at in
      let beside = others-found e.blob ks i G.distinct at in
      let fewer = remove_length i ks f.entry f.there in
      let less = remove_lengths i ks f.entry f.there in
      let own = entry_size i f.entry f.there in
      let all = state_lengths in
      let few = G.few in
      placed_by e i (end - size_at i) (rw at) (lt-ltb (length (others e.blob ks)) entries_limit (rw beside (omega arith))) (rw beside (omega arith))

  -- behind the last one, beside all
  pub appended : (e : Key) → seek (holds e.blob) 0 ks ≡ None → length ks < entries_limit → Fitting (length ks) end (lengths_of e) ≡ place_for e ks
  unfolding position_for found
  appended e absent few =
      let beside = others-absent e.blob ks absent in
      placed_by e (length ks) end (rw absent) (lt-ltb (length (others e.blob ks)) entries_limit (rw beside few)) (rw beside (sym state_lengths))

  -- "24 others are held"
  pub no_position : (e : Key) → seek (holds e.blob) 0 ks ≡ None → entries_limit ≤ length ks → None ≡ place_for e ks
  unfolding place_for has_room
  no_position e absent many = rw (others-absent e.blob ks absent, le-ltb (length ks) entries_limit many)

  pub own_within : (i : ℕ) (k : Key) → entry_at ks i ≡ some k → size_at i ≤ end
  own_within i k held =
      let less = remove_lengths i ks k held in
      let own = entry_size i k held in
      let all = state_lengths in
      omega arith

  pub end_fits : end ≤ store_size
  end_fits = let e = state_end s x S in let w = state_whole_end s x S in omega arith

-- ## Of columns that are lent

-- the columns have 24 lengths, and the bytes that they say lie in the store
pub record Roomy (blobs fields comments : List ℕ) : Type 0 where
  pub blobs_long : entries_limit ≤ length blobs
  pub fields_long : entries_limit ≤ length fields
  pub comments_long : entries_limit ≤ length comments
  pub fits : start_in blobs fields comments entries_limit ≤ store_size

pub shown_roomy : (numbers blobs fields comments x : List ℕ) → SoundOf (ShowsParts numbers blobs fields comments) x → Roomy blobs fields comments
shown_roomy numbers blobs fields comments x shown =
    let s = shown.state in
    let S = shown.sound in
    let shows = shown.shows in
    rw (← shows.blobs_are, ← shows.fields_are, ← shows.comments_are) (record {
      blobs_long = let l = S.long.blobs in omega arith;
      fields_long = let l = S.long.fields in omega arith;
      comments_long = let l = S.long.comments in omega arith;
      fits = end_fits s x S;
    })

-- entry i, that a search found: its bytes are among those of all
pub record Own (blobs fields comments : List ℕ) (i : ℕ) : Type 0 where
  pub inside : i < entries_limit
  pub within : get_or blobs i 0 + (get_or fields i 0 + get_or comments i 0) ≤ start_in blobs fields comments entries_limit

pub shown_own : (numbers blobs fields comments x : List ℕ) → SoundOf (ShowsParts numbers blobs fields comments) x → (blob : List ℕ) (i : ℕ) (r : Found) → r ≡ Some i
    → ((s : State) → ShowsParts numbers blobs fields comments s → r ≡ seek (holds blob) 0 (gateway_of s x).entries) → Own blobs fields comments i
shown_own numbers blobs fields comments x shown blob i r at is =
    let s = shown.state in
    let S = shown.sound in
    let shows = shown.shows in
    let f = found_at blob (gateway_of s x).entries i (sym (is s shows) ∙ at) in
    let inside = (state_held s x i f.entry f.there).0 in
    rw (← shows.blobs_are, ← shows.fields_are, ← shows.comments_are) (record {
      inside = let n = state_few s x S in omega arith;
      within = own_within s x S i f.entry f.there;
    })

-- ## How the code finds the place

-- what the code's search found, of every state with these columns
abbrev Searched : (numbers blobs fields comments x blob : List ℕ) → Found → Type 0
Searched numbers blobs fields comments x blob r = (s : State) → ShowsParts numbers blobs fields comments s → r ≡ seek (holds blob) 0 (gateway_of s x).entries

-- what the code says of a place, of every state with these columns and every key with this blob and size
abbrev Chosen : (numbers blobs fields comments x blob : List ℕ) → ℕ → Found → Type 0
Chosen numbers blobs fields comments x blob size r =
    (s : State) (e : Key) → ShowsParts numbers blobs fields comments s → Sound s x → e.blob ≡ blob → lengths_of e ≡ size → r ≡ place_for e (gateway_of s x).entries

module _ (numbers blobs fields comments x blob : List ℕ) (r : Found) (searched : Searched numbers blobs fields comments x blob r) (size : ℕ) where
  sought : (s : State) (e : Key) → ShowsParts numbers blobs fields comments s → e.blob ≡ blob → seek (holds e.blob) 0 (gateway_of s x).entries ≡ r
  sought s e shows is = ap (λ b. seek (holds b) 0 (gateway_of s x).entries) is ∙ sym (searched s shows)

  pub goes_replaced : (i end own : ℕ) → r ≡ Some i → end ≡ start_in blobs fields comments entries_limit → own ≡ get_or blobs i 0 + (get_or fields i 0 + get_or comments i 0)
      → (f : Found) → f ≡ cond (leb (end - own + size) store_size) (Some i) None → Chosen numbers blobs fields comments x blob size f
  goes_replaced i end own at ends owns f is s e shows S same-blob sizes =
      let Ends-there = ends ∙ (λ j. start_in (sym shows.blobs_are j) (sym shows.fields_are j) (sym shows.comments_are j) entries_limit) in
      let owns-there = owns ∙ (λ j. get_or (sym shows.blobs_are j) i 0 + (get_or (sym shows.fields_are j) i 0 + get_or (sym shows.comments_are j) i 0)) in
      is ∙ (λ j. cond (leb (Ends-there j - owns-there j + sym sizes j) store_size) (Some i) None) ∙ replaced s x S e i (sought s e shows same-blob ∙ at)

  module _ (n : ℕ) (counted : n ≡ count_of numbers) where
    many : (s : State) → ShowsParts numbers blobs fields comments s → length (gateway_of s x).entries ≡ n
    many s shows = state_count s x ∙ ap count_of shows.numbers_are ∙ sym counted

    pub goes_last : (end : ℕ) → r ≡ None → (n ≡ entries_limit → ⊥) → end ≡ start_in blobs fields comments entries_limit
        → (f : Found) → f ≡ cond (leb (end + size) store_size) (Some n) None → Chosen numbers blobs fields comments x blob size f
    goes_last end none not_full ends f is s e shows S same-blob sizes =
        let Ends-there = ends ∙ (λ j. start_in (sym shows.blobs_are j) (sym shows.fields_are j) (sym shows.comments_are j) entries_limit) in
        let long = many s shows in
        let few = (sound-meaning s x S).few in
        is ∙ (λ j. cond (leb (Ends-there j + sym sizes j) store_size) (Some (sym long j)) None) ∙ appended s x S e (sought s e shows same-blob ∙ none) (omega arith)

    pub goes_nowhere : r ≡ None → n ≡ entries_limit → Chosen numbers blobs fields comments x blob size None
    goes_nowhere none full s e shows S same-blob sizes =
        let long = many s shows in
        no_position s x S e (sought s e shows same-blob ∙ none) (omega arith)

pub place_for-rule : PlaceForRule
unfolding position_for found
place_for-rule s x e i S =
    let g = gateway_of s x in
    let G = sound-meaning s x S in
    let ks = g.entries in
    ((λ p. let h = has_place e ks i (at_place _ i p) in (h.room, chosen G h.placed)), (λ (room, c). ap found_place (room_place e ks room ∙ ap Some (position G c))))
  where
    chosen : rule.Sound (gateway_of s x) → Placed e.blob (gateway_of s x).entries i
        → HoldsBlob (gateway_of s x).entries e.blob i ⊎ (((j : ℕ) → HoldsBlob (gateway_of s x).entries e.blob j → ⊥) × (i ≡ length (gateway_of s x).entries))
    chosen G (replacing at) = inl (held_at (gateway_of s x) G e.blob i at)
    chosen G (anew absent last) = inr (none_held (gateway_of s x) G e.blob absent, last)

    position : rule.Sound (gateway_of s x) → HoldsBlob (gateway_of s x).entries e.blob i ⊎ (((j : ℕ) → HoldsBlob (gateway_of s x).entries e.blob j → ⊥) × (i ≡ length (gateway_of s x).entries))
        → position_for e.blob (gateway_of s x).entries ≡ i
    position G (inl held) = rw (at_held (gateway_of s x) G e.blob i held)
    position G (inr (absent, last)) = rw (held_none (gateway_of s x) G e.blob absent) (sym last)
