-- A list's reply as the code writes it: the items one by one, and then what stands in front of them.
use Prim.Native.Nat.{ℕ, zero, suc, ◌+◌, ◌-◌, ◌*◌, ◌≤◌, ◌<◌}
use mathlib.Core.Path.{◌≡◌, refl, sym, ap, ◌∙◌}
use mathlib.Core.Option.{some}
use mathlib.Core.List.{List, [], ◌∷◌, ◌++◌, append_assoc, append-nil}
use native.Mathlib.Numerals.{add-one}
use native.Mathlib.Omega.{arith}
use lib.ListN.{length, get_or, take, drop, length-append, take-append-drop}
use lib.Seq.{length-take-le, take_all, drop_at}
use Rattle.wire.specs.Limits.{blob_limit, comment_limit, reply_room, item_room, items_room}
use Rattle.wire.specs.Numbers.{be32}
use Rattle.wire.specs.Write.{string, write}
use Rattle.wire.proofs.Writing.{write-behind, length-write}
use Rattle.rule.specs.Gateway.{Entry as Key, Gateway, entry_at}
use Rattle.rule.specs.Soundness as rule
use Rattle.rule.specs.Soundness.{SoundEntry}
use Rattle.rule.specs.Rule.{item, items, listed}
use Rattle.rule.proofs.PositionLaws.{some_not_none, same-entry, holds-within, every_at}
use Rattle.table.specs.declared.State.{State}
use Rattle.table.specs.Entries.{count_of, start_in}
use Rattle.table.specs.Meaning.{gateway_of}
use Rattle.table.specs.Soundness.{Housed}
use Rattle.table.specs.Shown.{SoundOf, ShowsParts}
use Rattle.table.proofs.StateLaws.{key_at, state_count, state_entry, blob_lies, comment_lies}
use Rattle.table.proofs.ReadLaws.{figures_at_lem, state_housed}
use Rattle.requests.specs.Lists.{item_in}

-- ## Lent columns

-- what a list's calls ask of the columns that it reads
pub record ListFits (numbers blobs fields comments x : List ℕ) : Type 0 where
  pub housed : Housed numbers blobs fields comments x
  pub blobs_fit : (i : ℕ) → i < count_of numbers → get_or blobs i 0 ≤ blob_limit
  pub comments_fit : (i : ℕ) → i < count_of numbers → get_or comments i 0 ≤ comment_limit

-- a sound state's columns have it
pub list_fits : {numbers blobs fields comments x : List ℕ} → SoundOf (ShowsParts numbers blobs fields comments) x → ListFits numbers blobs fields comments x
list_fits {numbers} {blobs} {fields} {comments} {x} w =
    let s = w.state in
    let S = w.sound in
    let same_numbers = w.shows.numbers_are in
    record {
      housed = state_housed s x S numbers blobs fields comments w.shows;
      blobs_fit = λ i h. rw w.shows.blobs_are at (figures_at_lem s x S i (rw same_numbers h)).blob_fits;
      comments_fit = λ i h. rw w.shows.comments_are at (figures_at_lem s x S i (rw same_numbers h)).comment_fits;
    }

-- what is written for entry i is its key's item
module _ {numbers blobs fields comments : List ℕ} (s : State) (x : List ℕ) (shows : ShowsParts numbers blobs fields comments s) (i : ℕ) (h : i < count_of numbers) where
  inside : i < count_of s.columns.numbers
  inside = rw shows.numbers_are h

  pub item-shown : (from : ℕ) → from ≡ start_in blobs fields comments i → item_in x from (get_or blobs i 0) (get_or fields i 0) (get_or comments i 0) ≡ item (key_at s x i)
  item-shown from starts =
      let from_is : from ≡ start_in s.columns.blob_lens s.columns.fields_lens s.columns.comment_lens i
      = starts ∙ (λ j. start_in (sym shows.blobs_are j) (sym shows.fields_are j) (sym shows.comments_are j) i) in
      let blob = blob_lies s x i inside in
      let comment = comment_lies s x i inside in
      (λ j. item_in x (from_is j) (get_or (sym shows.blobs_are j) i 0) (get_or (sym shows.fields_are j) i 0) (get_or (sym shows.comments_are j) i 0)) ∙ (λ j. string (sym blob j) ++ string (sym comment j))

  pub item-there : entry_at (gateway_of s x).entries i ≡ some (key_at s x i)
  item-there = state_entry s x i inside

-- as many entries as numbers are counted
pub shown_count : {numbers blobs fields comments : List ℕ} (s : State) (x : List ℕ) → ShowsParts numbers blobs fields comments s → length (gateway_of s x).entries ≡ count_of numbers
shown_count s x shows = state_count s x ∙ ap count_of shows.numbers_are

-- ## One item

-- two strings, one behind the other, of a blob and a comment that lie so
pub item-written : (x : List ℕ) (from n m c at : ℕ) (v w o mid out : List ℕ) (k r : ℕ) → v ≡ take n (drop from x) → w ≡ take c (drop (from + (n + m)) x)
    → mid ≡ write o at (string v) → k ≡ at + 4 + length v → out ≡ write mid k (string w) → r ≡ k + 4 + length w → at + 4 + length v + 4 + length w ≤ length o
    → (r ≡ at + length (item_in x from n m c)) × (out ≡ write o at (item_in x from n m c))
item-written x from n m c at v w o mid out k r blob comment em ek eo er h =
    let written = write-behind o at (string v) mid k (string w) out em eo (omega arith) (omega arith) in
    let both : length (string v ++ string w) ≡ length (string v) + length (string w) = simp length-append in
    rw (← blob, ← comment) (omega arith, written)

-- ## The first entries

write-nothing : (o : List ℕ) (at : ℕ) → o ≡ write o at []
unfolding write
write-nothing o at = let e : at + 0 ≡ at = omega arith in rw (e, append-nil (take at o)) (sym (take-append-drop at o))

items-suc : (ks : List Key) (i : ℕ) (k : Key) → entry_at ks i ≡ some k → items (take (suc i) ks) ≡ items (take i ks) ++ item k
unfolding items
items-suc [] i k e = absurd (some_not_none (sym e))
items-suc (x ∷ ks) zero k e = rw (same-entry e) (append-nil (item k))
items-suc (x ∷ ks) (suc i) k e = ap (λ (l : List ℕ). item x ++ l) (items-suc ks i k e) ∙ sym (append_assoc (item x) (items (take i ks)) (item k))

-- the items of the first i entries stand at `at`, and `place` is behind them
pub record ItemsWritten (ks : List Key) (at : ℕ) (buffer : List ℕ) (i place : ℕ) (out : List ℕ) : Type 0 where
  pub behind : place ≡ at + length (items (take i ks))
  pub bytes : out ≡ write buffer at (items (take i ks))
  pub size : length out ≡ length buffer
  pub short : length (items (take i ks)) ≤ i * item_room

pub none_written : (ks : List Key) (at : ℕ) (buffer : List ℕ) → ItemsWritten ks at buffer 0 at buffer
unfolding items
none_written ks at buffer = record { behind = omega arith; bytes = write-nothing buffer at; size = refl; short = omega arith }

module _ (g : Gateway) (s : rule.Sound g) (at : ℕ) (buffer : List ℕ) (i place : ℕ) (out : List ℕ) (w : ItemsWritten g.entries at buffer i place out) (room : at + items_room ≤ length buffer) where
  pub one_written : (k : Key) (written : List ℕ) (place' : ℕ) (out' : List ℕ) → entry_at g.entries i ≡ some k → written ≡ item k
      → place' ≡ place + length written → out' ≡ write out place written → ItemsWritten g.entries at buffer (i + 1) place' out'
  one_written k written place' out' h is put-at put =
      let e = put-at ∙ ap (λ (l : List ℕ). place + length l) is in
      let f = put ∙ ap (write out place) is in
      let few = s.few in
      let inside = holds-within g.entries i k h in
      let before = items (take i g.entries) in
      let q : items (take (i + 1) g.entries) ≡ before ++ item k = rw add-one (items-suc g.entries i k h) in
      let fits = (every_at (SoundEntry g.clock g.next) g.entries s.entries i k h).lengths in
      let short : length (item k) ≤ item_room = simp length-append (omega arith) in
      let n : length (before ++ item k) ≡ length before + length (item k) = simp length-append in
      record {
        behind = rw q (omega arith);
        bytes = rw q (write-behind buffer at before out place (item k) out' w.bytes f w.behind (omega arith));
        size = ap length f ∙ length-write out place (item k) (omega arith) ∙ w.size;
        short = rw q (omega arith);
      }

  pub all-written : length g.entries ≤ i → i ≤ length g.entries → (place ≡ at + length (items g.entries)) × (out ≡ write buffer at (items g.entries)) × (place ≤ at + items_room)
  all-written h k =
      let few = s.few in
      let q : take i g.entries ≡ g.entries = take_all i g.entries h in
      let short = w.short in
      let behind = w.behind in
      (rw q at w.behind, rw q at w.bytes, omega arith)

-- ## In front of the items

-- a front of n bytes, over what was written from n on
fronted : (n : ℕ) (h b o m w : List ℕ) → length h ≡ n → m ≡ write o n b → w ≡ write m 0 h → n ≤ length o → w ≡ write o 0 (h ++ b)
unfolding write
fronted n h b o m w l e f k =
    let a : length (take n o) ≡ n = length-take-le n o k in
    let z : 0 + length h ≡ n = omega arith in
    let rest = drop (n + length b) o in
    let d : drop n ((take n o ++ b) ++ rest) ≡ b ++ rest = ap (drop n) (append_assoc (take n o) b rest) ∙ drop_at (take n o) (b ++ rest) n a in
    let q : n + length b ≡ 0 + length (h ++ b) = simp length-append (omega arith) in
    f ∙ rw (e, z, d, q) (sym (append_assoc h b (drop (0 + length (h ++ b)) o)))

-- the items from 9 on, then the length, 12 and the count in front of them
pub list_written : (ks : List Key) (o m₀ m₁ m₂ m₃ : List ℕ) (end n k at : ℕ) → end ≡ 9 + length (items ks) → m₀ ≡ write o 9 (items ks) → m₁ ≡ write m₀ 0 (be32 (end - 4)) → k ≡ 0 + 4
    → m₂ ≡ write m₁ k (12 ∷ []) → at ≡ k + 1 → m₃ ≡ write m₂ at (be32 n) → n ≡ length ks → reply_room ≤ length o → end ≤ 9 + items_room
    → (end ≡ length (listed ks)) × (m₃ ≡ write o 0 (listed ks))
unfolding listed
list_written ks o m₀ m₁ m₂ m₃ end n k at e e₀ e₁ f₁ e₂ f₂ e₃ c h b =
    let l : length m₀ ≡ length o = ap length e₀ ∙ length-write o 9 (items ks) (omega arith) in
    let s₂ : m₂ ≡ write m₀ 0 (be32 (end - 4) ++ (12 ∷ [])) = write-behind m₀ 0 (be32 (end - 4)) m₁ k (12 ∷ []) m₂ e₁ e₂ (omega arith) (omega arith) in
    let s₃ : m₃ ≡ write m₀ 0 ((be32 (end - 4) ++ (12 ∷ [])) ++ be32 n) = write-behind m₀ 0 (be32 (end - 4) ++ (12 ∷ [])) m₂ at (be32 n) m₃ s₂ e₃ (omega arith) (omega arith) in
    let s₄ = fronted 9 ((be32 (end - 4) ++ (12 ∷ [])) ++ be32 n) (items ks) o m₀ m₃ refl e₀ s₃ (omega arith) in
    let q : end - 4 ≡ length (12 ∷ be32 (length ks) ++ items ks) = omega arith in
    (omega arith, s₄ ∙ (λ j. write o 0 (((be32 (q j) ++ (12 ∷ [])) ++ be32 (c j)) ++ items ks)))
