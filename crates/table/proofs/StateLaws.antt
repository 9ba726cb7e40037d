-- A state is read at one index: entry i has what the columns have at i, and the bytes that lie behind those of the entries before it.
use Prim.Native.Nat.{ℕ, zero, suc, ◌+◌, ◌<◌}
use mathlib.Core.Path.{◌≡◌, refl, sym, ap, ◌∙◌}
use mathlib.Core.Option.{some}
use mathlib.Core.List.{List, [], ◌∷◌}
use native.Mathlib.Omega.{arith}
use native.Mathlib.Nat.{not-suc-le-zero, le_of_suc-le-suc}
use lib.ListN.{length, take, drop, get_or}
use lib.Seq.{drop-drop, take-take, take-nil}
use Rattle.rule.specs.Gateway.{Entry as Key, entry_at}
use Rattle.rule.proofs.PositionLaws.{same-entry, holds-within}
use Rattle.table.specs.declared.State.{State}
use Rattle.table.specs.Bytes.{sum_of, padded}
use Rattle.table.specs.Entries.{figures_at, count_of, start_in, columns_of}
use Rattle.table.specs.Meaning.{size, key_of, entries_of, view, gateway_of, no_figures, part_at, lock_of, state_of}
use Rattle.table.specs.Promises.{sum, blob_from, fields_from, comment_from, KeySays, StateRule, FreshZero}
use Rattle.table.proofs.EachLaws.{each-length, each_at}
use Rattle.table.proofs.EntryLaws.{count_within, count_held, count_unused, entries_length, entries_at, start_is}

at_index : (ks : List Key) (i : ℕ) (d : Key) → i < length ks → entry_at ks i ≡ some (get_or ks i d)
at_index [] i d h = absurd (not-suc-le-zero h)
at_index (k ∷ ks) zero d h = refl
at_index (k ∷ ks) (suc i) d h = at_index ks i d (le_of_suc-le-suc h)

drop-take_add : (n m : ℕ) (l : List ℕ) → drop n (take (n + m) l) ≡ take m (drop n l)
drop-take_add zero m l = let z : 0 + m ≡ m = omega arith in rw z
drop-take_add (suc n) m [] = let z : suc n + m ≡ suc (n + m) = omega arith in rw z (sym (take-nil m))
drop-take_add (suc n) m (y ∷ l) = let z : suc n + m ≡ suc (n + m) = omega arith in rw z (drop-take_add n m l)

module _ (s : State) (x : List ℕ) where
  pub state_count : length (gateway_of s x).entries ≡ count_of s.columns.numbers
  unfolding gateway_of
  state_count = each-length size key_of (entries_of s) x ∙ entries_length s.columns

  -- the key that entry i means
  abbrev pub key_at : ℕ → Key
  key_at i = key_of (figures_at s.columns i) (part_at (entries_of s) x i)

  pub state_entry : (i : ℕ) → i < count_of s.columns.numbers → entry_at (gateway_of s x).entries i ≡ some (key_at i)
  unfolding gateway_of
  state_entry i h =
      let long = entries_length s.columns in
      let many = each-length size key_of (entries_of s) x in
      at_index (view (entries_of s) x) i (key_at i) (omega arith)
      ∙ ap some (each_at size key_of (entries_of s) x i no_figures (key_at i) (omega arith) ∙ ap (λ f. key_of f (part_at (entries_of s) x i)) (entries_at s.columns i no_figures h))

  pub state_held : (i : ℕ) (k : Key) → entry_at (gateway_of s x).entries i ≡ some k → (i < count_of s.columns.numbers) × (k ≡ key_at i)
  state_held i k held =
      let inside : i < count_of s.columns.numbers = let w = holds-within (gateway_of s x).entries i k held in let n = state_count in omega arith in
      (inside, same-entry (sym held ∙ state_entry i inside))

  -- where the parts of entry i lie, by the columns of lengths
  module _ (i : ℕ) (h : i < count_of s.columns.numbers) where
    abbrev pub at : ℕ
    at = start_in s.columns.blob_lens s.columns.fields_lens s.columns.comment_lens i

    abbrev b : ℕ
    b = get_or s.columns.blob_lens i 0

    abbrev f : ℕ
    f = get_or s.columns.fields_lens i 0

    abbrev c : ℕ
    c = get_or s.columns.comment_lens i 0

    pub part-is : part_at (entries_of s) x i ≡ take (b + (f + c)) (drop at x)
    unfolding size
    part-is =
        let here = ap size (entries_at s.columns i no_figures h) in
        let starts = start_is s.columns i (omega arith) in
        λ j. take (here j) (drop (starts j) x)

    pub blob_lies : (key_at i).blob ≡ take b (drop at x)
    blob_lies = ap (take b) part-is ∙ take-take b (b + (f + c)) (drop at x) (omega arith)

    pub fields_lie : (key_at i).fields ≡ take f (drop (at + b) x)
    fields_lie =
        ap (λ (p : List ℕ). take f (drop b p)) part-is ∙ ap (take f) (drop-take_add b (f + c) (drop at x)) ∙ take-take f (f + c) (drop b (drop at x)) (omega arith) ∙ ap (take f) (drop-drop b at x)

    pub comment_lies : (key_at i).comment ≡ take c (drop (at + (b + f)) x)
    comment_lies =
        ap (λ (p : List ℕ). take c (drop f (drop b p))) part-is
        ∙ ap (λ (p : List ℕ). take c (drop f p)) (drop-take_add b (f + c) (drop at x))
        ∙ ap (take c) (drop-take_add f c (drop b (drop at x)))
        ∙ take-take c c (drop f (drop b (drop at x))) (omega arith)
        ∙ ap (λ (p : List ℕ). take c (drop f p)) (drop-drop b at x)
        ∙ ap (take c) (drop-drop f (at + b) x)
        ∙ ap (λ (n : ℕ). take c (drop n x)) behind
      where
        behind : at + b + f ≡ at + (b + f)
        behind = omega arith

-- ## Of a state and its store

sums : (l : List ℕ) → sum_of l ≡ sum l
unfolding sum_of
sums [] = refl
sums (n ∷ l) = ap (λ (m : ℕ). n + m) (sums l)

module _ (s : State) (x : List ℕ) (i : ℕ) (h : i < count_of s.columns.numbers) where
  from_is : start_in s.columns.blob_lens s.columns.fields_lens s.columns.comment_lens i ≡ blob_from s i
  unfolding start_in
  from_is =
      let b = sums (take i s.columns.blob_lens) in
      let f = sums (take i s.columns.fields_lens) in
      let c = sums (take i s.columns.comment_lens) in
      omega arith

  key-said : KeySays s x i (key_at s x i)
  key-said =
      let start = from_is in
      let b = get_or s.columns.blob_lens i 0 in
      let f = get_or s.columns.fields_lens i 0 in
      let fields-start : start_in s.columns.blob_lens s.columns.fields_lens s.columns.comment_lens i + b ≡ fields_from s i = omega arith in
      let comment-start : start_in s.columns.blob_lens s.columns.fields_lens s.columns.comment_lens i + (b + f) ≡ comment_from s i = omega arith in
      record {
        number = refl;
        reading = refl;
        lifetime = λ f. rw f;
        no_lifetime = λ f. rw f;
        confirm = λ f. rw f;
        no_confirm = λ f. rw f;
        blob = blob_lies s x i h ∙ ap (λ (n : ℕ). take (get_or s.columns.blob_lens i 0) (drop n x)) from_is;
        fields = fields_lie s x i h ∙ ap (λ (n : ℕ). take (get_or s.columns.fields_lens i 0) (drop n x)) fields-start;
        comment = comment_lies s x i h ∙ ap (λ (n : ℕ). take (get_or s.columns.comment_lens i 0) (drop n x)) comment-start;
      }

pub state_rule : StateRule
unfolding gateway_of
state_rule s x =
    let n = state_count s x in
    record {
      count = record {
        within = let w = count_within s.columns.numbers in omega arith;
        held = λ i h. count_held s.columns.numbers i (omega arith);
        unused = rw n (count_unused s.columns.numbers);
      };
      entries = λ i h. let inside : i < count_of s.columns.numbers = omega arith in (key_at s x i, state_entry s x i inside, key-said s x i inside);
      lock = refl;
      clock = refl;
      next = refl;
    }

-- ## Fresh

pub fresh-zero : FreshZero
unfolding state_of columns_of lock_of padded
fresh-zero = refl
