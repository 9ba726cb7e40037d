-- What a sound state keeps of a held key: its figures, and its bytes in the store.
use mathlib.Core.Bool.{cond}
use Prim.Native.Nat.{ℕ, zero, suc, ◌+◌, ◌≤◌, ◌<◌}
use mathlib.Core.Path.{◌≡◌, refl, sym, ap, ◌∙◌}
use mathlib.Core.List.{List, [], ◌∷◌, map}
use native.Mathlib.Omega.{arith}
use lib.ListN.{length, take, drop, get_or}
use Rattle.wire.specs.Limits.{entries_limit, store_size, comment_limit}
use Rattle.keys.specs.Constraints.{Lifetime}
use Rattle.std.specs.Prelude.{Some, None}
use Rattle.rule.specs.declared.Millis.{Millis}
use Rattle.rule.specs.Gateway.{Entry as Key}
use Rattle.rule.specs.Words.{HeldAt}
use Rattle.rule.proofs.PositionLaws.{some_not_none, same-entry, Holds}
use Rattle.table.specs.declared.State.{State}
use Rattle.table.specs.declared.Figures.{Figures}
use Rattle.table.specs.Entries.{figures_at, count_of, start_in}
use Rattle.table.specs.Meaning.{is_set, lifetime_of, entries_of, view, gateway_of, no_figures, start_of, limited_flag, kept_seconds, figures_for}
use Rattle.table.specs.Soundness.{Sound}
use Rattle.table.proofs.EntryLaws.{entries_at, start_is}
use Rattle.table.proofs.StateLaws.{key_at, state_held, blob_lies, fields_lie, comment_lies}
use Rattle.table.proofs.WritingLaws.{sound-writing}
use Rattle.table.proofs.ReadLaws.{figures_at_lem, state_housed, held-inside, part-within, index_within}
use Rattle.lookups.specs.declared.Comment.{Comment}
use Rattle.lookups.specs.Told.{left_at, kept, told_of}

-- ## Where its bytes lie

-- an entry's index, and its bytes by the columns of lengths
pub record Lies (s : State) (x : List ℕ) (i : ℕ) (f : Figures) (from : ℕ) : Type 0 where
  pub index : i < entries_limit
  pub within : from + (f.blob_len + (f.fields_len + f.comment_len)) ≤ length x
  pub stored : from + (f.blob_len + (f.fields_len + f.comment_len)) ≤ store_size
  pub comment_fits : f.comment_len ≤ comment_limit

pub lies : (s : State) (x : List ℕ) → Sound s x → (i : ℕ) → i < count_of s.columns.numbers
    → Lies s x i (figures_at s.columns i) (start_in s.columns.blob_lens s.columns.fields_lens s.columns.comment_lens i)
lies s x S i h =
    let housed = state_housed s x S _ _ _ _ (record { numbers_are = refl; blobs_are = refl; fields_are = refl; comments_are = refl }) in
    let within = part-within _ _ _ _ x housed i h in
    let all = S.store_sized in
    record { index = index_within _ _ _ _ x housed i h; within = within; stored = omega arith; comment_fits = (figures_at_lem s x S i h).comment_fits }

-- ## It is written as the key is

figures_held : (ks : List Key) (i : ℕ) (k : Key) (d : Figures) → Holds ks i k → get_or (map figures_for ks) i d ≡ figures_for k
figures_held [] i k d h = absurd (some_not_none (sym h))
figures_held (x ∷ ks) zero k d h = ap figures_for (same-entry h)
figures_held (x ∷ ks) (suc i) k d h = figures_held ks i k d h

-- a key's own bytes: blob, fields and comment behind each other
pub record Stored (s : State) (x : List ℕ) (i : ℕ) (k : Key) : Type 0 where
  pub blob : k.blob ≡ take (length k.blob) (drop (start_of (entries_of s) i) x)
  pub fields : k.fields ≡ take (length k.fields) (drop (start_of (entries_of s) i + length k.blob) x)
  pub within : start_of (entries_of s) i + (length k.blob + length k.fields) ≤ length x

module _ (s : State) (x : List ℕ) (S : Sound s x) (i : ℕ) (k : Key) (there : HeldAt (gateway_of s x) i k) where
  abbrev f : Figures
  f = figures_at s.columns i

  abbrev at : ℕ
  at = start_in s.columns.blob_lens s.columns.fields_lens s.columns.comment_lens i

  inside : i < count_of s.columns.numbers
  inside = held-inside s x i k there

  is : k ≡ key_at s x i
  is = (state_held s x i k there).1

  pub figures_are : figures_at s.columns i ≡ figures_for k
  unfolding gateway_of
  figures_are =
      sym (entries_at s.columns i no_figures inside)
      ∙ ap (λ (fs : List Figures). get_or fs i no_figures) (sound-writing s x S).figures
      ∙ figures_held (view (entries_of s) x) i k no_figures there

  pub begins : start_in s.columns.blob_lens s.columns.fields_lens s.columns.comment_lens i ≡ start_of (entries_of s) i
  begins = let h = inside in sym (start_is s.columns i (omega arith))

  pub comment_is : take f.comment_len (drop (at + (f.blob_len + f.fields_len)) x) ≡ k.comment
  comment_is = sym (ap (λ (k : Key). k.comment) is ∙ comment_lies s x i inside)

  pub stored : Stored s x i k
  unfolding figures_for
  stored =
      let blob_long : f.blob_len ≡ length k.blob = ap (λ (f : Figures). f.blob_len) figures_are in
      let fields_long : f.fields_len ≡ length k.fields = ap (λ (f : Figures). f.fields_len) figures_are in
      let l = lies s x S i inside in
      let within = l.within in
      let begun = begins in
      record {
        blob = ap (λ (k : Key). k.blob) is ∙ blob_lies s x i inside ∙ (λ j. take (blob_long j) (drop (begins j) x));
        fields = ap (λ (k : Key). k.fields) is ∙ fields_lie s x i inside ∙ (λ j. take (fields_long j) (drop (begins j + blob_long j) x));
        within = omega arith;
      }

-- ## What is told of it

-- a lifetime is read from what is kept of it
lifetime_is : (l : Lifetime) → cond (is_set (limited_flag l)) (Some (kept_seconds l)) None ≡ l
lifetime_is None = refl
lifetime_is (Some seconds) = refl

-- figures and comment that are written as a key is, and the start of its bytes, tell that key
pub told_is : (s : State) (i : ℕ) (left : Millis) (from : ℕ) (f : Figures) (c : Comment) (k : Key) → f ≡ figures_for k → c ≡ kept k.comment
    → left ≡ left_at s.clock f.reading (lifetime_of f) → from ≡ start_of (entries_of s) i → record {
      number = f.number;
      confirm = f.confirm;
      limited = f.limited;
      left = left;
      blob_from = from;
      blob_to = from + f.blob_len;
      fields_from = from + f.blob_len;
      fields_to = from + f.blob_len + f.fields_len;
      comment = c;
    } ≡ told_of s i k
unfolding told_of figures_for
told_is s i left from f c k figures comment left_is from_is =
    let left-told = left_is ∙ ap (λ (f : Figures). left_at s.clock f.reading (lifetime_of f)) figures ∙ ap (left_at s.clock k.reading) (lifetime_is k.lifetime) in
    λ j. record {
      number = (figures j).number;
      confirm = (figures j).confirm;
      limited = (figures j).limited;
      left = left-told j;
      blob_from = from_is j;
      blob_to = from_is j + (figures j).blob_len;
      fields_from = from_is j + (figures j).blob_len;
      fields_to = from_is j + (figures j).blob_len + (figures j).fields_len;
      comment = comment j;
    }
