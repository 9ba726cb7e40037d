-- Following the code of the soundness test: one law for each turn, way out and end of a loop that tests all elements of a list, and what the parts of a
-- test of columns and store say.
use Prim.Native.Nat.{ℕ, zero, suc, ◌+◌, ◌-◌, ◌≤◌, ◌<◌}
use mathlib.Core.Path.{◌≡◌, refl, sym, ap, ◌∙◌}
use mathlib.Core.Bool.{Bool, true, false, ◌&&◌}
use mathlib.Core.List.{List, [], ◌∷◌, map}
use native.Mathlib.Omega.{arith}
use native.Mathlib.Numerals.{add-one}
use lib.Dec.{eqb}
use lib.ListN.{length, take, drop, get_or, length-drop, length-map, drop_of_length-le, get_or-map}
use lib.Seq.{take_all, drop-cons, drop-drop}
use Rattle.std.specs.List.{list_all}
use Rattle.wire.specs.Limits.{entries_limit, blob_limit, fields_limit, comment_limit}
use Rattle.rule.specs.declared.Millis.{Millis}
use Rattle.table.specs.declared.Columns.{Columns}
use Rattle.table.specs.Bytes.{all_zero}
use Rattle.table.specs.Entries.{Long, figures_at, count_of, entries_in, start_in}
use Rattle.table.specs.Meaning.{no_figures, start_of, end_of}
use Rattle.table.specs.Soundness.{long_columns, sound_figures, all, sound_entries, SoundFigures}
use Rattle.table.proofs.EntryLaws.{count_within, entries_length, entries_at, start-step, start_is}
use Rattle.table.proofs.TestLaws.{long_says, entries_say}
use Rattle.table.proofs.ReadLaws.{every_figures_at}

-- no column has more entries than numbers
pub few_by : (n : ℕ) (numbers : List ℕ) → n ≡ count_of numbers → length numbers ≡ entries_limit → n ≤ entries_limit
few_by n numbers e long = omega (arith, count_within numbers)

-- ## The loops: a test over a list goes by its first element and the rest

module _ {A : Type 0} (test : List A → Bool) (first : A → List A → Bool) (none_left : test [] ≡ true) (goes : (a : A) (rest : List A) → test (a ∷ rest) ≡ first a rest && test rest) (a₀ : A) (l : List A) (whole : Bool) where
  split : (i : ℕ) → i < length l → test (drop i l) ≡ first (get_or l i a₀) (drop (i + 1) l) && test (drop (i + 1) l)
  split i h = rw (add-one, drop-cons l i a₀ h) (goes (get_or l i a₀) (drop (suc i) l))

  pub walk_on : (i : ℕ) → i < length l → first (get_or l i a₀) (drop (i + 1) l) ≡ true → test (drop i l) ≡ whole → test (drop (i + 1) l) ≡ whole
  walk_on i h e left = ap (λ (t : Bool). t && test (drop (i + 1) l)) (sym e) ∙ sym (split i h) ∙ left

  pub walk_out : (i : ℕ) → i < length l → first (get_or l i a₀) (drop (i + 1) l) ≡ false → test (drop i l) ≡ whole → false ≡ whole
  walk_out i h e left = ap (λ (t : Bool). t && test (drop (i + 1) l)) (sym e) ∙ sym (split i h) ∙ left

  pub walk_end : (i : ℕ) → length l ≤ i → test (drop i l) ≡ whole → true ≡ whole
  walk_end i h left = sym none_left ∙ ap test (sym (drop_of_length-le l h)) ∙ left

-- ## Zeros

all_zero_by : (l : List ℕ) → list_all (λ x. eqb x 0) l ≡ all_zero l
unfolding all_zero
all_zero_by [] = refl
all_zero_by (n ∷ l) = ap (λ (t : Bool). eqb n 0 && t) (all_zero_by l)

-- what is behind the first n is all that is there
behind : (n : ℕ) (l : List ℕ) → take (length l - n) (drop n l) ≡ drop n l
behind n l = let size : length (drop n l) ≤ length l - n = rw length-drop (omega arith) in take_all (length l - n) (drop n l) size

pub zeros_behind : (n : ℕ) (l : List ℕ) → all_zero (take (length l - n) (drop n l)) ≡ all_zero (drop n l)
zeros_behind n l = ap all_zero (behind n l)

pub column_behind : (n : ℕ) (l : List ℕ) → list_all (λ x. eqb x 0) (take (length l - n) (drop n l)) ≡ all_zero (drop n l)
column_behind n l = all_zero_by _ ∙ zeros_behind n l

and_behind : (t a b : Bool) → t && (a && b) ≡ (t && a) && b
and_behind true a b = refl
and_behind false a b = refl

zeros_split : (k : ℕ) (l : List ℕ) → all_zero l ≡ all_zero (take k l) && all_zero (drop k l)
unfolding all_zero
zeros_split zero l = refl
zeros_split (suc k) [] = refl
zeros_split (suc k) (n ∷ l) = ap (λ (t : Bool). eqb n 0 && t) (zeros_split k l) ∙ and_behind (eqb n 0) _ _

-- what is behind the bytes of all entries, in two parts
pub rest_split : (l : List ℕ) (end next : ℕ) → end ≤ next → all_zero (drop end l) ≡ all_zero (take (next - end) (drop end l)) && all_zero (take (length l - next) (drop next l))
rest_split l end next h =
    let there : end + (next - end) ≡ next = omega arith in
    let second : drop (next - end) (drop end l) ≡ drop next l = drop-drop (next - end) end l ∙ ap (λ (k : ℕ). drop k l) there in
    rw (zeros_behind next l) (zeros_split (next - end) (drop end l) ∙ ap (λ (m : List ℕ). all_zero (take (next - end) (drop end l)) && all_zero m) second)

-- ## Each entry by itself

all_go : (b : Bool) (rest : List Bool) → all (b ∷ rest) ≡ b && all rest
unfolding all
all_go b rest = refl

all_none : all [] ≡ true
unfolding all
all_none = refl

abbrev pub EntriesLeft : Millis → ℕ → Columns → ℕ → Type 0
EntriesLeft clock next t i = all (drop i (map (sound_figures clock next) (entries_in t))) ≡ sound_entries clock next (entries_in t)

module _ (clock : Millis) (next : ℕ) (t : Columns) where
  pub entries_all : EntriesLeft clock next t 0
  unfolding sound_entries
  entries_all = refl

  test_count : length (map (sound_figures clock next) (entries_in t)) ≡ count_of t.numbers
  test_count = length-map (entries_in t) (sound_figures clock next) ∙ entries_length t

  module _ (i : ℕ) (h : i < count_of t.numbers) where
    test_at : (b : Bool) → sound_figures clock next (figures_at t i) ≡ b → get_or (map (sound_figures clock next) (entries_in t)) i (sound_figures clock next no_figures) ≡ b
    test_at b e = get_or-map (sound_figures clock next) (entries_in t) i no_figures ∙ ap (sound_figures clock next) (entries_at t i no_figures h) ∙ e

    pub entry_on : sound_figures clock next (figures_at t i) ≡ true → EntriesLeft clock next t i → EntriesLeft clock next t (i + 1)
    entry_on e = walk_on all (λ t _. t) all_none all_go _ _ _ i (rw test_count h) (test_at true e)

    pub entry_out : sound_figures clock next (figures_at t i) ≡ false → EntriesLeft clock next t i → false ≡ sound_entries clock next (entries_in t)
    entry_out e = walk_out all (λ t _. t) all_none all_go _ _ _ i (rw test_count h) (test_at false e)

  pub entries_end : (i : ℕ) → count_of t.numbers ≤ i → EntriesLeft clock next t i → true ≡ sound_entries clock next (entries_in t)
  entries_end i h = walk_end all (λ t _. t) all_none all_go (sound_figures clock next no_figures) _ _ i (rw test_count h)

-- ## Where the bytes end

module _ (blobs fields comments : List ℕ) (i at : ℕ) where
  -- one entry more
  pub start-more : at ≡ start_in blobs fields comments i → at + (get_or blobs i 0 + (get_or fields i 0 + get_or comments i 0)) ≡ start_in blobs fields comments (i + 1)
  start-more e = let step = start-step blobs fields comments i in rw (add-one i) (omega arith)

-- .. of all entries, n of them
pub end_is : (t : Columns) (n end : ℕ) → n ≡ count_of t.numbers → end ≡ start_in t.blob_lens t.fields_lens t.comment_lens n → end_of (entries_in t) ≡ end
end_is t n end counted summed =
    let many = entries_length t ∙ sym counted in
    ap (λ (m : ℕ). start_of (entries_in t) m) many ∙ start_is t n (omega arith) ∙ sym summed

-- lengths of entries that pass are within limits
pub lengths_by : (clock : Millis) (next : ℕ) (t : Columns) → sound_entries clock next (entries_in t) ≡ true → (i : ℕ) → i < count_of t.numbers
    → (get_or t.blob_lens i 0 ≤ blob_limit) × (get_or t.fields_lens i 0 ≤ fields_limit) × (get_or t.comment_lens i 0 ≤ comment_limit)
lengths_by clock next t e i h =
    let every = (entries_say clock next (entries_in t)).0 e in
    let many = entries_length t in
    let here = rw (entries_at t i no_figures h) at (every_figures_at (SoundFigures clock next) (entries_in t) every i no_figures (omega arith)) in
    (here.blob_fits, here.fields_fit, here.comment_fits)

-- where the columns pass, they are of 24 entries
pub long_by : (t : Columns) → long_columns t ≡ true → Long t
long_by t e = (long_says t).0 e
