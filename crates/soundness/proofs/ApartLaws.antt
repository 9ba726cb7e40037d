-- Entries are told apart by numbers and short numbers.
use Prim.Native.Nat.{ℕ, zero, suc, ◌+◌, ◌-◌, ◌≤◌, ◌<◌}
use mathlib.Core.Path.{◌≡◌, refl, sym, ap, ◌∙◌}
use mathlib.Core.Bool.{Bool, true, false, ◌&&◌, ◌||◌, not, cond, and-false}
use mathlib.Core.Option.{some}
use mathlib.Core.List.{List, [], ◌∷◌, ◌++◌, map}
use native.Mathlib.Omega.{arith}
use native.Mathlib.Numerals.{add-one}
use native.Mathlib.Nat.{not-suc-le-zero, le_of_suc-le-suc, suc-add, sub-zero, suc-sub-suc}
use borrow.Author.Tests.{eqb-true, eqb-false, eq-eqb, ne_eqb, ltb-true, lt-ltb}
use lib.Dec.{eqb, ltb}
use lib.ListN.{length, take, drop, get_or, set}
use lib.Seq.{length-take-le, take-nil, take-suc-set, get_or-take, ext_get_or}
use Rattle.std.specs.List.{list_any, IsAllAdjacentAnswer}
use Rattle.wire.specs.Read.{same}
use Rattle.wire.proofs.Cases.{and_left, and_right}
use Rattle.wire.proofs.Reading.{same_true, same-rule}
use Rattle.rule.specs.Gateway.{Found}
use Rattle.std.specs.Prelude.{Some, None}
use Rattle.rule.specs.Gateway.{Entry as Key, zero_millis, entry_at, seek, holds}
use Rattle.rule.specs.Soundness.{every_entry, apart, distinct}
use Rattle.rule.proofs.Cases.{true_not_false}
use Rattle.rule.proofs.PositionLaws.{some_not_none, same-entry}
use Rattle.table.specs.declared.Columns.{Columns}
use Rattle.table.specs.declared.State.{State}
use Rattle.table.specs.Bytes.{among}
use Rattle.table.specs.Entries.{count_of, up_to, entries_in, start_in}
use Rattle.table.specs.Meaning.{view, gateway_of, held}
use Rattle.table.specs.Soundness.{short_of, shorts_in}
use Rattle.table.specs.Shown.{ShowsParts}
use Rattle.table.proofs.EntryLaws.{up_length, up_at, up_same, up_take, map-up, count_within, start-step, start-mono}
use Rattle.table.proofs.StateLaws.{key_at, state_count, state_entry, state_held, blob_lies}
use Rattle.table.proofs.TestLaws.{short_rule}
use Rattle.soundness.specs.Rising.{below_first, rising}
use Rattle.soundness.proofs.SoundnessLaws.{walk_on, walk_out, walk_end}

-- ## Among numbers, of any width

among_by : (n : ℕ) (l : List ℕ) → list_any (λ x. eqb x n) l ≡ among n l
unfolding among
among_by n [] = refl
among_by n (m ∷ l) = ap (λ (t : Bool). eqb m n || t) (among_by n l)

drop-take : (n m : ℕ) (l : List ℕ) → m ≤ n → take (n - m) (drop m l) ≡ drop m (take n l)
drop-take n zero l h = rw sub-zero
drop-take zero (suc m) l h = absurd (not-suc-le-zero h)
drop-take (suc n) (suc m) [] h = take-nil (suc n - suc m)
drop-take (suc n) (suc m) (b ∷ l) h = rw suc-sub-suc (drop-take n m l (le_of_suc-le-suc h))

-- .. among the first n, those behind the first m
pub among_part : (k n m : ℕ) (l : List ℕ) → m ≤ n → list_any (λ x. eqb x k) (take (n - m) (drop m l)) ≡ among k (drop m (take n l))
among_part k n m l h = among_by k _ ∙ ap (among k) (drop-take n m l h)

-- ## Numbers that rise

-- below the first of rising numbers, below all of them
below_more : (n m : ℕ) (l : List ℕ) → n < m → below_first m l ≡ true → below_first n l ≡ true
below_more n m [] h e = refl
below_more n m (x ∷ l) h e = let above = ltb-true m x e in lt-ltb n x (omega arith)

below_all : (n : ℕ) (l : List ℕ) → below_first n l ≡ true → rising l ≡ true → among n l ≡ false
unfolding rising among
below_all n [] e r = refl
below_all n (m ∷ l) e r =
    let h = ltb-true n m e in
    rw (ne_eqb m n (λ q. omega arith)) (below_all n l (below_more n m l h (and_left (below_first m l) (rising l) r)) (and_right (below_first m l) (rising l) r))

-- where all rise, none stands again behind its place
rising-new : (l : List ℕ) (i : ℕ) → i < length l → rising l ≡ true → among (get_or l i 0) (drop (i + 1) l) ≡ false
unfolding rising
rising-new [] i h r = absurd (not-suc-le-zero h)
rising-new (n ∷ l) zero h r = below_all n l (and_left (below_first n l) (rising l) r) (and_right (below_first n l) (rising l) r)
rising-new (n ∷ l) (suc i) h r = rw suc-add (rising-new l i (le_of_suc-le-suc h) (and_right (below_first n l) (rising l) r))

pub none_behind : (l : List ℕ) (n i : ℕ) (rises : Bool) → n ≤ length l → i < n → rises ≡ rising (take n l) → rises ≡ true → false ≡ among (get_or l i 0) (drop (i + 1) (take n l))
none_behind l n i rises fits h e t =
    let inside : i < length (take n l) = rw (length-take-le n l fits) h in
    sym (ap (λ (m : ℕ). among m (drop (i + 1) (take n l))) (sym (get_or-take n l i 0 h)) ∙ rising-new (take n l) i inside (sym e ∙ t))

all_rise : (l : List ℕ) → ((k d : ℕ) → k + 1 < length l → true ≡ ltb (get_or l k d) (get_or l (k + 1) d)) → true ≡ rising l
unfolding rising
all_rise [] f = refl
all_rise (n ∷ []) f = refl
all_rise (n ∷ m ∷ l) f =
    let rest = all_rise (m ∷ l) (λ k d h. rw suc-add at (f (suc k) d (omega arith))) in
    rw (← f 0 0 (omega arith)) rest

one_falls : (l : List ℕ) (k : ℕ) → k + 1 < length l → false ≡ ltb (get_or l k 0) (get_or l (k + 1) 0) → false ≡ rising l
unfolding rising
one_falls [] k h e = absurd (not-suc-le-zero h)
one_falls (n ∷ []) k h e = absurd (not-suc-le-zero (le_of_suc-le-suc (rw add-one at h)))
one_falls (n ∷ m ∷ l) zero h e = rw (← e)
one_falls (n ∷ m ∷ l) (suc k) h e = rw (← one_falls (m ∷ l) k (omega arith) (rw suc-add at e)) (sym (and-false (ltb n m)))

-- each number below the next
pub rising_by : (l : List ℕ) (r : Bool) → IsAllAdjacentAnswer (λ x y b. b ≡ ltb x y) l r → r ≡ rising l
rising_by l true all = all_rise l all
rising_by l false (k, h, e) = one_falls l k h (e 0)

-- ## A list filled by its index

up_more : (f : ℕ → ℕ) (n : ℕ) → up_to f (suc n) ≡ up_to f n ++ (f n ∷ [])
unfolding up_to
up_more f zero = refl
up_more f (suc n) = ap (λ (l : List ℕ). f 0 ∷ l) (up_more (λ i. f (suc i)) n)

pub filled_more : (f : ℕ → ℕ) (l : List ℕ) (i v : ℕ) → i < length l → v ≡ f i → take i l ≡ up_to f i → take (i + 1) (set l i v) ≡ up_to f (i + 1)
filled_more f l i v h is before = rw (add-one, take-suc-set l i v h, before, is) (sym (up_more f i))

module _ (blobs fields comments : List ℕ) where
  pub shorts_none : (x : List ℕ) → ◌≡◌ {A = List ℕ} [] (shorts_in blobs fields comments 0 x)
  unfolding shorts_in up_to
  shorts_none x = refl

-- ## Short numbers

-- one short number more
module _ (blobs fields comments x : List ℕ) (i at : ℕ) (shorts : List ℕ) (short : ℕ) where
  pub shorts_more : i < length shorts → at ≡ start_in blobs fields comments i → short ≡ short_of (take (at + get_or blobs i 0 - at) (drop at x)) → take i shorts ≡ shorts_in blobs fields comments i x
      → take (i + 1) (set shorts i short) ≡ shorts_in blobs fields comments (i + 1) x
  unfolding shorts_in
  shorts_more h begins is before =
      let width : at + get_or blobs i 0 - at ≡ get_or blobs i 0 = omega arith in
      let here : short ≡ short_of (take (get_or blobs i 0) (drop (start_in blobs fields comments i) x)) = is ∙ rw (width, begins) in
      filled_more (λ j. short_of (take (get_or blobs j 0) (drop (start_in blobs fields comments j) x))) shorts i short h here before

-- ## An entry and those behind it

abbrev pub number_of : Key → ℕ
number_of k = k.number

abbrev pub short_number : Key → ℕ
short_number k = short_of k.blob

at_not_nothing : {j : ℕ} → Some j ≡ None → ⊥
at_not_nothing e = let z : ◌≡◌ {A = ℕ} 0 1 = cc in omega arith

module _ (k x : Key) where
  number_shared : eqb x.number k.number ≡ true → apart k x ≡ false
  number_shared t = rw (eq-eqb k.number x.number (sym (eqb-true x.number k.number t))) (and-false (not (same k.blob x.blob)))

  blob_shared : holds k.blob x ≡ true → apart k x ≡ false
  blob_shared t = rw ((same-rule k.blob x.blob).1 (sym (same_true x.blob k.blob t)))

  neither_shared : eqb x.number k.number ≡ false → holds k.blob x ≡ false → apart k x ≡ true
  neither_shared t u = by_tests (same k.blob x.blob) (eqb k.number x.number) refl refl
    where
      by_tests : (v w : Bool) → same k.blob x.blob ≡ v → eqb k.number x.number ≡ w → not v && not w ≡ true
      by_tests true w e f = absurd (true_not_false (sym ((same-rule x.blob k.blob).1 (sym (same_true k.blob x.blob e))) ∙ u))
      by_tests false true e f = absurd (eqb-false x.number k.number t (sym (eqb-true k.number x.number f)))
      by_tests false false e f = refl

module _ (k : Key) where
  -- a number that stands behind
  pub number_again : (ks : List Key) → among k.number (map number_of ks) ≡ true → false ≡ every_entry (apart k) ks
  unfolding among every_entry
  number_again [] e = absurd (true_not_false (sym e))
  number_again (x ∷ ks) e = by_test (eqb x.number k.number) refl e (number_again ks)
    where
      by_test : (t : Bool) → eqb x.number k.number ≡ t → t || among k.number (map number_of ks) ≡ true → (among k.number (map number_of ks) ≡ true → false ≡ every_entry (apart k) ks) → false ≡ apart k x && every_entry (apart k) ks
      by_test true t _ _ = rw (number_shared k x t)
      by_test false _ rest go = rw (← go rest) (sym (and-false (apart k x)))

  -- a blob that stands behind
  pub blob_again : (ks : List Key) (i j : ℕ) → seek (holds k.blob) i ks ≡ Some j → false ≡ every_entry (apart k) ks
  unfolding every_entry
  blob_again [] i j e = absurd (at_not_nothing (sym e))
  blob_again (x ∷ ks) i j e = by_test (holds k.blob x) refl e (blob_again ks (suc i) j)
    where
      by_test : (t : Bool) → holds k.blob x ≡ t → cond t (Some i) (seek (holds k.blob) (suc i) ks) ≡ Some j → (seek (holds k.blob) (suc i) ks ≡ Some j → false ≡ every_entry (apart k) ks) → false ≡ apart k x && every_entry (apart k) ks
      by_test true t _ _ = rw (blob_shared k x t)
      by_test false _ rest go = rw (← go rest) (sym (and-false (apart k x)))

  -- neither stands behind
  pub neither_again : (ks : List Key) (i : ℕ) → among k.number (map number_of ks) ≡ false → seek (holds k.blob) i ks ≡ None → true ≡ every_entry (apart k) ks
  unfolding among every_entry
  neither_again [] i e f = refl
  neither_again (x ∷ ks) i e f = by_tests (eqb x.number k.number) (holds k.blob x) refl refl e f (neither_again ks (suc i))
    where
      by_tests : (t u : Bool) → eqb x.number k.number ≡ t → holds k.blob x ≡ u → t || among k.number (map number_of ks) ≡ false → cond u (Some i) (seek (holds k.blob) (suc i) ks) ≡ None
          → (among k.number (map number_of ks) ≡ false → seek (holds k.blob) (suc i) ks ≡ None → true ≡ every_entry (apart k) ks) → true ≡ apart k x && every_entry (apart k) ks
      by_tests true u _ _ never _ _ = absurd (true_not_false never)
      by_tests false true _ _ _ never _ = absurd (at_not_nothing never)
      by_tests false false t u numbers blobs go = rw (neither_shared k x t u) (go numbers blobs)

  -- where the short number of a blob does not stand behind, the blob does not
  pub short_new : (ks : List Key) (i : ℕ) → among (short_number k) (map short_number ks) ≡ false → seek (holds k.blob) i ks ≡ None
  unfolding among
  short_new [] i e = refl
  short_new (x ∷ ks) i e = by_tests (eqb (short_number x) (short_number k)) (holds k.blob x) refl refl e (short_new ks (suc i))
    where
      by_tests : (t u : Bool) → eqb (short_number x) (short_number k) ≡ t → holds k.blob x ≡ u → t || among (short_number k) (map short_number ks) ≡ false
          → (among (short_number k) (map short_number ks) ≡ false → seek (holds k.blob) (suc i) ks ≡ None) → cond u (Some i) (seek (holds k.blob) (suc i) ks) ≡ None
      by_tests true u _ _ never _ = absurd (true_not_false never)
      by_tests false true t u _ _ = absurd (short_rule x.blob k.blob (eqb-false (short_number x) (short_number k) t) (same_true x.blob k.blob u))
      by_tests false false _ _ rest go = go rest

-- ## Numbers of entries, of any kind, in a list of their own

map-drop : (f : Key → ℕ) (ks : List Key) (i : ℕ) → map f (drop i ks) ≡ drop i (map f ks)
map-drop f ks zero = refl
map-drop f [] (suc i) = refl
map-drop f (k ∷ ks) (suc i) = map-drop f ks i

map-entry : (f : Key → ℕ) (ks : List Key) (i : ℕ) (k : Key) → entry_at ks i ≡ some k → get_or (map f ks) i 0 ≡ f k
map-entry f [] i k e = absurd (some_not_none (sym e))
map-entry f (x ∷ ks) zero k e = ap f (same-entry e)
map-entry f (x ∷ ks) (suc i) k e = map-entry f ks i k e

-- is the number of entry i among those behind it?
module _ (f : Key → ℕ) (ks : List Key) (l : List ℕ) (n : ℕ) (listed : map f ks ≡ take n l) (i : ℕ) (k : Key) (h : i < n) (held : entry_at ks i ≡ some k) where
  pub among-behind : (b : Bool) → b ≡ among (get_or l i 0) (drop (i + 1) (take n l)) → b ≡ among (f k) (map f (drop (i + 1) ks))
  among-behind b e =
      let own : get_or l i 0 ≡ f k = sym (get_or-take n l i 0 h) ∙ ap (λ (m : List ℕ). get_or m i 0) (sym listed) ∙ map-entry f ks i k held in
      let others : drop (i + 1) (take n l) ≡ map f (drop (i + 1) ks) = ap (drop (i + 1)) (sym listed) ∙ sym (map-drop f ks (i + 1)) in
      e ∙ λ j. among (own j) (others j)

-- ## What columns and store show

get_or-entry : (ks : List Key) (i : ℕ) (k d : Key) → entry_at ks i ≡ some k → get_or ks i d ≡ k
get_or-entry [] i k d e = absurd (some_not_none (sym e))
get_or-entry (x ∷ ks) zero k d e = same-entry e
get_or-entry (x ∷ ks) (suc i) k d e = get_or-entry ks i k d e

module _ (s : State) (x : List ℕ) where
  abbrev keys : List Key
  keys = (gateway_of s x).entries

  abbrev many : ℕ
  many = count_of s.columns.numbers

  keys_up : keys ≡ up_to (key_at s x) many
  keys_up =
      let n = state_count s x in
      let m = up_length (key_at s x) many in
      ext_get_or (key_at s x 0) keys (up_to (key_at s x) many) (n ∙ sym m)
      (λ i h. let inside : i < many = omega arith in get_or-entry keys i (key_at s x i) (key_at s x 0) (state_entry s x i inside) ∙ sym (up_at (key_at s x) many i (key_at s x 0) inside))

  own_numbers : map number_of keys ≡ take many s.columns.numbers
  own_numbers = ap (map number_of) keys_up ∙ map-up number_of (key_at s x) many ∙ up_take s.columns.numbers 0 many (count_within s.columns.numbers)

  own_shorts : map short_number keys ≡ shorts_in s.columns.blob_lens s.columns.fields_lens s.columns.comment_lens many x
  unfolding shorts_in
  own_shorts = ap (map short_number) keys_up ∙ map-up short_number (key_at s x) many ∙ up_same _ _ many (λ i h. ap short_of (blob_lies s x i h))

  module _ (numbers blobs fields comments : List ℕ) (shows : ShowsParts numbers blobs fields comments s) where
    pub numbers_listed : map number_of keys ≡ take (count_of numbers) numbers
    numbers_listed = own_numbers ∙ ap (λ (l : List ℕ). take (count_of l) l) shows.numbers_are

    pub shorts_listed : map short_number keys ≡ shorts_in blobs fields comments (count_of numbers) x
    shorts_listed = own_shorts ∙ λ j. shorts_in (shows.blobs_are j) (shows.fields_are j) (shows.comments_are j) (count_of (shows.numbers_are j)) x

    -- the bytes from where an entry begins are its blob
    pub blob_here : (i at : ℕ) (k : Key) → entry_at keys i ≡ some k → at ≡ start_in blobs fields comments i → take (at + get_or blobs i 0 - at) (drop at x) ≡ k.blob
    blob_here i at k held begins =
        let (inside, is) = state_held s x i k held in
        let width : at + get_or blobs i 0 - at ≡ get_or blobs i 0 = omega arith in
        let lies : (key_at s x i).blob ≡ take (get_or blobs i 0) (drop (start_in blobs fields comments i) x)
        = blob_lies s x i inside ∙ λ j. take (get_or (shows.blobs_are j) i 0) (drop (start_in (shows.blobs_are j) (shows.fields_are j) (shows.comments_are j) i) x) in
        (λ j. take (width j) (drop (begins j) x)) ∙ sym (ap (λ (y : Key). y.blob) is ∙ lies)

-- ## One entry against those behind it

module _ (numbers blobs fields comments x shorts : List ℕ) (i n : ℕ) (counted : n ≡ count_of numbers) (h : i < n) (put : take n shorts ≡ shorts_in blobs fields comments n x)
    (s : State) (k : Key) (shows : ShowsParts numbers blobs fields comments s) (held : entry_at (gateway_of s x).entries i ≡ some k) where
  abbrev behind : List Key
  behind = drop (i + 1) (gateway_of s x).entries

  by_numbers : map number_of (gateway_of s x).entries ≡ take n numbers
  by_numbers = numbers_listed s x numbers blobs fields comments shows ∙ ap (λ (m : ℕ). take m numbers) (sym counted)

  by_shorts : map short_number (gateway_of s x).entries ≡ take n shorts
  by_shorts = shorts_listed s x numbers blobs fields comments shows ∙ ap (λ (m : ℕ). shorts_in blobs fields comments m x) (sym counted) ∙ sym put

  module _ (b : Bool) (e : b ≡ among (get_or numbers i 0) (drop (i + 1) (take n numbers))) where
    numbers_say : b ≡ among k.number (map number_of behind)
    numbers_say = among-behind number_of _ numbers n by_numbers i k h held b e

    pub told-by_number : b ≡ true → false ≡ every_entry (apart k) behind
    told-by_number t = number_again k behind (sym numbers_say ∙ t)

    module _ (new : b ≡ false) where
      pub told-by_short : among (get_or shorts i 0) (drop (i + 1) (take n shorts)) ≡ false → true ≡ every_entry (apart k) behind
      told-by_short t =
          let absent : among (short_number k) (map short_number behind) ≡ false = sym (among-behind short_number _ shorts n by_shorts i k h held _ refl) ∙ t in
          neither_again k behind (i + 1) (sym numbers_say ∙ new) (short_new k behind (i + 1) absent)

      module _ (blob : List ℕ) (is : blob ≡ k.blob) (r : Found) (f : r ≡ seek (holds blob) (i + 1) behind) where
        searched : seek (holds k.blob) (i + 1) behind ≡ r
        searched = sym (f ∙ ap (λ (y : List ℕ). seek (holds y) (i + 1) behind) is)

        pub told-by_blob : (j : ℕ) → r ≡ Some j → false ≡ every_entry (apart k) behind
        told-by_blob j t = blob_again k behind (i + 1) j (searched ∙ t)

        pub told-by_none : r ≡ None → true ≡ every_entry (apart k) behind
        told-by_none t = neither_again k behind (i + 1) (sym numbers_say ∙ new) (searched ∙ t)

-- ## Each entry against those behind it

distinct-goes : (k : Key) (rest : List Key) → distinct (k ∷ rest) ≡ every_entry (apart k) rest && distinct rest
unfolding distinct
distinct-goes k rest = refl

distinct_none : distinct [] ≡ true
unfolding distinct
distinct_none = refl

-- of all states with these columns, whatever else they have
abbrev pub DistinctLeft : List ℕ → List ℕ → List ℕ → List ℕ → List ℕ → ℕ → Type 0
DistinctLeft numbers blobs fields comments x i = (s : State) → ShowsParts numbers blobs fields comments s → distinct (drop i (gateway_of s x).entries) ≡ distinct (gateway_of s x).entries

abbrev pub DistinctSays : Bool → List ℕ → List ℕ → List ℕ → List ℕ → List ℕ → Type 0
DistinctSays b numbers blobs fields comments x = (s : State) → ShowsParts numbers blobs fields comments s → b ≡ distinct (gateway_of s x).entries

abbrev pub UnlikeSays : Bool → List ℕ → List ℕ → List ℕ → List ℕ → List ℕ → ℕ → Type 0
UnlikeSays b numbers blobs fields comments x i = (s : State) (k : Key) → ShowsParts numbers blobs fields comments s → entry_at (gateway_of s x).entries i ≡ some k → b ≡ every_entry (apart k) (drop (i + 1) (gateway_of s x).entries)

module _ (numbers blobs fields comments x : List ℕ) (i : ℕ) where
  module _ (b : Bool) (h : i < count_of numbers) (e : UnlikeSays b numbers blobs fields comments x i) where
    module _ (s : State) (shows : ShowsParts numbers blobs fields comments s) where
      inside : i < count_of s.columns.numbers
      inside = rw shows.numbers_are h

      within : i < length (gateway_of s x).entries
      within = rw (state_count s x) inside

      unlike_at : every_entry (apart (get_or (gateway_of s x).entries i (key_at s x i))) (drop (i + 1) (gateway_of s x).entries) ≡ b
      unlike_at = rw (get_or-entry (gateway_of s x).entries i (key_at s x i) (key_at s x i) (state_entry s x i inside)) (sym (e s (key_at s x i) shows (state_entry s x i inside)))

    pub distinct-on : b ≡ true → DistinctLeft numbers blobs fields comments x i → DistinctLeft numbers blobs fields comments x (i + 1)
    distinct-on q left s shows = walk_on distinct (λ k. every_entry (apart k)) distinct_none distinct-goes (key_at s x i) _ _ i (within s shows) (unlike_at s shows ∙ q) (left s shows)

    pub distinct-out : b ≡ false → DistinctLeft numbers blobs fields comments x i → DistinctSays false numbers blobs fields comments x
    distinct-out q left s shows = walk_out distinct (λ k. every_entry (apart k)) distinct_none distinct-goes (key_at s x i) _ _ i (within s shows) (unlike_at s shows ∙ q) (left s shows)

  pub distinct-end : count_of numbers ≤ i → DistinctLeft numbers blobs fields comments x i → DistinctSays true numbers blobs fields comments x
  distinct-end h left s shows =
      let all : length (gateway_of s x).entries ≤ i = rw (state_count s x, shows.numbers_are) h in
      walk_end distinct (λ k. every_entry (apart k)) distinct_none distinct-goes (key_at s x i) _ _ i all (left s shows)

-- columns that are no state's yet
pub distinct-shown : (b : Bool) (t : Columns) (x : List ℕ) → DistinctSays b t.numbers t.blob_lens t.fields_lens t.comment_lens x → b ≡ distinct (view (entries_in t) x)
unfolding gateway_of
distinct-shown b t x e =
    e (held t [] (record { clock = zero_millis; next = 0; locked = 0 })) (record { numbers_are = refl; blobs_are = refl; fields_are = refl; comments_are = refl })
