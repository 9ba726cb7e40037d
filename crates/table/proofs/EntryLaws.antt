-- Laws of columns side by side: how many entries they show, where the bytes of each begin, and that they are written in one way.
use Prim.Native.Nat.{ℕ, zero, suc, ◌+◌, ◌-◌, ◌≤◌, ◌<◌}
use mathlib.Core.Path.{◌≡◌, refl, sym, ap, ◌∙◌}
use mathlib.Core.Logic.{◌≢◌, ◌⊎◌, inl, inr}
use mathlib.Core.List.{List, [], ◌∷◌, ◌++◌, map}
use native.Mathlib.Omega.{arith}
use native.Mathlib.Nat.{not-suc-le-zero, le_of_suc-le-suc}
use lib.ListN.{length, take, drop, get_or, replicate, length-map, drop_of_length-le}
use lib.Seq.{take-nil, drop-cons}
use Rattle.wire.specs.Limits.{entries_limit}
use Rattle.wire.proofs.Reading.{le_or_lt}
use Rattle.table.specs.declared.Columns.{Columns}
use Rattle.table.specs.declared.Figures.{Figures}
use Rattle.table.specs.Bytes.{Zeros, sum_of, padded}
use Rattle.table.specs.Each.{offset}
use Rattle.table.specs.Entries.{columns, Long, figures_at, count_of, up_to, entries_in, start_in, columns_of}
use Rattle.table.specs.Meaning.{size, no_figures}
use Rattle.table.specs.Soundness.{ZeroBehind}
use Rattle.table.proofs.ByteLaws.{padded-size, padded-rest, zeros_padded}
use Rattle.table.proofs.EachLaws.{offset_step}
pub use Rattle.table.proofs.CountLaws.{count_within, count_held, count_unused, count_is, count_step}

-- ## A list by its index

module _ {A : Type 0} where
  pub up_length : (f : ℕ → A) (n : ℕ) → length (up_to f n) ≡ n
  unfolding up_to
  up_length f zero = refl
  up_length f (suc n) = ap suc (up_length (λ i. f (suc i)) n)

  pub up_at : (f : ℕ → A) (n i : ℕ) (d : A) → i < n → get_or (up_to f n) i d ≡ f i
  unfolding up_to
  up_at f zero i d h = absurd (not-suc-le-zero h)
  up_at f (suc n) zero d h = refl
  up_at f (suc n) (suc i) d h = up_at (λ i. f (suc i)) n i d (le_of_suc-le-suc h)

  pub up_same : (f g : ℕ → A) (n : ℕ) → ((i : ℕ) → i < n → f i ≡ g i) → up_to f n ≡ up_to g n
  unfolding up_to
  up_same f g zero h = refl
  up_same f g (suc n) h = λ j. h 0 (omega arith) j ∷ up_same (λ i. f (suc i)) (λ i. g (suc i)) n (λ i k. h (suc i) (omega arith)) j

  pub up_take : (xs : List A) (d : A) (n : ℕ) → n ≤ length xs → up_to (λ i. get_or xs i d) n ≡ take n xs
  unfolding up_to
  up_take xs d zero h = refl
  up_take [] d (suc n) h = absurd (not-suc-le-zero h)
  up_take (x ∷ xs) d (suc n) h = ap (λ (ys : List A). x ∷ ys) (up_take xs d n (le_of_suc-le-suc h))

pub map-up : {A B : Type 0} (h : A → B) (f : ℕ → A) (n : ℕ) → map h (up_to f n) ≡ up_to (λ i. h (f i)) n
unfolding up_to
map-up h f zero = refl
map-up h f (suc n) = ap (λ ys. h (f 0) ∷ ys) (map-up h (λ i. f (suc i)) n)

-- ## How many there are

pub count_ends : (ns : List ℕ) (i : ℕ) → i ≤ count_of ns → get_or ns i 0 ≡ 0 → i ≡ count_of ns
count_ends ns i h z = by_order (le_or_lt (count_of ns) i)
  where
    by_order : (count_of ns ≤ i) ⊎ (i < count_of ns) → i ≡ count_of ns
    by_order (inl k) = omega arith
    by_order (inr k) = absurd (count_held ns i k z)

module _ (t : Columns) where
  pub entries_length : length (entries_in t) ≡ count_of t.numbers
  unfolding entries_in
  entries_length = up_length (figures_at t) (count_of t.numbers)

  pub entries_at : (i : ℕ) (d : Figures) → i < count_of t.numbers → get_or (entries_in t) i d ≡ figures_at t i
  unfolding entries_in
  entries_at i d h = up_at (figures_at t) (count_of t.numbers) i d h

-- ## Where the bytes begin

sum_step : (l : List ℕ) (i : ℕ) → sum_of (take (suc i) l) ≡ sum_of (take i l) + get_or l i 0
unfolding sum_of
sum_step [] i = rw take-nil
sum_step (n ∷ l) zero = omega arith
sum_step (n ∷ l) (suc i) = let r = sum_step l i in omega arith

-- a sum from its front: nothing so far, one more, none left
pub sum_more : (l : List ℕ) (i : ℕ) → i < length l → sum_of (drop i l) ≡ get_or l i 0 + sum_of (drop (i + 1) l)
unfolding sum_of
sum_more l i h = let next : i + 1 ≡ suc i = omega arith in rw (next, drop-cons l i 0 h)

pub sum-ended : (l : List ℕ) (i : ℕ) → length l ≤ i → sum_of (drop i l) ≡ 0
unfolding sum_of
sum-ended l i h = rw (drop_of_length-le l h)

pub start-step : (b f c : List ℕ) (i : ℕ) → start_in b f c (suc i) ≡ start_in b f c i + (get_or b i 0 + (get_or f i 0 + get_or c i 0))
unfolding start_in
start-step b f c i = let p = sum_step b i in let q = sum_step f i in let r = sum_step c i in omega arith

pub start_none : (b f c : List ℕ) → start_in b f c 0 ≡ 0
unfolding start_in sum_of
start_none b f c = refl

start-more : (b f c : List ℕ) (i k : ℕ) → start_in b f c i ≤ start_in b f c (k + i)
start-more b f c i zero = let same : 0 + i ≡ i = omega arith in rw same (omega arith)
start-more b f c i (suc k) =
    let r = start-more b f c i k in
    let s = start-step b f c (k + i) in
    let next : suc k + i ≡ suc (k + i) = omega arith in
    rw next (omega arith)

pub start-mono : (b f c : List ℕ) (i j : ℕ) → i ≤ j → start_in b f c i ≤ start_in b f c j
start-mono b f c i j h = let k : j ≡ (j - i) + i = omega arith in rw k (start-more b f c i (j - i))

-- by the entries that the columns show
pub start_is : (t : Columns) (i : ℕ) → i ≤ count_of t.numbers → offset size (entries_in t) i ≡ start_in t.blob_lens t.fields_lens t.comment_lens i
unfolding offset size
start_is t zero h = sym (start_none t.blob_lens t.fields_lens t.comment_lens)
start_is t (suc i) h =
    let long = entries_length t in
    let r = start_is t i (omega arith) in
    let here = ap size (entries_at t i no_figures (omega arith)) in
    let s = offset_step size (entries_in t) i no_figures (omega arith) in
    let u = start-step t.blob_lens t.fields_lens t.comment_lens i in
    omega arith

-- behind a list that is zero from n on nothing is added
zeros_sum : (l : List ℕ) → Zeros l → sum_of l ≡ 0
unfolding sum_of
zeros_sum [] z = refl
zeros_sum (n ∷ l) z = let first : n ≡ 0 = ap (λ (ys : List ℕ). get_or ys 0 0) z in let r = zeros_sum l (ap (drop 1) z) in omega arith

sum-split : (l : List ℕ) (n : ℕ) → sum_of l ≡ sum_of (take n l) + sum_of (drop n l)
unfolding sum_of
sum-split l zero = omega arith
sum-split [] (suc n) = refl
sum-split (m ∷ l) (suc n) = let r = sum-split l n in omega arith

take_whole : (l : List ℕ) (n : ℕ) → length l ≤ n → take n l ≡ l
take_whole [] n h = take-nil n
take_whole (m ∷ l) zero h = absurd (not-suc-le-zero h)
take_whole (m ∷ l) (suc n) h = ap (λ (ys : List ℕ). m ∷ ys) (take_whole l n (le_of_suc-le-suc h))

pub start-all : (t : Columns) → Long t → (n : ℕ) → ZeroBehind n t
    → start_in t.blob_lens t.fields_lens t.comment_lens entries_limit ≡ start_in t.blob_lens t.fields_lens t.comment_lens n
unfolding start_in
start-all t long n z =
    let whole : (l : List ℕ) → length l ≡ entries_limit → Zeros (drop n l) → sum_of (take entries_limit l) ≡ sum_of (take n l)
    = λ l k zeros. let a = ap sum_of (take_whole l entries_limit (omega arith)) in let b = sum-split l n in let c = zeros_sum (drop n l) zeros in omega arith in
    let b = whole t.blob_lens long.blobs z.blobs in
    let f = whole t.fields_lens long.fields z.fields in
    let c = whole t.comment_lens long.comments z.comments in
    omega arith

-- ## Columns are written as the entries that they show

module _ (t : Columns) (long : Long t) (unused : ZeroBehind (count_of t.numbers) t) where
  column : (field : Figures → ℕ) (xs : List ℕ) → length xs ≡ entries_limit → ((i : ℕ) → field (figures_at t i) ≡ get_or xs i 0) → Zeros (drop (count_of t.numbers) xs)
      → xs ≡ padded entries_limit (map field (entries_in t))
  unfolding entries_in
  column field xs l is zeros =
      let n = count_of t.numbers in
      let few : n ≤ entries_limit = let w = count_within t.numbers in let k = long.numbers in omega arith in
      let shown : map field (up_to (figures_at t) n) ≡ take n xs = map-up field (figures_at t) n ∙ up_same (λ i. field (figures_at t i)) (λ i. get_or xs i 0) n (λ i _. is i) ∙ up_take xs 0 n (omega arith) in
      zeros_padded entries_limit n xs l few zeros ∙ ap (padded entries_limit) (sym shown)

  pub columns-written : t ≡ columns_of (entries_in t)
  unfolding columns_of
  columns-written = λ j. columns
      (column (λ f. f.number) t.numbers long.numbers (λ i. refl) unused.numbers j)
      (column (λ f. f.reading.count) t.readings long.readings (λ i. refl) unused.readings j)
      (column (λ f. f.blob_len) t.blob_lens long.blobs (λ i. refl) unused.blobs j)
      (column (λ f. f.fields_len) t.fields_lens long.fields (λ i. refl) unused.fields j)
      (column (λ f. f.comment_len) t.comment_lens long.comments (λ i. refl) unused.comments j)
      (column (λ f. f.seconds.count) t.seconds long.seconds (λ i. refl) unused.seconds j)
      (column (λ f. f.limited) t.limited long.limited (λ i. refl) unused.limited j)
      (column (λ f. f.confirm) t.confirm long.confirm (λ i. refl) unused.confirm j)

-- ## Entries that were written are shown

get_or-zeros : (n i : ℕ) → get_or {A = ℕ} (replicate n 0) i 0 ≡ 0
get_or-zeros zero i = refl
get_or-zeros (suc n) zero = refl
get_or-zeros (suc n) (suc i) = get_or-zeros n i

get_or-padded : (n : ℕ) (l : List ℕ) (i : ℕ) → get_or (padded n l) i 0 ≡ get_or l i 0
unfolding padded
get_or-padded n l i = behind l i (n - length l)
  where
    behind : (l : List ℕ) (i k : ℕ) → get_or (l ++ replicate k 0) i 0 ≡ get_or l i 0
    behind [] i k = get_or-zeros k i
    behind (m ∷ l) zero k = refl
    behind (m ∷ l) (suc i) k = behind l i k

get_or-field : (field : Figures → ℕ) → field no_figures ≡ 0 → (l : List Figures) (i : ℕ) → get_or (map field l) i 0 ≡ field (get_or l i no_figures)
get_or-field field z [] i = sym z
get_or-field field z (x ∷ l) zero = refl
get_or-field field z (x ∷ l) (suc i) = get_or-field field z l i

module _ (fs : List Figures) (few : length fs ≤ entries_limit) where
  at : (field : Figures → ℕ) → field no_figures ≡ 0 → (i : ℕ) → get_or (padded entries_limit (map field fs)) i 0 ≡ field (get_or fs i no_figures)
  at field z i = get_or-padded entries_limit (map field fs) i ∙ get_or-field field z fs i

  pub shown_at : (i : ℕ) → figures_at (columns_of fs) i ≡ get_or fs i no_figures
  unfolding columns_of
  shown_at i = λ j. record {
    number = at (λ f. f.number) refl i j;
    reading = record { count = at (λ f. f.reading.count) refl i j };
    blob_len = at (λ f. f.blob_len) refl i j;
    fields_len = at (λ f. f.fields_len) refl i j;
    comment_len = at (λ f. f.comment_len) refl i j;
    seconds = record { count = at (λ f. f.seconds.count) refl i j };
    limited = at (λ f. f.limited) refl i j;
    confirm = at (λ f. f.confirm) refl i j;
  }

  size_of : (field : Figures → ℕ) → length (padded entries_limit (map field fs)) ≡ entries_limit
  size_of field = padded-size entries_limit (map field fs) (let l = length-map fs field in omega arith)

  pub columns-long : Long (columns_of fs)
  unfolding columns_of
  columns-long = record {
    numbers = size_of (λ f. f.number);
    readings = size_of (λ f. f.reading.count);
    blobs = size_of (λ f. f.blob_len);
    fields = size_of (λ f. f.fields_len);
    comments = size_of (λ f. f.comment_len);
    seconds = size_of (λ f. f.seconds.count);
    limited = size_of (λ f. f.limited);
    confirm = size_of (λ f. f.confirm);
  }

  rest_of : (field : Figures → ℕ) → Zeros (drop (length fs) (padded entries_limit (map field fs)))
  rest_of field = rw (length-map fs field) at (padded-rest entries_limit (map field fs))

  pub columns-unused : ZeroBehind (length fs) (columns_of fs)
  unfolding columns_of
  columns-unused = record {
    numbers = rest_of (λ f. f.number);
    readings = rest_of (λ f. f.reading.count);
    blobs = rest_of (λ f. f.blob_len);
    fields = rest_of (λ f. f.fields_len);
    comments = rest_of (λ f. f.comment_len);
    seconds = rest_of (λ f. f.seconds.count);
    limited = rest_of (λ f. f.limited);
    confirm = rest_of (λ f. f.confirm);
  }

  module _ (numbered : (i : ℕ) → i < length fs → (get_or fs i no_figures).number ≢ 0) where
    pub columns-count : count_of (columns_of fs).numbers ≡ length fs
    unfolding columns_of
    columns-count =
        count_is (padded entries_limit (map (λ f. f.number) fs)) (length fs) (let l = size_of (λ f. f.number) in omega arith)
        (λ i h z. numbered i h (sym (at (λ f. f.number) refl i) ∙ z))
        (at (λ f. f.number) refl (length fs) ∙ ap (λ (f : Figures). f.number) (behind fs))
      where
        behind : (l : List Figures) → get_or l (length l) no_figures ≡ no_figures
        behind [] = refl
        behind (x ∷ l) = behind l

    pub entries_shown : entries_in (columns_of fs) ≡ fs
    unfolding entries_in
    entries_shown =
        ap (up_to (figures_at (columns_of fs))) columns-count
        ∙ up_same (figures_at (columns_of fs)) (λ i. get_or fs i no_figures) (length fs) (λ i _. shown_at i)
        ∙ up_take fs no_figures (length fs) (omega arith)
        ∙ take_all fs
      where
        take_all : (l : List Figures) → take (length l) l ≡ l
        take_all [] = refl
        take_all (x ∷ l) = ap (λ ys. x ∷ ys) (take_all l)
