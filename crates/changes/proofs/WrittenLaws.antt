-- Keys as they are written in columns and store: those that stay where others go, and one that comes.
use Prim.Native.Nat.{ℕ, zero, suc, ◌+◌, ◌-◌, ◌≤◌, ◌<◌}
use native.Mathlib.Omega.{arith}
use native.Mathlib.Nat.{not-suc-le-zero, le_of_suc-le-suc}
use mathlib.Core.Path.{◌≡◌, refl, sym, ap, ◌∙◌}
use mathlib.Core.Bool.{Bool, true, false, cond}
use mathlib.Core.List.{List, [], ◌∷◌, ◌++◌, map, append-nil, append_assoc}
use lib.ListN.{length, take, drop, get_or, set, replicate, length-append, length-map, length-replicate, take-append-drop, replicate-append-replicate}
use lib.Seq.{length-take-le, take_all, take_at, drop_at, take-append-le, take-take, take-nil}
use Rattle.wire.specs.Limits.{entries_limit, store_size}
use Rattle.wire.specs.Write.{write}
use Rattle.rule.specs.declared.Millis.{Millis}
use Rattle.rule.specs.Gateway.{Entry as Key, due_at, lasting, remove_at, put_at}
use Rattle.rule.proofs.Cases.{cond_cases}
use Rattle.rule.proofs.PositionLaws.{Fewer, ended, gone, kept, fewer_none}
use Rattle.keys.specs.Constraints.{Lifetime}
use Rattle.std.specs.Prelude.{Some, None}
use Rattle.table.specs.declared.Columns.{Columns}
use Rattle.table.specs.declared.Figures.{Figures}
use Rattle.table.specs.Bytes.{padded}
use Rattle.table.specs.Entries.{columns, figures_at, up_to, start_in, columns_of, figures_set}
use Rattle.table.specs.Meaning.{size, is_set, limited_lifetime, lifetime_of, no_figures, flag_of, limited_flag, kept_seconds, figures_for, bytes_for, laid}
use Rattle.table.specs.Changes.{unmarked, unmarked_parts, sizes_in, closed, closed_parts, closed_columns, due_marks, resized, bytes_put}
use Rattle.table.proofs.ByteLaws.{padded-size, padded-front}
use Rattle.table.proofs.EntryLaws.{up_same, start-step, start_none, shown_at}

-- ## Which stay

pub unmarked-map : {A B : Type 0} (f : A → B) (ms : List ℕ) (xs : List A) → unmarked ms (map f xs) ≡ map f (unmarked ms xs)
unfolding unmarked
unmarked-map f [] xs = refl
unmarked-map f (m ∷ ms) [] = refl
unmarked-map f (m ∷ ms) (x ∷ xs) = rw (unmarked-map f ms xs) (inside (is_set m) (unmarked ms xs))
  where
    inside : (b : Bool) (rest : List _) → cond b (map f rest) (f x ∷ map f rest) ≡ map f (cond b rest (x ∷ rest))
    inside true rest = refl
    inside false rest = refl

pub unmarked-size : {A : Type 0} (ms : List ℕ) (xs : List A) → length (unmarked ms xs) ≤ length xs
unfolding unmarked
unmarked-size [] xs = omega arith
unmarked-size (m ∷ ms) [] = omega arith
unmarked-size (m ∷ ms) (x ∷ xs) = let r = unmarked-size ms xs in inside (is_set m) (unmarked ms xs) r
  where
    inside : (b : Bool) (rest : List _) → length rest ≤ length xs → length (cond b rest (x ∷ rest)) ≤ suc (length xs)
    inside true rest r = omega arith
    inside false rest r = omega arith

pub unmarked-fewer : (ms : List ℕ) (ks : List Key) → Fewer ks (unmarked ms ks)
unfolding unmarked
unmarked-fewer [] ks = fewer_none ks
unmarked-fewer (m ∷ ms) [] = ended
unmarked-fewer (m ∷ ms) (k ∷ ks) = inside (is_set m) (unmarked-fewer ms ks)
  where
    inside : (b : Bool) {rest : List Key} → Fewer ks rest → Fewer (k ∷ ks) (cond b rest (k ∷ rest))
    inside true f = gone k f
    inside false f = kept k f

-- all are marked, none is, one is
pub all-marked : (n : ℕ) (ks : List Key) → unmarked (replicate n 1) ks ≡ []
unfolding unmarked
all-marked zero ks = refl
all-marked (suc n) [] = refl
all-marked (suc n) (k ∷ ks) = all-marked n ks

pub none_marked : (n : ℕ) (ks : List Key) → length ks ≤ n → unmarked (replicate n 0) ks ≡ ks
unfolding unmarked
none_marked zero [] h = refl
none_marked zero (k ∷ ks) h = absurd (not-suc-le-zero h)
none_marked (suc n) [] h = refl
none_marked (suc n) (k ∷ ks) h = ap (λ (l : List Key). k ∷ l) (none_marked n ks (le_of_suc-le-suc h))

pub one_marked : (n i : ℕ) (ks : List Key) → length ks ≤ n → unmarked (set (replicate n 0) i 1) ks ≡ remove_at i ks
unfolding unmarked remove_at
one_marked zero i [] h = refl
one_marked zero i (k ∷ ks) h = absurd (not-suc-le-zero h)
one_marked (suc n) zero [] h = refl
one_marked (suc n) (suc i) [] h = refl
one_marked (suc n) zero (k ∷ ks) h = none_marked n ks (le_of_suc-le-suc h)
one_marked (suc n) (suc i) (k ∷ ks) h = ap (λ (l : List Key). k ∷ l) (one_marked n i ks (le_of_suc-le-suc h))

-- ## What is due

lifetime_back_lem : (l : Lifetime) → limited_lifetime (limited_flag l) (kept_seconds l) ≡ l
lifetime_back_lem None = refl
lifetime_back_lem (Some seconds) = refl

flag_back : (b : Bool) → is_set (flag_of b) ≡ b
flag_back true = refl
flag_back false = refl

abbrev due_flag : Millis → Figures → ℕ
due_flag clock f = flag_of (due_at clock f.reading (lifetime_of f))

due_flag_lem : (clock : Millis) (k : Key) → is_set (due_flag clock (figures_for k)) ≡ due_at clock k.reading k.lifetime
unfolding figures_for
due_flag_lem clock k = flag_back _ ∙ ap (due_at clock k.reading) (lifetime_back_lem k.lifetime)

due_unmarked : (clock : Millis) (n : ℕ) (ks : List Key) → length ks ≤ n → unmarked (up_to (λ i. due_flag clock (get_or (map figures_for ks) i no_figures)) n) ks ≡ lasting clock ks
unfolding unmarked up_to lasting
due_unmarked clock zero [] h = refl
due_unmarked clock zero (k ∷ ks) h = absurd (not-suc-le-zero h)
due_unmarked clock (suc n) [] h = refl
due_unmarked clock (suc n) (k ∷ ks) h = rw (due_flag_lem clock k, due_unmarked clock n ks (le_of_suc-le-suc h))

abbrev pub table_of : List Key → Columns
table_of ks = columns_of (map figures_for ks)

pub few_figures : (ks : List Key) → length ks ≤ entries_limit → length (map figures_for ks) ≤ entries_limit
few_figures ks few = let l = length-map ks figures_for in omega arith

pub due_lasting : (clock : Millis) (ks : List Key) → length ks ≤ entries_limit → unmarked (due_marks clock (table_of ks).readings (table_of ks).seconds (table_of ks).limited) ks ≡ lasting clock ks
unfolding due_marks
due_lasting clock ks few =
    let fs = map figures_for ks in
    ap (λ (ms : List ℕ). unmarked ms ks) (up_same (λ i. due_flag clock (figures_at (table_of ks) i)) (λ i. due_flag clock (get_or fs i no_figures)) entries_limit
    (λ i _. ap (due_flag clock) (shown_at fs (few_figures ks few) i))) ∙ due_unmarked clock entries_limit ks few

-- ## Columns of those that stay

-- a list with zeros behind it
record Trailed (whole front : List ℕ) : Type 0 where
  count : ℕ
  is : whole ≡ front ++ replicate count 0

trailed_padded : (n : ℕ) (whole front : List ℕ) → Trailed whole front → length whole ≤ n → padded n whole ≡ padded n front
unfolding padded
trailed_padded n whole front t h =
    let k = t.count in
    let all : length whole ≡ length front + k = ap length t.is ∙ length-append front (replicate k 0) ∙ rw (length-replicate {A = ℕ} k 0) in
    let rest : k + (n - length whole) ≡ n - length front = omega arith in
    ap (λ (l : List ℕ). l ++ replicate (n - length whole) 0) t.is ∙ append_assoc front (replicate k 0) (replicate (n - length whole) 0)
    ∙ ap (λ (r : List ℕ). front ++ r) (replicate-append-replicate k (n - length whole) 0 ∙ ap (λ (m : ℕ). replicate m 0) rest)

zeros_trailed : (ms : List ℕ) (k : ℕ) → Trailed (unmarked ms (replicate k 0)) []
unfolding unmarked
zeros_trailed [] k = record { count = 0; is = refl }
zeros_trailed (m ∷ ms) zero = record { count = 0; is = refl }
zeros_trailed (m ∷ ms) (suc k) = inside (is_set m) (unmarked ms (replicate k 0)) (zeros_trailed ms k)
  where
    inside : (b : Bool) (rest : List ℕ) → Trailed rest [] → Trailed (cond b rest (0 ∷ rest)) []
    inside true rest t = t
    inside false rest t = record { count = suc t.count; is = ap (λ (l : List ℕ). 0 ∷ l) t.is }

unmarked-trailed : (ms xs : List ℕ) (k : ℕ) → Trailed (unmarked ms (xs ++ replicate k 0)) (unmarked ms xs)
unfolding unmarked
unmarked-trailed [] xs k = record { count = 0; is = refl }
unmarked-trailed (m ∷ ms) [] k = zeros_trailed (m ∷ ms) k
unmarked-trailed (m ∷ ms) (x ∷ xs) k = inside (is_set m) (unmarked ms (xs ++ replicate k 0)) (unmarked ms xs) (unmarked-trailed ms xs k)
  where
    inside : (b : Bool) (whole front : List ℕ) → Trailed whole front → Trailed (cond b whole (x ∷ whole)) (cond b front (x ∷ front))
    inside true whole front t = t
    inside false whole front t = record { count = t.count; is = ap (λ (l : List ℕ). x ∷ l) t.is }

closed-padded : (ms xs : List ℕ) (n : ℕ) → length xs ≤ n → closed 0 ms (padded n xs) ≡ padded n (unmarked ms xs)
unfolding closed padded
closed-padded ms xs n h =
    let all : length (padded n xs) ≡ n = padded-size n xs h in
    let few : length (unmarked ms (padded n xs)) ≤ n = let r = unmarked-size ms (padded n xs) in omega arith in
    ap (λ (m : ℕ). padded m (unmarked ms (padded n xs))) all ∙ trailed_padded n (unmarked ms (padded n xs)) (unmarked ms xs) (unmarked-trailed ms xs (n - length xs)) few

module _ (ms : List ℕ) (ks : List Key) (few : length ks ≤ entries_limit) where
  column_closed : (field : Figures → ℕ) → closed 0 ms (padded entries_limit (map field (map figures_for ks))) ≡ padded entries_limit (map field (map figures_for (unmarked ms ks)))
  column_closed field =
      let l = length-map (map figures_for ks) field in
      let h = few_figures ks few in
      closed-padded ms (map field (map figures_for ks)) entries_limit (omega arith)
      ∙ ap (padded entries_limit) (unmarked-map field ms (map figures_for ks) ∙ ap (map field) (unmarked-map figures_for ms ks))

  pub columns-closed : closed_columns ms (table_of ks) ≡ table_of (unmarked ms ks)
  unfolding columns_of
  columns-closed = λ j. columns
      (column_closed (λ f. f.number) j)
      (column_closed (λ f. f.reading.count) j)
      (column_closed (λ f. f.blob_len) j)
      (column_closed (λ f. f.fields_len) j)
      (column_closed (λ f. f.comment_len) j)
      (column_closed (λ f. f.seconds.count) j)
      (column_closed (λ f. f.limited) j)
      (column_closed (λ f. f.confirm) j)

-- ## The store of those that stay

key-size : (k : Key) → length (bytes_for k) ≡ size (figures_for k)
unfolding size figures_for bytes_for
key-size k = simp length-append refl

-- the first key's bytes, and those of the others
first_bytes : (k : Key) (ks : List Key) (rest : List ℕ) → take (size (figures_for k)) (laid (k ∷ ks) ++ rest) ≡ bytes_for k
unfolding laid
first_bytes k ks rest = rw (append_assoc (bytes_for k) (laid ks) rest) (take_at (bytes_for k) (laid ks ++ rest) (size (figures_for k)) (key-size k))

other_bytes : (k : Key) (ks : List Key) (rest : List ℕ) → drop (size (figures_for k)) (laid (k ∷ ks) ++ rest) ≡ laid ks ++ rest
unfolding laid
other_bytes k ks rest = rw (append_assoc (bytes_for k) (laid ks) rest) (drop_at (bytes_for k) (laid ks ++ rest) (size (figures_for k)) (key-size k))

no_parts : (ms : List ℕ) (n : ℕ) (x : List ℕ) → unmarked_parts ms (up_to (λ i. size (get_or [] i no_figures)) n) x ≡ []
unfolding unmarked_parts up_to size
no_parts [] n x = refl
no_parts (m ∷ ms) zero x = refl
no_parts (m ∷ ms) (suc n) x = rw (no_parts ms n x) (cond_cases (λ (l : List ℕ). l ≡ []) (is_set m) (λ _. refl) (λ _. refl))

parts_laid : (ms : List ℕ) (n : ℕ) (ks : List Key) (rest : List ℕ) → length ks ≤ n
    → unmarked_parts ms (up_to (λ i. size (get_or (map figures_for ks) i no_figures)) n) (laid ks ++ rest) ≡ laid (unmarked ms ks)
unfolding unmarked unmarked_parts up_to laid
parts_laid [] n ks rest h = refl
parts_laid (m ∷ ms) n [] rest h = no_parts (m ∷ ms) n rest
parts_laid (m ∷ ms) zero (k ∷ ks) rest h = absurd (not-suc-le-zero h)
parts_laid (m ∷ ms) (suc n) (k ∷ ks) rest h =
    rw (first_bytes k ks rest, other_bytes k ks rest, parts_laid ms n ks rest (le_of_suc-le-suc h)) (inside (is_set m) (unmarked ms ks))
  where
    inside : (b : Bool) (os : List Key) → cond b (laid os) (bytes_for k ++ laid os) ≡ laid (cond b os (k ∷ os))
    inside true os = refl
    inside false os = refl

-- the sizes that the columns say are those of the keys
sizes_shown : (ks : List Key) → length ks ≤ entries_limit
    → sizes_in (table_of ks).blob_lens (table_of ks).fields_lens (table_of ks).comment_lens ≡ up_to (λ i. size (get_or (map figures_for ks) i no_figures)) entries_limit
unfolding sizes_in size
sizes_shown ks few = up_same (λ i. size (figures_at (table_of ks) i)) (λ i. size (get_or (map figures_for ks) i no_figures)) entries_limit (λ i _. ap size (shown_at (map figures_for ks) (few_figures ks few) i))

abbrev pub store_of : List Key → List ℕ
store_of ks = padded store_size (laid ks)

pub store_closed : (ms : List ℕ) (ks : List Key) → length ks ≤ entries_limit → length (laid ks) ≤ store_size
    → closed_parts ms (sizes_in (table_of ks).blob_lens (table_of ks).fields_lens (table_of ks).comment_lens) (store_of ks) ≡ store_of (unmarked ms ks)
unfolding closed_parts padded
store_closed ms ks few room =
    let all : length (store_of ks) ≡ store_size = padded-size store_size (laid ks) room in
    rw (all, sizes_shown ks few, parts_laid ms entries_limit ks (replicate (store_size - length (laid ks)) 0) few)

-- ## Where the bytes of each begin

pub laid-append : (ks os : List Key) → laid (ks ++ os) ≡ laid ks ++ laid os
unfolding laid
laid-append [] os = refl
laid-append (k ∷ ks) os = rw (laid-append ks os) (sym (append_assoc (bytes_for k) (laid ks) (laid os)))

-- what the first i take of the store
abbrev pub before : ℕ → List Key → ℕ
before i ks = length (laid (take i ks))

-- "without gaps, in list order": the bytes of the first i keys, and those of the others, whatever lies behind them
module _ (i : ℕ) (ks : List Key) (rest : List ℕ) where
  laid-split : laid ks ++ rest ≡ laid (take i ks) ++ (laid (drop i ks) ++ rest)
  laid-split = ap (λ (l : List ℕ). l ++ rest) (ap laid (sym (take-append-drop i ks)) ∙ laid-append (take i ks) (drop i ks)) ∙ append_assoc (laid (take i ks)) (laid (drop i ks)) rest

  pub bytes-before : take (before i ks) (laid ks ++ rest) ≡ laid (take i ks)
  bytes-before = ap (take (before i ks)) laid-split ∙ take_at (laid (take i ks)) (laid (drop i ks) ++ rest) (before i ks) refl

  pub bytes-from : drop (before i ks) (laid ks ++ rest) ≡ laid (drop i ks) ++ rest
  bytes-from = ap (drop (before i ks)) laid-split ∙ drop_at (laid (take i ks)) (laid (drop i ks) ++ rest) (before i ks) refl

before-next : (ks : List Key) (i : ℕ) → before (suc i) ks ≡ before i ks + size (get_or (map figures_for ks) i no_figures)
unfolding laid size
before-next [] i = rw (take-nil i)
before-next (k ∷ ks) zero = let s = key-size k in rw (append-nil (bytes_for k)) (omega arith)
before-next (k ∷ ks) (suc i) = let r = before-next ks i in simp length-append (omega arith)

module _ (ks : List Key) (few : length ks ≤ entries_limit) where
  abbrev start_at : ℕ → ℕ
  start_at i = start_in (table_of ks).blob_lens (table_of ks).fields_lens (table_of ks).comment_lens i

  pub size-shown : (i : ℕ) → get_or (table_of ks).blob_lens i 0 + (get_or (table_of ks).fields_lens i 0 + get_or (table_of ks).comment_lens i 0) ≡ size (get_or (map figures_for ks) i no_figures)
  unfolding size
  size-shown i = ap size (shown_at (map figures_for ks) (few_figures ks few) i)

  pub start-shown : (i : ℕ) → start_at i ≡ before i ks
  unfolding laid
  start-shown zero = start_none (table_of ks).blob_lens (table_of ks).fields_lens (table_of ks).comment_lens
  start-shown (suc i) =
      let r = start-shown i in
      let s = start-step (table_of ks).blob_lens (table_of ks).fields_lens (table_of ks).comment_lens i in
      let n = size-shown i in
      let m = before-next ks i in
      omega arith

  pub end_shown : start_at entries_limit ≡ length (laid ks)
  end_shown = start-shown entries_limit ∙ ap (λ (l : List Key). length (laid l)) (take_all entries_limit ks few)

-- ## A key that comes

padded-cons : (n x : ℕ) (xs : List ℕ) → padded (suc n) (x ∷ xs) ≡ x ∷ padded n xs
unfolding padded
padded-cons n x xs = let less : suc n - suc (length xs) ≡ n - length xs = omega arith in rw less

padded-first : (n : ℕ) → padded (suc n) [] ≡ 0 ∷ padded n []
unfolding padded
padded-first n = let more : suc n - 0 ≡ suc (n - 0) = omega arith in rw more

column_put : (field : Figures → ℕ) (n i : ℕ) (e : Key) (ks : List Key) → i ≤ length ks → i < n
    → set (padded n (map field (map figures_for ks))) i (field (figures_for e)) ≡ padded n (map field (map figures_for (put_at i e ks)))
unfolding put_at
column_put field zero i e ks h l = absurd (not-suc-le-zero l)
column_put field (suc n) zero e [] h l = rw (padded-first n, padded-cons n)
column_put field (suc n) (suc i) e [] h l = absurd (not-suc-le-zero h)
column_put field (suc n) zero e (k ∷ ks) h l = rw (padded-cons n (field (figures_for k)), padded-cons n (field (figures_for e)))
column_put field (suc n) (suc i) e (k ∷ ks) h l =
    rw (padded-cons n (field (figures_for k)), padded-cons n (field (figures_for k))) (ap (λ (l : List ℕ). field (figures_for k) ∷ l) (column_put field n i e ks (le_of_suc-le-suc h) (le_of_suc-le-suc l)))

pub columns-put : (i : ℕ) (e : Key) (ks : List Key) → i ≤ length ks → i < entries_limit → figures_set i (figures_for e) (table_of ks) ≡ table_of (put_at i e ks)
unfolding columns_of
columns-put i e ks h l =
    let column : (field : Figures → ℕ) → set (padded entries_limit (map field (map figures_for ks))) i (field (figures_for e)) ≡ padded entries_limit (map field (map figures_for (put_at i e ks)))
    = λ field. column_put field entries_limit i e ks h l in
    λ j. columns
    (column (λ f. f.number) j)
    (column (λ f. f.reading.count) j)
    (column (λ f. f.blob_len) j)
    (column (λ f. f.fields_len) j)
    (column (λ f. f.comment_len) j)
    (column (λ f. f.seconds.count) j)
    (column (λ f. f.limited) j)
    (column (λ f. f.confirm) j)

put_split : (i : ℕ) (e : Key) (ks : List Key) → i ≤ length ks → put_at i e ks ≡ take i ks ++ (e ∷ drop (suc i) ks)
unfolding put_at
put_split zero e [] h = refl
put_split (suc i) e [] h = absurd (not-suc-le-zero h)
put_split zero e (k ∷ ks) h = refl
put_split (suc i) e (k ∷ ks) h = ap (λ (l : List Key). k ∷ l) (put_split i e ks (le_of_suc-le-suc h))

pub put_laid : (i : ℕ) (e : Key) (ks : List Key) → i ≤ length ks → laid (put_at i e ks) ≡ laid (take i ks) ++ (bytes_for e ++ laid (drop (suc i) ks))
unfolding laid
put_laid i e ks h = ap laid (put_split i e ks h) ∙ laid-append (take i ks) (e ∷ drop (suc i) ks)

-- bytes written into the part that was made for them
written-resized : (x bytes : List ℕ) (at old end : ℕ) → at + length bytes ≤ length x
    → write (resized at old (length bytes) end x) at bytes ≡ padded (length x) (take at x ++ (bytes ++ drop (at + old) (take end x)))
unfolding write resized padded
written-resized x bytes at old end h =
    let new = length bytes in
    let front = take (at + new) x in
    let behind = drop (at + old) (take end x) in
    let long : length front ≡ at + new = length-take-le (at + new) x h in
    let zeros : List ℕ = replicate (length x - length (front ++ behind)) 0 in
    let whole = (front ++ behind) ++ zeros in
    let first : take at whole ≡ take at x = rw (append_assoc front behind zeros) (take-append-le at front (behind ++ zeros) (omega arith) ∙ take-take at (at + new) x (omega arith)) in
    let last : drop (at + new) whole ≡ behind ++ zeros = rw (append_assoc front behind zeros) (drop_at front (behind ++ zeros) (at + new) long) in
    let short : length (take at x) ≡ at = length-take-le at x (omega arith) in
    let count : length (front ++ behind) ≡ length (take at x ++ (bytes ++ behind)) = simp length-append (omega arith) in
    rw (first, last, count) (append_assoc (take at x) bytes (behind ++ _) ∙ ap (λ (l : List ℕ). take at x ++ l) (sym (append_assoc bytes behind _)) ∙ sym (append_assoc (take at x) (bytes ++ behind) _))

module _ (i : ℕ) (e : Key) (ks : List Key) (few : length ks ≤ entries_limit) (inside : i ≤ length ks) where
  put_long : length (laid (put_at i e ks)) ≡ before i ks + (length (bytes_for e) + length (laid (drop (suc i) ks)))
  put_long = rw (put_laid i e ks inside, length-append, length-append)

  -- what is taken once it stands there, and what the one whose place it takes took
  pub put_size : length (laid (put_at i e ks)) + size (get_or (map figures_for ks) i no_figures) ≡ length (laid ks) + length (bytes_for e)
  put_size =
      let all : length (laid ks) ≡ before (suc i) ks + length (laid (drop (suc i) ks)) = ap (λ (l : List Key). length (laid l)) (sym (take-append-drop (suc i) ks)) ∙ rw (laid-append, length-append) in
      let next = before-next ks i in
      let long = put_long in
      omega arith

  bytes-kept : take (before i ks) (store_of ks) ≡ laid (take i ks)
  unfolding padded
  bytes-kept = bytes-before i ks _

  pub store_put : length (laid ks) ≤ store_size → length (laid (put_at i e ks)) ≤ store_size
      → bytes_put (table_of ks).blob_lens (table_of ks).fields_lens (table_of ks).comment_lens i (bytes_for e) (store_of ks) ≡ store_of (put_at i e ks)
  unfolding bytes_put
  store_put room fits =
      let old = size (get_or (map figures_for ks) i no_figures) in
      let all : length (store_of ks) ≡ store_size = padded-size store_size (laid ks) room in
      let next : before i ks + old ≡ before (suc i) ks = sym (before-next ks i) in
      let long = put_long in
      let behind : drop (before (suc i) ks) (laid ks) ≡ laid (drop (suc i) ks) = rw (append-nil, append-nil) at (bytes-from (suc i) ks []) in
      rw (start-shown ks few i, size-shown ks few i, end_shown ks few)
      (written-resized (store_of ks) (bytes_for e) (before i ks) old (length (laid ks)) (omega arith)
      ∙ rw (all, padded-front store_size (laid ks), next, behind, bytes-kept, put_laid i e ks inside))
