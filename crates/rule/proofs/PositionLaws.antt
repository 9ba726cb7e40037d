-- Laws of positions: every entry and distinct entries by position, fewer entries in their order, what putting in and taking out leave, where a search ends.
use Prim.Native.Nat.{ℕ, zero, suc, ◌+◌, ◌≤◌, ◌<◌}
use native.Mathlib.Omega.{arith}
use mathlib.Core.Path.{◌≡◌, refl, sym, ap, ◌∙◌}
use mathlib.Core.Logic.{◌≢◌, ◌⊎◌, inl, inr}
use mathlib.Core.Bool.{Bool, true, false}
use mathlib.Core.Option.{none, some}
use mathlib.Core.List.{List, [], ◌∷◌, ◌++◌}
use lib.ListN.{length, take, drop}
use lib.Dec.{eqb}
use borrow.Author.Tests.{eqb-true, eqb-false}
use Rattle.std.proofs.Common.{None, Some}
use Rattle.wire.specs.Read.{same}
use Rattle.wire.proofs.Reading.{same-rule}
use Rattle.rule.specs.declared.Millis.{Millis}
use Rattle.rule.specs.Gateway.{Entry, due_at, lasting, entry_at, seek, holds, entry_with, remove_at, put_at}
use Rattle.rule.specs.Soundness.{EveryEntry, Apart, Distinct}
use Rattle.rule.proofs.Cases.{cond_cases, true_not_false}

pub some_not_none : {A : Type 0} {a : A} → some a ≡ none → ⊥
some_not_none e = let z : ◌≡◌ {A = ℕ} 0 1 = cc in omega arith

pub same-entry : {e x : Entry} → some e ≡ some x → e ≡ x
same-entry p = cc

-- one position, or two
pub same-or_other : (i j : ℕ) → (i ≡ j) ⊎ (i ≢ j)
same-or_other i j = by_test (eqb i j) refl
  where
    by_test : (b : Bool) → eqb i j ≡ b → (i ≡ j) ⊎ (i ≢ j)
    by_test true t = inl (eqb-true i j t)
    by_test false t = inr (eqb-false i j t)

-- e stands at position i
abbrev pub Holds : List Entry → ℕ → Entry → Type 0
Holds es i e = entry_at es i ≡ some e

pub holds-within : (es : List Entry) (i : ℕ) (e : Entry) → Holds es i e → i < length es
holds-within [] i e h = absurd (some_not_none (sym h))
holds-within (x ∷ es) zero e h = omega arith
holds-within (x ∷ es) (suc i) e h = let r = holds-within es i e h in omega arith

-- every position before the end holds an entry, none behind it does
pub within-holds : (es : List Entry) (i : ℕ) → i < length es → (e : Entry) × Holds es i e
within-holds [] i h = absurd (omega arith)
within-holds (x ∷ es) zero h = (x, refl)
within-holds (x ∷ es) (suc i) h = within-holds es i (omega arith)

pub behind-none : (es : List Entry) (i : ℕ) → length es ≤ i → entry_at es i ≡ none
behind-none [] i h = refl
behind-none (x ∷ es) zero h = absurd (omega arith)
behind-none (x ∷ es) (suc i) h = behind-none es i (omega arith)

-- what stands before it, and behind it
pub holds_parts : (es : List Entry) (i : ℕ) (e : Entry) → Holds es i e → es ≡ take i es ++ (e ∷ drop (suc i) es)
holds_parts [] i e h = absurd (some_not_none (sym h))
holds_parts (x ∷ es) zero e h = ap (λ x. x ∷ es) (same-entry h)
holds_parts (x ∷ es) (suc i) e h = ap (λ l. x ∷ l) (holds_parts es i e h)

-- ## Every entry

module _ (P : Entry → Type 0) where
  pub every_at : (es : List Entry) → EveryEntry P es → (i : ℕ) (e : Entry) → Holds es i e → P e
  every_at [] all i e h = absurd (some_not_none (sym h))
  every_at (x ∷ es) all zero e h = rw (same-entry h) at all.0
  every_at (x ∷ es) all (suc i) e h = every_at es all.1 i e h

  pub every_of : (es : List Entry) → ((i : ℕ) (e : Entry) → Holds es i e → P e) → EveryEntry P es
  every_of [] f = tt
  every_of (x ∷ es) f = (f 0 x refl, every_of es (λ i. f (suc i)))

pub every_imp : (P Q : Entry → Type 0) → ((e : Entry) → P e → Q e) → (es : List Entry) → EveryEntry P es → EveryEntry Q es
every_imp P Q f [] all = tt
every_imp P Q f (x ∷ es) all = (f x all.0, every_imp P Q f es all.1)

-- ## Distinct entries

apart-sym : {e x : Entry} → Apart e x → Apart x e
apart-sym a = record { blobs = λ p. a.blobs (sym p); numbers = λ p. a.numbers (sym p) }

pub distinct-at : (es : List Entry) → Distinct es → (i j : ℕ) (e x : Entry) → i ≢ j → Holds es i e → Holds es j x → Apart e x
distinct-at [] d i j e x n h k = absurd (some_not_none (sym h))
distinct-at (y ∷ es) d zero zero e x n h k = absurd (n refl)
distinct-at (y ∷ es) d zero (suc j) e x n h k = rw (same-entry h) at (every_at (Apart y) es d.0 j x k)
distinct-at (y ∷ es) d (suc i) zero e x n h k = apart-sym (rw (same-entry k) at (every_at (Apart y) es d.0 i e h))
distinct-at (y ∷ es) d (suc i) (suc j) e x n h k = distinct-at es d.1 i j e x (λ p. n (ap suc p)) h k

distinct_of : (es : List Entry) → ((i j : ℕ) (e x : Entry) → i ≢ j → Holds es i e → Holds es j x → Apart e x) → Distinct es
distinct_of [] f = tt
distinct_of (y ∷ es) f = (
  every_of (Apart y) es (λ j x k. f 0 (suc j) y x (λ p. omega arith) refl k),
  distinct_of es (λ i j e x n. f (suc i) (suc j) e x (λ p. n (omega arith))),
)

-- an entry, and a blob, stands at one position
pub one_blob : (es : List Entry) → Distinct es → (i j : ℕ) (e x : Entry) → Holds es i e → Holds es j x → e.blob ≡ x.blob → i ≡ j
one_blob es d i j e x h k p = by_position (same-or_other i j)
  where
    by_position : (i ≡ j) ⊎ (i ≢ j) → i ≡ j
    by_position (inl here) = here
    by_position (inr other) = absurd ((distinct-at es d i j e x other h k).blobs p)

pub one_position : (es : List Entry) → Distinct es → (i j : ℕ) (e : Entry) → Holds es i e → Holds es j e → i ≡ j
one_position es d i j e h k = one_blob es d i j e e h k refl

-- ## Fewer entries, in the order in which they stood

pub data Fewer : List Entry → List Entry → Type 0 where
  ended : Fewer [] []
  gone : (e : Entry) {es os : List Entry} → Fewer es os → Fewer (e ∷ es) os
  kept : (e : Entry) {es os : List Entry} → Fewer es os → Fewer (e ∷ es) (e ∷ os)

pub fewer_every : (P : Entry → Type 0) {es os : List Entry} → Fewer es os → EveryEntry P es → EveryEntry P os
fewer_every P ended all = tt
fewer_every P (gone e f) all = fewer_every P f all.1
fewer_every P (kept e f) all = (all.0, fewer_every P f all.1)

pub fewer_distinct : {es os : List Entry} → Fewer es os → Distinct es → Distinct os
fewer_distinct ended d = tt
fewer_distinct (gone e f) d = fewer_distinct f d.1
fewer_distinct (kept e f) d = (fewer_every (Apart e) f d.0, fewer_distinct f d.1)

pub fewer_length : {es os : List Entry} → Fewer es os → length os ≤ length es
fewer_length ended = omega arith
fewer_length (gone e f) = let h = fewer_length f in omega arith
fewer_length (kept e f) = let h = fewer_length f in omega arith

pub fewer_held : {es os : List Entry} → Fewer es os → (k : ℕ) (x : Entry) → Holds os k x → (i : ℕ) × Holds es i x
fewer_held ended k x h = absurd (some_not_none (sym h))
fewer_held (gone e f) k x h = let (i, there) = fewer_held f k x h in (suc i, there)
fewer_held (kept e f) zero x h = (0, h)
fewer_held (kept e f) (suc k) x h = let (i, there) = fewer_held f k x h in (suc i, there)

-- two entries that stood in an order
pub record Stood (es : List Entry) (e x : Entry) : Type 0 where
  pub i : ℕ
  pub j : ℕ
  pub order : i ≤ j
  pub first : Holds es i e
  pub second : Holds es j x

stood_behind : (y : Entry) {es : List Entry} {e x : Entry} → Stood es e x → Stood (y ∷ es) e x
stood_behind y s = record { i = suc s.i; j = suc s.j; order = let o = s.order in omega arith; first = s.first; second = s.second }

pub fewer_stood : {es os : List Entry} → Fewer es os → (k l : ℕ) (e x : Entry) → k ≤ l → Holds os k e → Holds os l x → Stood es e x
fewer_stood ended k l e x o h m = absurd (some_not_none (sym h))
fewer_stood (gone y f) k l e x o h m = stood_behind y (fewer_stood f k l e x o h m)
fewer_stood (kept y f) zero zero e x o h m = record { i = 0; j = 0; order = omega arith; first = h; second = m }
fewer_stood (kept y f) zero (suc l) e x o h m = let (j, there) = fewer_held f l x m in record { i = 0; j = suc j; order = omega arith; first = h; second = there }
fewer_stood (kept y f) (suc k) zero e x o h m = absurd (omega arith)
fewer_stood (kept y f) (suc k) (suc l) e x o h m = stood_behind y (fewer_stood f k l e x (omega arith) h m)

pub fewer_none : (es : List Entry) → Fewer es []
fewer_none [] = ended
fewer_none (e ∷ es) = gone e (fewer_none es)

pub fewer_all : (es : List Entry) → Fewer es es
fewer_all [] = ended
fewer_all (e ∷ es) = kept e (fewer_all es)

-- ## Expiry

pub lasting-fewer : (clock : Millis) (es : List Entry) → Fewer es (lasting clock es)
unfolding lasting
lasting-fewer clock [] = ended
lasting-fewer clock (e ∷ es) = cond_cases (Fewer (e ∷ es)) (due_at clock e.reading e.lifetime) (λ _. gone e (lasting-fewer clock es)) (λ _. kept e (lasting-fewer clock es))

-- what is not due stays
pub lasting-keeps : (clock : Millis) (es : List Entry) (i : ℕ) (e : Entry) → Holds es i e → due_at clock e.reading e.lifetime ≡ false
    → (j : ℕ) × Holds (lasting clock es) j e
unfolding lasting
lasting-keeps clock [] i e h early = absurd (some_not_none (sym h))
lasting-keeps clock (x ∷ es) zero e h early =
    let same : x ≡ e = same-entry h in
    rw same (rw early (0, refl))
lasting-keeps clock (x ∷ es) (suc i) e h early =
    let (j, there) = lasting-keeps clock es i e h early in
    cond_cases (λ l. (j : ℕ) × Holds l j e) (due_at clock x.reading x.lifetime) (λ _. (j, there)) (λ _. (suc j, there))

-- ## An entry taken out

pub remove_fewer : (i : ℕ) (es : List Entry) → Fewer es (remove_at i es)
unfolding remove_at
remove_fewer i [] = ended
remove_fewer zero (e ∷ es) = gone e (fewer_all es)
remove_fewer (suc i) (e ∷ es) = kept e (remove_fewer i es)

-- what stood before it stands where it stood, what stood behind it one position earlier
pub remove_front : (i : ℕ) (es : List Entry) (j : ℕ) → j < i → entry_at (remove_at i es) j ≡ entry_at es j
unfolding remove_at
remove_front i [] j h = refl
remove_front zero (e ∷ es) j h = absurd (omega arith)
remove_front (suc i) (e ∷ es) zero h = refl
remove_front (suc i) (e ∷ es) (suc j) h = remove_front i es j (omega arith)

pub remove_back : (i : ℕ) (es : List Entry) (j : ℕ) → i ≤ j → entry_at (remove_at i es) j ≡ entry_at es (suc j)
unfolding remove_at
remove_back i [] j h = refl
remove_back zero (e ∷ es) j h = refl
remove_back (suc i) (e ∷ es) zero h = absurd (omega arith)
remove_back (suc i) (e ∷ es) (suc j) h = remove_back i es j (omega arith)

-- another entry stays
pub remove_elsewhere : (i : ℕ) (es : List Entry) (j : ℕ) (x : Entry) → j ≢ i → Holds es j x → (k : ℕ) × Holds (remove_at i es) k x
unfolding remove_at
remove_elsewhere i [] j x n h = absurd (some_not_none (sym h))
remove_elsewhere zero (e ∷ es) zero x n h = absurd (n refl)
remove_elsewhere zero (e ∷ es) (suc j) x n h = (j, h)
remove_elsewhere (suc i) (e ∷ es) zero x n h = (0, h)
remove_elsewhere (suc i) (e ∷ es) (suc j) x n h = let (k, there) = remove_elsewhere i es j x (λ p. n (ap suc p)) h in (suc k, there)

pub remove_parts : (i : ℕ) (es : List Entry) → remove_at i es ≡ take i es ++ drop (suc i) es
unfolding remove_at
remove_parts zero [] = refl
remove_parts (suc i) [] = refl
remove_parts zero (e ∷ es) = refl
remove_parts (suc i) (e ∷ es) = ap (λ l. e ∷ l) (remove_parts i es)

-- ## An entry put in

pub put_there : (i : ℕ) (e : Entry) (es : List Entry) → i ≤ length es → Holds (put_at i e es) i e
unfolding put_at
put_there zero e [] h = refl
put_there (suc i) e [] h = absurd (omega arith)
put_there zero e (x ∷ es) h = refl
put_there (suc i) e (x ∷ es) h = put_there i e es (omega arith)

pub put_elsewhere : (i : ℕ) (e : Entry) (es : List Entry) → i ≤ length es → (j : ℕ) → j ≢ i → entry_at (put_at i e es) j ≡ entry_at es j
unfolding put_at
put_elsewhere zero e [] h zero n = absurd (n refl)
put_elsewhere zero e [] h (suc j) n = refl
put_elsewhere (suc i) e [] h j n = absurd (omega arith)
put_elsewhere zero e (x ∷ es) h zero n = absurd (n refl)
put_elsewhere zero e (x ∷ es) h (suc j) n = refl
put_elsewhere (suc i) e (x ∷ es) h zero n = refl
put_elsewhere (suc i) e (x ∷ es) h (suc j) n = put_elsewhere i e es (omega arith) j (λ p. n (ap suc p))

-- what stands after it: what was put in, and elsewhere what stood
pub data AfterPut (es : List Entry) (i : ℕ) (e : Entry) (j : ℕ) (x : Entry) : Type 0 where
  put_in : j ≡ i → e ≡ x → AfterPut es i e j x
  stood : j ≢ i → Holds es j x → AfterPut es i e j x

module _ (es : List Entry) (i : ℕ) (e : Entry) (inside : i ≤ length es) where
  pub put_holds : (j : ℕ) (x : Entry) → Holds (put_at i e es) j x → AfterPut es i e j x
  put_holds j x h = by_position (same-or_other j i)
    where
      by_position : (j ≡ i) ⊎ (j ≢ i) → AfterPut es i e j x
      by_position (inl here) =
          let there : Holds (put_at i e es) i x = rw here at h in
          put_in here (same-entry (sym (put_there i e es inside) ∙ there))
      by_position (inr other) = stood other (sym (put_elsewhere i e es inside j other) ∙ h)

  pub put_every : (P : Entry → Type 0) → P e → EveryEntry P es → EveryEntry P (put_at i e es)
  put_every P new all = every_of P (put_at i e es) (λ j x h. old_or_new j x (put_holds j x h))
    where
      old_or_new : (j : ℕ) (x : Entry) → AfterPut es i e j x → P x
      old_or_new j x (put_in _ p) = rw p at new
      old_or_new j x (stood _ h) = every_at P es all j x h

  -- an entry apart from all but the one whose position it takes
  pub put_distinct : ((j : ℕ) (x : Entry) → j ≢ i → Holds es j x → Apart e x) → Distinct es → Distinct (put_at i e es)
  put_distinct new d = distinct_of (put_at i e es) (λ j k x y n h m. both j k x y n (put_holds j x h) (put_holds k y m))
    where
      both : (j k : ℕ) (x y : Entry) → j ≢ k → AfterPut es i e j x → AfterPut es i e k y → Apart x y
      both j k x y n (put_in a _) (put_in b _) = absurd (n (a ∙ sym b))
      both j k x y n (put_in _ p) (stood b m) = rw p at (new k y b m)
      both j k x y n (stood a h) (put_in _ q) = apart-sym (rw q at (new j x a h))
      both j k x y n (stood _ h) (stood _ m) = distinct-at es d j k x y n h m

pub put_parts : (i : ℕ) (e : Entry) (es : List Entry) → i ≤ length es → put_at i e es ≡ take i es ++ (e ∷ drop (suc i) es)
unfolding put_at
put_parts zero e [] h = refl
put_parts (suc i) e [] h = absurd (omega arith)
put_parts zero e (x ∷ es) h = refl
put_parts (suc i) e (x ∷ es) h = ap (λ l. x ∷ l) (put_parts i e es (omega arith))

-- ## Where a search ends

-- the entry at position i passes, and none before it
pub record First (test : Entry → Bool) (es : List Entry) (i : ℕ) : Type 0 where
  pub entry : Entry
  pub there : Holds es i entry
  pub passes : test entry ≡ true
  pub earlier : (j : ℕ) (x : Entry) → j < i → Holds es j x → test x ≡ false
  pub inside : i < length es

abbrev pub NonePasses : (Entry → Bool) → List Entry → Type 0
NonePasses test es = EveryEntry (λ x. test x ≡ false) es

pub at_not_nothing : {i : ℕ} → Some i ≡ None → ⊥
at_not_nothing e = let z : ◌≡◌ {A = ℕ} 0 1 = cc in omega arith

pub same-position : {i j : ℕ} → Some i ≡ Some j → i ≡ j
same-position e = cc

module _ (test : Entry → Bool) where
  first_here : (e : Entry) (es : List Entry) → test e ≡ true → First test (e ∷ es) 0
  first_here e es t = record { entry = e; there = refl; passes = t; earlier = λ j x h _. absurd (omega arith); inside = omega arith }

  first_behind : (e : Entry) (es : List Entry) (i : ℕ) → test e ≡ false → First test es i → First test (e ∷ es) (suc i)
  first_behind e es i t f = record { entry = f.entry; there = f.there; passes = f.passes; earlier = before; inside = let h = f.inside in omega arith }
    where
      before : (j : ℕ) (x : Entry) → j < suc i → Holds (e ∷ es) j x → test x ≡ false
      before zero x h m = rw (same-entry m) at t
      before (suc j) x h m = f.earlier j x (omega arith) m

  pub first_rest : (e : Entry) (es : List Entry) (i : ℕ) → First test (e ∷ es) (suc i) → First test es i
  first_rest e es i f = record {
    entry = f.entry;
    there = f.there;
    passes = f.passes;
    earlier = λ j x h m. f.earlier (suc j) x (omega arith) m;
    inside = let h = f.inside in omega arith;
  }

  pub first_passes : (e : Entry) (es : List Entry) → First test (e ∷ es) 0 → test e ≡ true
  first_passes e es f = rw (same-entry (sym f.there)) at f.passes

  seek-from : (k : ℕ) (es : List Entry) (i : ℕ) → seek test k es ≡ Some i → (n : ℕ) × (i ≡ k + n) × First test es n
  seek-from k [] i = λ e. absurd (at_not_nothing (sym e))
  seek-from k (x ∷ es) i =
      cond_cases (λ f. f ≡ Some i → (n : ℕ) × (i ≡ k + n) × First test (x ∷ es) n) (test x)
      (λ t e. (0, let h = same-position e in omega arith, first_here x es t))
      (λ t e. let (n, h, f) = seek-from (suc k) es i e in (suc n, omega arith, first_behind x es n t f))

  pub seek-first : (es : List Entry) (i : ℕ) → seek test 0 es ≡ Some i → First test es i
  seek-first es i e = let (n, h, f) = seek-from 0 es i e in let m : n ≡ i = omega arith in rw m at f

  first_from_lem : (k : ℕ) (es : List Entry) (i : ℕ) → First test es i → seek test k es ≡ Some (k + i)
  first_from_lem k [] i f = absurd (let h = f.inside in omega arith)
  first_from_lem k (x ∷ es) zero f = let k0 : k ≡ k + 0 = omega arith in rw (first_passes x es f) (ap Some k0)
  first_from_lem k (x ∷ es) (suc i) f =
      let there : suc k + i ≡ k + suc i = omega arith in
      rw (f.earlier 0 x (omega arith) refl) (first_from_lem (suc k) es i (first_rest x es i f) ∙ ap Some there)

  first_seek : (es : List Entry) (i : ℕ) → First test es i → seek test 0 es ≡ Some i
  first_seek es i f = let from0 : 0 + i ≡ i = omega arith in first_from_lem 0 es i f ∙ ap Some from0

  pub seek-none : (k : ℕ) (es : List Entry) → seek test k es ≡ None → NonePasses test es
  seek-none k [] = λ e. tt
  seek-none k (x ∷ es) =
      cond_cases (λ f. f ≡ None → NonePasses test (x ∷ es)) (test x)
      (λ t never. absurd (at_not_nothing never))
      (λ t e. (t, seek-none (suc k) es e))

  none_seek : (k : ℕ) (es : List Entry) → NonePasses test es → seek test k es ≡ None
  none_seek k [] f = refl
  none_seek k (x ∷ es) f = rw f.0 (none_seek (suc k) es f.1)

-- ## The position of a blob

-- position i holds the blob, in this entry
pub record FoundAt (blob : List ℕ) (es : List Entry) (i : ℕ) : Type 0 where
  pub entry : Entry
  pub there : Holds es i entry
  pub is : entry.blob ≡ blob

pub not_same : (a b : List ℕ) → same a b ≡ false → a ≢ b
not_same a b f p = true_not_false (sym ((same-rule a b).1 p) ∙ f)

pub differs : (a b : List ℕ) → a ≢ b → same a b ≡ false
differs a b n = by_test (same a b) refl
  where
    by_test : (t : Bool) → same a b ≡ t → t ≡ false
    by_test true e = absurd (n ((same-rule a b).0 e))
    by_test false e = refl

pub found_at : (blob : List ℕ) (es : List Entry) (i : ℕ) → seek (holds blob) 0 es ≡ Some i → FoundAt blob es i
found_at blob es i e =
    let f = seek-first (holds blob) es i e in
    record { entry = f.entry; there = f.there; is = (same-rule f.entry.blob blob).0 f.passes }

-- the entry that has the blob stands where the search ends
first_entry : (blob : List ℕ) (es : List Entry) (i : ℕ) → First (holds blob) es i → entry_with blob es ≡ entry_at es i
unfolding entry_with
first_entry blob [] i f = absurd (let h = f.inside in omega arith)
first_entry blob (x ∷ es) zero f = rw (first_passes (holds blob) x es f)
first_entry blob (x ∷ es) (suc i) f = rw (f.earlier 0 x (omega arith) refl) (first_entry blob es i (first_rest (holds blob) x es i f))

pub entry_found : (blob : List ℕ) (es : List Entry) (i : ℕ) → seek (holds blob) 0 es ≡ Some i → entry_with blob es ≡ entry_at es i
entry_found blob es i e = first_entry blob es i (seek-first (holds blob) es i e)

none_entry : (blob : List ℕ) (es : List Entry) → NonePasses (holds blob) es → entry_with blob es ≡ none
unfolding entry_with
none_entry blob [] f = refl
none_entry blob (x ∷ es) f = rw f.0 (none_entry blob es f.1)

pub entry_absent : (blob : List ℕ) (es : List Entry) → seek (holds blob) 0 es ≡ None → entry_with blob es ≡ none
entry_absent blob es e = none_entry blob es (seek-none (holds blob) 0 es e)

pub absent_differs : (blob : List ℕ) (es : List Entry) → seek (holds blob) 0 es ≡ None → EveryEntry (λ x. x.blob ≢ blob) es
absent_differs blob es e =
    every_imp (λ x. holds blob x ≡ false) (λ x. x.blob ≢ blob) (λ x. not_same x.blob blob) es (seek-none (holds blob) 0 es e)

pub differs_absent : (blob : List ℕ) (es : List Entry) → EveryEntry (λ x. x.blob ≢ blob) es → seek (holds blob) 0 es ≡ None
differs_absent blob es all =
    none_seek (holds blob) 0 es (every_imp (λ x. x.blob ≢ blob) (λ x. holds blob x ≡ false) (λ x. differs x.blob blob) es all)

-- among distinct entries the search finds the one entry that has the blob
pub held_found : (es : List Entry) → Distinct es → (i : ℕ) (e : Entry) → Holds es i e → seek (holds e.blob) 0 es ≡ Some i
held_found es d i e h = first_seek (holds e.blob) es i record {
  entry = e;
  there = h;
  passes = (same-rule e.blob e.blob).1 refl;
  earlier = λ j x k m. differs x.blob e.blob (distinct-at es d j i x e (λ p. omega arith) m h).blobs;
  inside = holds-within es i e h;
}
