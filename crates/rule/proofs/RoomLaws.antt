-- Laws of room: which entries stand beside a blob, what putting in and taking out take and give back, and where an entry goes.
use Prim.Native.Nat.{ℕ, zero, suc, ◌+◌, ◌≤◌}
use native.Mathlib.Omega.{arith}
use mathlib.Core.Path.{◌≡◌, refl, sym, ap, ◌∙◌}
use mathlib.Core.Bool.{true, false}
use mathlib.Core.List.{List, [], ◌∷◌}
use lib.ListN.{length}
use Rattle.std.proofs.Common.{None, Some}
use Rattle.wire.proofs.Reading.{same-rule}
use Rattle.rule.specs.Gateway.{Entry, seek, holds, lengths_of, all_lengths, others, has_room, position_for, place_for, remove_at, put_at}
use Rattle.rule.specs.Soundness.{EveryEntry, Apart, Distinct}
use Rattle.rule.proofs.Cases.{cond_cases, found-cases}
use Rattle.rule.proofs.PositionLaws.{some_not_none, Holds, every_imp, Fewer, ended, gone, kept, First, NonePasses, seek-first, seek-none, differs, first_passes, first_rest, at_not_nothing, same-position}

-- ## Bytes and positions

pub fewer_lengths : {es os : List Entry} → Fewer es os → all_lengths os ≤ all_lengths es
unfolding all_lengths
fewer_lengths ended = omega arith
fewer_lengths (gone e f) = let h = fewer_lengths f in omega arith
fewer_lengths (kept e f) = let h = fewer_lengths f in omega arith

pub remove_length : (i : ℕ) (es : List Entry) (e : Entry) → Holds es i e → suc (length (remove_at i es)) ≡ length es
unfolding remove_at
remove_length i [] e h = absurd (some_not_none (sym h))
remove_length zero (x ∷ es) e h = refl
remove_length (suc i) (x ∷ es) e h = ap suc (remove_length i es e h)

pub remove_lengths : (i : ℕ) (es : List Entry) (e : Entry) → Holds es i e → all_lengths (remove_at i es) + lengths_of e ≡ all_lengths es
unfolding remove_at all_lengths
remove_lengths i [] e h = absurd (some_not_none (sym h))
remove_lengths zero (x ∷ es) e h = let p : lengths_of x ≡ lengths_of e = cc in omega arith
remove_lengths (suc i) (x ∷ es) e h = let p = remove_lengths i es e h in omega arith

-- behind the end nothing is taken out
pub remove_behind : (es : List Entry) → remove_at (length es) es ≡ es
unfolding remove_at
remove_behind [] = refl
remove_behind (x ∷ es) = ap (λ l. x ∷ l) (remove_behind es)

-- what is put in is added to what would be left without its position
pub put_length : (i : ℕ) (e : Entry) (es : List Entry) → length (put_at i e es) ≡ suc (length (remove_at i es))
unfolding put_at remove_at
put_length i e [] = refl
put_length zero e (x ∷ es) = refl
put_length (suc i) e (x ∷ es) = ap suc (put_length i e es)

pub put_lengths : (i : ℕ) (e : Entry) (es : List Entry) → all_lengths (put_at i e es) ≡ all_lengths (remove_at i es) + lengths_of e
unfolding put_at remove_at all_lengths
put_lengths i e [] = omega arith
put_lengths zero e (x ∷ es) = omega arith
put_lengths (suc i) e (x ∷ es) = let p = put_lengths i e es in omega arith

-- ## The entries beside a blob

none_others : (blob : List ℕ) (es : List Entry) → NonePasses (holds blob) es → others blob es ≡ es
unfolding others
none_others blob [] f = refl
none_others blob (x ∷ es) f = rw f.0 (ap (λ l. x ∷ l) (none_others blob es f.1))

pub others-absent : (blob : List ℕ) (es : List Entry) → seek (holds blob) 0 es ≡ None → others blob es ≡ es
others-absent blob es e = none_others blob es (seek-none (holds blob) 0 es e)

-- none apart from the blob's entry has the blob
apart_none : (blob : List ℕ) (e : Entry) (es : List Entry) → holds blob e ≡ true → EveryEntry (Apart e) es → NonePasses (holds blob) es
apart_none blob e es t =
    every_imp (Apart e) (λ x. holds blob x ≡ false) (λ x a. differs x.blob blob (λ p. a.blobs ((same-rule e.blob blob).0 t ∙ sym p))) es

first_others : (blob : List ℕ) (es : List Entry) (i : ℕ) → Distinct es → First (holds blob) es i → others blob es ≡ remove_at i es
unfolding others remove_at
first_others blob [] i d f = absurd (let h = f.inside in omega arith)
first_others blob (x ∷ es) zero d f =
    let t = first_passes (holds blob) x es f in
    rw t (none_others blob es (apart_none blob x es t d.0))
first_others blob (x ∷ es) (suc i) d f =
    rw (f.earlier 0 x (omega arith) refl) (ap (λ l. x ∷ l) (first_others blob es i d.1 (first_rest (holds blob) x es i f)))

pub others-found : (blob : List ℕ) (es : List Entry) (i : ℕ) → Distinct es → seek (holds blob) 0 es ≡ Some i → others blob es ≡ remove_at i es
others-found blob es i d e = first_others blob es i d (seek-first (holds blob) es i e)

-- ## Where an entry goes

-- a held blob's position, or behind the last
pub data Placed (blob : List ℕ) (es : List Entry) (i : ℕ) : Type 0 where
  replacing : seek (holds blob) 0 es ≡ Some i → Placed blob es i
  anew : seek (holds blob) 0 es ≡ None → i ≡ length es → Placed blob es i

pub position_placed : (blob : List ℕ) (es : List Entry) → Placed blob es (position_for blob es)
unfolding position_for
position_placed blob es = found-cases (Placed blob es) (seek (holds blob) 0 es) (λ absent. anew absent refl) (λ i e. replacing e)

pub place_inside : {blob : List ℕ} {es : List Entry} {i : ℕ} → Placed blob es i → i ≤ length es
place_inside {blob} {es} {i} (replacing e) = let h = (seek-first (holds blob) es i e).inside in omega arith
place_inside (anew _ last) = omega arith

-- the entries beside the blob are those that its position leaves
pub placed_others : {blob : List ℕ} {es : List Entry} {i : ℕ} → Distinct es → Placed blob es i → others blob es ≡ remove_at i es
placed_others {blob} {es} {i} d (replacing e) = others-found blob es i d e
placed_others {blob} {es} {i} d (anew absent last) = others-absent blob es absent ∙ sym (rw last (remove_behind es))

-- an entry has a place exactly where there is room
pub record HasPlace (e : Entry) (es : List Entry) (i : ℕ) : Type 0 where
  pub room : has_room e es ≡ true
  pub placed : Placed e.blob es i

pub has_place : (e : Entry) (es : List Entry) (i : ℕ) → place_for e es ≡ Some i → HasPlace e es i
unfolding place_for
has_place e es i =
    cond_cases (λ f. f ≡ Some i → HasPlace e es i) (has_room e es)
    (λ room at. let p : position_for e.blob es ≡ i = same-position at in record { room = room; placed = rw p at (position_placed e.blob es) })
    (λ _ never. absurd (at_not_nothing (sym never)))

pub room_place : (e : Entry) (es : List Entry) → has_room e es ≡ true → place_for e es ≡ Some (position_for e.blob es)
unfolding place_for
room_place e es room = rw room

pub no_place : (e : Entry) (es : List Entry) → has_room e es ≡ false → place_for e es ≡ None
unfolding place_for
no_place e es full = rw full
