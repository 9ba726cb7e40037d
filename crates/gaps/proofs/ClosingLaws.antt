-- Laws of the loops that close gaps: bytes that move, one turn of each loop, the zeroed end.
use Prim.Native.Nat.{ℕ, suc, ◌+◌, ◌-◌, ◌≤◌, ◌<◌}
use native.Mathlib.Omega.{arith}
use Rattle.std.proofs.lemmas.List.{length-replicate}
use Rattle.std.proofs.lemmas.List.Edits.{fill_from_more, paste_all}
use native.Mathlib.Numerals.{add-one}
use mathlib.Core.Path.{◌≡◌, refl, sym, ap, subst, ◌∙◌}
use mathlib.Core.Bool.{Bool, true, false, cond}
use mathlib.Core.List.{List, [], ◌∷◌, ◌++◌, append-nil, append_assoc}
use borrow.Rule.Slice.PartMut.{mid_of, put_mid, mid_len, Post-is}
use lib.ListN.{length, take, drop, get_or, set, replicate, length-drop, drop_of_length-le, take-append-drop, replicate-append-replicate}
use lib.Seq.{length-take-le, drop-cons, drop-drop, drop-length, take-add, take-set-le, drop-set-lt, take-suc-set, append_snoc, paste, take-paste, drop-paste, length-paste}
use Rattle.wire.specs.Limits.{entries_limit}
use Rattle.wire.specs.Write.{write}
use Rattle.table.specs.Bytes.{Zeros, padded}
use Rattle.table.specs.Entries.{start_in}
use Rattle.rule.specs.declared.Millis.{Millis}
use Rattle.rule.specs.Gateway.{due_at}
use Rattle.table.specs.Meaning.{is_set, flag_of, limited_lifetime}
use Rattle.table.specs.Changes.{unmarked, unmarked_parts, sizes_in, closed, closed_parts, due_marks}
use Rattle.table.proofs.EntryLaws.{up_length, up_at, start-step, start_none, start-mono}

-- ## Bytes that move

-- lists that are the same from m on are so from k on
pub drop-beyond : (y x : List ℕ) (m k : ℕ) → m ≤ k → drop m y ≡ drop m x → drop k y ≡ drop k x
drop-beyond y x m k h e = let at : k ≡ m + (k - m) = omega arith in rw at (sym (drop-drop (k - m) m y) ∙ ap (drop (k - m)) e ∙ drop-drop (k - m) m x)

-- as many bytes as there are, written elsewhere
pub write-paste : (x s : List ℕ) (to n : ℕ) → n ≤ length s → write x to (take n s) ≡ paste x to s n
unfolding write
write-paste x s to n l = rw (length-take-le n s l)

-- bytes that lie there already
pub stays : (x : List ℕ) (from to n : ℕ) → from ≤ to → to ≤ from → from + n ≤ length x → x ≡ write x to (take n (drop from x))
stays x from to n h k l =
    let at : to ≡ from = omega arith in
    let long : n ≤ length (drop from x) = rw length-drop (omega arith) in
    rw at (sym (write-paste x (drop from x) from n long ∙ rw (← take-add) (take-append-drop (from + n) x)))

-- ## Zeros behind

-- the part from `to` to `end` is zeroed, and behind it all was zero
pub wiped_behind : (to end : ℕ) (x p : List ℕ) → to ≤ end → end ≤ length x → Zeros (drop end x) → p ≡ replicate (length (mid_of to (end - to) x)) 0
    → put_mid to (end - to) x p ≡ padded (length x) (take to x)
unfolding padded
wiped_behind to end x p h l z e =
    let size : length (mid_of to (end - to) x) ≡ end - to = mid_len to end x l in
    let rest : drop end x ≡ replicate (length x - end) 0 = z ∙ rw length-drop in
    let front : length (take to x) ≡ to = length-take-le to x (omega arith) in
    let all : end - to + (length x - end) ≡ length x - to = omega arith in
    rw (Post-is to end x h, e, size, rest, front) (ap (λ (r : List ℕ). take to x ++ r) (replicate-append-replicate (end - to) (length x - end) 0 ∙ ap (λ (n : ℕ). replicate n 0) all))

pub wiped_end : (to : ℕ) (x p : List ℕ) → to ≤ length x → p ≡ replicate (length (mid_of to (length x - to) x)) 0
    → put_mid to (length x - to) x p ≡ padded (length x) (take to x)
wiped_end to x p h e = wiped_behind to (length x) x p h (omega arith) (rw drop-length) e

-- ## A column

pub filled-more : {A : Type 0} (d : List A) (v : A) (i : ℕ) → i < length d → set (paste d 0 (replicate i v) i) i v ≡ paste d 0 (replicate (i + 1) v) (i + 1)
filled-more d v i h =
    let at : 0 + i ≡ i = omega arith in
    subst (λ (k : ℕ). set (paste d 0 (replicate i v) i) k v ≡ paste d 0 (replicate (i + 1) v) (i + 1)) at (fill_from_more d 0 i v (omega arith))

pub filled-all : {A : Type 0} (d : List A) (v : A) (i : ℕ) → i ≡ length d → paste d 0 (replicate i v) i ≡ replicate (length d) v
filled-all d v i e =
    let end : length d ≤ 0 + i = omega arith in
    paste_all d 0 (replicate i v) i (sym (length-replicate i v)) ∙ rw (drop_of_length-le d end, append-nil, e) refl

-- what stays of the part that was passed, and of the part that is left
abbrev pub closing : {A : Type 0} → List ℕ → ℕ → ℕ → List A → List A
closing marks i to x = take to x ++ unmarked (drop i marks) (drop i x)

module _ {A : Type 0} (marks : List ℕ) (x : List A) (i to : ℕ) where
  by_mark : (v : A) (b : Bool) (rest : List A) → to < length x → take (to + cond b 0 1) (set x to v) ++ rest ≡ take to x ++ cond b rest (v ∷ rest)
  by_mark v true rest h = let is : to + 0 ≡ to = omega arith in rw (is, take-set-le to x to v (omega arith))
  by_mark v false rest h = rw (add-one to, take-suc-set x to v h) (append_snoc (take to x) v rest)

  -- v is what stands at place i
  pub close_step : (v d : A) → v ≡ get_or x i d → to ≤ i → i < length x → i < length marks
      → closing marks (i + 1) (to + cond (is_set (get_or marks i 0)) 0 1) (set x to v) ≡ closing marks i to x
  unfolding unmarked
  close_step v d is h l m =
      rw (add-one i, drop-set-lt (suc i) x to v (omega arith), drop-cons marks i 0 m, drop-cons x i d l, ← is) (by_mark v (is_set (get_or marks i 0)) _ (omega arith))

pub step-inside : (mark n : ℕ) → n ≡ cond (is_set mark) 0 1 → n ≤ 1
step-inside mark n e = by_mark (is_set mark) e
  where
    by_mark : (b : Bool) → n ≡ cond b 0 1 → n ≤ 1
    by_mark true e = omega arith
    by_mark false e = omega arith

-- .. which is all once the marks are passed, and the part from `to` on is filled
pub close_end : {A : Type 0} (none : A) (marks : List ℕ) (c x p : List A) (i to : ℕ) → closing marks i to x ≡ unmarked marks c → length x ≡ length c → to ≤ length x → length marks ≤ i
    → p ≡ replicate (length (mid_of to (length x - to) x)) none → put_mid to (length x - to) x p ≡ closed none marks c
unfolding unmarked closed
close_end none marks c x p i to inv l h m e =
    let front : take to x ≡ unmarked marks c = sym (append-nil (take to x)) ∙ (rw (drop_of_length-le marks m) at inv) in
    let size : length (mid_of to (length x - to) x) ≡ length x - to = mid_len to (length x) x (omega arith) in
    let kept : length (take to x) ≡ to = length-take-le to x h in
    let stays : length (unmarked marks c) ≡ to = ap length (sym front) ∙ kept in
    rw (Post-is to (length x) x h, e, size, drop-length, append-nil, stays, ← l, front) refl

-- ## The store

-- a part that stays lies at `to` now, and what lies behind it is as it was
pub record PartClosed (mark from to n : ℕ) (x : List ℕ) (after : ℕ) (y : List ℕ) : Type 0 where
  pub size : length y ≡ length x
  pub behind : drop (from + n) y ≡ drop (from + n) x
  pub inside : after ≤ from + n
  pub front : take after y ≡ take to x ++ cond (is_set mark) [] (take n (drop from x))

part_moved : (from to n : ℕ) (x : List ℕ) → to ≤ from → from + n ≤ length x
    → (b : Bool) → let y = cond b x (write x to (take n (drop from x))) in let after = cond b to (to + n) in
    (length y ≡ length x) × (drop (from + n) y ≡ drop (from + n) x) × (after ≤ from + n) × (take after y ≡ take to x ++ cond b [] (take n (drop from x)))
part_moved from to n x h l true = (refl, refl, omega arith, sym (append-nil (take to x)))
part_moved from to n x h l false =
    let s = drop from x in
    let long : n ≤ length s = rw length-drop (omega arith) in
    let is = write-paste x s to n long in (
      ap length is ∙ length-paste x to s n (omega arith) long,
      rw is (drop-beyond (paste x to s n) x (to + n) (from + n) (omega arith) (drop-paste x to s n (omega arith) long)),
      omega arith,
      rw is (take-paste x to s n (omega arith) long),
    )

pub part-closed : (mark from to n : ℕ) (x : List ℕ) (after : ℕ) (y : List ℕ) → to ≤ from → from + n ≤ length x
    → after ≡ cond (is_set mark) to (to + n) → y ≡ cond (is_set mark) x (write x to (take n (drop from x))) → PartClosed mark from to n x after y
part-closed mark from to n x after y h l e f =
    let all = part_moved from to n x h l (is_set mark) in
    rw (e, f) (record { size = all.0; behind = all.1; inside = all.2; front = all.3 })

-- the size of entry i, by the columns of lengths
abbrev pub size_at : List ℕ → List ℕ → List ℕ → ℕ → ℕ
size_at b f c i = get_or b i 0 + (get_or f i 0 + get_or c i 0)

pub start-next : (b f c : List ℕ) (i : ℕ) → start_in b f c (i + 1) ≡ start_in b f c i + size_at b f c i
start-next b f c i = rw add-one (start-step b f c i)

-- an entry's bytes end before those of all do
pub start-within : (b f c : List ℕ) (i : ℕ) → i < entries_limit → start_in b f c i + size_at b f c i ≤ start_in b f c entries_limit
start-within b f c i h =
    let r = start-step b f c i in
    let s = start-mono b f c (suc i) entries_limit h in
    omega arith

sizes_length : (b f c : List ℕ) → length (sizes_in b f c) ≡ entries_limit
unfolding sizes_in
sizes_length b f c = up_length (size_at b f c) entries_limit

sizes_at : (b f c : List ℕ) (i : ℕ) → i < entries_limit → get_or (sizes_in b f c) i 0 ≡ size_at b f c i
unfolding sizes_in
sizes_at b f c i h = up_at (size_at b f c) entries_limit i 0 h

-- before entry i of store x was passed it was x₀: what stays of the part that was passed, and of the part that is left, is what stays of all
pub record Closing (b f c marks x₀ x : List ℕ) (i from to : ℕ) : Type 0 where
  pub parts : take to x ++ unmarked_parts (drop i marks) (drop i (sizes_in b f c)) (drop from x) ≡ unmarked_parts marks (sizes_in b f c) x₀
  pub size : length x ≡ length x₀
  pub behind : drop from x ≡ drop from x₀
  pub begins : from ≡ start_in b f c i
  pub below : to ≤ from
  pub inside : i ≤ entries_limit

pub closing-begun : (b f c marks x : List ℕ) → Closing b f c marks x x 0 0 0
closing-begun b f c marks x = record { parts = refl; size = refl; behind = refl; begins = sym (start_none b f c); below = omega arith; inside = omega arith }

pub closing-within : (b f c marks x₀ x : List ℕ) (i from to : ℕ) → Closing b f c marks x₀ x i from to → start_in b f c entries_limit ≤ length x₀ → from ≤ length x
closing-within b f c marks x₀ x i from to inv room =
    let s = start-mono b f c i entries_limit inv.inside in
    let l = inv.size in
    let g = inv.begins in
    omega arith

module _ (b f c marks x₀ x : List ℕ) (i from to : ℕ) (inv : Closing b f c marks x₀ x i from to) (long : length marks ≡ entries_limit) (more : i < entries_limit) where
  part_left : unmarked_parts (drop i marks) (drop i (sizes_in b f c)) (drop from x)
      ≡ cond (is_set (get_or marks i 0)) [] (take (size_at b f c i) (drop from x)) ++ unmarked_parts (drop (i + 1) marks) (drop (i + 1) (sizes_in b f c)) (drop (from + size_at b f c i) x)
  unfolding unmarked_parts
  part_left =
      let sized = sizes_length b f c in
      rw (add-one i, drop-cons marks i 0 (omega arith), drop-cons (sizes_in b f c) i 0 (omega arith), sizes_at b f c i more, drop-drop (size_at b f c i) from x) (by_mark (is_set (get_or marks i 0)) _)
    where
      by_mark : (m : Bool) (rest : List ℕ) → cond m rest (take (size_at b f c i) (drop from x) ++ rest) ≡ cond m [] (take (size_at b f c i) (drop from x)) ++ rest
      by_mark true rest = refl
      by_mark false rest = refl

  pub closing-step : (after : ℕ) (y : List ℕ) → PartClosed (get_or marks i 0) from to (size_at b f c i) x after y → Closing b f c marks x₀ y (i + 1) (from + size_at b f c i) after
  closing-step after y p =
      let n = size_at b f c i in
      let rest = unmarked_parts (drop (i + 1) marks) (drop (i + 1) (sizes_in b f c)) (drop (from + n) x) in
      record {
        parts = rw (p.behind, p.front, append_assoc (take to x)) (ap (λ (r : List ℕ). take to x ++ r) (sym part_left) ∙ inv.parts);
        size = p.size ∙ inv.size;
        behind = p.behind ∙ drop-beyond x x₀ from (from + n) (omega arith) inv.behind;
        begins = let e = start-next b f c i in let g = inv.begins in omega arith;
        below = p.inside;
        inside = omega arith;
      }

pub closing_end : (b f c marks x₀ x p : List ℕ) (i from to : ℕ) → Closing b f c marks x₀ x i from to → entries_limit ≤ i → length marks ≡ entries_limit
    → start_in b f c entries_limit ≤ length x₀ → Zeros (drop (start_in b f c entries_limit) x₀) → p ≡ replicate (length (mid_of to (from - to) x)) 0
    → put_mid to (from - to) x p ≡ closed_parts marks (sizes_in b f c) x₀
unfolding unmarked_parts closed_parts
closing_end b f c marks x₀ x p i from to inv more long room zeros e =
    let last : i ≡ entries_limit = let h = inv.inside in omega arith in
    let at-end : from ≡ start_in b f c entries_limit = inv.begins ∙ ap (start_in b f c) last in
    let all : from ≤ length x = let l = inv.size in omega arith in
    let none : drop i marks ≡ [] = drop_of_length-le marks {i = i} (omega arith) in
    let front : take to x ≡ unmarked_parts marks (sizes_in b f c) x₀ = sym (append-nil (take to x)) ∙ (rw none at inv.parts) in
    wiped_behind to from x p inv.below all (rw (inv.behind, at-end) zeros) e ∙ rw (inv.size, front)

-- ## What is due

-- the mark of entry i
abbrev pub due_mark : Millis → List ℕ → List ℕ → List ℕ → ℕ → ℕ
due_mark clock readings seconds limited i = flag_of (due_at clock (record { count = get_or readings i 0 }) (limited_lifetime (get_or limited i 0) (record { count = get_or seconds i 0 })))

pub due_length : (clock : Millis) (readings seconds limited : List ℕ) → length (due_marks clock readings seconds limited) ≡ entries_limit
unfolding due_marks
due_length clock readings seconds limited = up_length (due_mark clock readings seconds limited) entries_limit

pub due_at_lem : (clock : Millis) (readings seconds limited : List ℕ) (i : ℕ) → i < entries_limit → get_or (due_marks clock readings seconds limited) i 0 ≡ due_mark clock readings seconds limited i
unfolding due_marks
due_at_lem clock readings seconds limited i h = up_at (due_mark clock readings seconds limited) entries_limit i 0 h
