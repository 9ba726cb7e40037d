-- Laws of the moves that make room for a key, and of the parts that fill it.
use Prim.Native.Nat.{ℕ, zero, suc, ◌+◌, ◌-◌, ◌≤◌}
use native.Mathlib.Omega.{arith}
use mathlib.Core.Path.{◌≡◌, refl, sym, ap, ◌∙◌}
use mathlib.Core.List.{List, [], ◌∷◌, ◌++◌, append_assoc}
use borrow.Rule.Slice.PartMut.{mid_of, put_mid}
use lib.ListN.{length, take, drop, replicate, length-drop, length-append, length-replicate}
use lib.Seq.{drop-drop, take-nil, take-paste, drop-paste, length-paste}
use Rattle.wire.specs.Write.{write}
use Rattle.wire.proofs.Writing.{write-behind}
use Rattle.table.specs.Bytes.{Zeros, padded}
use Rattle.table.specs.Changes.{resized}
use Rattle.table.proofs.ByteLaws.{zeros_padded}
use Rattle.gaps.proofs.ClosingLaws.{drop-beyond, write-paste, wiped_behind}

-- ## Bytes that were moved, up or down

drop-take : (f n : ℕ) (x : List ℕ) → drop f (take (f + n) x) ≡ take n (drop f x)
drop-take zero n x = let is : 0 + n ≡ n = omega arith in rw is
drop-take (suc f) n [] = rw (take-nil, take-nil)
drop-take (suc f) n (y ∷ x) = let is : suc f + n ≡ suc (f + n) = omega arith in rw is (drop-take f n x)

-- zeros from m on are so from k on
zeros_beyond : (x : List ℕ) (m k : ℕ) → m ≤ k → Zeros (drop m x) → Zeros (drop k x)
zeros_beyond x m k h z =
    let at : k ≡ m + (k - m) = omega arith in
    let all : drop k x ≡ replicate (length x - m - (k - m)) 0 = ap (λ (n : ℕ). drop n x) at ∙ sym (drop-drop (k - m) m x) ∙ ap (drop (k - m)) (z ∙ rw length-drop) ∙ zeros_drop (length x - m) (k - m) in
    all ∙ ap (λ (n : ℕ). replicate n 0) (sym (ap length all ∙ length-replicate {A = ℕ} (length x - m - (k - m)) 0))
  where
    zeros_drop : (n k : ℕ) → drop {A = ℕ} k (replicate n 0) ≡ replicate (n - k) 0
    zeros_drop n zero = let all : n - 0 ≡ n = omega arith in rw all
    zeros_drop zero (suc k) = let none : 0 - suc k ≡ 0 = omega arith in rw none
    zeros_drop (suc n) (suc k) = let less : suc n - suc k ≡ n - k = omega arith in rw less (zeros_drop n k)

module _ (x : List ℕ) (from to n : ℕ) (h : from + n ≤ length x) (k : to + n ≤ length x) where
  abbrev moved : List ℕ
  moved = write x to (take n (drop from x))

  long : n ≤ length (drop from x)
  long = rw length-drop (omega arith)

  pub moved_size : length moved ≡ length x
  moved_size = ap length (write-paste x (drop from x) to n long) ∙ length-paste x to (drop from x) n k long

  pub moved_front : take (to + n) moved ≡ take to x ++ take n (drop from x)
  moved_front = ap (take (to + n)) (write-paste x (drop from x) to n long) ∙ take-paste x to (drop from x) n (omega arith) long

  pub moved_behind : drop (to + n) moved ≡ drop (to + n) x
  moved_behind = ap (drop (to + n)) (write-paste x (drop from x) to n long) ∙ drop-paste x to (drop from x) n (omega arith) long

-- ## The part that is made room for

module _ (x : List ℕ) (at old new end : ℕ) (inside : at + old ≤ end) (within : end ≤ length x) (room : end + new ≤ length x + old) (zeros : Zeros (drop end x)) where
  -- how much lies behind the part
  abbrev n : ℕ
  n = end - (at + old)

  abbrev shifted : List ℕ
  shifted = write x (at + new) (take n (drop (at + old) x))

  front_is : take (at + new + n) shifted ≡ take (at + new) x ++ drop (at + old) (take end x)
  front_is =
      let all : at + old + n ≡ end = omega arith in
      moved_front x (at + old) (at + new) n (omega arith) (omega arith) ∙ ap (λ (r : List ℕ). take (at + new) x ++ r) (sym (drop-take (at + old) n x) ∙ ap (λ (e : ℕ). drop (at + old) (take e x)) all)

  pub grown : (y : List ℕ) → at + old ≤ at + new → y ≡ shifted → y ≡ resized at old new end x
  unfolding resized
  grown y h e =
      let size = moved_size x (at + old) (at + new) n (omega arith) (omega arith) in
      let behind = moved_behind x (at + old) (at + new) n (omega arith) (omega arith) in
      let rest : Zeros (drop (at + new + n) shifted) = rw behind (zeros_beyond x end (at + new + n) (omega arith) zeros) in
      e ∙ zeros_padded (length x) (at + new + n) shifted size (omega arith) rest ∙ ap (padded (length x)) front_is

  pub shrunk : (y p : List ℕ) → at + new ≤ at + old → y ≡ shifted → p ≡ replicate (length (mid_of (at + new + n) (end - (at + new + n)) y)) 0
      → put_mid (at + new + n) (end - (at + new + n)) y p ≡ resized at old new end x
  unfolding resized
  shrunk y p h e z =
      let size : length y ≡ length x = ap length e ∙ moved_size x (at + old) (at + new) n (omega arith) (omega arith) in
      let behind : drop (at + new + n) y ≡ drop (at + new + n) x = ap (drop (at + new + n)) e ∙ moved_behind x (at + old) (at + new) n (omega arith) (omega arith) in
      let rest : Zeros (drop end y) = rw (drop-beyond y x (at + new + n) end (omega arith) behind) zeros in
      wiped_behind (at + new + n) end y p (omega arith) (omega arith) rest z ∙ rw (size, e, front_is)

-- ## Blob, fields and comment

pub filled : (x : List ℕ) (at : ℕ) (blob fields comment y z w : List ℕ) → at + (length blob + (length fields + length comment)) ≤ length x
    → y ≡ write x at blob → z ≡ write y (at + length blob) fields → w ≡ write z (at + length blob + length fields) comment
    → w ≡ write x at (blob ++ (fields ++ comment))
filled x at blob fields comment y z w room e f g =
    let two : z ≡ write x at (blob ++ fields) = write-behind x at blob y (at + length blob) fields z e f refl (omega arith) in
    let size = length-append blob fields in
    write-behind x at (blob ++ fields) z (at + length blob + length fields) comment w two g (omega arith) (omega arith) ∙ ap (write x at) (append_assoc blob fields comment)
