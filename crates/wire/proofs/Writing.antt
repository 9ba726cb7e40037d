-- Laws of writing a range: byte by byte, one range behind another, and what stays.
use Prim.Native.Nat.{ℕ, suc, ◌+◌, ◌-◌, ◌≤◌, ◌<◌}
use mathlib.Core.Path.{◌≡◌, refl, sym, ap, ◌∙◌}
use mathlib.Core.Logic.{◌⊎◌, ⊎_elim}
use mathlib.Core.List.{List, [], ◌∷◌, ◌++◌}
use native.Mathlib.Nat.{add-zero, add-suc, suc-add}
use native.Mathlib.Numerals.{add-one}
use native.Mathlib.Omega.{arith}
use lib.ListN.{length, get_or, take, drop, set, length-append, length-take, length-drop, take-append-drop, get_or-append}
use lib.Seq.{sets, sets-eq, length-sets, paste, paste-suc, paste-zero, take-length, take_all, length-take-le, take-take, take-add, drop-drop, take-append-le, take-append-add, drop-append-add, get_or-append-add, get_or-take, get_or-drop}
use borrow.Rule.Slice.PartMut.{put_mid}
use Rattle.std.proofs.lemmas.Slice.{put_mid-paste}
use Rattle.wire.specs.Write.{write}

module _ (l : List ℕ) (at : ℕ) (v : List ℕ) (h : at + length v ≤ length l) where
  -- a range is written byte by byte
  write-sets : sets l at v ≡ write l at v
  unfolding write
  write-sets = sets-eq v l at h

  pub length-write : length (write l at v) ≡ length l
  length-write = ap length (sym write-sets) ∙ length-sets l at v

sets_append : (v w l : List ℕ) (i : ℕ) → sets l i (v ++ w) ≡ sets (sets l i v) (i + length v) w
sets_append [] w l i = rw add-zero
sets_append (a ∷ v) w l i = sets_append v w (set l i a) (suc i) ∙ rw (add-suc, suc-add)

-- one range behind another
write-write : (l : List ℕ) (at : ℕ) (v : List ℕ) (n : ℕ) (w : List ℕ) → n ≡ at + length v → at + length v + length w ≤ length l
    → write (write l at v) n w ≡ write l at (v ++ w)
write-write l at v n w e h =
    let k : at + length v ≤ length l = omega arith in
    let m : length (sets l at v) ≡ length l = length-sets l at v in
    rw (e, ← write-sets l at v k, ← write-sets (sets l at v) (at + length v) w (omega arith), ← write-sets l at (v ++ w) (simp length-append (omega arith)))
    (sym (sets_append v w l at))

-- a store
pub write-set : (l : List ℕ) (at a : ℕ) → at < length l → set l at a ≡ write l at (a ∷ [])
write-set l at a h = write-sets l at (a ∷ []) (omega arith)

-- a loop that copies v byte by byte: the first i are there
unfoldable pub copied : List ℕ → ℕ → List ℕ → ℕ → List ℕ
copied l at v i = paste l at v i

module _ (l : List ℕ) (at : ℕ) (v : List ℕ) where
  pub copied_none : l ≡ copied l at v 0
  unfolding copied
  copied_none = paste-zero l at v

  pub copied_more : (i : ℕ) (o : List ℕ) → o ≡ copied l at v i → at + length v ≤ length l → i < length v → set o (at + i) (get_or v i 0) ≡ copied l at v (i + 1)
  unfolding copied
  copied_more i o e h k = rw e (paste-suc l at v i 0 (omega arith) k ∙ rw (add-one))

  pub copied_all : (i : ℕ) (o : List ℕ) → o ≡ copied l at v i → i ≡ length v → o ≡ write l at v
  unfolding write copied
  copied_all i o e q = rw (e, q, take-length v)

-- what a second writer leaves behind the first
pub write-behind : (l : List ℕ) (at : ℕ) (v m : List ℕ) (n : ℕ) (w o : List ℕ) → m ≡ write l at v → o ≡ write m n w
    → n ≡ at + length v → at + length v + length w ≤ length l → o ≡ write l at (v ++ w)
write-behind l at v m n w o e f q h = rw (f, e) (write-write l at v n w q h)

-- each byte, inside the range and outside
module _ (l : List ℕ) (at : ℕ) (v : List ℕ) (h : at + length v ≤ length l) where
  front : length (take at l) ≡ at
  front = simp length-take (omega arith)

  pub write-in : (i : ℕ) → i < length v → get_or (write l at v) (at + i) 0 ≡ get_or v i 0
  unfolding write
  write-in i k =
      let n : at + i < length (take at l ++ v) = simp length-append (omega (arith, front)) in
      get_or-append (take at l ++ v) (drop (at + length v) l) 0 (at + i) n
      ∙ ap (λ (j : ℕ). get_or (take at l ++ v) (j + i) 0) (sym front)
      ∙ get_or-append-add (take at l) v i 0

  pub write-out : (i : ℕ) → (i < at) ⊎ (at + length v ≤ i) → get_or (write l at v) i 0 ≡ get_or l i 0
  unfolding write
  write-out i =
      ⊎_elim
      (λ (k : i < at).
      let n : i < length (take at l ++ v) = simp length-append (omega (arith, front)) in
      get_or-append (take at l ++ v) (drop (at + length v) l) 0 i n ∙ get_or-append (take at l) v 0 i (omega (arith, front)) ∙ get_or-take at l i 0 k)
      (λ (k : at + length v ≤ i).
      let n : length (take at l ++ v) ≡ at + length v = simp length-append (omega (arith, front)) in
      let e : length (take at l ++ v) + (i - (at + length v)) ≡ i = omega arith in
      ap (λ (j : ℕ). get_or (take at l ++ v ++ drop (at + length v) l) j 0) (sym e)
      ∙ get_or-append-add (take at l ++ v) (drop (at + length v) l) (i - (at + length v)) 0
      ∙ get_or-drop (at + length v) l (i - (at + length v)) 0
      ∙ ap (λ (j : ℕ). get_or l j 0) (sym (ap (λ (j : ℕ). j + (i - (at + length v))) n) ∙ e))

-- ## Windows that overlap

module _ (l : List ℕ) (at : ℕ) (t : List ℕ) (room : at + length t ≤ length l) where
  before : length (take at l) ≡ at
  before = length-take-le at l (omega arith)

  written-size : length (take at l ++ t) ≡ at + length t
  written-size = let a = before in simp length-append (omega arith)

  -- what a writer leaves up to a place inside, and behind its bytes
  write-front : (k : ℕ) → k ≤ length t → take (at + k) (write l at t) ≡ take at l ++ take k t
  unfolding write
  write-front k h =
      let a = before in
      let n = written-size in
      let place : at + k ≡ length (take at l) + k = omega arith in
      take-append-le (at + k) (take at l ++ t) (drop (at + length t) l) (omega arith) ∙ ap (λ (i : ℕ). take i (take at l ++ t)) place ∙ take-append-add (take at l) t k

  write-back : (n : ℕ) → length t ≤ n → drop (at + n) (write l at t) ≡ drop (at + n) l
  unfolding write
  write-back n h =
      let size = written-size in
      let place : at + n ≡ length (take at l ++ t) + (n - length t) = omega arith in
      let all : at + length t + (n - length t) ≡ at + n = omega arith in
      ap (λ (i : ℕ). drop i ((take at l ++ t) ++ drop (at + length t) l)) place ∙ drop-append-add (take at l ++ t) (drop (at + length t) l) (n - length t) ∙ drop-drop (n - length t) (at + length t) l ∙ ap (λ (i : ℕ). drop i l) all

-- a writer looks at what stands before and behind its bytes alone
write-over : (m o : List ℕ) (at : ℕ) (v : List ℕ) → take at m ≡ take at o → drop (at + length v) m ≡ drop (at + length v) o → write m at v ≡ write o at v
unfolding write
write-over m o at v front back = λ j. (front j ++ v) ++ back j

-- the first h bytes and those from `from` on, which overlap, are all of them
windows_written : (l : List ℕ) (at : ℕ) (v m o last : List ℕ) (h from : ℕ) → from ≤ h → h ≤ length v → at + length v ≤ length l → last ≡ drop from v
    → m ≡ write l at (take h v) → o ≡ write m (at + from) last → o ≡ write l at v
windows_written l at v m o last h from inside fits room is_last em eo =
    let h-size : length (take h v) ≡ h = length-take-le h v fits in
    let f-size : length (take from v) ≡ from = length-take-le from v (omega arith) in
    let rest : length (drop from v) ≡ length v - from = length-drop from v in
    let n : at + from + length (drop from v) ≡ at + length v = omega arith in
    let fronts : take (at + from) (write l at (take h v)) ≡ take (at + from) (write l at (take from v))
    = write-front l at (take h v) (omega arith) from (omega arith) ∙ ap (λ (t : List ℕ). take at l ++ t) (take-take from h v inside ∙ sym (take-take from from v (omega arith)))
    ∙ sym (write-front l at (take from v) (omega arith) from (omega arith)) in
    let backs : drop (at + from + length (drop from v)) (write l at (take h v)) ≡ drop (at + from + length (drop from v)) (write l at (take from v))
    = ap (λ (i : ℕ). drop i (write l at (take h v))) n ∙ write-back l at (take h v) (omega arith) (length v) (omega arith)
    ∙ sym (write-back l at (take from v) (omega arith) (length v) (omega arith)) ∙ ap (λ (i : ℕ). drop i (write l at (take from v))) (sym n) in
    let one = write-over (write l at (take h v)) (write l at (take from v)) (at + from) (drop from v) fronts backs in
    let all = write-behind l at (take from v) (write l at (take from v)) (at + from) (drop from v) (write (write l at (take from v)) (at + from) (drop from v)) refl refl (omega arith) (omega arith) in
    eo ∙ (λ j. write (em j) (at + from) (is_last j)) ∙ one ∙ all ∙ ap (write l at) (take-append-drop from v)

-- ## Block by block

pub write-none : (l : List ℕ) (at : ℕ) → l ≡ write l at []
unfolding write
write-none l at = paste-zero l at []

-- a part that holds v now
pub write-part : (l : List ℕ) (at n : ℕ) (part v : List ℕ) → part ≡ v → n ≡ length v → put_mid at n l part ≡ write l at v
unfolding write
write-part l at n part v e q = put_mid-paste at n l part v (length v) e (sym q) refl ∙ rw (take-length v)

-- o has the first bytes of v, and at most w are left
pub record Front (w : ℕ) (l : List ℕ) (at : ℕ) (v o : List ℕ) : Type 0 where
  pub count : ℕ
  pub is : o ≡ write l at (take count v)
  pub near : length v ≤ count + w
  pub inside : count ≤ length v

module _ (w : ℕ) (l : List ℕ) (at : ℕ) (v m : List ℕ) (i : ℕ) (before : m ≡ write l at (take i v)) (room : at + length v ≤ length l) where
  -- the bytes before i are written, and a block of w behind them
  pub blocks_more : (k : ℕ) (part : List ℕ) → k ≡ w → part ≡ take w (drop i v) → i + w ≤ length v → put_mid (at + i) k m part ≡ write l at (take (i + w) v)
  blocks_more k part is block fits =
      let front : length (take i v) ≡ i = length-take-le i v (omega arith) in
      let rest : length (drop i v) ≡ length v - i = length-drop i v in
      let size : length (take w (drop i v)) ≡ w = length-take-le w (drop i v) (omega arith) in
      let written = write-part m (at + i) k part (take w (drop i v)) block (omega arith) in
      write-behind l at (take i v) m (at + i) (take w (drop i v)) (put_mid (at + i) k m part) before written (omega arith) (omega arith) ∙ ap (write l at) (sym (take-add i w v))

  -- the last block overlaps the one before
  pub blocks_all : (last from k : ℕ) (part : List ℕ) → from ≡ at + last → k ≡ w → part ≡ take w (drop last v) → last + w ≡ length v → last ≤ i → i ≤ length v → put_mid from k m part ≡ write l at v
  blocks_all last from k part place is block ends near inside =
      let rest : length (drop last v) ≡ length v - last = length-drop last v in
      let all : part ≡ drop last v = block ∙ take_all w (drop last v) (omega arith) in
      let written = write-part m from k part (drop last v) all (omega arith) in
      windows_written l at v m (put_mid from k m part) (drop last v) i last near inside room refl before (written ∙ ap (λ (j : ℕ). write m j (drop last v)) place)
