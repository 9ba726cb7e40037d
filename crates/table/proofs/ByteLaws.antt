-- Laws of zeros and padding, of a part put back, and one law for each turn and end of the loops over a part.
use Prim.Native.Nat.{ℕ, zero, suc, ◌+◌, ◌-◌, ◌≤◌, ◌<◌, max}
use mathlib.Core.Path.{◌≡◌, refl, sym, ap, ◌∙◌}
use mathlib.Core.Bool.{Bool, true, false, ◌&&◌, and-false}
use mathlib.Core.List.{List, [], ◌∷◌, ◌++◌, append-nil, append_assoc}
use mathlib.Core.Logic.{◌↔◌}
use native.Mathlib.Omega.{arith}
use native.Mathlib.Numerals.{add-one}
use native.Mathlib.Nat.{not-suc-le-zero, le_of_suc-le-suc}
use borrow.Author.Tests.{eqb-true, eqb-false, eq-eqb, ne_eqb}
use borrow.Rule.Slice.PartMut.{mid_of, put_mid, mid_len}
use lib.Dec.{eqb}
use lib.ListN.{length, take, drop, get_or, set, replicate, length-append, length-drop, length-replicate, drop_of_length-le, take-append-drop, replicate-append-replicate}
use lib.Seq.{drop-cons, drop-drop, take_all, take_at, drop_at, length-take-le, take-append_seam, drop-append_seam}
use Rattle.wire.specs.Read.{same}
use Rattle.wire.specs.Write.{write}
use Rattle.wire.proofs.Reading.{same_true}
use Rattle.rule.proofs.Cases.{and_left, and_right}
use Rattle.table.specs.Bytes.{all_zero, Zeros, greatest_byte, padded}

-- ## Lists of other lengths

pub same-long : (a b : List ℕ) → (length a ≡ length b → ⊥) → false ≡ same a b
unfolding same
same-long [] [] h = absurd (h refl)
same-long [] (y ∷ ys) h = refl
same-long (x ∷ xs) [] h = refl
same-long (x ∷ xs) (y ∷ ys) h = rw (← same-long xs ys (λ e. h (ap suc e))) (sym (and-false (eqb x y)))

-- ## Zeros

zeros_zero : (n : ℕ) → all_zero (replicate n 0) ≡ true
unfolding all_zero
zeros_zero zero = refl
zeros_zero (suc n) = zeros_zero n

all-zeros : (bs : List ℕ) → all_zero bs ≡ true → Zeros bs
unfolding all_zero
all-zeros [] h = refl
all-zeros (b ∷ bs) h =
    let first : b ≡ 0 = eqb-true b 0 (and_left (eqb b 0) (all_zero bs) h) in
    let rest : Zeros bs = all-zeros bs (and_right (eqb b 0) (all_zero bs) h) in
    λ j. first j ∷ rest j

pub zeros_say : (bs : List ℕ) → (all_zero bs ≡ true) ↔ Zeros bs
zeros_say bs = (all-zeros bs, (λ z. ap all_zero z ∙ zeros_zero (length bs)))

pub zeros_append : (a b : List ℕ) → Zeros a → Zeros b → Zeros (a ++ b)
zeros_append a b y z = (λ j. y j ++ z j) ∙ replicate-append-replicate (length a) (length b) 0 ∙ ap (λ (n : ℕ). replicate n 0) (sym (length-append a b))

-- ## The greatest byte

-- the greatest of four, in two orders, with one before them
max_mixed : (m x s y t : ℕ) → max m (max (max x s) (max y t)) ≡ max (max m (max x y)) (max s t)
max_mixed m x s y t =
    let inner : max (max x s) (max y t) ≡ max (max x y) (max s t) = omega arith in
    rw inner (outer (max x y) (max s t))
  where
    outer : (p q : ℕ) → max m (max p q) ≡ max (max m p) q
    outer p q = omega arith

pub greatest-step : (a b : List ℕ) (i most : ℕ) → i < length a → i < length b
    → max most (max (greatest_byte (drop i a)) (greatest_byte (drop i b))) ≡ max (max most (max (get_or a i 0) (get_or b i 0))) (max (greatest_byte (drop (i + 1) a)) (greatest_byte (drop (i + 1) b)))
unfolding greatest_byte
greatest-step a b i most h k = rw (add-one, drop-cons a i 0 h, drop-cons b i 0 k) (max_mixed most (get_or a i 0) (greatest_byte (drop (suc i) a)) (get_or b i 0) (greatest_byte (drop (suc i) b)))

pub greatest-end : (a b : List ℕ) (i most : ℕ) → length a ≤ i → length b ≤ i → max most (max (greatest_byte (drop i a)) (greatest_byte (drop i b))) ≡ most
unfolding greatest_byte
greatest-end a b i most h k = rw (drop_of_length-le a h, drop_of_length-le b k) (omega arith)

-- a part behind has no greater byte than the whole
greatest-behind : (k : ℕ) (bs : List ℕ) → greatest_byte (drop k bs) ≤ greatest_byte bs
unfolding greatest_byte
greatest-behind zero bs = omega arith
greatest-behind (suc k) [] = omega arith
greatest-behind (suc k) (b ∷ bs) = let h = greatest-behind k bs in omega arith

greatest-split : (k : ℕ) (bs : List ℕ) → greatest_byte bs ≡ max (greatest_byte (take k bs)) (greatest_byte (drop k bs))
unfolding greatest_byte
greatest-split zero bs = omega arith
greatest-split (suc k) [] = refl
greatest-split (suc k) (b ∷ bs) = let h = greatest-split k bs in omega arith

-- all bytes are zero exactly where the greatest is
pub zero_greatest : (bs : List ℕ) → eqb (greatest_byte bs) 0 ≡ all_zero bs
unfolding greatest_byte all_zero
zero_greatest [] = refl
zero_greatest (b ∷ bs) = both (eqb b 0) (eqb (greatest_byte bs) 0) refl refl ∙ ap (λ (t : Bool). eqb b 0 && t) (zero_greatest bs)
  where
    both : (t u : Bool) → eqb b 0 ≡ t → eqb (greatest_byte bs) 0 ≡ u → eqb (max b (greatest_byte bs)) 0 ≡ t && u
    both true true p q =
        let x = eqb-true b 0 p in
        let y = eqb-true (greatest_byte bs) 0 q in
        eq-eqb (max b (greatest_byte bs)) 0 (omega arith)
    both true false p q = let y = eqb-false (greatest_byte bs) 0 q in ne_eqb (max b (greatest_byte bs)) 0 (λ (e : max b (greatest_byte bs) ≡ 0). y (omega arith))
    both false u p q = let x = eqb-false b 0 p in ne_eqb (max b (greatest_byte bs)) 0 (λ (e : max b (greatest_byte bs) ≡ 0). x (omega arith))

-- two windows that leave nothing out have the greatest byte of all
pub greatest-covered : (h k : ℕ) (bs : List ℕ) → k ≤ h → max (greatest_byte (take h bs)) (greatest_byte (drop k bs)) ≡ greatest_byte bs
greatest-covered h k bs l =
    let e : k + (h - k) ≡ h = omega arith in
    let all = greatest-split h bs in
    let back = greatest-behind k bs in
    let less : greatest_byte (drop h bs) ≤ greatest_byte (drop k bs) = rw (← e, ← drop-drop (h - k) k bs) (greatest-behind (h - k) (drop k bs)) in
    omega arith

-- ## The loops that fill and copy

pub fill_end : (d : List ℕ) (i : ℕ) → i ≤ length d → length d ≤ i → replicate i 0 ++ drop i d ≡ replicate (length d) 0
fill_end d i h k = let e : i ≡ length d = omega arith in rw (drop_of_length-le d k, append-nil, e)

copy_suc : (s d : List ℕ) (i : ℕ) → i < length s → i < length d → set (take i s ++ drop i d) i (get_or s i 0) ≡ take (suc i) s ++ drop (suc i) d
copy_suc [] d i h k = absurd (not-suc-le-zero h)
copy_suc (x ∷ s) [] i h k = absurd (not-suc-le-zero k)
copy_suc (x ∷ s) (y ∷ d) zero h k = refl
copy_suc (x ∷ s) (y ∷ d) (suc i) h k = ap (λ (l : List ℕ). x ∷ l) (copy_suc s d i (le_of_suc-le-suc h) (le_of_suc-le-suc k))

pub copy_more : (s d : List ℕ) (i : ℕ) → i < length s → i < length d → set (take i s ++ drop i d) i (get_or s i 0) ≡ take (i + 1) s ++ drop (i + 1) d
copy_more s d i h k = rw add-one (copy_suc s d i h k)

pub copy_end : (s d : List ℕ) (i : ℕ) → length s ≤ i → length d ≤ i → take i s ++ drop i d ≡ s
copy_end s d i h k = rw (take_all i s h, drop_of_length-le d k, append-nil)

-- ## A part in two halves: the first n bytes become x, all behind them y

module _ (n : ℕ) (d x : List ℕ) (l : length x ≡ n) where
  rest-behind : drop n (x ++ drop n d) ≡ drop n d
  rest-behind = drop_at x (drop n d) n l

  rest-size : length (x ++ drop n d) - n ≡ length d - n
  rest-size = simp (length-append, length-drop) (omega arith)

  pub halves : (y : List ℕ) → put_mid n (length (x ++ drop n d) - n) (x ++ drop n d) y ≡ x ++ y
  halves y =
      let h : length (drop n d) ≤ length d - n = rw length-drop (omega arith) in
      rw (rest-size, take_at x (drop n d) n l, rest-behind, drop_of_length-le (drop n d) h, append-nil)

  pub half_size : length (mid_of n (length (x ++ drop n d) - n) (x ++ drop n d)) ≡ length d - n
  half_size =
      let h : length (drop n d) ≤ length d - n = rw length-drop (omega arith) in
      rw (rest-size, rest-behind, take_all (length d - n) (drop n d) h) (length-drop n d)

-- ## A part put back

-- as many bytes put back as the part has are written where it begins
pub put_back : (from to at : ℕ) (x p v : List ℕ) → from ≡ at → from ≤ to → to ≤ length x → length p ≡ length (mid_of from (to - from) x) → p ≡ v
    → put_mid from (to - from) x p ≡ write x at v
unfolding write
put_back from to at x p v begins h l whole is =
    let all : from + (to - from) ≡ from + length p = omega (arith, mid_len from to x l) in
    rw (drop-drop, all, begins, is, append_assoc)

-- ## Padding

module _ (n : ℕ) (bs : List ℕ) where
  pub padded-size : length bs ≤ n → length (padded n bs) ≡ n
  unfolding padded
  padded-size h = simp (length-append, length-replicate) (omega arith)

  pub padded-front : take (length bs) (padded n bs) ≡ bs
  unfolding padded
  padded-front = take-append_seam bs (replicate (n - length bs) 0)

  pub padded-rest : Zeros (drop (length bs) (padded n bs))
  unfolding padded
  padded-rest = all-zeros _ (ap all_zero (drop-append_seam bs (replicate (n - length bs) 0)) ∙ zeros_zero (n - length bs))

-- a list that is zero from m on is its front, padded
pub zeros_padded : (n m : ℕ) (bs : List ℕ) → length bs ≡ n → m ≤ n → Zeros (drop m bs) → bs ≡ padded n (take m bs)
unfolding padded
zeros_padded n m bs l h z =
    let front : length (take m bs) ≡ m = length-take-le m bs (omega arith) in
    let rest : length (drop m bs) ≡ n - m = rw (length-drop, l) in
    sym (take-append-drop m bs) ∙ rw (front, ← rest) (ap (λ (r : List ℕ). take m bs ++ r) z)

-- ## Comparison

-- what is known of the bytes before i, and of those from i on
abbrev pub same_along : Bool → ℕ → List ℕ → List ℕ → Bool
same_along e i a b = e && same (drop i a) (drop i b)

pub equal_step : (a b : List ℕ) (i : ℕ) (e : Bool) → i < length a → i < length b → same_along e i a b ≡ same_along (e && eqb (get_or a i 0) (get_or b i 0)) (i + 1) a b
unfolding same
equal_step a b i true h k = rw (add-one, drop-cons a i 0 h, drop-cons b i 0 k)
equal_step a b i false h k = refl

pub equal_end : (a b : List ℕ) (i : ℕ) (e : Bool) → length a ≤ i → length b ≤ i → same_along e i a b ≡ e
unfolding same
equal_end a b i true h k = rw (drop_of_length-le a h, drop_of_length-le b k)
equal_end a b i false h k = refl

-- lists that differ at one place are not the same
pub differ_at : (a b : List ℕ) (i : ℕ) → (get_or a i 0 ≡ get_or b i 0 → ⊥) → false ≡ same a b
differ_at a b i differ = by_test (same a b) refl
  where
    by_test : (v : Bool) → same a b ≡ v → false ≡ v
    by_test false e = refl
    by_test true e = absurd (differ (ap (λ (l : List ℕ). get_or l i 0) (same_true a b e)))

pub none_same : (a b : List ℕ) → length a ≡ 0 → length b ≡ 0 → true ≡ same a b
unfolding same
none_same [] [] h k = refl
none_same [] (y ∷ b) h k = absurd (omega arith)
none_same (x ∷ a) b h k = absurd (omega arith)

-- what is behind the first k
abbrev pub behind : ℕ → List ℕ → List ℕ
behind k a = take (length a - k) (drop k a)

behind-all : (k : ℕ) (a : List ℕ) → behind k a ≡ drop k a
behind-all k a = take_all (length a - k) (drop k a) (rw length-drop (omega arith))

-- the first h bytes and the last h
module _ (h : ℕ) (bs : List ℕ) (l : h ≤ length bs) where
  pub windows_alike : length (take h bs) ≡ length (behind (length bs - h) bs)
  windows_alike = length-take-le h bs l ∙ sym (ap length (behind-all (length bs - h) bs) ∙ length-drop (length bs - h) bs ∙ omega arith)

  pub windows_zero : length bs ≤ h + h → eqb (max (greatest_byte (take h bs)) (greatest_byte (behind (length bs - h) bs))) 0 ≡ all_zero bs
  windows_zero m =
      ap (λ (x : List ℕ). eqb (max (greatest_byte (take h bs)) (greatest_byte x)) 0) (behind-all (length bs - h) bs) ∙ ap (λ (x : ℕ). eqb x 0) (greatest-covered h (length bs - h) bs (omega arith)) ∙ zero_greatest bs
