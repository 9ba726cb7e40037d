-- utf8_end is the longest part from the start that is UTF-8, and the loop that keeps it goes on by one byte: both by the definition, byte by byte.
use Prim.Native.Nat.{ℕ, zero, suc, ◌+◌, ◌≤◌, ◌<◌}
use mathlib.Core.Path.{◌≡◌, refl, sym, ap, ◌∙◌}
use mathlib.Core.List.{List, [], ◌∷◌, ◌++◌}
use mathlib.Core.Bool.{Bool, true, false, cond}
use mathlib.Core.Logic.{◌↔◌, ⊎_elim}
use native.Mathlib.Nat.{eq-or-lt_of_le, not-suc-le-zero}
use native.Mathlib.Numerals.{add-one}
use native.Mathlib.Omega.{arith}
use borrow.Author.Tests.{le-leb, lt-leb, leb-true}
use lib.Dec.{leb}
use lib.ListN.{length, get_or, take, drop, drop_of_length-le}
use lib.Seq.{take-suc, take-length, drop-cons}
use Rattle.wire.specs.declared.read.Part.{Part}
use Rattle.wire.specs.declared.utf8.Tails.{Tails}
use Rattle.std.proofs.Common.{Option, Ok}
use Rattle.wire.specs.Utf8.{lead_of, step_of, steps_of, ended, start, utf8, ascii_end, longest, utf8_end}
use Rattle.wire.specs.Read.{cut_of, string_at}
use Rattle.wire.specs.Promises.{Longest, Utf8End}
use Rattle.wire.proofs.Reading.{le_or_lt, string-read}
use Rattle.wire.proofs.Format.{part_length}
use Rattle.wire.proofs.Abnf.{utf8-rule}

steps_snoc : (u : Option Tails) (s : List ℕ) (b : ℕ) → steps_of u (s ++ (b ∷ [])) ≡ step_of (steps_of u s) b
unfolding steps_of
steps_snoc u [] b = refl
steps_snoc u (a ∷ s) b = steps_snoc (step_of u a) s b

-- the state and the end after i bytes
pub record Passed (s : List ℕ) (u : Option Tails) (end i : ℕ) : Type 0 where
  pub within : i ≤ length s
  pub state : u ≡ steps_of start (take i s)
  pub found : end ≡ longest i s

pub passed_none : (s : List ℕ) (u : Option Tails) → u ≡ start → Passed s u 0 0
unfolding steps_of longest
passed_none s u e = record { within = omega arith; state = e; found = refl }

pub passed_one :
    (s : List ℕ) (u : Option Tails) (end i : ℕ) (v : Option Tails) (r : ℕ) → Passed s u end i → i < length s
    → v ≡ step_of u (get_or s i 0) → r ≡ cond (ended v) (i + 1) end → Passed s v r (i + 1)
unfolding longest utf8
passed_one s u end i v r p h e f =
    let w : v ≡ steps_of start (take (suc i) s) = e ∙ rw (take-suc s i 0, steps_snoc, p.state) in
    let z : r ≡ longest (suc i) s = f ∙ rw (w, p.found, add-one) in
    record { within = omega arith; state = rw add-one w; found = rw add-one z }

pub passed_all : (s : List ℕ) (u : Option Tails) (end i : ℕ) → Passed s u end i → length s ≤ i → end ≡ utf8_end s
unfolding utf8_end
passed_all s u end i p h =
    let e : i ≡ length s = omega arith in
    rw (← e) p.found

-- ## Characters of one byte at the start

module _ (s : List ℕ) (i : ℕ) where
  pub ascii_more : i < length s → get_or s i 0 ≤ 0x7F → ascii_end (drop i s) ≡ suc (ascii_end (drop (i + 1) s))
  unfolding ascii_end
  ascii_more h k = rw (add-one, drop-cons s i 0 h, le-leb (get_or s i 0) 0x7F k)

  pub ascii_over : i < length s → 0x7F < get_or s i 0 → ascii_end (drop i s) ≡ 0
  unfolding ascii_end
  ascii_over h k = rw (drop-cons s i 0 h, lt-leb (get_or s i 0) 0x7F k)

  pub ascii_none : length s ≤ i → ascii_end (drop i s) ≡ 0
  unfolding ascii_end
  ascii_none h = rw (drop_of_length-le s h)

abbrev LowAt : List ℕ → ℕ → Type 0
LowAt s i = (i < length s) × (get_or s i 0 ≤ 0x7F)

low_behind : (b : ℕ) (s : List ℕ) (n : ℕ) → ((i : ℕ) → i < n → LowAt s i) → b ≤ 0x7F → (i : ℕ) → i < suc n → LowAt (b ∷ s) i
low_behind b s n f k zero h = (omega arith, k)
low_behind b s n f k (suc i) h = let low = f i (omega arith) in (omega (arith, low.0), low.1)

low_by : (b : ℕ) (s : List ℕ) (n : ℕ) → ((i : ℕ) → i < n → LowAt s i) → (t : Bool) → leb b 0x7F ≡ t → (i : ℕ) → i < cond t (suc n) zero → LowAt (b ∷ s) i
low_by b s n f true e i h = low_behind b s n f (leb-true b 0x7F e) i h
low_by b s n f false e i h = absurd (not-suc-le-zero h)

ascii_low : (s : List ℕ) (i : ℕ) → i < ascii_end s → LowAt s i
unfolding ascii_end
ascii_low [] i h = absurd (not-suc-le-zero h)
ascii_low (b ∷ s) i h = low_by b s (ascii_end s) (ascii_low s) (leb b 0x7F) refl i h

stays : (b : ℕ) → b ≤ 0x7F → start ≡ step_of start b
unfolding step_of lead_of
stays b k = rw (le-leb 0 b (omega arith), le-leb b 0x7F k)

ended-start : (u : Option Tails) → u ≡ start → ended u ≡ true
unfolding ended
ended-start u e = rw e

pub ascii_passed : (s : List ℕ) (u : Option Tails) → u ≡ start → (i : ℕ) → i ≤ ascii_end s → Passed s u i i
ascii_passed s u e zero h = passed_none s u e
ascii_passed s u e (suc i) h =
    let low = ascii_low s i (omega arith) in
    let next : Passed s u (i + 1) (i + 1) = passed_one s u i i u (i + 1) (ascii_passed s u e i (omega arith)) low.0 (e ∙ stays (get_or s i 0) low.1 ∙ ap (λ (v : Option Tails). step_of v (get_or s i 0)) (sym e)) (rw (ended-start u e)) in
    rw add-one at next

-- r is the greatest number up to n of bytes from the start that are UTF-8
record Greatest (s : List ℕ) (n r : ℕ) : Type 0 where
  pub within : r ≤ n
  pub valid : utf8 (take r s) ≡ true
  pub most : (m : ℕ) → m ≤ n → utf8 (take m s) ≡ true → m ≤ r

longest-greatest : (n : ℕ) (s : List ℕ) → Greatest s n (longest n s)
unfolding longest utf8 steps_of ended
longest-greatest zero s = record { within = omega arith; valid = refl; most = λ m h e. h }
longest-greatest (suc n) s = go (utf8 (take (suc n) s)) refl (longest-greatest n s)
  where
    go : (q : Bool) → utf8 (take (suc n) s) ≡ q → Greatest s n (longest n s) → Greatest s (suc n) (cond q (suc n) (longest n s))
    go true e g = record { within = omega arith; valid = e; most = λ m h f. h }
    go false e g = record {
      within = omega arith;
      valid = g.valid;
      most = λ m h f.
          ⊎_elim
          (λ d. let z : ◌≡◌ {A = ℕ} 0 1 = cc in absurd (omega arith))
          (λ l. g.most m (omega arith) f)
          (eq-or-lt_of_le h);
    }

module _ (s : List ℕ) where
  end_greatest : Greatest s (length s) (utf8_end s)
  unfolding utf8_end
  end_greatest = longest-greatest (length s) s

  utf8_end-le : utf8_end s ≤ length s
  utf8_end-le = end_greatest.within

  pub utf8_end-whole : (utf8_end s ≡ length s) ↔ (utf8 s ≡ true)
  utf8_end-whole = (
    (λ e. rw (e, take-length) at end_greatest.valid),
    (λ e. let m = end_greatest.most (length s) (omega arith) (rw take-length e) in let l = utf8_end-le in omega arith),
  )

pub utf8-end : Utf8End
utf8-end s = record {
  within = utf8_end-le s;
  derived = (utf8-rule (take (utf8_end s) s)).0 (end_greatest s).valid;
  no_longer = λ m h l o. let k = (end_greatest s).most m l ((utf8-rule (take m s)).1 o) in omega arith;
}

-- there is one such length
pub longest-one : (s : List ℕ) (m n : ℕ) → Longest s m → Longest s n → m ≡ n
longest-one s m n x y =
    ⊎_elim
    (λ (h : m ≤ n). ⊎_elim (λ (k : n ≤ m). omega arith) (λ (k : m < n). absurd (x.no_longer n k y.within y.derived)) (le_or_lt n m))
    (λ (h : n < m). absurd (y.no_longer m h x.within x.derived))
    (le_or_lt m n)

-- the end of a string's UTF-8 is a place in the slice
pub text_room : (s : List ℕ) (at : ℕ) (p : Part) (v : List ℕ) (n : ℕ) → Ok p ≡ string_at s at → v ≡ cut_of s p.from p.to → n ≡ utf8_end v → p.from + n ≤ length s
text_room s at p v n e i q =
    let w = string-read s at p.from p.to p.next (sym e) in
    let l = part_length s p.from p.to (omega arith) w.within in
    let u = utf8_end-le (cut_of s p.from p.to) in
    let m : n ≡ utf8_end (cut_of s p.from p.to) = q ∙ ap utf8_end i in
    omega arith
