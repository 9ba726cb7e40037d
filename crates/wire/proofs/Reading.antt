-- Laws of the readers: when each case is the answer, and what it then says.
use Prim.Native.Nat.{ℕ, suc, ◌+◌, ◌-◌, ◌≤◌, ◌<◌}
use mathlib.Core.Path.{◌≡◌, refl, sym, ap, ◌∙◌}
use mathlib.Core.List.{List, [], ◌∷◌}
use mathlib.Core.Bool.{Bool, true, false, ◌&&◌, and-false}
use mathlib.Core.Logic.{◌⊎◌, inl, inr, ⊎_elim}
use native.Mathlib.Nat.{lt_of_not-le}
use native.Mathlib.Decide.{dec_le}
use native.Mathlib.Omega.{arith}
use native.Mathlib.Numerals.{add-one}
use borrow.Author.Tests.{le-leb, lt-leb, lt-ltb, le-ltb, eq-eqb, ne_eqb}
use denote.Ref.{Bor}
use lib.Dec.{eqb}
use lib.ListN.{length, get_or, take, drop, drop_of_length-le, get_or-eq_default}
use lib.Seq.{drop-cons}
use Rattle.std.proofs.lemmas.Slice.Eq.{bytes_eq-Decides}
use Rattle.std.proofs.Common.{Result, Err}
use Rattle.wire.specs.declared.read.Cursor.{Cursor}
use Rattle.wire.specs.declared.read.Fault.{Fault}
use Rattle.wire.specs.declared.read.Part.{Part}
use Rattle.wire.specs.Numbers.{be_at}
use Rattle.wire.specs.Mpint.{mpint}
use Rattle.wire.specs.Read.{cut_of, cut_from, same, byte_at, number_at, string_at}
use Rattle.wire.specs.Parts.{PartOf}
use Rattle.wire.specs.Steps.{got, part_of, faulted}
use Rattle.wire.specs.Promises.{SameRule}

pub le_or_lt : (a b : ℕ) → (a ≤ b) ⊎ (b < a)
le_or_lt a b = elim (dec_le a b) [ yes h ↦ inl h | no h ↦ inr (lt_of_not-le h) ]

-- ## Parts

module _ (s : List ℕ) (f t : ℕ) where
  pub cut_there : f ≤ t → t ≤ length s → take (t - f) (drop f s) ≡ cut_of s f t
  unfolding cut_of
  cut_there h k = rw (le-leb _ _ h, le-leb _ _ k)

  pub cut_past : f ≤ t → length s < t → [] ≡ cut_of s f t
  unfolding cut_of
  cut_past h k = rw (le-leb _ _ h, lt-leb _ _ k)

  pub cut_back : t < f → [] ≡ cut_of s f t
  unfolding cut_of
  cut_back h = rw (lt-leb _ _ h)

  pub cut_empty : t ≤ f → [] ≡ cut_of s f t
  cut_empty h =
      ⊎_elim
      (λ (k : f ≤ t).
      let none : t - f ≡ 0 = omega arith in
      ⊎_elim (λ (l : t ≤ length s). rw none at (cut_there k l)) (cut_past k) (le_or_lt t (length s)))
      cut_back
      (le_or_lt f t)

  pub from_there : f ≤ t → t ≤ length s → cut_from s f t ≡ f
  unfolding cut_from
  from_there h k = rw (le-leb _ _ h, le-leb _ _ k)

  pub from_past : f ≤ t → length s < t → cut_from s f t ≡ 0
  unfolding cut_from
  from_past h k = rw (le-leb _ _ h, lt-leb _ _ k)

  pub from_back : t < f → cut_from s f t ≡ 0
  unfolding cut_from
  from_back h = rw (lt-leb _ _ h)

pub cut_none : (s : List ℕ) → [] ≡ cut_of s 0 0
cut_none s = cut_there s 0 0 (omega arith) (omega arith)

pub from_none : (s : List ℕ) → cut_from s 0 0 ≡ 0
from_none s = from_there s 0 0 (omega arith) (omega arith)

pub part-as : (s r : Bor (List ℕ)) (f g : ℕ) (v w : List ℕ) → PartOf s f v r → f ≡ g → v ≡ w → PartOf s g w r
part-as s r f g v w p e h = record { bytes = p.bytes ∙ h; block = p.block; place = p.place ∙ ap (λ (n : ℕ). s.ref_ptr.1 + n) e }

-- ## Answers, and what they are made of

pub got_one : {A : Type 0} {a b : A} {k l : Cursor} → got a k ≡ got b l → (a ≡ b) × (k ≡ l)
got_one {A} {a} {b} {k} {l} e = let v : ◌≡◌ {A = A × Cursor} (a, k) (b, l) = cc in (ap (λ (x : A × Cursor). x.0) v, ap (λ (x : A × Cursor). x.1) v)

pub record OnePart (f t : ℕ) (k : Cursor) (g u : ℕ) (l : Cursor) : Type 0 where
  pub from : f ≡ g
  pub to : t ≡ u
  pub next : k ≡ l

pub part_one : {f t g u : ℕ} {k l : Cursor} → part_of f t k ≡ part_of g u l → OnePart f t k g u l
part_one {f} {t} {g} {u} {k} {l} e =
    let v : ◌≡◌ {A = Part} (record { from = f; to = t; next = k }) (record { from = g; to = u; next = l }) = cc in
    record { from = ap (λ (p : Part). p.from) v; to = ap (λ (p : Part). p.to) v; next = ap (λ (p : Part). p.next) v }

pub fault_one : {A : Type 0} {m n : ℕ} → faulted {A = A} m ≡ faulted n → m ≡ n
fault_one {A} {m} {n} e = let v : ◌≡◌ {A = Fault} (record { at = m }) (record { at = n }) = cc in ap (λ (x : Fault). x.at) v

-- ## Bytes, numbers, strings

module _ (s : List ℕ) (at : ℕ) where
  pub byte_there : at < length s → got (get_or s at 0) (record { at = at + 1 }) ≡ byte_at s at
  unfolding byte_at
  byte_there h = rw (lt-ltb _ _ h)

  pub byte_cut : length s ≤ at → faulted at ≡ byte_at s at
  unfolding byte_at
  byte_cut h = rw (le-ltb _ _ h)

  pub number_there : at + 4 ≤ length s → got (be_at s at) (record { at = at + 4 }) ≡ number_at s at
  unfolding number_at
  number_there h = rw (le-leb _ _ h)

  pub number_cut : length s < at + 4 → faulted at ≡ number_at s at
  unfolding number_at
  number_cut h = rw (lt-leb _ _ h)

  pub string-there : at + 4 + be_at s at ≤ length s → part_of (at + 4) (at + 4 + be_at s at) (record { at = at + 4 + be_at s at }) ≡ string_at s at
  unfolding string_at
  string-there h = rw (le-leb _ _ h)

  pub string-cut : length s < at + 4 + be_at s at → faulted at ≡ string_at s at
  unfolding string_at
  string-cut h = rw (lt-leb _ _ h)

-- what it says that a number was read
pub record IsNumber (s : List ℕ) (at n : ℕ) (k : Cursor) : Type 0 where
  pub within : at + 4 ≤ length s
  pub number : n ≡ be_at s at
  pub place : k.at ≡ at + 4

pub number_read : (s : List ℕ) (at n : ℕ) (k : Cursor) → number_at s at ≡ got n k → IsNumber s at n k
number_read s at n k e =
    ⊎_elim
    (λ h. let w = got_one (sym e ∙ sym (number_there s at h)) in record { within = h; number = w.0; place = ap (λ (c : Cursor). c.at) w.1 })
    (λ h. let w = number_cut s at h in let z : ◌≡◌ {A = ℕ} 0 1 = cc in absurd (omega arith))
    (le_or_lt (at + 4) (length s))

pub number_short : (s : List ℕ) (at p : ℕ) → number_at s at ≡ faulted p → length s < at + 4
number_short s at p e =
    ⊎_elim
    (λ h. let w = number_there s at h in let z : ◌≡◌ {A = ℕ} 0 1 = cc in absurd (omega arith))
    (λ h. h)
    (le_or_lt (at + 4) (length s))

-- where the number is cut, so is the string, at the same place
pub string-no_number : (s : List ℕ) (at : ℕ) (e : Fault) → ◌≡◌ {A = Result (ℕ × Cursor) Fault} (Err e) (number_at s at) → ◌≡◌ {A = Result Part Fault} (Err e) (string_at s at)
string-no_number s at e h =
    let short = number_short s at e.at (sym h) in
    ap faulted (fault_one (h ∙ sym (number_cut s at short))) ∙ string-cut s at (omega arith)

-- what it says that a string was read
pub record IsString (s : List ℕ) (at f t : ℕ) (k : Cursor) : Type 0 where
  pub start : f ≡ at + 4
  pub end : t ≡ at + 4 + be_at s at
  pub place : k.at ≡ t
  pub within : t ≤ length s

pub string-read : (s : List ℕ) (at f t : ℕ) (k : Cursor) → string_at s at ≡ part_of f t k → IsString s at f t k
string-read s at f t k e =
    ⊎_elim
    (λ h.
    let w = part_one (sym e ∙ sym (string-there s at h)) in
    let q : t ≡ at + 4 + be_at s at = w.to in
    record { start = w.from; end = q; place = ap (λ (c : Cursor). c.at) w.next ∙ sym q; within = omega arith })
    (λ h. let w = string-cut s at h in let z : ◌≡◌ {A = ℕ} 0 1 = cc in absurd (omega arith))
    (le_or_lt (at + 4 + be_at s at) (length s))

pub string-short : (s : List ℕ) (at p : ℕ) → string_at s at ≡ faulted p → length s < at + 4 + be_at s at
string-short s at p e =
    ⊎_elim
    (λ h. let w = string-there s at h in let z : ◌≡◌ {A = ℕ} 0 1 = cc in absurd (omega arith))
    (λ h. h)
    (le_or_lt (at + 4 + be_at s at) (length s))

-- ## Mpints

-- a byte past the end reads as 0
pub past : (s : List ℕ) (i : ℕ) → length s ≤ i → get_or s i 0 ≡ 0
past s i h = get_or-eq_default s 0 h

module _ (v : List ℕ) where
  pub mpint-none : length v ≡ 0 → false ≡ mpint v
  unfolding mpint
  mpint-none h = rw (past v 0 (omega arith), past v 1 (omega arith))

  pub mpint-single : length v ≡ 1 → get_or v 0 0 ≤ 0 → false ≡ mpint v
  unfolding mpint
  mpint-single h k = let e : get_or v 0 0 ≡ 0 = omega arith in rw (e, past v 1 (omega arith))

-- ## Comparison

pub same-long : (a b : List ℕ) → (length a ≡ length b → ⊥) → false ≡ same a b
unfolding same
same-long [] [] h = absurd (h refl)
same-long [] (y ∷ ys) h = refl
same-long (x ∷ xs) [] h = refl
same-long (x ∷ xs) (y ∷ ys) h = rw (← same-long xs ys (λ e. h (ap suc e))) (sym (and-false (eqb x y)))

-- what is left of two lists from i on is the same
unfoldable pub same_from : ℕ → List ℕ → List ℕ → Bool
same_from i a b = same (drop i a) (drop i b)

pub same-all : (a b : List ℕ) → same_from 0 a b ≡ same a b
unfolding same_from
same-all a b = refl

module _ (i : ℕ) (a b : List ℕ) (r : Bool) (e : same_from i a b ≡ r) where
  same-cons : i < length a → i < length b → same_from i a b ≡ (eqb (get_or a i 0) (get_or b i 0) && same_from (suc i) a b)
  unfolding same_from same
  same-cons ha hb = rw (drop-cons a i 0 ha, drop-cons b i 0 hb)

  pub same_step : i < length a → i < length b → get_or a i 0 ≡ get_or b i 0 → same_from (i + 1) a b ≡ r
  same_step ha hb q = rw (← e, add-one, same-cons ha hb, eq-eqb _ _ q)

  pub same_stop : i < length a → i < length b → (get_or a i 0 ≡ get_or b i 0 → ⊥) → false ≡ r
  same_stop ha hb q = rw (← e, same-cons ha hb, ne_eqb _ _ q)

  pub same_end : length a ≤ i → length b ≤ i → true ≡ r
  unfolding same_from same
  same_end ha hb = rw (← e, drop_of_length-le a ha, drop_of_length-le b hb)

pub same_true : (a b : List ℕ) → same a b ≡ true → a ≡ b
unfolding same
same_true a b e = (bytes_eq-Decides a b).0 e

pub same_refl : (a : List ℕ) → same a a ≡ true
unfolding same
same_refl a = (bytes_eq-Decides a a).1 refl

pub same-rule : SameRule
same-rule a b = (same_true a b, λ e. rw e (same_refl b))
