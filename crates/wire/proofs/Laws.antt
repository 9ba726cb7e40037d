-- The promises, in 01's values: each follows from the law of its reader, since an answer's values tell it from every other answer.
use Prim.Native.Nat.{ℕ, suc, ◌+◌, ◌-◌, ◌≤◌, ◌<◌}
use mathlib.Core.Path.{◌≡◌, refl, sym, ap, ap₂, ◌∙◌}
use mathlib.Core.List.{List, ◌∷◌}
use mathlib.Core.Bool.{Bool, true, false, cond}
use mathlib.Core.Logic.{⊎_elim, ◌↔◌}
use native.Mathlib.Omega.{arith}
use native.Mathlib.Numerals.{add-one}
use borrow.Author.Tests.{eqb-true, eq-eqb, ne_eqb}
use lib.Dec.{eqb}
use lib.ListN.{length, get_or, drop, length-drop, drop_of_length-le}
use lib.Seq.{drop-cons}
use Rattle.std.proofs.Common.{Result, Ok, Err}
use Rattle.wire.specs.declared.read.Cursor.{Cursor}
use Rattle.wire.specs.declared.read.Fault.{Fault}
use Rattle.wire.specs.declared.read.Part.{Part}
use Rattle.wire.specs.Values.{Reading, read, fault, Span, number_reads, part_reads}
use Rattle.wire.specs.Utf8.{utf8_end}
use Rattle.wire.specs.Abnf.{Octets}
use Rattle.wire.specs.Mpint.{mpint}
use Rattle.wire.specs.Steps.{got, part_of, faulted, part}
use Rattle.wire.specs.Read.{cut_of, number_at, string_at, text_at, mpint_at}
use Rattle.wire.specs.Promises.{AnswersApart, ByteRule, ByteCut, NumberRule, NumberCut, StringRule, StringCut, CutRule, TextRule, TextFault, MpintAtRule, MpintFault, WriteRule}
use Rattle.wire.proofs.Reading.{le_or_lt, part_one, fault_one, byte_there, byte_cut, string-read, string-short, string-cut, cut_there, cut_past, cut_back, from_there, from_past, from_back}
use Rattle.wire.proofs.Format.{number_form, number_none, string-form, string-none, part_length}
use Rattle.wire.proofs.Abnf.{utf8-rule}
use Rattle.wire.proofs.Longest.{utf8-end, utf8_end-whole}
use Rattle.wire.proofs.Writing.{length-write, write-in, write-out}

-- ## Values

cursor_one : (k l : Cursor) → k.at ≡ l.at → k ≡ l
cursor_one k l e = ap {B = Cursor} (λ (n : ℕ). record { at = n }) e

numbers_apart : (a b : Result (ℕ × Cursor) Fault) → number_reads a ≡ number_reads b → a ≡ b
numbers_apart (Ok x) (Ok y) e =
    let p : x.0 ≡ y.0 = cc in
    let q : x.1 ≡ y.1 = cursor_one x.1 y.1 (cc) in
    ap₂ got p q
numbers_apart (Ok x) (Err d) e = let z : ◌≡◌ {A = ℕ} 0 1 = cc in absurd (omega arith)
numbers_apart (Err d) (Ok y) e = let z : ◌≡◌ {A = ℕ} 0 1 = cc in absurd (omega arith)
numbers_apart (Err c) (Err d) e = let p : c.at ≡ d.at = cc in ap faulted p

parts_apart : (a b : Result Part Fault) → part_reads a ≡ part_reads b → a ≡ b
parts_apart (Ok p) (Ok q) e =
    let v : ◌≡◌ {A = Span} (record { from = p.from; to = p.to }) (record { from = q.from; to = q.to }) = cc in
    let f : p.from ≡ q.from = ap (λ (x : Span). x.from) v in
    let t : p.to ≡ q.to = ap (λ (x : Span). x.to) v in
    let k : p.next ≡ q.next = cursor_one p.next q.next (cc) in
    λ i. part_of (f i) (t i) (k i)
parts_apart (Ok p) (Err d) e = let z : ◌≡◌ {A = ℕ} 0 1 = cc in absurd (omega arith)
parts_apart (Err d) (Ok q) e = let z : ◌≡◌ {A = ℕ} 0 1 = cc in absurd (omega arith)
parts_apart (Err c) (Err d) e = let p : c.at ≡ d.at = cc in ap faulted p

pub answers_apart : AnswersApart
answers_apart = record { numbers = numbers_apart; parts = parts_apart }

-- an answer that reads so is this one
pub whole_of : (p : Result Part Fault) (v : Span) (next : ℕ) → part_reads p ≡ read v next → p ≡ part_of v.from v.to (record { at = next })
whole_of p v next e = parts_apart p (part_of v.from v.to (record { at = next })) e

fault_of_lem : (p : Result Part Fault) (at : ℕ) → part_reads p ≡ fault at → p ≡ faulted at
fault_of_lem p at e = parts_apart p (faulted at) e

-- ## Bytes, numbers, strings

pub byte_rule : ByteRule
byte_rule s at b rest = (
  (λ e.
      let l : length (drop at s) ≡ suc (length rest) = ap length e in
      let h : at < length s = omega (arith, simp length-drop at l) in
      let c : get_or s at 0 ∷ drop (at + 1) s ≡ b ∷ rest = rw add-one (sym (drop-cons s at 0 h) ∙ e) in
      let x : get_or s at 0 ≡ b = cc in
      let y : drop (at + 1) s ≡ rest = cc in
      (ap number_reads (sym (byte_there s at h)) ∙ ap (λ (n : ℕ). read n (at + 1)) x, y)),
  (λ r.
      ⊎_elim
      (λ (h : suc at ≤ length s).
      let x : read (get_or s at 0) (at + 1) ≡ read b (at + 1) = ap number_reads (byte_there s at h) ∙ r.0 in
      let y : get_or s at 0 ≡ b = cc in
      drop-cons s at 0 h ∙ ap (λ (n : ℕ). n ∷ drop (suc at) s) y ∙ ap (λ (l : List ℕ). b ∷ l) (ap (λ (n : ℕ). drop n s) (sym (add-one at)) ∙ r.1))
      (λ (h : length s < suc at).
      let x : ◌≡◌ {A = Reading ℕ} (fault at) (read b (at + 1)) = ap number_reads (byte_cut s at (omega arith)) ∙ r.0 in
      let z : ◌≡◌ {A = ℕ} 0 1 = cc in
      absurd (omega arith))
      (le_or_lt (suc at) (length s))),
)

pub byte_cut_rule : ByteCut
byte_cut_rule s at = (
  (λ e.
      ⊎_elim
      (λ (h : suc at ≤ length s).
      let x : ◌≡◌ {A = Reading ℕ} (read (get_or s at 0) (at + 1)) (fault at) = ap number_reads (byte_there s at h) ∙ e in
      let z : ◌≡◌ {A = ℕ} 0 1 = cc in
      absurd (omega arith))
      (λ (h : length s < suc at). let g : length s ≤ at = omega arith in drop_of_length-le s g)
      (le_or_lt (suc at) (length s))),
  (λ e. let l = simp length-drop at (ap length e) in ap number_reads (sym (byte_cut s at (omega arith)))),
)

pub number_rule : NumberRule
number_rule s at n rest bytes h =
    let r = number_form s at n rest bytes h in (
      (λ e. let x = r.0 e in (ap number_reads x.0, x.1)),
      (λ x. r.1 (numbers_apart (number_at s at) (got n (record { at = at + 4 })) x.0, x.1)),
    )

pub number_cut_rule : NumberCut
number_cut_rule s at bytes =
    let r = number_none s at bytes in
    ((λ e. r.0 (numbers_apart (number_at s at) (faulted at) e)), (λ x. ap number_reads (r.1 x)))

pub string-rule : StringRule
string-rule s at v rest bytes h =
    let r = string-form s at v rest bytes h in (
      (λ e. let x = r.0 e in (ap part_reads x.0, x.1, x.2)),
      (λ x. r.1 (whole_of (string_at s at) _ _ x.0, x.1, x.2)),
    )

pub string-cut_rule : StringCut
string-cut_rule s at bytes =
    let r = string-none s at bytes in
    ((λ e. r.0 (fault_of_lem (string_at s at) at e)), (λ x. ap part_reads (r.1 x)))

-- ## Parts

pub cut_rule : CutRule
cut_rule s f t = record {
  there = λ h k. sym (cut_there s f t h k);
  from = from_there s f t;
  none = λ gone. ⊎_elim (λ h. sym (cut_past s f t h (gone h))) (λ h. sym (cut_back s f t h)) (le_or_lt f t);
  start = λ gone. ⊎_elim (λ h. from_past s f t h (gone h)) (from_back s f t) (le_or_lt f t);
}

-- ## Strings that pass a test

-- a string that passed a test was there; one that did not is a fault at the place that is given for it
pub tested : (p : Result Part Fault) (test : ℕ → ℕ → Bool) (z : ℕ → ℕ → ℕ) (f t : ℕ) (k : Cursor)
    → (part faulted p (λ f t k. cond (test f t) (part_of f t k) (faulted (z f t))) ≡ part_of f t k) ↔ ((p ≡ part_of f t k) × (test f t ≡ true))
unfolding part
tested (Err d) test z f t k = ((λ e. let x : ◌≡◌ {A = ℕ} 0 1 = cc in absurd (omega arith)), (λ e. let h = e.0 in let x : ◌≡◌ {A = ℕ} 0 1 = cc in absurd (omega arith)))
tested (Ok p) test z f t k = ((λ e. there (test p.from p.to) refl e), (λ e. let h = part_one {f = p.from} {t = p.to} {k = p.next} e.0 in rw (h.from, h.to, e.1) (rw (h.from, h.to) at e.0)))
  where
    there : (b : Bool) → test p.from p.to ≡ b → cond b (Ok p) (faulted (z p.from p.to)) ≡ part_of f t k → (Ok p ≡ part_of f t k) × (test f t ≡ true)
    there true q e = (e, (let h = part_one {f = p.from} {t = p.to} {k = p.next} e in rw (h.from, h.to) at q))
    there false q e = let x : ◌≡◌ {A = ℕ} 0 1 = cc in absurd (omega arith)

-- a string that is not there is a fault at its own place
pub string-fault_place : (s : List ℕ) (at place : ℕ) → string_at s at ≡ faulted place → place ≡ at
string-fault_place s at place e = fault_one (sym e ∙ sym (string-cut s at (string-short s at place e)))

module _ (s : List ℕ) (at : ℕ) (test : ℕ → ℕ → Bool) where
  -- a string that is tested, and whose fault is at its start
  abbrev pub Tested : Result Part Fault
  Tested = part faulted (string_at s at) λ f t k. cond (test f t) (part_of f t k) (faulted at)

  pub tested_fault : (place : ℕ) → Tested ≡ faulted place → place ≡ at
  unfolding part
  tested_fault place e = go (string_at s at) refl e
    where
      by_test : (p : Part) (b : Bool) → cond b (Ok p) (faulted at) ≡ faulted place → place ≡ at
      by_test p true h = let x : ◌≡◌ {A = ℕ} 0 1 = cc in absurd (omega arith)
      by_test p false h = sym (fault_one h)

      go : (p : Result Part Fault) → string_at s at ≡ p → part faulted p (λ f t k. cond (test f t) (part_of f t k) (faulted at)) ≡ faulted place → place ≡ at
      go (Ok p) q h = by_test p (test p.from p.to) h
      go (Err d) q h = sym (fault_one h) ∙ string-fault_place s at d.at q

  pub tested-end : (p : Part) → Tested ≡ Ok p → p.next.at ≡ p.to
  tested-end p e = (string-read s at p.from p.to p.next ((tested (string_at s at) test (λ f t. at) p.from p.to p.next).0 e).0).place

pub mpint-fault : MpintFault
unfolding mpint_at
mpint-fault s at place e = tested_fault s at (λ f t. mpint (cut_of s f t)) place (fault_of_lem (mpint_at s at) place e)

pub mpint_at-rule : MpintAtRule
unfolding mpint_at
mpint_at-rule s at v next =
    let r = tested (string_at s at) (λ f t. mpint (cut_of s f t)) (λ f t. at) v.from v.to (record { at = next }) in (
      (λ e. let x = r.0 (whole_of (mpint_at s at) v next e) in (ap part_reads x.0, x.1)),
      (λ x. ap part_reads (r.1 (whole_of (string_at s at) v next x.0, x.1))),
    )

-- ## Texts

-- a string is UTF-8 exactly where its longest part of UTF-8 is all of it
text_test : (s : List ℕ) (at f t : ℕ) (k : Cursor) → string_at s at ≡ part_of f t k → (utf8_end (cut_of s f t) ≡ t - f) ↔ Octets (cut_of s f t)
text_test s at f t k e =
    let w = string-read s at f t k e in
    let l = part_length s f t (omega arith) w.within in (
      (λ h. (utf8-rule (cut_of s f t)).0 ((utf8_end-whole (cut_of s f t)).0 (h ∙ sym l))),
      (λ o. (utf8_end-whole (cut_of s f t)).1 ((utf8-rule (cut_of s f t)).1 o) ∙ l),
    )

pub text_fault : TextFault
unfolding text_at part
text_fault s at =
    record {
      cut = λ e. rw (fault_of_lem (string_at s at) at e);
      other = λ v next e no.
          let y = whole_of (string_at s at) v next e in
          let t = text_test s at _ _ _ y in
          (utf8_end (cut_of s v.from v.to), utf8-end (cut_of s v.from v.to), rw (y, ne_eqb _ _ (λ h. no (t.0 h))));
    }

pub text_rule : TextRule
unfolding text_at
text_rule s at v next =
    let r = tested (string_at s at) (λ f t. eqb (utf8_end (cut_of s f t)) (t - f)) (λ f t. f + utf8_end (cut_of s f t)) v.from v.to (record { at = next }) in (
      (λ e. let x = r.0 (whole_of (text_at s at) v next e) in (ap part_reads x.0, (text_test s at _ _ _ x.0).0 (eqb-true _ _ x.1))),
      (λ x. let y = whole_of (string_at s at) v next x.0 in ap part_reads (r.1 (y, eq-eqb _ _ ((text_test s at _ _ _ y).1 x.1)))),
    )

-- ## Writing

pub write-rule : WriteRule
write-rule out at v h = record { size = length-write out at v h; inside = write-in out at v h; outside = write-out out at v h }
