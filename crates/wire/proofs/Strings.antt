-- What lies where in a list of bytes: a reader finds a part exactly where a string lies whose bytes are what it asks for, and else a fault at its place.
use Prim.Native.Nat.{ℕ, ◌+◌, ◌-◌, ◌^◌, ◌≤◌, ◌<◌}
use mathlib.Core.Path.{◌≡◌, refl, sym, ap, ap₂, ◌∙◌}
use mathlib.Core.List.{List, [], ◌++◌, append_assoc}
use mathlib.Core.Bool.{Bool, true, cond}
use mathlib.Core.Logic.{◌↔◌, ⊎_elim}
use native.Mathlib.Omega.{arith}
use lib.ListN.{length, get_or, drop, length-append, length-drop, get_or-append, get_or-eq_default}
use lib.Seq.{get_or-drop, drop-drop, take_at, drop_at}
use Rattle.std.proofs.Common.{Result}
use Rattle.wire.specs.declared.read.Cursor.{Cursor}
use Rattle.wire.specs.declared.read.Fault.{Fault}
use Rattle.wire.specs.declared.read.Part.{Part}
use Rattle.wire.specs.Numbers.{Bytes, be32}
use Rattle.wire.specs.Abnf.{Octets}
use Rattle.wire.specs.Mpint.{mpint, Positive}
use Rattle.wire.specs.Read.{cut_of, string_at, text_at, mpint_at}
use Rattle.wire.specs.Steps.{part_of, faulted, part}
use Rattle.wire.specs.Values.{fault, part_reads}
use Rattle.wire.specs.Write.{string}
use Rattle.wire.specs.Promises.{NoString, Longest}
use Rattle.wire.proofs.Reading.{le_or_lt, part_one, cut_there, string-read}
use Rattle.wire.proofs.Format.{part_length, string-shape, string-form, be-small}
use Rattle.wire.proofs.Mpint.{mpint-rule}
use Rattle.wire.proofs.Longest.{longest-one}
use Rattle.wire.proofs.Laws.{tested, answers_apart, whole_of, string-cut_rule, text_rule, text_fault}

-- ## Bytes at a place

-- the bytes l lie in s from f up to t
pub record Lies (s : List ℕ) (f : ℕ) (l : List ℕ) (t : ℕ) : Type 0 where
  pub end : t ≡ f + length l
  pub within : t ≤ length s
  pub shape : drop f s ≡ l ++ drop t s

-- bytes that stand at a place lie there
pub lies_at : (s : List ℕ) (f : ℕ) (l rest : List ℕ) → f ≤ length s → drop f s ≡ l ++ rest → Lies s f l (f + length l) × (drop (f + length l) s ≡ rest)
lies_at s f l rest h e =
    let r : drop (f + length l) s ≡ rest = sym (drop-drop (length l) f s) ∙ rw e (drop_at l rest (length l) refl) in
    let n = simp (length-drop, length-append) at (ap length e) in
    (record { end = refl; within = omega arith; shape = rw r e }, r)

module _ {s : List ℕ} where
  pub lies_none : (t : ℕ) → t ≤ length s → Lies s t [] t
  lies_none t h = record { end = omega arith; within = h; shape = refl }

  pub lies_join : {f m t : ℕ} {l k : List ℕ} → Lies s f l m → Lies s m k t → Lies s f (l ++ k) t
  lies_join {t = t} {l = l} {k = k} x y = record {
    end = simp length-append (omega arith);
    within = y.within;
    shape = x.shape ∙ ap (λ (r : List ℕ). l ++ r) y.shape ∙ sym (append_assoc l k (drop t s));
  }

  pub lies_split : (l k : List ℕ) {f t : ℕ} → Lies s f (l ++ k) t → Lies s f l (f + length l) × Lies s (f + length l) k t
  lies_split l k {f} {t} x =
      let n = simp length-append at x.end in
      let y = lies_at s f l (k ++ drop t s) (omega (arith, x.within)) (x.shape ∙ append_assoc l k (drop t s)) in
      (y.0, record { end = omega arith; within = x.within; shape = y.1 })

  pub lies_cut : {f t : ℕ} {l : List ℕ} → Lies s f l t → cut_of s f t ≡ l
  lies_cut {f} {t} {l} x =
      let n : length l ≡ t - f = omega arith in
      sym (cut_there s f t (omega arith) x.within) ∙ rw x.shape (take_at l (drop t s) (t - f) n)

  pub lies_bytes : {f t : ℕ} {l : List ℕ} → Lies s f l t → Bytes s → Bytes l
  lies_bytes {f} {t} {l} x bytes i =
      ⊎_elim
      (λ (h : length l ≤ i). let e : get_or l i 0 ≡ 0 = get_or-eq_default l 0 h in omega arith)
      (λ (h : i < length l). rw (← get_or-append l (drop t s) 0 i h, ← x.shape, get_or-drop f s i 0) (bytes (f + i)))
      (le_or_lt (length l) i)

module _ {s : List ℕ} {f m n : ℕ} {l : List ℕ} (x : Lies s f l m) (e : n ≡ m) where
  pub lies_to : Lies s f l n
  lies_to = rw e x

  pub lies_next : {t : ℕ} {k : List ℕ} → Lies s n k t → Lies s f (l ++ k) t
  lies_next y = lies_join lies_to y

-- ## Strings and texts at a place

-- the place behind a string
abbrev pub behind : ℕ → List ℕ → ℕ
behind at v = at + length (string v)

-- the part that is read where a string lies
abbrev pub found : ℕ → List ℕ → Result Part Fault
found at v = part_of (at + 4) (behind at v) (record { at = behind at v })

-- a string lies at a place and is read there
pub record At (s : List ℕ) (at : ℕ) (v : List ℕ) : Type 0 where
  pub lies : Lies s at (string v) (behind at v)
  pub read : string_at s at ≡ found at v

pub inside : {s : List ℕ} {at : ℕ} {v : List ℕ} → At s at v → Lies s (at + 4) v (behind at v)
inside {v = v} a = (lies_split (be32 (length v)) v a.lies).1

-- p, read at a place, is a part exactly where a string lies for which T holds
pub record Reads (T : List ℕ → Type 0) (s : List ℕ) (at : ℕ) (p : Result Part Fault) : Type 0 where
  pub taken : (f t : ℕ) (k : Cursor) → p ≡ part_of f t k → (v : List ℕ) × At s at v × T v
  pub takes : {v : List ℕ} → At s at v → T v → p ≡ found at v

module _ {s : List ℕ} (bytes : Bytes s) {at : ℕ} where
  pub string-stands : (v rest : List ℕ) → length v < 2 ^ 32 → drop at s ≡ string v ++ rest → At s at v × (drop (behind at v) s ≡ rest)
  string-stands v rest h e =
      let n = simp (length-drop, length-append) at (ap length e) in
      let (x, r) = lies_at s at (string v) rest (omega arith) e in
      let p : at + 4 + length v ≡ behind at v = omega arith in
      (record { lies = x; read = rw p at ((string-form s at v rest bytes h).0 e).0 }, r)

  pub string-reads : Reads (λ v. Unit {0}) s at (string_at s at)
  string-reads = record {
    taken = λ f t k e.
        let w = string-read s at f t k e in
        let v = cut_of s f t in
        let l : length v ≡ t - f = part_length s f t (omega arith) w.within in
        let n : length v < 2 ^ 32 = omega (arith, be-small s at bytes) in
        (v, (string-stands v (drop t s) n (string-shape s at f t k bytes e)).0, tt);
    takes = λ a h. a.read;
  }

  pub tested_reads : (T : List ℕ → Type 0) (test : ℕ → ℕ → Bool) → ((v : List ℕ) → At s at v → (test (at + 4) (behind at v) ≡ true) ↔ T v)
      → Reads T s at (part faulted (string_at s at) (λ f t k. cond (test f t) (part_of f t k) (faulted at)))
  tested_reads T test means = record {
    taken = λ f t k e.
        let q = (tested (string_at s at) test (λ f t. at) f t k).0 e in
        let (v, a, h) = string-reads.taken f t k q.0 in
        let z = part_one (sym q.0 ∙ a.read) in
        (v, a, (means v a).0 (rw (z.from, z.to) at q.1));
    takes = λ {v} a h. (tested (string_at s at) test (λ f t. at) (at + 4) (behind at v) (record { at = behind at v })).1 (a.read, (means v a).1 h);
  }

  -- a test of the bytes of a string
  pub bytes-reads : (T : List ℕ → Type 0) (test : List ℕ → Bool) → ((v : List ℕ) → Bytes v → (test v ≡ true) ↔ T v)
      → Reads T s at (part faulted (string_at s at) (λ f t k. cond (test (cut_of s f t)) (part_of f t k) (faulted at)))
  bytes-reads T test means = tested_reads T (λ f t. test (cut_of s f t)) λ v a. rw (lies_cut (inside a)) (means v (lies_bytes (inside a) bytes))

  pub mpint-reads : Reads Positive s at (mpint_at s at)
  unfolding mpint_at
  mpint-reads = bytes-reads Positive mpint mpint-rule

-- what was read at a place is a string that lies there, and the place behind it
pub record Took (T : List ℕ → Type 0) (s : List ℕ) (at f t : ℕ) (k : Cursor) : Type 0 where
  pub v : List ℕ
  pub holds : T v
  pub small : length v < 2 ^ 32
  pub from : f ≡ at + 4
  pub part : cut_of s f t ≡ v
  pub lies : Lies s at (string v) t
  pub place : k.at ≡ t

module _ {s : List ℕ} (small : Bytes s) {at : ℕ} where
  pub text_reads : Reads Octets s at (text_at s at)
  text_reads = record {
    taken = λ f t k e.
        let r = (text_rule s at (record { from = f; to = t }) k.at).0 (ap part_reads e) in
        let q = whole_of (string_at s at) (record { from = f; to = t }) k.at r.0 in
        let (v, a, h) = (string-reads small).taken f t (record { at = k.at }) q in
        let z = part_one (sym q ∙ a.read) in
        (v, a, rw (z.from, z.to, lies_cut (inside a)) at r.1);
    takes = λ {v} a o.
        whole_of (text_at s at) (record { from = at + 4; to = behind at v }) (behind at v)
        ((text_rule s at (record { from = at + 4; to = behind at v }) (behind at v)).1 (ap part_reads a.read, rw (lies_cut (inside a)) o));
  }

  pub took : {T : List ℕ → Type 0} {p : Result Part Fault} → Reads T s at p → (f t : ℕ) (k : Cursor) → p ≡ part_of f t k → Took T s at f t k
  took reads f t k e =
      let (v, a, h) = reads.taken f t k e in
      let z = part_one (sym e ∙ reads.takes a h) in
      let w = string-read s at (at + 4) (behind at v) (record { at = behind at v }) a.read in
      record {
        v = v;
        holds = h;
        small = omega (arith, w.end, be-small s at small);
        from = z.from;
        part = ap₂ (cut_of s) z.from z.to ∙ lies_cut (inside a);
        lies = lies_to a.lies z.to;
        place = ap (λ (x : Cursor). x.at) z.next ∙ sym z.to;
      }

-- ## What does not stand at a place

module _ (s : List ℕ) (small : Bytes s) (at : ℕ) where
  pub string-missing : NoString (drop at s) → string_at s at ≡ faulted at
  string-missing never = answers_apart.parts (string_at s at) (faulted at) ((string-cut_rule s at small).1 never)

  pub text_missing : NoString (drop at s) → text_at s at ≡ faulted at
  text_missing never = answers_apart.parts (text_at s at) (faulted at) ((text_fault s at).cut ((string-cut_rule s at small).1 never))

pub no_text : {s v : List ℕ} {at n : ℕ} → At s at v → (Octets v → ⊥) → Longest v n → text_at s at ≡ faulted (at + 4 + n)
no_text {s} {v} {at} {n} a never l =
    let (m, k, e) = (text_fault s at).other (record { from = at + 4; to = behind at v }) (behind at v) (ap part_reads a.read) (rw (lies_cut (inside a)) never) in
    let z : m ≡ n = longest-one v m n (rw (lies_cut (inside a)) at k) l in
    answers_apart.parts (text_at s at) (faulted (at + 4 + n)) (e ∙ ap (λ (i : ℕ). fault (at + 4 + i)) z)
