-- The promises of the signature reader: a signature that has the draft's form is read from its place on, and cut out of the payload.
use Prim.Native.Nat.{ℕ, suc, ◌+◌, ◌^◌, ◌≤◌, ◌<◌}
use mathlib.Core.Path.{◌≡◌, refl, sym, ap, ap₂, ◌∙◌}
use mathlib.Core.List.{List, [], ◌∷◌, ◌++◌, append_assoc, append-nil}
use mathlib.Core.Bool.{Bool, true, false}
use mathlib.Core.Logic.{⊎_elim}
use native.Mathlib.Omega.{arith}
use borrow.Author.Tests.{lt-ltb, eqb-true}
use lib.Dec.{ltb, eqb}
use lib.ListN.{length, drop, length-append}
use Rattle.wire.specs.declared.read.Cursor.{Cursor}
use Rattle.wire.specs.Numbers.{Bytes, be32}
use Rattle.wire.specs.Texts.{bytes}
use Rattle.wire.specs.Abnf.{Octets}
use Rattle.wire.specs.Read.{cut_of, same, byte_at, number_at, string_at, text_at}
use Rattle.wire.specs.Steps.{number, part}
use Rattle.wire.specs.Write.{write, string}
use Rattle.wire.specs.Values.{read, number_reads}
use Rattle.wire.specs.Refusals.{grants, wrote_says}
use Rattle.wire.proofs.Reading.{le_or_lt, got_one, byte_there, byte_cut, number_read, same_true}
use Rattle.wire.proofs.Format.{be-small, be-shape, number_form}
use Rattle.wire.proofs.Laws.{byte_rule, answers_apart}
use Rattle.wire.proofs.ByteLaws.{bytes-cons, string_bytes}
use Rattle.wire.proofs.Strings.{Lies, lies_join, lies_cut, lies_split, lies_bytes, behind, found, At, inside, string-stands, string-reads, text_reads, took, lies_to}
use Rattle.wire.proofs.Cases.{cond_cases, part-cases, number_cases, true_not_false, number_cases}
use Rattle.wire.proofs.RefusalLaws.{not_granted}
use Rattle.std.specs.Prelude.{Result, Ok, Err}
use Rattle.wire.specs.declared.read.Fault.{Fault}
use Rattle.wire.specs.declared.refusal.Refusal.{Refusal}
use Rattle.wire.specs.Steps.{got}
use Rattle.wire.specs.declared.read.Span.{Span}
use Rattle.readers.specs.Reaches.{reach}
use Rattle.readers.specs.Signatures.{signature_of, wrote_of, fits, starts_in, touched_end, signature_end, signature_at, reply_at, signature_answer, signature_left}
use Rattle.readers.specs.Promises.{Fitting, any, sha256, sha512, FitRule, SignatureForm, plain, touched, CarriesSignature, WritesSignature, SignatureRule, WrittenRule, SignatureRead}
use Rattle.readers.proofs.ReadSteps.{reach-cases, fault}
use Rattle.readers.proofs.SignatureLaws.{string-short, string-fits, signature_one, refused}
use Rattle.readers.proofs.FormLaws.{starts_rule}

-- ## The hash

fitting_fits : {hash : ℕ} {t : List ℕ} → Fitting hash t → fits hash t ≡ true
unfolding fits same
fitting_fits (any t) = refl
fitting_fits sha256 = refl
fitting_fits sha512 = refl

pub fit-rule : FitRule
unfolding fits same
fit-rule hash t = (
  (let P : Bool → Type 0 = λ b. b ≡ true → Fitting hash t in
      cond_cases P (eqb hash 0) (λ e _. rw (eqb-true hash 0 e) (any t)) λ _.
      cond_cases P (eqb hash 2) (λ e q. rw (eqb-true hash 2 e, same_true t (bytes "rsa-sha2-256") q) sha256) λ _.
      cond_cases P (eqb hash 4) (λ e q. rw (eqb-true hash 4 e, same_true t (bytes "rsa-sha2-512") q) sha512) λ _ never. let z : ◌≡◌ {A = ℕ} 0 1 = cc in absurd (omega arith)),
  fitting_fits,
)

-- ## A signature at a place

not_started : (t start : List ℕ) → ((w : List ℕ) → t ≡ start ++ w → ⊥) → starts_in t start ≡ false
not_started t start other = go (starts_in t start) refl
  where
    go : (b : Bool) → starts_in t start ≡ b → b ≡ false
    go true e = let (w, is) = (starts_rule t start).0 e in absurd (other w is)
    go false e = refl

pub octet_at : (s : List ℕ) (at b : ℕ) (rest : List ℕ) → drop at s ≡ b ∷ rest → byte_at s at ≡ got b (record { at = at + 1 })
octet_at s at b rest e = answers_apart.numbers (byte_at s at) (got b (record { at = at + 1 })) ((byte_rule s at b rest).0 e).0

module _ (s : List ℕ) (small : Bytes s) where
  -- flags and a counter
  touched_read : (at flags counter : ℕ) (rest : List ℕ) → counter < 2 ^ 32 → drop at s ≡ (flags ∷ be32 counter) ++ rest → touched_end s at ≡ Ok (at + 1 + 4)
  unfolding touched_end number
  touched_read at flags counter rest h e =
      let r = ((byte_rule s at flags (be32 counter ++ rest)).0 e).1 in
      rw (octet_at s at flags (be32 counter ++ rest) e, ((number_form s (at + 1) counter rest small h).0 r).0)

  signature_read : {t x : List ℕ} (at hash : ℕ) (rest : List ℕ) → SignatureForm t x → Fitting hash t → length x < 2 ^ 32 → drop at s ≡ x ++ rest
      → signature_at s at hash ≡ signature_of at (at + length x)
  unfolding signature_at signature_end part reach
  signature_read at hash rest (plain t sig o other) f l e =
      let n = simp length-append at l in
      let (a, r) = string-stands small {at = at} t (string sig ++ rest) (omega arith) (e ∙ append_assoc (string t) (string sig) rest) in
      let (b, q) = string-stands small {at = behind at t} sig rest (omega arith) r in
      let c : text_at s at ≡ found at t = (text_reads small).takes a o in
      let m : behind (behind at t) sig ≡ at + length (string t ++ string sig) = simp length-append (omega arith) in
      rw (c, lies_cut (inside a), (fit-rule hash t).1 f, not_started t (bytes "sk-") other, b.read) (ap (signature_of at) m)
  signature_read at hash rest (touched w sig flags counter o h) f l e =
      let t = bytes "sk-" ++ w in
      let n = simp length-append at l in
      let tail = string sig ++ (flags ∷ be32 counter) in
      let (a, r) = string-stands small {at = at} t (tail ++ rest) (omega arith) (e ∙ append_assoc (string t) tail rest) in
      let (b, q) = string-stands small {at = behind at t} sig ((flags ∷ be32 counter) ++ rest) (omega arith) (r ∙ append_assoc (string sig) (flags ∷ be32 counter) rest) in
      let c : text_at s at ≡ found at t = (text_reads small).takes a o in
      let m : behind (behind at t) sig + 1 + 4 ≡ at + length (string t ++ tail) = simp length-append (omega arith) in
      rw (c, lies_cut (inside a), (fit-rule hash t).1 f, (starts_rule t (bytes "sk-")).1 (w, refl), b.read, touched_read (behind (behind at t) sig) flags counter rest h q) (ap (signature_of at) m)

-- ## A reply

-- where the signature of a reply lies
record Replied (payload : List ℕ) (hash : ℕ) (signature : List ℕ) : Type 0 where
  found : reply_at payload hash ≡ signature_of 5 (5 + length signature)
  cut : cut_of payload 5 (5 + length signature) ≡ signature

reply_read : (hash : ℕ) (t signature rest tail : List ℕ) → Bytes (14 ∷ (string (signature ++ rest) ++ tail)) → Fitting hash t → SignatureForm t signature
    → length (signature ++ rest) < 2 ^ 32 → Replied (14 ∷ (string (signature ++ rest) ++ tail)) hash signature
unfolding reply_at part
reply_read hash t signature rest tail small f form l =
    let y = signature ++ rest in
    let payload : List ℕ = 14 ∷ (string y ++ tail) in
    let n : ltb 0 (length payload) ≡ true = lt-ltb 0 (length payload) (omega arith) in
    let a : At payload 1 y = (string-stands small y tail l refl).0 in
    let front : Lies payload 0 (14 ∷ string y) (behind 1 y) =
    record { end = omega arith; within = a.lies.within; shape = ap (λ (x : List ℕ). 14 ∷ x) a.lies.shape } in
    let read : signature_at (14 ∷ string y) 5 hash ≡ signature_of 5 (5 + length signature) =
    signature_read (14 ∷ string y) (lies_bytes front small) 5 hash rest form f (omega (arith, simp length-append at l)) refl in
    record { found = rw (n, a.read, lies_cut front) read; cut = lies_cut (lies_split signature rest (inside a)).0 }

-- the signature is then written as a string
replied_writes : (payload : List ℕ) (hash : ℕ) (signature out : List ℕ) → Replied payload hash signature → WritesSignature payload hash signature out
unfolding signature_answer signature_left
replied_writes payload hash signature out r =
    let fits = string-fits signature out (length (string signature)) (write out 0 (string signature)) in
    record {
      written = λ h. rw (r.found, r.cut) (ap wrote_says (sym (fits (omega arith) (omega arith) refl).0));
      left = λ h. rw (r.found, r.cut) (sym (fits (omega arith) (omega arith) refl).1);
      short = λ h. rw (r.found, r.cut) (ap wrote_says (sym (string-short signature out (omega arith)).0));
      untouched = λ h. rw (r.found, r.cut) (sym (string-short signature out (omega arith)).1);
    }

pub signature_rule : SignatureRule
signature_rule payload hash t signature out small f c =
    replied_writes payload hash signature out
    (rw c.shape (reply_read hash t signature c.rest c.behind (rw c.shape at small) f c.form c.small))

pub signature_read_back : SignatureRead
signature_read_back hash t signature out small l f form =
    signature_rule (14 ∷ string signature) hash t signature out (bytes-cons 14 (string signature) (omega arith) (string_bytes signature small)) f
    (record {
      rest = [];
      behind = [];
      form = form;
      small = rw append-nil l;
      shape = ap (λ (v : List ℕ). 14 ∷ string v) (sym (append-nil signature)) ∙ ap (λ (v : List ℕ). 14 ∷ v) (sym (append-nil (string (signature ++ []))));
    })

-- ## What is taken has the form

byte_place : (s : List ℕ) (at b : ℕ) (k : Cursor) → byte_at s at ≡ got b k → k.at ≡ at + 1
byte_place s at b k e =
    ⊎_elim
    (λ (h : suc at ≤ length s). ap (λ (x : Cursor). x.at) (got_one (sym e ∙ sym (byte_there s at h))).1)
    (λ (h : length s < suc at). let w = byte_cut s at (omega arith) in let z : ◌≡◌ {A = ℕ} 0 1 = cc in absurd (omega arith))
    (le_or_lt (suc at) (length s))

-- a signature of a type lies from a place up to another
pub record Formed (s : List ℕ) (at : ℕ) (t : List ℕ) (end : ℕ) : Type 0 where
  pub signature : List ℕ
  pub form : SignatureForm t signature
  pub lies : Lies s at signature end

module _ (s : List ℕ) (small : Bytes s) where
  touched_taken : (at end : ℕ) → touched_end s at ≡ Ok end → (flags : ℕ) × (counter : ℕ) × (counter < 2 ^ 32) × Lies s at (flags ∷ be32 counter) end
  unfolding touched_end
  touched_taken at end =
      let P : Result ℕ Fault → Type 0 = λ r. r ≡ Ok end → (flags : ℕ) × (counter : ℕ) × (counter < 2 ^ 32) × Lies s at (flags ∷ be32 counter) end in
      number_cases P (byte_at s at) (λ _ _. fault) λ flags k e.
      number_cases P (number_at s k.at) (λ _ _. fault) λ counter l d q.
      let w = number_read s k.at counter l d in
      let p : end ≡ l.at = cc in
      let place = byte_place s at flags k e in
      let n : k.at + 4 ≡ end = omega arith in
      let front : drop at s ≡ flags ∷ drop k.at s = (byte_rule s at flags (drop k.at s)).1 (ap number_reads e ∙ ap (read flags) place, ap (λ (i : ℕ). drop i s) (sym place)) in
      let back : drop k.at s ≡ be32 counter ++ drop end s = be-shape s k.at small w.within ∙ ap₂ (λ (c i : ℕ). be32 c ++ drop i s) (sym w.number) n in
      (flags, counter, omega (arith, be-small s k.at small), record { end = omega arith; within = omega arith; shape = front ∙ ap (λ (l : List ℕ). flags ∷ l) back })

  pub end_taken : (at m : ℕ) (t : List ℕ) (end : ℕ) → Octets t → Lies s at (string t) m → signature_end s m (starts_in t (bytes "sk-")) ≡ Ok end → Formed s at t end
  unfolding signature_end
  end_taken at m t end o x =
      let P : Result ℕ Fault → Type 0 = λ r. r ≡ Ok end → Formed s at t end in
      part-cases P (string_at s m) (λ _ _. fault) λ f u k e.
      let y = took small (string-reads small) f u k e in
      cond_cases P (starts_in t (bytes "sk-"))
      (λ h q.
      let (w, is) = (starts_rule t (bytes "sk-")).0 h in
      let (flags, counter, c, z) = touched_taken u end q in
      record {
        signature = string t ++ (string y.v ++ (flags ∷ be32 counter));
        form = rw is (touched w y.v flags counter (rw is at o) c);
        lies = lies_join x (lies_join y.lies z);
      })
      (λ h q.
      let p : end ≡ u = cc in
      record {
        signature = string t ++ string y.v;
        form = plain t y.v o (λ w is. true_not_false (sym ((starts_rule t (bytes "sk-")).1 (w, is)) ∙ h));
        lies = lies_to (lies_join x y.lies) p;
      })

  -- a signature was found at a place
  signature_taken : (at hash f end : ℕ) → signature_at s at hash ≡ signature_of f end → (t : List ℕ) × Fitting hash t × Formed s at t end
  unfolding signature_at
  signature_taken at hash f end =
      let P : Result Span Refusal → Type 0 = λ r. r ≡ signature_of f end → (t : List ℕ) × Fitting hash t × Formed s at t end in
      part-cases P (text_at s at) (λ _ _. refused) λ g u k e.
      let x = took small (text_reads small) g u k e in
      cond_cases P (fits hash (cut_of s g u))
      (λ h. reach-cases P (signature_end s k.at (starts_in (cut_of s g u) (bytes "sk-"))) (λ _. refused) λ behind d q.
      let p = (signature_one q).1 in
      (x.v, (fit-rule hash x.v).0 (rw x.part at h), end_taken at k.at x.v end x.holds (lies_to x.lies x.place) (rw (x.part, p) at d)))
      (λ _. refused)

-- a reply carries a signature that fits
abbrev Answered : ℕ → List ℕ → Type 0
Answered hash payload = (t : List ℕ) × (signature : List ℕ) × Fitting hash t × CarriesSignature payload t signature

-- the signature was found in the reply's string
string-taken : (b : ℕ) (p v : List ℕ) (g u hash f end : ℕ) → Bytes (b ∷ p) → b ≡ 14 → length v < 2 ^ 32 → Lies (b ∷ p) 1 (string v) u → g ≡ 5
    → signature_at (cut_of (b ∷ p) 0 u) g hash ≡ signature_of f end → Answered hash (b ∷ p)
string-taken b p v g u hash f end small is l x from e =
    let front : Lies (b ∷ p) 0 (b ∷ string v) u = record { end = omega (arith, x.end); within = x.within; shape = ap (λ (l : List ℕ). b ∷ l) x.shape } in
    let (t, fit, y) = signature_taken (b ∷ string v) (lies_bytes front small) 5 hash f end (rw (lies_cut front, from) at e) in
    let rest = drop end (b ∷ string v) in
    let split : v ≡ y.signature ++ rest = y.lies.shape in (
      t,
      y.signature,
      fit,
      record {
        rest = rest;
        behind = drop u (b ∷ p);
        form = y.form;
        small = omega (arith, ap length split);
        shape = ap₂ ◌∷◌ is (x.shape ∙ ap (λ (l : List ℕ). string l ++ drop u (b ∷ p)) split);
      },
    )

reply_taken : (payload : List ℕ) (hash f end : ℕ) → Bytes payload → reply_at payload hash ≡ signature_of f end → Answered hash payload
unfolding reply_at
reply_taken [] hash f end small = refused
reply_taken (b ∷ p) hash f end small =
    let P : Result Span Refusal → Type 0 = λ r. r ≡ signature_of f end → Answered hash (b ∷ p) in
    cond_cases P (ltb 0 (length (b ∷ p)))
    (λ _. cond_cases P (eqb b 5) (λ _. refused)
    (λ _. cond_cases P (eqb b 14)
    (λ h. part-cases P (string_at (b ∷ p) 1) (λ _ _. refused) λ g u k e.
    let y = took small {at = 1} (string-reads small) g u k e in
    string-taken b p y.v g u hash f end small (eqb-true b 14 h) y.small y.lies y.from)
    (λ _. refused)))
    (λ _. refused)

-- an answer that is a length comes of a signature that was found
answer_found : (payload : List ℕ) (hash : ℕ) (out : List ℕ) (n : ℕ) → Bytes payload → wrote_says (signature_answer payload hash out) ≡ grants n → Answered hash payload
unfolding signature_answer
answer_found payload hash out n small = go (reply_at payload hash) refl
  where
    go : (r : Result Span Refusal) → reply_at payload hash ≡ r → wrote_says (wrote_of payload out r) ≡ grants n → Answered hash payload
    go (Ok p) e q = reply_taken payload hash p.from p.to small e
    go (Err why) e q = not_granted q

pub written-rule : WrittenRule
written-rule payload hash out n small = (
  (λ e.
      let (t, signature, fit, c) = answer_found payload hash out n small e in
      let w = signature_rule payload hash t signature out small fit c in
      ⊎_elim
      (λ (h : length (string signature) ≤ length out). let q = w.written h in let p : length (string signature) ≡ n = cc in (t, signature, fit, c, p, omega arith))
      (λ (h : length out < length (string signature)). not_granted (sym (w.short h) ∙ e))
      (le_or_lt (length (string signature)) (length out))),
  (λ (t, signature, fit, c, p, h). (signature_rule payload hash t signature out small fit c).written (omega arith) ∙ ap grants p),
)
