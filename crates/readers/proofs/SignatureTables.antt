-- When each answer of the signature reader comes: what was read up to a test has the draft's form, and the test then decides; bytes are below 256.
use lib.Dec.{leb}
use Prim.Native.Nat.{ℕ, ◌+◌, ◌^◌, ◌≤◌, ◌<◌}
use mathlib.Core.Path.{◌≡◌, refl, sym, ap, ◌∙◌}
use mathlib.Core.List.{List, [], ◌∷◌, ◌++◌, append-nil}
use mathlib.Core.Bool.{Bool, true, false, cond}
use native.Mathlib.Omega.{arith}
use borrow.Author.Tests.{lt-ltb, ne_eqb}
use lib.ListN.{length, drop, length-append}
use Rattle.wire.specs.Numbers.{Bytes}
use Rattle.wire.specs.Texts.{bytes}
use Rattle.wire.specs.Abnf.{Octets}
use Rattle.wire.specs.Read.{cut_of, string_at, text_at}
use Rattle.wire.specs.Steps.{number, part}
use Rattle.wire.specs.Write.{string, write}
use Rattle.wire.specs.Promises.{NoString}
use Rattle.wire.specs.declared.refusal.Refusal.TheVariants.{OutputTooShort, Malformed, UnfitType}
use Rattle.wire.specs.declared.refusal.Refusal.{Refusal}
use Rattle.wire.specs.Refusals.{Where, no_place, at_place, refuses, wrote_says}
use Rattle.wire.proofs.Reading.{byte_cut, number_cut}
use Rattle.wire.proofs.Strings.{Lies, lies_cut, lies_bytes, behind, At, inside, string-stands, string-reads, text_reads, took, string-missing, text_missing, no_text}
use Rattle.wire.proofs.Cases.{part-cases}
use Rattle.wire.proofs.RefusalLaws.{granted}
use Rattle.std.specs.Prelude.{Result, Ok, Err}
use Rattle.wire.specs.Steps.{faulted}
use Rattle.wire.specs.declared.read.Span.{Span}
use Rattle.readers.specs.Reaches.{reach}
use Rattle.readers.specs.Signatures.{signature_of, fits, starts_in, touched_end, signature_end, signature_at, reply_at, string_answer, string_left, wrote_of, left_of, signature_answer, signature_left}
use Rattle.readers.specs.Promises.{Fitting, CarriesSignature, Typed, SignatureFault, string-cut, type_cut, type_no_text, signature_cut, flags_cut, counter_cut, SignatureTable}
use Rattle.readers.proofs.ReadSteps.{reach-cases}
use Rattle.readers.proofs.FormLaws.{starts_rule}
use Rattle.readers.proofs.SignatureRoundTrips.{fit-rule, octet_at, signature_rule, end_taken}

not_fit : (hash : ℕ) (t : List ℕ) → (Fitting hash t → ⊥) → fits hash t ≡ false
not_fit hash t never = go (fits hash t) refl
  where
    go : (b : Bool) → fits hash t ≡ b → b ≡ false
    go true e = absurd (never ((fit-rule hash t).0 e))
    go false e = refl

module _ (hash : ℕ) (out : List ℕ) where
  -- ## The first byte

  failed : (p : List ℕ) → wrote_says (signature_answer (5 ∷ p) hash out) ≡ refuses 14 no_place
  unfolding signature_answer reply_at
  failed p = rw (lt-ltb 0 (length (5 ∷ p)) (omega arith))

  other_reply : (payload : List ℕ) → ((p : List ℕ) → payload ≡ 5 ∷ p → ⊥) → ((p : List ℕ) → payload ≡ 14 ∷ p → ⊥) → wrote_says (signature_answer payload hash out) ≡ refuses 15 no_place
  unfolding signature_answer reply_at
  other_reply [] f g = refl
  other_reply (b ∷ p) f g =
      rw (lt-ltb 0 (length (b ∷ p)) (omega arith), ne_eqb b 5 (λ e. f p (ap (λ (x : ℕ). x ∷ p) e)), ne_eqb b 14 (λ e. g p (ap (λ (x : ℕ). x ∷ p) e)))

  -- ## The type

  -- inside the reply's string
  no_text_there : (payload y tail whole : List ℕ) (at : ℕ) → whole ≡ 14 ∷ string y → at ≡ 5 → Bytes (14 ∷ string y) → length y < 2 ^ 32
      → payload ≡ 14 ∷ (string y ++ tail) → ((t : List ℕ) → Typed payload t → ⊥) → (place : ℕ) × (wrote_says (wrote_of payload out (signature_at whole at hash)) ≡ refuses 12 (at_place place))
  unfolding signature_at
  no_text_there payload y tail whole at cut from small l is never =
      let s : List ℕ = 14 ∷ string y in
      rw (cut, from)
      (part-cases (λ (r : Result Span Refusal). (place : ℕ) × (wrote_says (wrote_of payload out r) ≡ refuses 12 (at_place place))) (text_at s 5) (λ at _. (at, refl)) λ f t k e.
      let x = took small {at = 5} (text_reads small) f t k e in
      let split : y ≡ string x.v ++ drop t s = x.lies.shape in
      absurd (never x.v
      (record {
        rest = drop t s;
        behind = tail;
        text = x.holds;
        small = omega (arith, ap length split);
        shape = is ∙ ap (λ (v : List ℕ). 14 ∷ (string v ++ tail)) split;
      })))

  fourteen : (p : List ℕ) → Bytes (14 ∷ p) → ((t : List ℕ) → Typed (14 ∷ p) t → ⊥) → (place : ℕ) × (wrote_says (signature_answer (14 ∷ p) hash out) ≡ refuses 12 (at_place place))
  unfolding signature_answer reply_at
  fourteen p small never =
      let payload : List ℕ = 14 ∷ p in
      rw (lt-ltb 0 (length payload) (omega arith))
      (part-cases (λ (r : Result Span Refusal). (place : ℕ) × (wrote_says (wrote_of payload out r) ≡ refuses 12 (at_place place))) (string_at payload 1) (λ _ _. (_, refl)) λ g u k e.
      let y = took small {at = 1} (string-reads small) g u k e in
      let is : payload ≡ 14 ∷ (string y.v ++ drop u payload) = ap (λ (l : List ℕ). 14 ∷ l) y.lies.shape in
      let front : Lies payload 0 (14 ∷ string y.v) u = record { end = omega (arith, y.lies.end); within = y.lies.within; shape = is } in
      no_text_there payload y.v (drop u payload) (cut_of payload 0 u) g (lies_cut front) y.from (lies_bytes front small) y.small is never)

-- ## Behind the type

-- a string was read: what is left is read inside it
record Enters (payload : List ℕ) (hash : ℕ) (y : List ℕ) : Type 0 where
  small : Bytes (14 ∷ string y)
  goes_in : reply_at payload hash ≡ signature_at (14 ∷ string y) 5 hash

enters : (hash : ℕ) (y tail : List ℕ) → length y < 2 ^ 32 → Bytes (14 ∷ (string y ++ tail)) → Enters (14 ∷ (string y ++ tail)) hash y
unfolding reply_at part
enters hash y tail l small =
    let payload : List ℕ = 14 ∷ (string y ++ tail) in
    let a : At payload 1 y = (string-stands small y tail l refl).0 in
    let front : Lies payload 0 (14 ∷ string y) (behind 1 y) =
    record { end = omega arith; within = a.lies.within; shape = ap (λ (x : List ℕ). 14 ∷ x) a.lies.shape } in
    record { small = lies_bytes front small; goes_in = rw (lt-ltb 0 (length payload) (omega arith), a.read, lies_cut front) }

-- a type was read: what is left to be tested, inside the reply's string
record Continues (payload : List ℕ) (hash : ℕ) (t rest : List ℕ) : Type 0 where
  small : Bytes (14 ∷ string (string t ++ rest))
  lies : Lies (14 ∷ string (string t ++ rest)) 5 (string t) (behind 5 t)
  next : drop (behind 5 t) (14 ∷ string (string t ++ rest)) ≡ rest
  goes_on : reply_at payload hash
      ≡ cond (fits hash t)
      (reach (λ place. Err (Malformed place)) (signature_end (14 ∷ string (string t ++ rest)) (behind 5 t) (starts_in t (bytes "sk-"))) (λ end. signature_of 5 end))
      (Err UnfitType)

continues : (hash : ℕ) (t rest tail : List ℕ) → Octets t → length (string t ++ rest) < 2 ^ 32 → Bytes (14 ∷ (string (string t ++ rest) ++ tail))
    → Continues (14 ∷ (string (string t ++ rest) ++ tail)) hash t rest
unfolding signature_at part
continues hash t rest tail o l small =
    let x = enters hash (string t ++ rest) tail l small in
    let n = simp length-append at l in
    let (b, r) = string-stands x.small {at = 5} t rest (omega arith) refl in
    let c = (text_reads x.small).takes b o in
    record { small = x.small; lies = b.lies; next = r; goes_on = x.goes_in ∙ rw (c, lies_cut (inside b)) }

module _ (payload : List ℕ) (hash : ℕ) (out : List ℕ) (small : Bytes payload) (t : List ℕ) (typed : Typed payload t) where
  typed_continues : Continues payload hash t typed.rest
  typed_continues = rw typed.shape (continues hash t typed.rest typed.behind typed.text typed.small (rw typed.shape at small))

  unfit_there : (Fitting hash t → ⊥) → wrote_says (signature_answer payload hash out) ≡ refuses 13 no_place
  unfolding signature_answer
  unfit_there never = rw (typed_continues.goes_on, not_fit hash t never)

  none_there : Fitting hash t → ((signature : List ℕ) → CarriesSignature payload t signature → ⊥) → (place : ℕ) × (wrote_says (signature_answer payload hash out) ≡ refuses 12 (at_place place))
  unfolding signature_answer
  none_there fit never =
      let s : List ℕ = 14 ∷ string (string t ++ typed.rest) in
      let c = typed_continues in
      rw (c.goes_on, (fit-rule hash t).1 fit)
      (reach-cases (λ (r : Result Span Refusal). (place : ℕ) × (wrote_says (wrote_of payload out r) ≡ refuses 12 (at_place place))) (signature_end s (behind 5 t) (starts_in t (bytes "sk-"))) (λ place. (place, refl)) λ end e.
      let y = end_taken s c.small 5 (behind 5 t) t end typed.text c.lies e in
      let split : string t ++ typed.rest ≡ y.signature ++ drop end s = y.lies.shape in
      absurd (never y.signature
      (record {
        rest = drop end s;
        behind = typed.behind;
        form = y.form;
        small = omega (arith, ap length split, typed.small);
        shape = typed.shape ∙ ap (λ (v : List ℕ). 14 ∷ (string v ++ typed.behind)) split;
      })))

-- ## Where a reply is malformed

-- behind a type that fits the hash
module _ (hash : ℕ) (t rest tail : List ℕ) (o : Octets t) (l : length (string t ++ rest) < 2 ^ 32) (small : Bytes (14 ∷ (string (string t ++ rest) ++ tail)))
    (fit : Fitting hash t) where
  stops : (touched : Bool) (place : ℕ) → starts_in t (bytes "sk-") ≡ touched → signature_end (14 ∷ string (string t ++ rest)) (behind 5 t) touched ≡ faulted place
      → reply_at (14 ∷ (string (string t ++ rest) ++ tail)) hash ≡ Err (Malformed place)
  unfolding reach
  stops touched place is e = (continues hash t rest tail o l small).goes_on ∙ rw ((fit-rule hash t).1 fit, is, e)

  no_signature_there : NoString rest → reply_at (14 ∷ (string (string t ++ rest) ++ tail)) hash ≡ Err (Malformed (9 + length t))
  unfolding signature_end part
  no_signature_there never =
      let c = continues hash t rest tail o l small in
      let place : behind 5 t ≡ 9 + length t = omega arith in
      stops (starts_in t (bytes "sk-")) (9 + length t) refl
      (rw (string-missing (14 ∷ string (string t ++ rest)) c.small (behind 5 t) (rw c.next never)) (ap faulted place))

-- behind the signature of a touch key
abbrev touch : List ℕ → List ℕ
touch w = bytes "sk-" ++ w

module _ (hash : ℕ) (w sig rest more tail : List ℕ) (is : rest ≡ string sig ++ more) (o : Octets (touch w)) (l : length (string (touch w) ++ rest) < 2 ^ 32)
    (small : Bytes (14 ∷ (string (string (touch w) ++ rest) ++ tail))) (fit : Fitting hash (touch w)) where
  -- where it ends
  record Ends : Type 0 where
    next : drop (behind (behind 5 (touch w)) sig) (14 ∷ string (string (touch w) ++ rest)) ≡ more
    stops_at : (place : ℕ) → touched_end (14 ∷ string (string (touch w) ++ rest)) (behind (behind 5 (touch w)) sig) ≡ faulted place
        → reply_at (14 ∷ (string (string (touch w) ++ rest) ++ tail)) hash ≡ Err (Malformed place)

  ends : Ends
  unfolding signature_end part
  ends =
      let c = continues hash (touch w) rest tail o l small in
      let n = simp length-append at l in
      let m = simp length-append at (ap length is) in
      let (b, r) = string-stands c.small {at = behind 5 (touch w)} sig more (omega arith) (c.next ∙ is) in
      record { next = r; stops_at = λ place e. stops hash (touch w) rest tail o l small fit true place ((starts_rule (touch w) (bytes "sk-")).1 (w, refl)) (rw b.read e) }

touch-none : (s : List ℕ) (at : ℕ) → length s ≤ at → touched_end s at ≡ faulted at
unfolding touched_end number
touch-none s at h = rw (← byte_cut s at h)

touch-short : (s : List ℕ) (at flags : ℕ) (rest : List ℕ) → drop at s ≡ flags ∷ rest → length s < at + 1 + 4 → touched_end s at ≡ faulted (at + 1)
unfolding touched_end number
touch-short s at flags rest e h = rw (octet_at s at flags rest e, ← number_cut s (at + 1) h)

pub fault_there : (hash : ℕ) (p : List ℕ) (place : ℕ) → Bytes (14 ∷ p) → SignatureFault hash p place → reply_at (14 ∷ p) hash ≡ Err (Malformed place)
unfolding reply_at signature_at part
fault_there hash p place small (string-cut q never) = rw (lt-ltb 0 (length (14 ∷ q)) (omega arith), string-missing (14 ∷ q) small 1 never)
fault_there hash p place small (type_cut v tail l never) =
    let x = enters hash v tail l small in x.goes_in ∙ rw (text_missing (14 ∷ string v) x.small 5 never)
fault_there hash p place small (type_no_text t rest tail n l never long) =
    let x = enters hash (string t ++ rest) tail l small in
    let m = simp length-append at l in
    let b : At (14 ∷ string (string t ++ rest)) 5 t = (string-stands x.small {at = 5} t rest (omega arith) refl).0 in
    x.goes_in ∙ rw (no_text b never long)
fault_there hash p place small (signature_cut t rest tail l o fit never) = no_signature_there hash t rest tail o l small fit never
fault_there hash p place small (flags_cut w sig tail l o fit) =
    let t = touch w in
    let at = behind (behind 5 t) sig in
    let s : List ℕ = 14 ∷ string (string t ++ string sig) in
    let n : length (string t ++ string sig) ≡ 4 + length t + 4 + length sig = simp length-append (omega arith) in
    let end : at ≡ 9 + length t + 4 + length sig = omega arith in
    (ends hash w sig (string sig) [] tail (sym (append-nil (string sig))) o l small fit).stops_at _ (touch-none s at (omega arith) ∙ ap faulted end)
fault_there hash p place small (counter_cut w sig rest tail flags l o fit h) =
    let t = touch w in
    let at = behind (behind 5 t) sig in
    let s : List ℕ = 14 ∷ string (string t ++ (string sig ++ (flags ∷ rest))) in
    let x = ends hash w sig (string sig ++ (flags ∷ rest)) (flags ∷ rest) tail refl o l small fit in
    let n : length (string t ++ (string sig ++ (flags ∷ rest))) ≡ 4 + length t + 4 + length sig + 1 + length rest = simp length-append (omega arith) in
    let end : at + 1 ≡ 9 + length t + 4 + length sig + 1 = omega arith in
    x.stops_at _ (touch-short s at flags rest x.next (omega arith) ∙ ap faulted end)

-- ## Refusals

module _ (payload : List ℕ) (hash : ℕ) (out : List ℕ) (n : ℕ) (w : Where) where
  short_left : (b : Bool) (m : ℕ) (left : List ℕ) → wrote_says (cond b (Ok m) (Err OutputTooShort)) ≡ refuses n w → cond b left out ≡ out
  short_left true m left e = granted e
  short_left false m left e = refl

  refused_left : wrote_says (signature_answer payload hash out) ≡ refuses n w → signature_left payload hash out ≡ out
  unfolding signature_answer signature_left string_answer string_left
  refused_left = go (reply_at payload hash)
    where
      go : (r : Result Span Refusal) → wrote_says (wrote_of payload out r) ≡ refuses n w → left_of payload out r ≡ out
      go (Ok p) e =
          let v = cut_of payload p.from p.to in
          short_left (leb (4 + length v) (length out)) (4 + length v) (write out 0 (string v)) e
      go (Err why) e = refl

fault_answered : (hash : ℕ) (out p : List ℕ) (place : ℕ) → Bytes (14 ∷ p) → SignatureFault hash p place
    → wrote_says (signature_answer (14 ∷ p) hash out) ≡ refuses 12 (at_place place)
unfolding signature_answer
fault_answered hash out p place small f = rw (fault_there hash p place small f)

pub signature_table : SignatureTable
signature_table payload hash out small = record {
  failure = λ p e. rw e (failed hash out p);
  other = other_reply hash out payload;
  no_type = λ p e never. rw e (fourteen hash out p (rw e at small) (rw e at never));
  unfit = unfit_there payload hash out small;
  no_signature = none_there payload hash out small;
  fault_at = λ p place e f. rw e (fault_answered hash out p place (rw e at small) f);
  short = λ t signature fit c h. (signature_rule payload hash t signature out small fit c).short h;
  written = λ t signature fit c h. (signature_rule payload hash t signature out small fit c).written h;
  untouched = refused_left payload hash out;
}
