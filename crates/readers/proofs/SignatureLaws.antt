-- Laws of the signature reader: what each hash asks for, the ways out of it, the two ends of its writer, and that a signature is no longer than its string can be.
use Prim.Native.Nat.{ℕ, ◌+◌, ◌-◌, ◌^◌, ◌≤◌, ◌<◌}
use mathlib.Core.Path.{◌≡◌, refl, sym, ap}
use mathlib.Core.List.{List}
use mathlib.Core.Bool.{Bool, true, false}
use mathlib.Core.Logic.{⊎_elim}
use native.Mathlib.Omega.{arith}
use borrow.Author.Tests.{le-leb, lt-leb, ne_eqb}
use lib.Dec.{ltb, eqb}
use lib.ListN.{length, get_or}
use Rattle.wire.specs.Numbers.{Bytes}
use Rattle.wire.specs.Texts.{bytes}
use Rattle.wire.specs.Read.{cut_of, same, byte_at, number_at, string_at, text_at}
use Rattle.wire.specs.Write.{write, string}
use Rattle.wire.specs.declared.refusal.Refusal.{Refusal}
use Rattle.wire.specs.declared.refusal.Refusal.TheVariants.{OutputTooShort}
use Rattle.wire.specs.declared.refusal.Refusal.{Refusal}
use Rattle.wire.proofs.Reading.{le_or_lt, cut_past, cut_back, string-read, number_read}
use Rattle.wire.proofs.Format.{be-small, part_length}
use Rattle.wire.proofs.Cases.{cond_cases, part-cases, number_cases}
use Rattle.std.specs.Prelude.{Result, Ok, Err}
use Rattle.wire.specs.declared.read.Fault.{Fault}
use Rattle.wire.specs.declared.read.Span.{Span}
use Rattle.readers.specs.Signatures.{signature_of, fits, starts_in, touched_end, signature_end, signature_at, reply_at, string_answer, string_left}
use Rattle.readers.proofs.ReadSteps.{reach-cases, fault}

-- ## The hash that was asked for

module _ (hash : ℕ) (t : List ℕ) where
  pub fits-any : hash ≡ 0 → true ≡ fits hash t
  unfolding fits
  fits-any e = rw e

  pub fits-256 : (b : Bool) → hash ≡ 2 → b ≡ same t (bytes "rsa-sha2-256") → b ≡ fits hash t
  unfolding fits
  fits-256 b e f = rw e f

  pub fits-512 : (b : Bool) → hash ≡ 4 → b ≡ same t (bytes "rsa-sha2-512") → b ≡ fits hash t
  unfolding fits
  fits-512 b e f = rw e f

  pub fits-none : (hash ≡ 0 → ⊥) → (hash ≡ 2 → ⊥) → (hash ≡ 4 → ⊥) → false ≡ fits hash t
  unfolding fits
  fits-none p q r = rw (ne_eqb _ _ p, ne_eqb _ _ q, ne_eqb _ _ r)

-- ## Writing a string

module _ (v out : List ℕ) where
  pub string-short : length out < 4 + length v → (◌≡◌ {A = Result ℕ Refusal} (Err OutputTooShort) (string_answer v out)) × (out ≡ string_left v out)
  unfolding string_answer string_left
  string-short h = rw (lt-leb (4 + length v) (length out) h) (refl, refl)

  pub string-fits : (end : ℕ) (after : List ℕ) → 4 + length v ≤ length out → end ≡ 4 + length v → after ≡ write out 0 (string v)
      → (Ok end ≡ string_answer v out) × (after ≡ string_left v out)
  unfolding string_answer string_left
  string-fits end after h e f = rw (le-leb (4 + length v) (length out) h) (ap Ok e, f)

-- ## How long a signature can be

pub signature_one : {f t g u : ℕ} → signature_of f t ≡ signature_of g u → (f ≡ g) × (t ≡ u)
signature_one {f} {t} {g} {u} e =
    let v : ◌≡◌ {A = Span} (record { from = f; to = t }) (record { from = g; to = u }) = cc in
    (ap (λ (x : Span). x.from) v, ap (λ (x : Span). x.to) v)

-- where the answer is refused, nothing is to be shown of a signature
pub refused : {why : Refusal} {f t : ℕ} {A : Type 0} → ◌≡◌ {A = Result Span Refusal} (Err why) (signature_of f t) → A
refused e = let z : ◌≡◌ {A = ℕ} 0 1 = cc in absurd (omega arith)

touched_within : (s : List ℕ) (at end : ℕ) → touched_end s at ≡ Ok end → end ≤ length s
unfolding touched_end
touched_within s at end =
    let P : Result ℕ Fault → Type 0 = λ r. r ≡ Ok end → end ≤ length s in
    number_cases P (byte_at s at) (λ _ _. fault) λ flags k _.
    number_cases P (number_at s k.at) (λ _ _. fault) λ counter l e q.
    let w = number_read s k.at counter l e in
    let p : l.at ≡ end = cc in
    omega arith

end_within : (s : List ℕ) (at : ℕ) (touched : Bool) (end : ℕ) → signature_end s at touched ≡ Ok end → end ≤ length s
unfolding signature_end
end_within s at touched end =
    let P : Result ℕ Fault → Type 0 = λ r. r ≡ Ok end → end ≤ length s in
    part-cases P (string_at s at) (λ _ _. fault) λ f t k e.
    cond_cases P touched (λ _. touched_within s t end) λ _ q.
    let w = string-read s at f t k e in
    let p : t ≡ end = cc in
    omega arith

-- the answer's places
record Within (s : List ℕ) (at f t : ℕ) : Type 0 where
  start : f ≡ at
  end : t ≤ length s

signature_within : (s : List ℕ) (at hash f t : ℕ) → signature_at s at hash ≡ signature_of f t → Within s at f t
unfolding signature_at
signature_within s at hash f t =
    let P : Result Span Refusal → Type 0 = λ r. r ≡ signature_of f t → Within s at f t in
    part-cases P (text_at s at) (λ _ _. refused) λ g u k _.
    cond_cases P (fits hash (cut_of s g u))
    (λ _. reach-cases P (signature_end s k.at (starts_in (cut_of s g u) (bytes "sk-"))) (λ _. refused) λ end e q.
    let p = signature_one q in
    record { start = sym p.0; end = omega (arith, end_within s k.at (starts_in (cut_of s g u) (bytes "sk-")) end e) })
    (λ _. refused)

cut_length : (s : List ℕ) (f t : ℕ) → length (cut_of s f t) ≤ t - f
cut_length s f t =
    ⊎_elim
    (λ h. ⊎_elim (λ k. omega (arith, part_length s f t h k)) (λ k. rw (← cut_past s f t h k) (omega arith)) (le_or_lt t (length s)))
    (λ h. rw (← cut_back s f t h) (omega arith))
    (le_or_lt f t)

pub reply_small : (payload : List ℕ) (hash f t : ℕ) → Bytes payload → reply_at payload hash ≡ signature_of f t → length (cut_of payload f t) < 2 ^ 32
unfolding reply_at
reply_small payload hash f t small =
    let P : Result Span Refusal → Type 0 = λ r. r ≡ signature_of f t → length (cut_of payload f t) < 2 ^ 32 in
    cond_cases P (ltb 0 (length payload))
    (λ _. cond_cases P (eqb (get_or payload 0 0) 5) (λ _. refused)
    (λ _. cond_cases P (eqb (get_or payload 0 0) 14)
    (λ _. part-cases P (string_at payload 1) (λ _ _. refused) λ g u k e q.
    let w = string-read payload 1 g u k e in
    let n = be-small payload 1 small in
    let front = part_length payload 0 u (omega arith) w.within in
    let r = signature_within (cut_of payload 0 u) g hash f t q in
    let c = cut_length payload f t in
    omega arith)
    (λ _. refused)))
    (λ _. refused)
