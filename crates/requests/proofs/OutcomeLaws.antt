-- The values of an outcome say it, since each can be read back from them; so do they and the reply buffer of the rule's.
use mathlib.Core.Bool.{cond}
use Prim.Native.Nat.{ℕ}
use mathlib.Core.Path.{◌≡◌, refl, sym, ap, ◌∙◌}
use mathlib.Core.List.{List, [], ◌∷◌}
use lib.Dec.{eqb}
use lib.ListN.{get_or, length, take}
use lib.Seq.{take_at}
use Rattle.wire.specs.Write.{write}
use Rattle.rule.specs.declared.Hash.{Hash}
use Rattle.rule.specs.declared.Hash.TheVariants.{Plain, Sha256, Sha512}
use Rattle.rule.specs.Rule.{gate, check, confirmation, signature, reply, close}
use Rattle.rule.specs.Calls as rule
use Rattle.rule.specs.Calls.{refused, asks, lands}
use Rattle.requests.specs.declared.Outcome.{Outcome}
use Rattle.requests.specs.declared.Outcome.TheVariants.{Refused, Gate, Check, Confirm, Sign, Reply, Close}
use Rattle.requests.specs.Outcomes.{hash_bits, outcome_values, OutcomesApart, code, written, OutcomesTold, hash_in, outcome_for, outcome_in, OutcomesRead}

hash_in_lem : (h : Hash) → hash_in (hash_bits h) ≡ h
hash_in_lem Plain = refl
hash_in_lem Sha256 = refl
hash_in_lem Sha512 = refl

-- the code's word by the kind, and the values behind it
word_for : ℕ → (ℕ → ℕ) → Outcome
word_for kind value =
    cond (eqb kind 0) (Refused (value 1))
    (cond (eqb kind 1) (Gate (value 1))
    (cond (eqb kind 2) (Check (value 1) (value 2))
    (cond (eqb kind 3) (Confirm (value 1))
    (cond (eqb kind 4) (Sign (value 1) (value 2) (value 3) (hash_in (value 4)))
    (cond (eqb kind 5) (Reply (value 1)) Close)))))

pub word_in : List ℕ → Outcome
word_in vs = word_for (get_or vs 0 0) (λ i. get_or vs i 0)

pub word_in_lem : (o : Outcome) → word_in (outcome_values o) ≡ o
unfolding word_for word_in
word_in_lem (Refused n) = refl
word_in_lem (Gate class) = refl
word_in_lem (Check from to) = refl
word_in_lem (Confirm n) = refl
word_in_lem (Sign n from to hash) = ap (Sign n from to) (hash_in_lem hash)
word_in_lem (Reply n) = refl
word_in_lem Close = refl

pub outcomes_apart : OutcomesApart
outcomes_apart a b e = sym (word_in_lem a) ∙ ap word_in e ∙ word_in_lem b

-- what is written at the front of a buffer is its first bytes
front : (buffer bytes : List ℕ) → take (length bytes) (write buffer 0 bytes) ≡ bytes
unfolding write
front buffer bytes = take_at bytes _ (length bytes) refl

pub outcomes_read : OutcomesRead
unfolding code written outcome_for
outcomes_read (refused n) buffer = refl
outcomes_read (asks (gate class)) buffer = refl
outcomes_read (asks (check from to)) buffer = refl
outcomes_read (asks (confirmation n)) buffer = refl
outcomes_read (asks (signature n from to hash)) buffer = ap (λ (h : Hash). asks (signature n from to h)) (hash_in_lem hash)
outcomes_read (lands (reply bytes)) buffer = ap (λ (b : List ℕ). lands (reply b)) (front buffer bytes)
outcomes_read (lands close) buffer = refl

-- ## What is told

module _ (o : rule.Outcome) where
  told : (x : rule.Outcome) → o ≡ x → outcome_values (code o) ≡ outcome_values (code x)
  told x e = ap (λ (x : rule.Outcome). outcome_values (code x)) e

  read : (values : List ℕ) → outcome_values (code o) ≡ values → o ≡ outcome_in values (written o [])
  read values e = sym (outcomes_read o []) ∙ ap (λ (vs : List ℕ). outcome_in vs (written o [])) e

pub outcomes_told : OutcomesTold
unfolding code outcome_for
outcomes_told o = record {
  refusal = λ n. (told o (refused n), read o (0 ∷ n ∷ []));
  gate_class = λ class. (told o (asks (gate class)), read o (1 ∷ class ∷ []));
  check_part = λ from to. (told o (asks (check from to)), read o (2 ∷ from ∷ to ∷ []));
  confirmation_asked = λ n. (told o (asks (confirmation n)), read o (3 ∷ n ∷ []));
  signature_plain = λ n from to. (told o (asks (signature n from to Plain)), read o (4 ∷ n ∷ from ∷ to ∷ 0 ∷ []));
  signature_256 = λ n from to. (told o (asks (signature n from to Sha256)), read o (4 ∷ n ∷ from ∷ to ∷ 256 ∷ []));
  signature_512 = λ n from to. (told o (asks (signature n from to Sha512)), read o (4 ∷ n ∷ from ∷ to ∷ 512 ∷ []));
  reply_length = λ bytes. told o (lands (reply bytes));
  closing = (told o (lands close), read o (6 ∷ []));
}
