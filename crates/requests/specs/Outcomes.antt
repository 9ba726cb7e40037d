-- What the code's enums stand for: the answers that are lent, and 01's six outcomes and its refusals.
use Rattle.std.specs.Prelude.{Option as Perhaps, Some, None, ℕ, ◌≡◌, ◌↔◌, Bool, true, false, cond, List, [], ◌∷◌, length, get_or, take, eqb}
use Rattle.std.proofs.Math.Option.{Option, none, some}
use Rattle.wire.specs.Promises.{OneToOne}
use Rattle.wire.specs.Write.{write}
use Rattle.rule.specs.declared.Hash.{Hash}
use Rattle.rule.specs.declared.Hash.TheVariants.{Plain, Sha256, Sha512}
use Rattle.rule.specs.Rule.{gate, check, confirmation, signature, reply, close}
use Rattle.rule.specs.Calls as rule
use Rattle.rule.specs.Calls.{Numbered, for_number, refused, asks, lands}
use Rattle.requests.specs.declared.Said.{Said}
use Rattle.requests.specs.declared.Said.TheVariants as said
use Rattle.requests.specs.declared.Confirmation.{Confirmation}
use Rattle.requests.specs.declared.Signed.{Signed}
use Rattle.requests.specs.declared.Signed.TheVariants as signed
use Rattle.requests.specs.declared.Answers.{Answers}
use Rattle.requests.specs.declared.Outcome.{Outcome}
use Rattle.requests.specs.declared.Outcome.TheVariants.{Refused, Gate, Check, Confirm, Sign, Reply, Close}

-- ## The answers that are lent; a signature's bytes stand beside them

abbrev pub grant_of : Said → Option Bool
grant_of said.Missing = none
grant_of said.No = some false
grant_of said.Yes = some true

abbrev pub confirmation_of : Perhaps Confirmation → Option (Numbered Bool)
confirmation_of None = none
confirmation_of (Some c) = some (record { number = c.number; answer = c.granted })

-- what is said of a signature with a key of this number: yes where it has no Confirm, else the confirmation that counts for it
unfoldable pub agreed : ℕ → Bool → Option (Numbered Bool) → Option Bool
agreed number confirm c = cond confirm (for_number number c) (some true)

abbrev pub signature_of : Signed → List ℕ → Option (Numbered (Option (List ℕ)))
signature_of signed.Missing bytes = none
signature_of (signed.Nothing n) bytes = some (record { number = n; answer = none })
signature_of (signed.Given n) bytes = some (record { number = n; answer = some bytes })

unfoldable pub lent_of : Answers → List ℕ → rule.Answers
lent_of a bytes = record { gate = grant_of a.gate; check = grant_of a.check; confirmation = confirmation_of a.confirmation; signature = signature_of a.signature bytes }

-- what the signer handed over, if its answer counts
abbrev pub handed : Said → List ℕ → Option (Option (List ℕ))
handed said.Missing bytes = none
handed said.No bytes = some none
handed said.Yes bytes = some (some bytes)

-- ## The outcome

-- the code's word for each outcome of the rule
unfoldable pub code : rule.Outcome → Outcome
code (refused n) = Refused n
code (asks (gate class)) = Gate class
code (asks (check from to)) = Check from to
code (asks (confirmation n)) = Confirm n
code (asks (signature n from to hash)) = Sign n from to hash
code (lands (reply bytes)) = Reply (length bytes)
code (lands close) = Close

-- "A reply fills the first bytes of the reply buffer; all its other bytes, and in other outcomes all its bytes, stay."
unfoldable pub written : rule.Outcome → List ℕ → List ℕ
written (refused n) buffer = buffer
written (asks q) buffer = buffer
written (lands (reply bytes)) buffer = write buffer 0 bytes
written (lands close) buffer = buffer

-- ## 01's numbers and values

-- the bits of a hash, 0 for none
abbrev pub hash_bits : Hash → ℕ
hash_bits Plain = 0
hash_bits Sha256 = 256
hash_bits Sha512 = 512

-- the kind of an outcome, and its values: 0 refused and its number; 1 gate and its class; 2 check and its part; 3 confirmation and its
-- insertion number; 4 signature, its insertion number, its part and its hash; 5 reply and its length; 6 close
abbrev pub outcome_values : Outcome → List ℕ
outcome_values (Refused n) = 0 ∷ n ∷ []
outcome_values (Gate class) = 1 ∷ class ∷ []
outcome_values (Check from to) = 2 ∷ from ∷ to ∷ []
outcome_values (Confirm n) = 3 ∷ n ∷ []
outcome_values (Sign n from to hash) = 4 ∷ n ∷ from ∷ to ∷ hash_bits hash ∷ []
outcome_values (Reply n) = 5 ∷ n ∷ []
outcome_values Close = 6 ∷ []

abbrev pub OutcomesApart : Type 0
OutcomesApart = OneToOne Outcome (List ℕ) outcome_values

-- the rule's outcome in 01's numbers
pub record InNumbers (o : rule.Outcome) (values : List ℕ) : Type 0 where
  pub refusal : (n : ℕ) → (o ≡ refused n) ↔ (values ≡ 0 ∷ n ∷ [])
  pub gate_class : (class : ℕ) → (o ≡ asks (gate class)) ↔ (values ≡ 1 ∷ class ∷ [])
  pub check_part : (from to : ℕ) → (o ≡ asks (check from to)) ↔ (values ≡ 2 ∷ from ∷ to ∷ [])
  pub confirmation_asked : (n : ℕ) → (o ≡ asks (confirmation n)) ↔ (values ≡ 3 ∷ n ∷ [])
  pub signature_plain : (n from to : ℕ) → (o ≡ asks (signature n from to Plain)) ↔ (values ≡ 4 ∷ n ∷ from ∷ to ∷ 0 ∷ [])
  pub signature_256 : (n from to : ℕ) → (o ≡ asks (signature n from to Sha256)) ↔ (values ≡ 4 ∷ n ∷ from ∷ to ∷ 256 ∷ [])
  pub signature_512 : (n from to : ℕ) → (o ≡ asks (signature n from to Sha512)) ↔ (values ≡ 4 ∷ n ∷ from ∷ to ∷ 512 ∷ [])
  pub reply_length : (bytes : List ℕ) → o ≡ lands (reply bytes) → values ≡ 5 ∷ length bytes ∷ []
  pub closing : (o ≡ lands close) ↔ (values ≡ 6 ∷ [])

abbrev pub OutcomesTold : Type 0
OutcomesTold = (o : rule.Outcome) → InNumbers o (outcome_values (code o))

-- ## Read back

abbrev pub hash_in : ℕ → Hash
hash_in bits = cond (eqb bits 256) Sha256 (cond (eqb bits 512) Sha512 Plain)

-- the rule's outcome, by the kind, the values behind it and the reply buffer
unfoldable pub outcome_for : ℕ → (ℕ → ℕ) → List ℕ → rule.Outcome
outcome_for kind value buffer =
    cond (eqb kind 1) (asks (gate (value 1)))
    (cond (eqb kind 2) (asks (check (value 1) (value 2)))
    (cond (eqb kind 3) (asks (confirmation (value 1)))
    (cond (eqb kind 4) (asks (signature (value 1) (value 2) (value 3) (hash_in (value 4))))
    (cond (eqb kind 5) (lands (reply (take (value 1) buffer)))
    (cond (eqb kind 6) (lands close) (refused (value 1)))))))

abbrev pub outcome_in : List ℕ → List ℕ → rule.Outcome
outcome_in values buffer = outcome_for (get_or values 0 0) (λ i. get_or values i 0) buffer

-- every outcome of the rule can be read off the values of the code's word for it and what it writes
abbrev pub OutcomesRead : Type 0
OutcomesRead = (o : rule.Outcome) (buffer : List ℕ) → outcome_in (outcome_values (code o)) (written o buffer) ≡ o
