-- The promises of what comes before the table: which answers count, and the refusals in order.
use Rattle.std.specs.Prelude.{ℕ, ◌≤◌, ◌<◌, ◌≡◌, ◌≢◌, List, length}
use Rattle.std.proofs.Math.Option.{Option, none, some}
use Rattle.wire.specs.Limits.{payload_limit, store_size, signature_limit, reply_room}
use Rattle.rule.specs.declared.Hash.{Hash}
use Rattle.rule.specs.Gateway.{Gateway}
use Rattle.rule.specs.Soundness.{Sound}
use Rattle.rule.specs.Rule.{gate, check, confirmation, signature}
use Rattle.rule.specs.Calls.{Numbered, Answers, lent, Call, refusal}
use Rattle.rule.specs.Words.{payload_of}

-- ## Answers

-- a numbered answer counts for its own number, and for no other, whatever it says
pub record CountsFor {A : Type 0} (given : Option (Numbered A)) (n : ℕ) (counts : Option A) : Type 0 where
  pub own : (a : A) → given ≡ some (record { number = n; answer = a }) → counts ≡ some a
  pub other : (m : ℕ) (a : A) → m ≢ n → given ≡ some (record { number = m; answer = a }) → counts ≡ none
  pub missing : given ≡ none → counts ≡ none

pub record AnswersCount (answers : Answers) : Type 0 where
  pub gates : (class : ℕ) → lent answers (gate class) ≡ answers.gate
  pub checks : (from to : ℕ) → lent answers (check from to) ≡ answers.check
  pub confirmations : (n : ℕ) → CountsFor answers.confirmation n (lent answers (confirmation n))
  pub signatures : (n from to : ℕ) (hash : Hash) → CountsFor answers.signature n (lent answers (signature n from to hash))

abbrev pub NumberedAnswers : Type 0
NumberedAnswers = (answers : Answers) → AnswersCount answers

-- ## Refusals

-- no lent signature is over 2,048 bytes; "none given" has no length
abbrev pub LentFits : Call → Type 0
LentFits c = (n : ℕ) (blob : List ℕ) → c.answers.signature ≡ some (record { number = n; answer = some blob }) → length blob ≤ signature_limit

-- "Call refusals, first that applies"
pub record RefusalTable (g : Gateway) (c : Call) : Type 0 where
  pub first : c.buffer < reply_room → refusal g c ≡ some 1
  pub second : reply_room ≤ c.buffer → c.store ≢ store_size → refusal g c ≡ some 2
  pub third : reply_room ≤ c.buffer → c.store ≡ store_size → (Sound g → ⊥) → refusal g c ≡ some 3
  pub fourth : reply_room ≤ c.buffer → c.store ≡ store_size → Sound g → payload_limit < length (payload_of c) → refusal g c ≡ some 4
  pub fifth : reply_room ≤ c.buffer → c.store ≡ store_size → Sound g → length (payload_of c) ≤ payload_limit
      → (n : ℕ) (blob : List ℕ) → c.answers.signature ≡ some (record { number = n; answer = some blob }) → signature_limit < length blob → refusal g c ≡ some 5
  pub accepted : reply_room ≤ c.buffer → c.store ≡ store_size → Sound g → length (payload_of c) ≤ payload_limit → LentFits c → refusal g c ≡ none

abbrev pub RefusalRule : Type 0
RefusalRule = (g : Gateway) (c : Call) → RefusalTable g c
