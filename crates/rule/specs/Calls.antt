-- One call: what it is lent, its refusals, and its outcome ("One call, six outcomes").
use Rattle.std.specs.Prelude.{ℕ, Bool, cond, not, List, length, eqb, ltb}
use Rattle.std.proofs.Math.Option.{Option, none, some}
use Rattle.wire.specs.Limits.{payload_limit, store_size, signature_limit, reply_room}
use Rattle.rule.specs.declared.Millis.{Millis}
use Rattle.rule.specs.Gateway.{Gateway, advance}
use Rattle.rule.specs.Soundness.{sound}
use Rattle.rule.specs.Rule.{Question, gate, check, confirmation, signature, Answer, Landing, Plan, land, ask, rule}

abbrev pub given : {A B : Type 0} → Option A → B → (A → B) → B
given none without f = without
given (some a) without f = f a

-- ## Answers

-- "Confirmation and signature answers carry an insertion number"
pub record Numbered (A : Type 0) : Type 0 where
  pub number : ℕ
  pub answer : A

-- "A call is lent at most one answer of each kind."
pub record Answers : Type 0 where
  pub gate : Option Bool
  pub check : Option Bool
  pub confirmation : Option (Numbered Bool)
  pub signature : Option (Numbered (Option (List ℕ)))

abbrev pub nothing_lent : Answers
nothing_lent = record { gate = none; check = none; confirmation = none; signature = none }

-- ".. and count only for that number"
unfoldable pub for_number : {A : Type 0} → ℕ → Option (Numbered A) → Option A
for_number n none = none
for_number n (some a) = cond (eqb a.number n) (some a.answer) none

-- the answer that is lent for a question
unfoldable pub lent : Answers → (q : Question) → Option (Answer q)
lent answers (gate class) = answers.gate
lent answers (check from to) = answers.check
lent answers (confirmation n) = for_number n answers.confirmation
lent answers (signature n from to hash) = for_number n answers.signature

-- the length of a lent signature; "none given" has none
unfoldable pub lent_length : Option (Numbered (Option (List ℕ))) → ℕ
lent_length none = 0
lent_length (some a) = given a.answer 0 length

-- ## Refusals

-- "Call refusals, first that applies", by the lengths of reply buffer and key store, whether the state is sound, and the lengths of payload
-- and lent signature
unfoldable pub refusal_of : ℕ → ℕ → Bool → ℕ → ℕ → Option ℕ
refusal_of buffer store is_sound payload lent_bytes =
    cond (ltb buffer reply_room) (some 1)
    (cond (not (eqb store store_size)) (some 2)
    (cond (not is_sound) (some 3)
    (cond (ltb payload_limit payload) (some 4)
    (cond (ltb signature_limit lent_bytes) (some 5)
    none))))

-- ## The call

-- what a request brings, at each of its calls
pub record Frame : Type 0 where
  pub payload : List ℕ

pub record Call : Type 0 where
  pub request : ℕ  -- which request makes it
  pub frame : Frame
  pub reading : Millis
  pub answers : Answers
  pub buffer : ℕ  -- the reply buffer's length
  pub store : ℕ  -- the key store's length

pub data Outcome : Type 0 where
  refused : ℕ → Outcome
  asks : Question → Outcome
  lands : Landing → Outcome

pub record Result : Type 0 where
  pub outcome : Outcome
  pub gateway : Gateway

-- "A question is asked exactly when the rule needs it and its answer is not lent"; it alters nothing
unfoldable pub follow : ((q : Question) → Option (Answer q)) → Gateway → Plan → Result
follow lent g (land l after) = record { outcome = lands l; gateway = after }
follow lent g (ask q onwards) = given (lent q) (record { outcome = asks q; gateway = g }) λ a. follow lent g (onwards a)

-- "Every call works afresh on the present state."
unfoldable pub served : Gateway → Frame → Answers → Result
served g frame answers = follow (lent answers) g (rule g frame.payload)

unfoldable pub refusal : Gateway → Call → Option ℕ
refusal g c = refusal_of c.buffer c.store (sound g) (length c.frame.payload) (lent_length c.answers.signature)

-- a refused call changes nothing; an accepted one first raises the clock
unfoldable pub call : Gateway → Call → Result
call g c =
    given (refusal g c) (served (advance c.reading g) c.frame c.answers) λ n.
    record { outcome = refused n; gateway = g }
