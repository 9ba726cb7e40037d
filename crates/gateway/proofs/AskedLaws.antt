-- What a question names is held in what the call left, so a lookup tells of it. Assumes nothing.
use Prim.Native.Nat.{ℕ}
use mathlib.Core.Path.{◌≡◌, refl, sym, ap, ◌∙◌, subst}
use mathlib.Core.Logic.{◌≢◌, ◌⊎◌, ⊎_elim}
use mathlib.Core.Bool.{true}
use mathlib.Core.List.{List}
use native.Mathlib.Omega.{arith}
use Rattle.wire.specs.Numbers.{Bytes}
use Rattle.rule.specs.declared.Hash.{Hash}
use Rattle.rule.specs.Gateway.{Entry as Key, Gateway}
use Rattle.rule.specs.Rule.{gate, check, confirmation, signature, reply, close}
use Rattle.rule.specs.Calls as rule
use Rattle.rule.specs.Calls.{Call, refused, asks, lands, call}
use Rattle.rule.specs.Words.{HeldAt}
use Rattle.rule.proofs.Leavings.{question_leaves}
use Rattle.rule.proofs.SignLaws.{signature_asks, confirmation_asks}
use Rattle.table.specs.declared.State.{State}
use Rattle.table.specs.Meaning.{gateway_of}
use Rattle.table.specs.Soundness.{Means}
use Rattle.lookups.specs.Told.{key_told}
use Rattle.lookups.specs.Promises.{Tells}
use Rattle.lookups.proofs.HeldLaws.{key-sound, key-rule}
use Rattle.requests.specs.Ends.{Done}
use Rattle.requests.specs.Outcomes.{code, outcome_values}
use Rattle.requests.proofs.OutcomeLaws.{outcomes_apart}
use Rattle.server.specs.Calls.{call_of}
use Rattle.server.specs.Runs.{Step, ByCall, as_call}
use Rattle.server.proofs.Leavings.{step-ends}
use Rattle.flat.specs.declared.FlatOutcome.{FlatOutcome}
use Rattle.flat.specs.Flat.{answers_of, flat_of}
use Rattle.gateway.specs.Promises.{AskedTold, AskedIsTold}

-- a held key with this number; with Confirm, where one was asked for it
record HeldAs (g : Gateway) (n : ℕ) (confirmed : Key → Type 0) : Type 0 where
  place : ℕ
  key : Key
  there : HeldAt g place key
  number : key.number ≡ n
  confirm : confirmed key

abbrev WithConfirm : Key → Type 0
WithConfirm k = k.confirm ≡ true

abbrev AnyKey : Key → Type 0
AnyKey k = Unit {0}

-- what each question of a call is about is held in what the call left
module _ (g : Gateway) (c : Call) where
  confirmation_held : (n : ℕ) → (call g c).outcome ≡ asks (confirmation n) → HeldAs (call g c).gateway n WithConfirm
  confirmation_held n e =
      let (_, _, _, k, (i, there), number, confirm, _) = confirmation_asks g c n e in
      record { place = i; key = k; there = rw (question_leaves g c (confirmation n) e) there; number = number; confirm = confirm }

  signature_held : (n from to : ℕ) (hash : Hash) → Bytes c.frame.payload → (call g c).outcome ≡ asks (signature n from to hash) → HeldAs (call g c).gateway n AnyKey
  signature_held n from to hash bytes e =
      let (_, _, k, _, _, (i, there), number, _, _, _, _, _) = signature_asks g c n from to hash bytes e in
      record { place = i; key = k; there = rw (question_leaves g c (signature n from to hash) e) there; number = number; confirm = tt }

module _ (s : State) (x : List ℕ) (g : Gateway) (means : Means s x g) (n : ℕ) (P : Key → Type 0) (h : HeldAs g n P) where
  there : HeldAt (gateway_of s x) h.place h.key
  there = rw means.gateway h.there

  tells : Tells x h.key (key_told s x n)
  tells = subst (λ (m : ℕ). Tells x h.key (key_told s x m)) h.number (key-rule s x h.key means.sound (h.place, there))

  number_told : (key_told s x n).number ≡ n
  number_told = tells.number ∙ h.number

  some_told : (key_told s x n).number ≢ 0
  some_told e =
      let same : (key_told s x n).number ≡ h.key.number = tells.number in
      let first = (key-sound s x h.place h.key means.sound there).number_first in
      omega arith

-- by the outcome of the rule's call
module _ (s : State) (x : List ℕ) (g : Gateway) (means : Means s x g) where
  asked-told : (o : rule.Outcome) → ((n : ℕ) → o ≡ asks (confirmation n) → HeldAs g n WithConfirm) → ((n from to : ℕ) (hash : Hash) → o ≡ asks (signature n from to hash) → HeldAs g n AnyKey)
      → ((flat_of (code o)).kind ≡ 3) ⊎ ((flat_of (code o)).kind ≡ 4) → AskedTold (flat_of (code o)) s x
  unfolding flat_of code
  asked-told (refused n) f h kind = absurd (⊎_elim (λ e. omega arith) (λ e. omega arith) kind)
  asked-told (asks (gate class)) f h kind = absurd (⊎_elim (λ e. omega arith) (λ e. omega arith) kind)
  asked-told (asks (check from to)) f h kind = absurd (⊎_elim (λ e. omega arith) (λ e. omega arith) kind)
  asked-told (asks (confirmation n)) f h kind =
      let k = f n refl in
      record { told = some_told s x g means n WithConfirm k; number = number_told s x g means n WithConfirm k; confirm = λ _. (tells s x g means n WithConfirm k).confirm k.confirm }
  asked-told (asks (signature n from to hash)) f h kind =
      let k = h n from to hash refl in
      record { told = some_told s x g means n AnyKey k; number = number_told s x g means n AnyKey k; confirm = λ e. absurd (omega (arith, e)) }
  asked-told (lands (reply bytes)) f h kind = absurd (⊎_elim (λ e. omega arith) (λ e. omega arith) kind)
  asked-told (lands close) f h kind = absurd (⊎_elim (λ e. omega arith) (λ e. omega arith) kind)

pub asked-is_told : AskedIsTold
asked-is_told state store payload reading answers bytes buffer outcome after store_after out S is_bytes m kind =
    let d : Done = call_of state store payload reading (answers_of answers) bytes buffer in
    let k : Step = record {
      request = 0;
      payload = payload;
      reading = reading;
      answers = answers_of answers;
      signature = bytes;
      buffer = buffer;
      gave = record { ended = outcome_values d.called.outcome; state = d.called.state; store = d.store; reply = d.reply };
    } in
    let made : ByCall state store k = record { outcome = d.called.outcome; ended_is = refl; meets = record { outcome_is = refl; state_is = refl; store_is = refl; reply_is = refl } } in
    let c = as_call k in
    let g = gateway_of state store in
    let ends = step-ends state store S k made in
    let word = m.outcome_is ∙ ap flat_of (outcomes_apart d.called.outcome (code (call g c).outcome) ends.ended) in
    let means : Means after store_after (call g c).gateway = rw (m.state_is, m.store_is) ends.means in
    subst (λ (o : FlatOutcome). AskedTold o after store_after) (sym word)
    (asked-told after store_after (call g c).gateway means (call g c).outcome (confirmation_held g c) (λ n from to hash. signature_held g c n from to hash is_bytes)
    (subst (λ (o : FlatOutcome). (o.kind ≡ 3) ⊎ (o.kind ≡ 4)) word kind))
