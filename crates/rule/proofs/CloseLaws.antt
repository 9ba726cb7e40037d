-- Landings without a list or a signature: what no list and no sign request lands, and exactly when a sign request closes or fails.
use Prim.Native.Nat.{ℕ}
use native.Mathlib.Omega.{arith}
use mathlib.Core.Path.{◌≡◌, refl, sym, ◌∙◌}
use mathlib.Core.Logic.{◌⊎◌, inl, inr, ◌≢◌}
use mathlib.Core.Bool.{Bool, true, false}
use mathlib.Core.Option.{none}
use mathlib.Core.List.{List}
use Rattle.wire.specs.Numbers.{Bytes}
use Rattle.wire.specs.Read.{cut_of, string_at, number_at}
use Rattle.wire.specs.Steps.{part}
use Rattle.rule.specs.Gateway.{Gateway, locked}
use Rattle.rule.specs.Rule.{gate, reply, close, FAILURE, SUCCESS, Plan, listing, removing_all, signature_reply, signed, signing_data, confirming, signing}
use Rattle.rule.specs.Calls.{lent, Call, lands, Result, follow, call}
use Rattle.rule.specs.Words.{Begins, at_call, payload_of, PastGate}
use Rattle.rule.specs.Rows.{Row, list, add, add_constrained, remove, remove_all, sign, lock, unlock, SuccessOrFailure}
use Rattle.rule.specs.Signing.{Closes, no_blob, no_data, no_signature, CloseRule, SignFails, absent, denied, SignFailRule}
use Rattle.rule.proofs.Cases.{part-cases, number_cases}
use Rattle.rule.proofs.Plans.{asks_not_lands, refused_not_lands}
use Rattle.rule.proofs.PositionLaws.{every_at, every_of, absent_differs, differs_absent, entry_absent}
use Rattle.rule.proofs.RefusalLaws.{accepted}
use Rattle.rule.proofs.AnswerLaws.{numbered-answers}
use Rattle.rule.proofs.RowLaws.{same-landing, past_gate_lem, body_result, rows_cases, landing_beyond, Through, through_some}
use Rattle.rule.proofs.RequestLaws.{one_carried, sign_in, sign_out}
use Rattle.rule.proofs.BodyLaws.{removing-cases, locking-cases, unlocking-cases, adding-cases, add_result, Failing, not_found, said_no, Closing, no_key, no_order, none_given, signing-cases}
use Rattle.rule.proofs.SignLaws.{own_number, allowed_confirmed, comes_to_key, comes_to_data, comes_to_signer}

-- ## Requests that neither list nor sign

pub success_or_failure : SuccessOrFailure
unfolding removing_all follow
success_or_failure g c l no-list no_sign =
    rows_cases Either g c
    (λ n _ never. absurd (refused_not_lands n l never))
    (λ _. failed)
    (λ byte needs class _ _ _ _ _ never. absurd (asks_not_lands (gate class) l never))
    (λ byte needs class r begins _ _. by_row r begins)
  where
    Either : Result → Type 0
    Either r = r.outcome ≡ lands l → (l ≡ SUCCESS) ⊎ (l ≡ FAILURE)

    failed : lands FAILURE ≡ lands l → (l ≡ SUCCESS) ⊎ (l ≡ FAILURE)
    failed e = inr (sym (same-landing e))

    succeeded : lands SUCCESS ≡ lands l → (l ≡ SUCCESS) ⊎ (l ≡ FAILURE)
    succeeded e = inl (sym (same-landing e))

    by_add : (constrained : Bool) → Either (add_result constrained g c)
    by_add constrained =
        adding-cases (lent c.answers) (at_call g c) (payload_of c) Either failed constrained
        (λ k i _ _ never. absurd (asks_not_lands _ l never))
        (λ k i _ _ _. succeeded)

    by_row : {byte : ℕ} {needs : Bool} {class : ℕ} (r : Row byte needs class) → Begins byte (payload_of c) → Either (body_result r g c)
    by_row list begins = absurd (no-list begins)
    by_row add begins = by_add false
    by_row add_constrained begins = by_add true
    by_row remove begins = removing-cases (lent c.answers) (at_call g c) (payload_of c) Either failed (λ i e k. succeeded)
    by_row remove_all begins = succeeded
    by_row sign begins = absurd (no_sign begins)
    by_row lock begins = locking-cases (lent c.answers) (at_call g c) (payload_of c) Either failed (λ passphrase. succeeded)
    by_row unlock begins = unlocking-cases (lent c.answers) (at_call g c) (payload_of c) Either failed (λ passphrase. succeeded)

-- ## Closing

close_not_reply : {bytes : List ℕ} → close ≡ reply bytes → ⊥
close_not_reply never = let z : ◌≡◌ {A = ℕ} 0 1 = cc in omega arith

-- what closes is a sign request, past the gate of an open gateway
only_signs_close : (g : Gateway) (c : Call) → (call g c).outcome ≡ lands close → Begins 13 (payload_of c) × Through sign g c
unfolding listing follow
only_signs_close g c e =
    let some-row = through_some g c e (landing_beyond close_not_reply) in
    by_row some-row.row some-row.begins some-row.through
  where
    neither : (close ≡ SUCCESS) ⊎ (close ≡ FAILURE) → ⊥
    neither (inl never) = close_not_reply never
    neither (inr never) = close_not_reply never

    another : {byte : ℕ} → Begins byte (payload_of c) → byte ≢ 11 → byte ≢ 13 → Begins 13 (payload_of c) × Through sign g c
    another begins no-list no_sign =
        absurd (neither (success_or_failure g c close (λ b. no-list (sym begins.first ∙ b.first)) (λ b. no_sign (sym begins.first ∙ b.first)) e))

    by_row : {byte : ℕ} {needs : Bool} {class : ℕ} (r : Row byte needs class) → Begins byte (payload_of c) → Through r g c → Begins 13 (payload_of c) × Through sign g c
    by_row list begins t = absurd (close_not_reply (sym (same-landing (rw t.result at e))))
    by_row add begins t = another begins (λ n. omega arith) (λ n. omega arith)
    by_row add_constrained begins t = another begins (λ n. omega arith) (λ n. omega arith)
    by_row remove begins t = another begins (λ n. omega arith) (λ n. omega arith)
    by_row remove_all begins t = another begins (λ n. omega arith) (λ n. omega arith)
    by_row sign begins t = (begins, t)
    by_row lock begins t = another begins (λ n. omega arith) (λ n. omega arith)
    by_row unlock begins t = another begins (λ n. omega arith) (λ n. omega arith)

module _ (g : Gateway) (c : Call) (past : PastGate g c) (begins : Begins 13 (payload_of c)) where
  closing-closes : Bytes (payload_of c) → Closing (lent c.answers) (at_call g c) (payload_of c) → Closes g c
  unfolding lent
  closing-closes is-bytes (no_key cut) = no_blob cut
  closing-closes is-bytes (no_order i e k allowed cut) =
      no_data e (i, k.there) k.carries (allowed_confirmed c e allowed) λ bytes flags request.
      let fits = (accepted g c past.accepted).payload in
      let r = sign_out is-bytes (omega arith) request in
      cut r.from r.to flags (rw (one_carried k.carries r.carries).1 r.order)
  closing-closes is-bytes (none_given i e from to flags k order allowed says) =
      no_signature e (cut_of (payload_of c) from to) flags (i, k.there) (sign_in is-bytes begins k.carries order)
      (allowed_confirmed c e allowed)
      (own_number e.number c.answers.signature none says)

  abbrev Close : Plan → Type 0
  Close plan = (follow (lent c.answers) (at_call g c) plan).outcome ≡ lands close

  closes-close : Bytes (payload_of c) → locked g ≡ false → Closes g c → (call g c).outcome ≡ lands close
  unfolding signing signing_data signed follow
  closes-close is-bytes state (no_blob cut) =
      rw (past_gate_lem sign g c past state begins)
      (part-cases Close (string_at (payload_of c) 1) (λ _ _. refl) λ f t k read.
      absurd (cut (cut_of (payload_of c) f t) (record { from = f; to = t; next = k; read = read; is = refl })))
  closes-close is-bytes state (no_data e (i, held) s confirmed cut) =
      rw (comes_to_data g c past state i e held begins s confirmed)
      (part-cases Close (string_at (payload_of c) s.next.at) (λ _ _. refl) λ f t k message.
      number_cases Close (number_at (payload_of c) k.at) (λ _ _. refl) λ flags end choice.
      absurd (cut (cut_of (payload_of c) f t) flags (sign_in is-bytes begins s (record { next = k; end = end; message = message; choice = choice }))))
  closes-close is-bytes state (no_signature e bytes flags (i, held) request confirmed says) =
      rw (comes_to_signer g c past state i e held none is-bytes request confirmed says)

pub close_rule : CloseRule
close_rule g c is-bytes = (
  (λ e.
      let (begins, t) = only_signs_close g c e in (
        t.past,
        t.fit,
        begins,
        signing-cases (lent c.answers) (at_call g c) (payload_of c) (λ r. r.outcome ≡ lands close → Closes g c)
            (λ _ never. absurd (close_not_reply (sym (same-landing never))))
            (λ why _. closing-closes g c t.past begins is-bytes why)
            (λ i x _ _ never. absurd (asks_not_lands _ close never))
            (λ i x f to flags _ _ _ never. absurd (asks_not_lands _ close never))
            (λ i x f to flags blob _ _ _ _ never. absurd (close_not_reply (sym (same-landing never))))
            (rw t.result at e),
      )),
  (λ (past, state, begins, why). closes-close g c past begins is-bytes state why),
)

-- ## Failing

-- a signature's fifth byte is 14, FAILURE's is 5
signature_not_failure : (blob : List ℕ) → lands (reply (signature_reply blob)) ≡ lands FAILURE → ⊥
unfolding signature_reply
signature_not_failure blob e = let z : ◌≡◌ {A = ℕ} 14 5 = cc in omega arith

module _ (g : Gateway) (c : Call) where
  failing_fails : Failing (lent c.answers) (at_call g c) (payload_of c) → SignFails g c
  unfolding lent
  failing_fails (not_found v s nothing) =
      absent v s (λ e (i, held). every_at (λ x. x.blob ≢ v) (at_call g c).entries (absent_differs v (at_call g c).entries nothing) i e held)
  failing_fails (said_no i e k confirm says) =
      denied e (i, k.there) k.carries confirm (own_number e.number c.answers.confirmation false says)

  fails-fail : PastGate g c → locked g ≡ false → Begins 13 (payload_of c) → SignFails g c → (call g c).outcome ≡ lands FAILURE
  unfolding signing confirming part follow
  fails-fail past state begins (absent v s others) =
      let nothing = differs_absent v (at_call g c).entries (every_of (λ x. x.blob ≢ v) (at_call g c).entries (λ i e held. others e (i, held))) in
      rw (past_gate_lem sign g c past state begins, s.read, s.is, entry_absent v (at_call g c).entries nothing)
  fails-fail past state begins (denied e (i, held) s confirm says) =
      let no = ((numbered-answers c.answers).confirmations e.number).own false says in
      rw (comes_to_key g c past state i e held begins s, confirm, no)

pub sign_fail_rule : SignFailRule
sign_fail_rule g c past state begins = (
  (λ e.
      signing-cases (lent c.answers) (at_call g c) (payload_of c) (λ r. r.outcome ≡ lands FAILURE → SignFails g c)
      (λ why _. failing_fails g c why)
      (λ _ never. absurd (close_not_reply (same-landing never)))
      (λ i x _ _ never. absurd (asks_not_lands _ FAILURE never))
      (λ i x f to flags _ _ _ never. absurd (asks_not_lands _ FAILURE never))
      (λ i x f to flags blob _ _ _ _ never. absurd (signature_not_failure blob never))
      (rw (past_gate_lem sign g c past state begins) at e)),
  fails-fail g c past state begins,
)
