-- One call that meets the contract of `call`: its refusals in order, how it ended in the rule's words, and what each outcome leaves. Assumed:
-- such a call, and a sound state and store where the statement says so.
use Prim.Native.Nat.{ℕ, ◌+◌, ◌≤◌}
use mathlib.Core.Path.{◌≡◌, refl, sym, ap, ◌∙◌, subst}
use mathlib.Core.Logic.{◌≢◌}
use mathlib.Core.Bool.{Bool, true, false, not}
use mathlib.Core.Option.{Option, none, some}
use mathlib.Core.List.{List, [], ◌∷◌}
use native.Mathlib.Omega.{arith}
use lib.ListN.{length, get_or, take, drop}
use lib.Seq.{drop_at}
use Rattle.wire.specs.Limits.{signature_limit, reply_room}
use Rattle.wire.specs.Write.{write}
use Rattle.wire.proofs.Writing.{length-write}
use Rattle.rule.specs.Gateway.{Gateway, advance}
use Rattle.rule.specs.Soundness as rule
use Rattle.rule.specs.Rule.{Question, gate, check, confirmation, signature, Landing, reply, close, FAILURE, SUCCESS, rule as plan}
use Rattle.rule.specs.Calls as calls
use Rattle.rule.specs.Calls.{given, lent, lent_length, Frame, refused, asks, lands, Result, served, refusal, call}
use Rattle.rule.proofs.Plans.{refused_not_lands}
use Rattle.rule.proofs.Cases.{given-cases}
use Rattle.rule.proofs.Effects.{success_not_failure}
use Rattle.rule.proofs.RefusalLaws.{follow-not_refused, accepted}
use Rattle.rule.proofs.Leavings as rule-leavings
use Rattle.rule.proofs.ReplyLaws.{replies_fit}
use Rattle.rule.proofs.SoundLaws.{sound-rule, calls_keep_sound}
use Rattle.table.specs.declared.State.{State}
use Rattle.table.specs.Meaning.{gateway_of}
use Rattle.table.specs.Soundness.{sound_state, Sound, Means}
use Rattle.table.proofs.TestLaws.{sound_state-rule}
use Rattle.table.proofs.WritingLaws.{sound-meaning, every_gateway}
use Rattle.requests.specs.declared.Signed.{Signed}
use Rattle.requests.specs.declared.Signed.TheVariants.{Missing, Nothing, Given}
use Rattle.requests.specs.declared.Outcome.{Outcome}
use Rattle.requests.specs.declared.Outcome.TheVariants.{Refused, Gate, Check, Confirm, Sign, Reply, Close}
use Rattle.requests.specs.declared.Called.{Called}
use Rattle.requests.specs.Outcomes.{signature_of, lent_of, code, written, outcome_values, outcome_for, outcome_in}
use Rattle.requests.specs.Ends.{Done, laid_out}
use Rattle.server.specs.Calls.{call_of}
use Rattle.server.specs.Runs.{Gave, Step, ByCall, EndedWith, Asked, Replied, failure_bytes, success_bytes, giving, as_call, outcome_after, Unchanged, EndsAs, OnlyClock, Fills}
use Rattle.server.specs.Runs.{NoSecondAnswer, CodeRefusals, CodeRefusalLeaves, CodeQuestionLeaves, CodeCloseLeaves, CodeFailureLeaves, CodeReplyLeaves, CodeReplyBytes, CodeOthersStay}
use Rattle.requests.proofs.OutcomeLaws.{outcomes_read}
use Rattle.server.proofs.CallLaws.{sound-passed, refusal_here, refuses_1, refuses_2, refuses_3, refuses_4, refuses_5, none_applies}
use Rattle.server.proofs.RowSteps.{lent-given}

-- ## The contract

-- what a call gives, in 01's numbers
abbrev pub gave_of : Done → Gave
gave_of d = record { ended = outcome_values d.called.outcome; state = d.called.state; store = d.store; reply = d.reply }

-- the contract as one equation
pub call-gives : (state : State) (store : List ℕ) (k : Step) → ByCall state store k
    → k.gave ≡ gave_of (call_of state store k.payload k.reading k.answers k.signature k.buffer)
call-gives state store k m =
    let values = m.ended_is ∙ ap outcome_values m.meets.outcome_is in
    λ j. record { ended = values j; state = m.meets.state_is j; store = m.meets.store_is j; reply = m.meets.reply_is j }

pub no_second_answer : NoSecondAnswer ByCall
no_second_answer state store k other m n = call-gives state store k m ∙ sym (call-gives state store (giving k other) n)

-- a call that is served is not refused
served-not_refused : (buffer : List ℕ) (gave : Gave) (g : Gateway) (frame : Frame) (answers : calls.Answers) (n : ℕ)
    → gave ≡ gave_of (laid_out buffer (served g frame answers)) → gave.ended ≢ 0 ∷ n ∷ []
unfolding served outcome_for
served-not_refused buffer gave g frame answers n is e =
    let r = served g frame answers in
    let says : outcome_values (code r.outcome) ≡ 0 ∷ n ∷ [] = ap (λ (x : Gave). x.ended) (sym is) ∙ e in
    follow-not_refused (lent answers) g (plan g frame.payload) n
    (sym (outcomes_read r.outcome buffer) ∙ ap (λ (vs : List ℕ). outcome_in vs (written r.outcome buffer)) says)

-- what a refused call gives
abbrev refused_done : State → (store buffer : List ℕ) → ℕ → Done
refused_done state store buffer n = record { called = record { outcome = Refused n; state = state }; store = store; reply = buffer }

-- what the rule gives of a step that is not refused
abbrev served_here : State → List ℕ → Step → Result
served_here state store k = served (advance k.reading (gateway_of state store)) (record { payload = k.payload }) (lent_of k.answers k.signature)

abbrev pub refusal_at : State → List ℕ → Step → Option ℕ
refusal_at state store k = refusal_here state store k.payload k.reading k.answers k.signature k.buffer

abbrev by_refusal : State → List ℕ → Step → Option ℕ → Result → Done
by_refusal state store k o r = given o (laid_out k.buffer r) (refused_done state store k.buffer)

step_is : (state : State) (store : List ℕ) (k : Step) → ByCall state store k → k.gave ≡ gave_of (by_refusal state store k (refusal_at state store k) (served_here state store k))
unfolding call_of
step_is state store k m = call-gives state store k m

pub code-refusal_leaves : CodeRefusalLeaves ByCall
code-refusal_leaves state store k n m e = by (refusal_at state store k) (step_is state store k m)
  where
    by : (o : Option ℕ) → k.gave ≡ gave_of (by_refusal state store k o (served_here state store k)) → Unchanged state store k
    by none is = absurd (served-not_refused k.buffer k.gave _ _ _ n is e)
    by (some number) is = record {
      state_stays = ap (λ (x : Gave). x.state) is;
      store_stays = ap (λ (x : Gave). x.store) is;
      buffer_stays = ap (λ (x : Gave). x.reply) is;
    }

-- the number that it ended with is that of the first refusal that applies
pub refused_first : (state : State) (store : List ℕ) (k : Step) (n : ℕ) → ByCall state store k → EndedWith (0 ∷ n ∷ []) k → refusal_at state store k ≡ some n
refused_first state store k n m e = by (refusal_at state store k) (step_is state store k m)
  where
    by : (o : Option ℕ) → k.gave ≡ gave_of (by_refusal state store k o (served_here state store k)) → o ≡ some n
    by none is = absurd (served-not_refused k.buffer k.gave _ _ _ n is e)
    by (some number) is = ap (λ (vs : List ℕ). some (get_or vs 1 0)) (sym (ap (λ (x : Gave). x.ended) is) ∙ e)

-- ## As the rule's call

-- what the rule leaves sound is meant by its layout
laid-ends : (k : Step) (r : Result) → rule.Sound r.gateway → k.gave ≡ gave_of (laid_out k.buffer r) → EndsAs k r
laid-ends k r h e = record { ended = ap (λ (x : Gave). x.ended) e; means = rw e (every_gateway r.gateway h); bytes = ap (λ (x : Gave). x.reply) e }

module _ (state : State) (store : List ℕ) (S : Sound state store) (k : Step) where
  abbrev meant : Gateway
  meant = gateway_of state store

  refused_ends : (n : ℕ) → k.gave ≡ gave_of (refused_done state store k.buffer n) → EndsAs k (record { outcome = refused n; gateway = meant })
  unfolding code written
  refused_ends n e = record { ended = ap (λ (x : Gave). x.ended) e; means = rw e (record { gateway = refl; sound = S }); bytes = ap (λ (x : Gave). x.reply) e }

  same-refusal : refusal_at state store k ≡ refusal meant (as_call k)
  unfolding refusal
  same-refusal =
      let ruled = (sound-rule meant).1 (sound-meaning state store S) in
      rw (S.store_sized, sound-passed state store S, ruled)

  by_refusal_lem : (o : Option ℕ) (r : Result) → rule.Sound (given o r (λ n. record { outcome = refused n; gateway = meant })).gateway
      → k.gave ≡ gave_of (by_refusal state store k o r) → EndsAs k (given o r λ n. record { outcome = refused n; gateway = meant })
  by_refusal_lem none r h e = laid-ends k r h e
  by_refusal_lem (some n) r h e = refused_ends n e

  pub step-ends : ByCall state store k → EndsAs k (call meant (as_call k))
  unfolding call
  step-ends m =
      by_refusal_lem (refusal meant (as_call k)) (served_here state store k) (calls_keep_sound meant (as_call k) (sound-meaning state store S))
      (step_is state store k m ∙ ap (λ (o : Option ℕ). gave_of (by_refusal state store k o (served_here state store k))) same-refusal)

-- a step's values and reply say how the rule's call ended
pub ended_is : (k : Step) (r : Result) → EndsAs k r → outcome_after k ≡ r.outcome
ended_is k r e = rw (e.ended, e.bytes) (outcomes_read r.outcome k.buffer)

-- ## The refusals in order

not_sound : (s : State) (x : List ℕ) → (Sound s x → ⊥) → sound_state s x ≡ false
not_sound s x never = go (sound_state s x) refl
  where
    go : (b : Bool) → sound_state s x ≡ b → b ≡ false
    go true e = absurd (never ((sound_state-rule s x).0 e))
    go false e = refl

lent_fits : (s : Signed) (bytes : List ℕ) → ((n : ℕ) → s ≡ Given n → length bytes ≤ signature_limit) → lent_length (signature_of s bytes) ≤ signature_limit
unfolding lent_length
lent_fits Missing bytes fits = omega arith
lent_fits (Nothing n) bytes fits = omega arith
lent_fits (Given n) bytes fits = fits n refl

module _ (state : State) (store : List ℕ) (k : Step) (m : ByCall state store k) where
  refuses : (n : ℕ) → Refused n ≡ (call_of state store k.payload k.reading k.answers k.signature k.buffer).called.outcome → EndedWith (0 ∷ n ∷ []) k
  refuses n e = m.ended_is ∙ ap outcome_values (m.meets.outcome_is ∙ sym e)

  not_refused : (n : ℕ) → refusal_at state store k ≡ none → ¬ (EndedWith (0 ∷ n ∷ []) k)
  not_refused n e v =
      served-not_refused k.buffer k.gave _ _ _ n
      (step_is state store k m ∙ ap (λ (o : Option ℕ). gave_of (by_refusal state store k o (served_here state store k))) e) v

pub code-refusals : CodeRefusals ByCall
code-refusals state store k m = record {
  first = λ a. refuses state store k m 1 (refuses_1 _ _ _ _ _ _ _ (refusing 1) a refl).outcome_is;
  second = λ a b. refuses state store k m 2 (refuses_2 _ _ _ _ _ _ _ (refusing 2) a b refl).outcome_is;
  third = λ a b never. refuses state store k m 3 (refuses_3 _ _ _ _ _ _ _ (refusing 3) (sound_state state store) a b (ap not (not_sound state store never)) refl refl).outcome_is;
  fourth = λ a S b. refuses state store k m 4 (refuses_4 _ _ _ _ _ _ _ a S (refusing 4) b refl).outcome_is;
  fifth = λ a S b n e c. refuses state store k m 5 (refuses_5 _ _ _ _ _ _ _ a S _ b (lent-given k.answers.signature k.signature n e) (refusing 5) c refl).outcome_is;
  accepted = λ a S b fits n. not_refused state store k m n (none_applies state store k.payload k.reading k.answers k.signature k.buffer a S _ b refl (lent_fits k.answers.signature k.signature fits));
}
  where
    refusing : ℕ → Called
    refusing n = record { outcome = Refused n; state = state }

-- ## What each outcome leaves

-- by the values of its outcome a step asked
asked_by : (o : Outcome) (out : List ℕ) → 1 ≤ get_or (outcome_values o) 0 0 → get_or (outcome_values o) 0 0 ≤ 4 → (q : Question) × (outcome_in (outcome_values o) out ≡ asks q)
unfolding outcome_for
asked_by (Refused n) out a b = absurd (omega (arith, a))
asked_by (Gate class) out a b = (gate class, refl)
asked_by (Check from to) out a b = (check from to, refl)
asked_by (Confirm n) out a b = (confirmation n, refl)
asked_by (Sign n from to hash) out a b = (signature n from to _, refl)
asked_by (Reply n) out a b = absurd (omega (arith, b))
asked_by Close out a b = absurd (omega (arith, b))

pub asked-question : (k : Step) (r : Result) → EndsAs k r → Asked k → (q : Question) × (r.outcome ≡ asks q)
asked-question k r e a =
    let kind = ap (λ (vs : List ℕ). get_or vs 0 0) e.ended in
    let (q, is) = asked_by (code r.outcome) (written r.outcome k.buffer) (subst (λ (n : ℕ). 1 ≤ n) kind a.from_gate) (subst (λ (n : ℕ). n ≤ 4) kind a.to_signature) in
    (q, sym (outcomes_read r.outcome k.buffer) ∙ is)

module _ (state : State) (store : List ℕ) (k : Step) (S : Sound state store) (m : ByCall state store k) where
  abbrev g : Gateway
  g = gateway_of state store

  abbrev ruled : Result
  ruled = call g (as_call k)

  ends : EndsAs k ruled
  ends = step-ends state store S k m

  ruled_is : (o : calls.Outcome) → outcome_after k ≡ o → ruled.outcome ≡ o
  ruled_is o e = sym (ended_is k ruled ends) ∙ e

  -- what its values say
  ruled_by : (values : List ℕ) → EndedWith values k → ruled.outcome ≡ outcome_in values k.gave.reply
  ruled_by values e = ruled_is _ (ap (λ (vs : List ℕ). outcome_in vs k.gave.reply) e)

  only_clock : ruled.gateway ≡ advance k.reading g → OnlyClock state store k
  only_clock e = subst (Means k.gave.state k.gave.store) e ends.means

  wrote : (o : calls.Outcome) → ruled.outcome ≡ o → k.gave.reply ≡ written o k.buffer
  wrote o e = ends.bytes ∙ ap (λ (o : calls.Outcome). written o k.buffer) e

  landing_leaves : (l : Landing) → ruled.outcome ≡ lands l → l ≢ SUCCESS → OnlyClock state store k
  landing_leaves l e other = only_clock (rule-leavings.landing_leaves g (as_call k) l other e)

  pub replied : (bytes : List ℕ) → Replied bytes k → ruled.outcome ≡ lands (reply bytes)
  unfolding outcome_for
  replied bytes r = ruled_by _ r.ended ∙ ap (λ (b : List ℕ). lands (reply b)) r.front

  -- a reply's bytes are those that its length says
  replied_length : (n : ℕ) → EndedWith (5 ∷ n ∷ []) k → ruled.outcome ≡ lands (reply (take n k.gave.reply))
  unfolding outcome_for
  replied_length n e = ruled_by _ e

  said_length : (bytes : List ℕ) → ruled.outcome ≡ lands (reply bytes) → EndedWith (5 ∷ length bytes ∷ []) k
  unfolding code
  said_length bytes e = ends.ended ∙ ap (λ (o : calls.Outcome). outcome_values (code o)) e

  landed_room : (l : Landing) → ruled.outcome ≡ lands l → reply_room ≤ length k.buffer
  unfolding call
  landed_room l =
      given-cases (λ (r : Result). r.outcome ≡ lands l → reply_room ≤ length k.buffer) (refusal g (as_call k))
      (λ none_here _. (accepted g (as_call k) none_here).buffer)
      (λ n _ never. absurd (refused_not_lands n l never))

  reply_fills : (n : ℕ) → EndedWith (5 ∷ n ∷ []) k → Fills n k
  unfolding written write
  reply_fills n e =
      let bytes = take n k.gave.reply in
      let o = replied_length n e in
      let fits = replies_fit g (as_call k) bytes (sound-meaning state store S) o in
      let size : length bytes ≡ n = same_size (length bytes) (sym (said_length bytes o) ∙ e) in
      let room = landed_room (reply bytes) o in
      let w = wrote _ o in
      let end : 0 + length bytes ≡ n = omega arith in
      record {
        fits = omega arith;
        room = room;
        length-stays = ap length w ∙ length-write k.buffer 0 bytes (omega arith);
        others-stay = ap (drop n) w ∙ drop_at bytes (drop (0 + length bytes) k.buffer) n size ∙ ap (λ (i : ℕ). drop i k.buffer) end;
      }
    where
      same_size : (i : ℕ) → 5 ∷ i ∷ [] ≡ 5 ∷ n ∷ [] → i ≡ n
      same_size i is = ap (λ (vs : List ℕ). get_or vs 1 0) is

pub code-question_leaves : CodeQuestionLeaves ByCall
unfolding written
code-question_leaves state store k S m a =
    let (q, o) = asked-question k _ (step-ends state store S k m) a in
    record { only_clock = only_clock state store k S m (rule-leavings.question_leaves _ (as_call k) q o); buffer_stays = wrote state store k S m (asks q) o }

close_not_success : close ≢ SUCCESS
close_not_success never = let z : ◌≡◌ {A = ℕ} 0 1 = cc in omega arith

pub code-close_leaves : CodeCloseLeaves ByCall
unfolding written outcome_for
code-close_leaves state store k S m e =
    let o = ruled_by state store k S m (6 ∷ []) e in
    record { only_clock = landing_leaves state store k S m close o close_not_success; buffer_stays = wrote state store k S m (lands close) o }

pub code-failure_leaves : CodeFailureLeaves ByCall
unfolding written write
code-failure_leaves state store k S m r =
    let o = replied state store k S m failure_bytes r in
    record {
      only_clock = landing_leaves state store k S m FAILURE o (λ never. success_not_failure never refl);
      buffer = wrote state store k S m (lands FAILURE) o;
    }

pub code-reply_leaves : CodeReplyLeaves ByCall
code-reply_leaves state store k bytes S m r other = landing_leaves state store k S m (reply bytes) (replied state store k S m bytes r) (λ never. other (same_bytes never))
  where
    same_bytes : reply bytes ≡ SUCCESS → bytes ≡ success_bytes
    same_bytes e = cc

pub code-reply_bytes : CodeReplyBytes ByCall
code-reply_bytes state store k n S m e = reply_fills state store k S m n e

pub code-others_stay : CodeOthersStay ByCall
unfolding code written
code-others_stay state store k m never = by (refusal_at state store k) (served_here state store k) (step_is state store k m)
  where
    unwritten : (o : calls.Outcome) → k.gave.ended ≡ outcome_values (code o) → written o k.buffer ≡ k.buffer
    unwritten (refused n) e = refl
    unwritten (asks q) e = refl
    unwritten (lands (reply bytes)) e = absurd (never _ e)
    unwritten (lands close) e = refl

    by : (o : Option ℕ) (r : Result) → k.gave ≡ gave_of (by_refusal state store k o r) → k.gave.reply ≡ k.buffer
    by none r is = ap (λ (x : Gave). x.reply) is ∙ unwritten r.outcome (ap (λ (x : Gave). x.ended) is)
    by (some n) r is = ap (λ (x : Gave). x.reply) is
